-- Terms within the limits are read from their words.
use mathlib.Core.Path.{◌≡◌, refl, sym, ap, ap₂, ◌∙◌}
use mathlib.Core.Bool.{Bool, cond, ◌&&◌}
use mathlib.Core.List.{List, [], ◌∷◌, ◌++◌, append_assoc, append-nil}
use Prim.Native.Nat.{ℕ, zero, suc, ◌+◌, ◌≤◌, ◌<◌}
use native.Mathlib.Omega.{arith}
use lib.Dec.{T, leb, ltb, lt→ltb}
use lib.IntN.{ℤ}
use lib.ListN.{length, length-append}
use Rattle.calculus.specs.Grammar.{Reads, got, then, mark_number, same_mark, on_close, close_at, Head, leaf, stop, limited, on_operator, on_term, head_at, on_head, on_item, term, items}
use Rattle.calculus.specs.Terms.{Op, Term, Terms, num, var, app, nil, cons, listed}
use Rattle.calculus.specs.Words.{opening, closing, Word, mark, operator, numeral, name}
use Rattle.calculus.specs.Tokens.{Token, word, token_at}
use Rattle.calculus.specs.Limits.{max_nodes, max_depth, nodes, nodes_in, some, fits, fit_all}
use Rattle.calculus.specs.Writing.{term_words, terms_words, Has}
use Rattle.calculus.proofs.Booleans.{and_l, and_r, is_true}
use Rattle.theorems.proofs.Faithful.{has-as}
use Rattle.calculus.proofs.Tokens.{token-later}

pub has_split : (s : List ℕ) (ws vs : List Word) (a c : ℕ) → Has s a (ws ++ vs) c → (b : ℕ) × Has s a ws b × Has s b vs c
unfolding Has
has_split s [] vs a c h = (a, refl, h)
has_split s (w ∷ ws) vs a c (p, t, e, h) = let (b, k, l) = has_split s ws vs t c h in (b, (p, t, e, k), l)

unfoldable pub unlisted : Terms → List Term
unlisted nil = []
unlisted (cons t ts) = t ∷ unlisted ts

listed_back : (ts : Terms) → listed (unlisted ts) ≡ ts
unfolding listed unlisted
listed_back nil = refl
listed_back (cons t ts) = ap (cons t) (listed_back ts)

pub unlisted_back : (xs : List Term) → unlisted (listed xs) ≡ xs
unfolding listed unlisted
unlisted_back [] = refl
unlisted_back (x ∷ xs) = ap (λ (r : List Term). x ∷ r) (unlisted_back xs)

limited-ok : (l n p : ℕ) (h : Head) → T (leb l max_depth) → n < max_nodes → limited l n p h ≡ h
unfolding limited
limited-ok l n p h d k = ap₂ (λ (a b : Bool). cond (a && b) h (stop 7 p)) (is_true (leb l max_depth) d) (is_true (ltb n max_nodes) (lt→ltb n max_nodes k))

pub got-eq : {A : Type 0} (a b : A) (t n m : ℕ) → a ≡ b → n ≡ m → got a t n ≡ got b t m
got-eq a b t n m e h = ap₂ (λ (x : _) (k : ℕ). got x t k) e h

module _ (s : List ℕ) where
  head-num : (k : Op → ℕ → Reads Term) (at l n p t : ℕ) (z : ℤ) → token_at s at ≡ word (numeral z) p t → T (leb l max_depth) → n < max_nodes → on_head k n (on_term s l n (token_at s at)) ≡ got (num z) t (suc n)
  unfolding on_term on_head
  head-num k at l n p t z e d h = ap (λ (w : Token). on_head k n (on_term s l n w)) e ∙ ap (on_head k n) (limited-ok l n p (leaf (num z) t) d h)

  head-var : (k : Op → ℕ → Reads Term) (at l n p t : ℕ) (x : List ℕ) → token_at s at ≡ word (name x) p t → T (leb l max_depth) → n < max_nodes → on_head k n (on_term s l n (token_at s at)) ≡ got (var x) t (suc n)
  unfolding on_term on_head
  head-var k at l n p t x e d h = ap (λ (w : Token). on_head k n (on_term s l n w)) e ∙ ap (on_head k n) (limited-ok l n p (leaf (var x) t) d h)

  head-app : (k : Op → ℕ → Reads Term) (at l n p u q v : ℕ) (o : Op) → token_at s at ≡ word (mark opening) p u → token_at s u ≡ word (operator o) q v → T (leb l max_depth) → n < max_nodes → on_head k n (on_term s l n (token_at s at)) ≡ k o v
  unfolding on_term on_head on_operator same_mark mark_number
  head-app k at l n p u q v o e g d h =
      ap (λ (w : Token). on_head k n (on_term s l n w)) e
      ∙ ap (on_head k n) (limited-ok l n p (on_operator (token_at s u)) d h)
      ∙ ap (λ (w : Token). on_head k n (on_operator w)) g

  pub item_close : {A : Type 0} (k : Reads (List A)) (at n p u : ℕ) (xs : List A) → token_at s at ≡ word (mark closing) p u → on_item k xs n (on_close (token_at s at)) ≡ got xs u n
  unfolding on_close same_mark mark_number on_item
  item_close k at n p zero xs e = let z : at < 0 = (token-later s at (mark closing) p zero e).0 in let v : ⊥ = omega arith in absurd v
  item_close k at n p (suc u) xs e = ap (λ (w : Token). on_item k xs n (on_close w)) e

  leaf-num : (f at l n p t : ℕ) (z : ℤ) → token_at s at ≡ word (numeral z) p t → T (leb l max_depth) → n < max_nodes → term (suc f) s at l n ≡ got (num z) t (suc n)
  unfolding term head_at
  leaf-num f at l n p t z e d k = head-num _ at l n p t z e d k

  leaf-var : (f at l n p t : ℕ) (x : List ℕ) → token_at s at ≡ word (name x) p t → T (leb l max_depth) → n < max_nodes → term (suc f) s at l n ≡ got (var x) t (suc n)
  unfolding term head_at
  leaf-var f at l n p t x e d k = head-var _ at l n p t x e d k

  app-start : (f at l n p u q v : ℕ) (o : Op) → token_at s at ≡ word (mark opening) p u → token_at s u ≡ word (operator o) q v → T (leb l max_depth) → n < max_nodes → term (suc f) s at l n ≡ then (term f s v (suc l) (suc n)) (λ x t m. then (items f s t (suc l) m (x ∷ [])) (λ xs t m. got (app o (listed xs)) t m))
  unfolding term head_at
  app-start f at l n p u q v o e g d k = head-app (λ o v. then (term f s v (suc l) (suc n)) (λ x t m. then (items f s t (suc l) m (x ∷ [])) (λ xs t m. got (app o (listed xs)) t m))) at l n p u q v o e g d k

  close_eq : (f at l n p u : ℕ) (xs : List Term) → token_at s at ≡ word (mark closing) p u → items (suc f) s at l n xs ≡ got xs u n
  unfolding term close_at
  close_eq f at l n p u xs e = item_close _ at n p u xs e

  -- the first word of a term is no closing bracket
  pub not_close : (x : Term) (a b : ℕ) → Has s a (term_words x) b → on_close (token_at s a) ≡ 0
  unfolding Has term_words on_close same_mark mark_number
  not_close (num z) a b (p, t, e, h) = ap on_close e
  not_close (var x) a b (p, t, e, h) = ap on_close e
  not_close (app o ts) a b (p, t, e, h) = ap on_close e

  item-next : (f at l n b : ℕ) (x : Term) (xs : List Term) → Has s at (term_words x) b → items (suc f) s at l n xs ≡ then (term f s at l n) (λ x t m. items f s t l m (xs ++ (x ∷ [])))
  unfolding term close_at on_item
  item-next f at l n b x xs h = ap (on_item _ xs n) (not_close x at b h)

  pub record Completes (f : ℕ) : Type 0 where
    pub a-term : (x : Term) (at l n t : ℕ) → T (fits l x) → n + nodes x ≤ max_nodes → length (term_words x) ≤ f → Has s at (term_words x) t → term f s at l n ≡ got x t (n + nodes x)
    pub some-items : (ts : Terms) (at l n : ℕ) (xs : List Term) (t : ℕ) → T (fit_all l ts) → n + nodes_in ts ≤ max_nodes → length (terms_words ts) < f → Has s at (terms_words ts ++ (mark closing ∷ [])) t → items f s at l n xs ≡ got (xs ++ unlisted ts) t (n + nodes_in ts)

  app-read : (f : ℕ) → Completes f → (o : Op) (y : Term) (ts : Terms) (l n v b t : ℕ) → T (fits (suc l) y) → T (fit_all (suc l) ts) → suc n + nodes y + nodes_in ts ≤ max_nodes → length (term_words y) ≤ f → length (terms_words ts) < f → Has s v (term_words y) b → Has s b (terms_words ts ++ (mark closing ∷ [])) t →
      then (term f s v (suc l) (suc n)) (λ x t m. then (items f s t (suc l) m (x ∷ [])) (λ xs t m. got (app o (listed xs)) t m)) ≡ got (app o (cons y ts)) t (n + suc (nodes y + nodes_in ts))
  unfolding then listed
  app-read f c o y ts l n v b t h₁ h₂ k j₁ j₂ g₁ g₂ =
      ap (λ (r : Reads Term). then r (λ x t m. then (items f s t (suc l) m (x ∷ [])) (λ xs t m. got (app o (listed xs)) t m))) (c.a-term y v (suc l) (suc n) b h₁ (omega arith) j₁ g₁)
      ∙ ap (λ (r : Reads (List Term)). then r (λ xs t m. got (app o (listed xs)) t m)) (c.some-items ts b (suc l) (suc n + nodes y) (y ∷ []) t h₂ k j₂ g₂)
      ∙ got-eq _ _ t _ _ (ap (λ (r : Terms). app o (cons y r)) (listed_back ts)) (omega arith)

  term-read : (f : ℕ) → Completes f → (x : Term) (at l n t : ℕ) → T (fits l x) → n + nodes x ≤ max_nodes → length (term_words x) ≤ suc f → Has s at (term_words x) t → term (suc f) s at l n ≡ got x t (n + nodes x)
  unfolding fits nodes term_words Has some
  term-read f c (num z) at l n t d k j (p, u, e, h) = leaf-num f at l n p u z e d (omega arith) ∙ ap₂ (λ (a b : ℕ). got (num z) a b) h (omega arith)
  term-read f c (var x) at l n t d k j (p, u, e, h) = leaf-var f at l n p u x e d (omega arith) ∙ ap₂ (λ (a b : ℕ). got (var x) a b) h (omega arith)
  term-read f c (app o nil) at l n t d k j h = absurd (and_r (leb l max_depth) _ d)
  term-read f c (app o (cons y ts)) at l n t d k j (p, u, e, (q, v, g, h)) =
      let d₁ : T (leb l max_depth) = and_l (leb l max_depth) _ d in
      let d₂ : T (fits (suc l) y && fit_all (suc l) ts) = and_r (leb l max_depth) _ d in
      let (b, h₁, h₂) = has_split s (term_words y) (terms_words ts ++ (mark closing ∷ [])) v t (has-as s v t _ _ (append_assoc (term_words y) (terms_words ts) (mark closing ∷ [])) h) in
      let i₁ : length ((term_words y ++ terms_words ts) ++ (mark closing ∷ [])) ≡ length (term_words y ++ terms_words ts) + 1 = length-append (term_words y ++ terms_words ts) (mark closing ∷ []) in
      let i₂ : length (term_words y ++ terms_words ts) ≡ length (term_words y) + length (terms_words ts) = length-append (term_words y) (terms_words ts) in
      app-start f at l n p u q v o e g d₁ (omega arith)
      ∙ app-read f c o y ts l n v b t (and_l (fits (suc l) y) _ d₂) (and_r (fits (suc l) y) _ d₂) (omega arith) (omega arith) (omega arith) h₁ h₂

  some_words : (x : Term) → 0 < length (term_words x)
  unfolding term_words
  some_words (num z) = omega arith
  some_words (var x) = omega arith
  some_words (app o ts) = omega arith

  items-read : (f : ℕ) → Completes f → (ts : Terms) (at l n : ℕ) (xs : List Term) (t : ℕ) → T (fit_all l ts) → n + nodes_in ts ≤ max_nodes → length (terms_words ts) < suc f → Has s at (terms_words ts ++ (mark closing ∷ [])) t → items (suc f) s at l n xs ≡ got (xs ++ unlisted ts) t (n + nodes_in ts)
  unfolding fits nodes term_words Has unlisted then
  items-read f c nil at l n xs t d k j (p, u, e, h) = close_eq f at l n p u xs e ∙ ap₂ (λ (a : List Term) (b : ℕ). got a b n) (sym (append-nil xs)) h ∙ got-eq _ _ t _ _ refl (omega arith)
  items-read f c (cons y ts) at l n xs t d k j h =
      let (b, h₁, h₂) = has_split s (term_words y) (terms_words ts ++ (mark closing ∷ [])) at t (has-as s at t _ _ (append_assoc (term_words y) (terms_words ts) (mark closing ∷ [])) h) in
      let i : length (term_words y ++ terms_words ts) ≡ length (term_words y) + length (terms_words ts) = length-append (term_words y) (terms_words ts) in
      let o : 0 < length (term_words y) = some_words y in
      item-next f at l n b y xs h₁
      ∙ ap (λ (r : Reads Term). then r (λ x t m. items f s t l m (xs ++ (x ∷ [])))) (c.a-term y at l n b (and_l (fits l y) _ d) (omega arith) (omega arith) h₁)
      ∙ c.some-items ts b l (n + nodes y) (xs ++ (y ∷ [])) t (and_r (fits l y) _ d) (omega arith) (omega arith) h₂
      ∙ got-eq _ _ t _ _ (append_assoc xs (y ∷ []) (unlisted ts)) (omega arith)

  pub completes : (f : ℕ) → Completes f
  completes zero = record {
    a-term = λ x at l n t d k j h. let o : 0 < length (term_words x) = some_words x in let v : ⊥ = omega arith in absurd v;
    some-items = λ ts at l n xs t d k j h. let v : ⊥ = omega arith in absurd v;
  }
  completes (suc f) = let c : Completes f = completes f in record { a-term = term-read f c; some-items = items-read f c }
