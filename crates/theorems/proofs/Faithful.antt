-- A text that is read as cs has exactly the words `words_of cs`.
use mathlib.Core.Path.{◌≡◌, refl, sym, ap, subst, subst₂, ◌∙◌}
use mathlib.Core.Bool.{◌&&◌}
use mathlib.Core.List.{List, [], ◌∷◌, ◌++◌, append_assoc, append-nil}
use mathlib.Core.Logic.{◌⊎◌, inl, inr}
use Prim.Native.Nat.{ℕ, zero, suc, ◌+◌, ◌≤◌}
use native.Mathlib.Omega.{arith}
use lib.Dec.{T, leb}
use Rattle.calculus.specs.Grammar.{got, then, close_at, head_at, term, items}
use Rattle.calculus.specs.Terms.{Op, Term, app, cons, listed}
use Rattle.calculus.specs.Words.{opening, closing, Word, mark, operator}
use Rattle.calculus.specs.Tokens.{word, token_at}
use Rattle.calculus.specs.Limits.{max_nodes, max_depth, nodes, nodes_in, some, fits, fit_all}
use Rattle.calculus.specs.Writing.{term_words, terms_words, Has}
use Rattle.calculus.proofs.Booleans.{and_mk}
use Rattle.theorems.proofs.Inversion.{off-got, got-value, got-place, got-nodes, then-got, item-got, Begun, a-leaf, an-app, head-got}

-- ---- words one after the other
pub has-append : (s : List ℕ) (ws vs : List Word) (a b c : ℕ) → Has s a ws b → Has s b vs c → Has s a (ws ++ vs) c
unfolding Has
has-append s [] vs a b c h k = subst (λ (z : ℕ). Has s z vs c) (sym h) k
has-append s (w ∷ ws) vs a b c (p, t, e, h) k = (p, t, e, has-append s ws vs t b c h k)

pub has_word : (s : List ℕ) (w : Word) (ws : List Word) (a p t c : ℕ) → token_at s a ≡ word w p t → Has s t ws c → Has s a (w ∷ ws) c
unfolding Has
has_word s w ws a p t c e h = (p, t, e, h)

pub has_one : (s : List ℕ) (w : Word) (a p t : ℕ) → token_at s a ≡ word w p t → Has s a (w ∷ []) t
unfolding Has
has_one s w a p t e = (p, t, e, refl)

pub has-as : (s : List ℕ) (a b : ℕ) (ws vs : List Word) → ws ≡ vs → Has s a ws b → Has s a vs b
has-as s a b ws vs e h = subst (λ (z : List Word). Has s a z b) e h

-- ---- terms
pub terms-listed : (xs : List Term) → terms_words (listed xs) ≡ terms_words (listed xs)
unfolding listed term_words
terms-listed [] = refl
terms-listed (x ∷ xs) = ap (λ (r : List Word). term_words x ++ r) (terms-listed xs)

app-words : (o : Op) (x : Term) (zs : List Term) → mark opening ∷ operator o ∷ (term_words x ++ (terms_words (listed zs) ++ (mark closing ∷ []))) ≡ term_words (app o (listed (x ∷ zs)))
unfolding term_words listed
app-words o x zs =
    ap (λ (r : List Word). mark opening ∷ operator o ∷ r)
    (ap (λ (r : List Word). term_words x ++ (r ++ (mark closing ∷ []))) (sym (terms-listed zs)) ∙ sym (append_assoc (term_words x) (terms_words (listed zs)) (mark closing ∷ [])))

-- a term of level l was read: its words, and what it takes of the limits
pub record Took (s : List ℕ) (at l n : ℕ) (x : Term) (t m : ℕ) : Type 0 where
  pub has : Has s at (term_words x) t
  pub fit : T (fits l x)
  pub count : m ≡ n + nodes x
  pub room : m ≤ max_nodes

-- the items behind xs, up to the closing bracket
pub record More (s : List ℕ) (at l n : ℕ) (xs ys : List Term) (t m : ℕ) : Type 0 where
  pub rest : List Term
  pub all : ys ≡ xs ++ rest
  pub has : Has s at (terms_words (listed rest) ++ (mark closing ∷ [])) t
  pub fit : T (fit_all l (listed rest))
  pub count : m ≡ n + nodes_in (listed rest)
  pub room : n ≤ max_nodes → m ≤ max_nodes

more-none : (s : List ℕ) (at l n : ℕ) (xs ys : List Term) (p t m : ℕ) → token_at s at ≡ word (mark closing) p t → ys ≡ xs → m ≡ n → More s at l n xs ys t m
unfolding listed fits nodes term_words
more-none s at l n xs ys p t m e h k = record { rest = []; all = h ∙ sym (append-nil xs); has = has_one s (mark closing) at p t e; fit = tt; count = omega arith; room = λ r. omega arith }

more-one : (s : List ℕ) (at l n u i : ℕ) (xs ys : List Term) (x : Term) (t m : ℕ) → Took s at l n x u i → More s u l i (xs ++ (x ∷ [])) ys t m → More s at l n xs ys t m
unfolding listed fits nodes term_words
more-one s at l n u i xs ys x t m h r = record {
  rest = x ∷ r.rest;
  all = r.all ∙ append_assoc xs (x ∷ []) r.rest;
  has = has-as s at t (term_words x ++ (terms_words (listed r.rest) ++ (mark closing ∷ []))) (terms_words (listed (x ∷ r.rest)) ++ (mark closing ∷ [])) (sym (append_assoc (term_words x) (terms_words (listed r.rest)) (mark closing ∷ []))) (has-append s (term_words x) (terms_words (listed r.rest) ++ (mark closing ∷ [])) at u t h.has r.has);
  fit = and_mk (fits l x) (fit_all l (listed r.rest)) h.fit r.fit;
  count = omega (arith, h.count, r.count);
  room = λ k. r.room h.room;
}

app-has : (s : List ℕ) (at l n p u q v w i t m : ℕ) (o : Op) (x : Term) (xs : List Term) → token_at s at ≡ word (mark opening) p u → token_at s u ≡ word (operator o) q v → T (leb l max_depth) → Took s v (suc l) (suc n) x w i → More s w (suc l) i (x ∷ []) xs t m → Took s at l n (app o (listed xs)) t m
unfolding fits nodes listed some
app-has s at l n p u q v w i t m o x xs e f d h r =
    let a : app o (cons x (listed r.rest)) ≡ app o (listed xs) = ap (λ (y : List Term). app o (listed y)) (sym r.all) in
    subst (λ (y : Term). Took s at l n y t m) a (record {
      has = has-as s at t _ _ (app-words o x r.rest) (has_word s (mark opening) _ at p u t e (has_word s (operator o) _ u q v t f (has-append s (term_words x) _ v w t h.has r.has)));
      fit = and_mk (leb l max_depth) (fits (suc l) x && fit_all (suc l) (listed r.rest)) d (and_mk (fits (suc l) x) (fit_all (suc l) (listed r.rest)) h.fit r.fit);
      count = omega (arith, h.count, r.count);
      room = r.room h.room;
    })

-- a term and items read with fuel f are written with their words
pub record Written (f : ℕ) (s : List ℕ) : Type 0 where
  pub a-term : (at l n : ℕ) (x : Term) (t m : ℕ) → term f s at l n ≡ got x t m → Took s at l n x t m
  pub some-items : (at l n : ℕ) (xs ys : List Term) (t m : ℕ) → items f s at l n xs ≡ got ys t m → More s at l n xs ys t m

term-step : (f : ℕ) (s : List ℕ) → Written f s → (at l n : ℕ) (x : Term) (t m : ℕ) → term (suc f) s at l n ≡ got x t m → Took s at l n x t m
unfolding term head_at
term-step f s w at l n x t m e = go (head-got s _ l n (token_at s at) x t m e)
  where
    go : Begun s (λ o t. then (term f s t (suc l) (suc n)) (λ x t m. then (items f s t (suc l) m (x ∷ [])) (λ xs t m. got (app o (listed xs)) t m))) l n (token_at s at) x t m → Took s at l n x t m
    go (a-leaf v p h k d c r) = record { has = has-as s at t (v ∷ []) (term_words x) (sym k) (has_one s v at p t h); fit = d; count = c; room = r }
    go (an-app o p u q v h k g d r) =
        let (y, a, i, g₁, g₂) = then-got (term f s v (suc l) (suc n)) _ x t m g in
        let (ys, b, j, g₃, g₄) = then-got (items f s a (suc l) i (y ∷ [])) _ x t m g₂ in
        let c : app o (listed ys) ≡ x = got-value g₄ in
        let z : Took s at l n (app o (listed ys)) b j = app-has s at l n p u q v a i b j o y ys h k d (w.a-term v (suc l) (suc n) y a i g₁) (w.some-items a (suc l) i (y ∷ []) ys b j g₃) in
        subst₂ (λ (y : ℕ) (i : ℕ). Took s at l n x y i) (got-place g₄) (got-nodes g₄) (subst (λ (y : Term). Took s at l n y b j) c z)

items-step : (f : ℕ) (s : List ℕ) → Written f s → (at l n : ℕ) (xs ys : List Term) (t m : ℕ) → items (suc f) s at l n xs ≡ got ys t m → More s at l n xs ys t m
unfolding term close_at
items-step f s w at l n xs ys t m e = go (item-got _ xs n (token_at s at) ys t m e)
  where
    go : ((p : ℕ) × (token_at s at ≡ word (mark closing) p t) × (ys ≡ xs) × (m ≡ n)) ⊎ (then (term f s at l n) (λ x t m. items f s t l m (xs ++ (x ∷ []))) ≡ got ys t m) → More s at l n xs ys t m
    go (inl (p, h, k, c)) = more-none s at l n xs ys p t m h k c
    go (inr g) =
        let (x, a, i, g₁, g₂) = then-got (term f s at l n) _ ys t m g in
        more-one s at l n a i xs ys x t m (w.a-term at l n x a i g₁) (w.some-items a l i (xs ++ (x ∷ [])) ys t m g₂)

pub written : (f : ℕ) (s : List ℕ) → Written f s
unfolding term
written zero s = record { a-term = λ at l n x t m e. absurd (off-got e); some-items = λ at l n xs ys t m e. absurd (off-got e) }
written (suc f) s = let w : Written f s = written f s in record { a-term = term-step f s w; some-items = items-step f s w }
