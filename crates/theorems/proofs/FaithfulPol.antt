-- The words of a pol line that is read are written with exactly these words.
use mathlib.Core.Path.{◌≡◌, refl, sym, ap, subst, subst₂, ◌∙◌}
use mathlib.Core.Bool.{Bool, true, false, not, cond, ◌&&◌}
use mathlib.Core.List.{List, [], ◌∷◌, ◌++◌, append_assoc, append-nil}
use mathlib.Core.Logic.{◌⊎◌, inl, inr}
use Prim.Native.Nat.{ℕ, zero, suc}
use lib.Dec.{T}
use lib.IntN.{ℤ}
use Rattle.calculus.specs.Bytes.{bytes}
use Rattle.calculus.specs.Equality.{same_op}
use Rattle.calculus.specs.Grammar.{Reads, got, off, then, close_at}
use Rattle.calculus.specs.PolGrammar.{on_named, on_factor, named_word, on_word, word_at, more_words, words_at}
use Rattle.calculus.specs.Terms.{Op, add, mul, same_name, PolWord, line_word, plain_word, negated_word, plus-word, saturate-word, times-word, over_word}
use Rattle.calculus.specs.Words.{closing, mark, operator, numeral, name, negated-name}
use Rattle.calculus.specs.Tokens.{Token, ended, word, wrong, token_at}
use Rattle.calculus.specs.Limits.{operand, allowed_word, allowed_words, some_word}
use Rattle.calculus.specs.Writing.{pol_word, pol_words, Has}
use Rattle.calculus.proofs.Booleans.{and_mk}
use Rattle.theorems.proofs.Faithful.{has-append, has_word, has_one, has-as}
use Rattle.theorems.proofs.Inversion.{off-got, got-value, got-place, got-nodes, then-got, item-got}
use Rattle.calculus.proofs.TermLaws.{same_name_eq, same_op-eq}

-- the name x stood there, or it did not
pub named-got : {A : Type 0} (x : List ℕ) (k : ℕ → ℕ → Reads A) (r : Reads A) (w : Token) (a : A) (t n : ℕ) → on_named x k r w ≡ got a t n → ((p : ℕ) × (u : ℕ) × (w ≡ word (name x) p u) × (k p u ≡ got a t n)) ⊎ (r ≡ got a t n)
unfolding on_named
named-got x k r (ended p) a t n e = inr e
named-got x k r (word (mark b) p u) a t n e = inr e
named-got x k r (word (operator o) p u) a t n e = inr e
named-got x k r (word (numeral z) p u) a t n e = inr e
named-got x k r (word (name y) p u) a t n e = go (same_name x y) (same_name_eq x y) e
  where
    go : (c : Bool) → (T c → x ≡ y) → cond c (k p u) r ≡ got a t n → ((q : ℕ) × (v : ℕ) × (word (name y) p u ≡ word (name x) q v) × (k q v ≡ got a t n)) ⊎ (r ≡ got a t n)
    go true f e = inl (p, u, ap (λ (z : List ℕ). word (name z) p u) (sym (f tt)), e)
    go false f e = inr e
named-got x k r (word (negated-name y) p u) a t n e = inr e
named-got x k r (wrong y p) a t n e = inr e

-- a word of a pol line was read: it may stand there, and it is written so; no node was counted
pub record TookWord (above : List ℕ → Bool) (s : List ℕ) (at n : ℕ) (w : PolWord) (t m : ℕ) : Type 0 where
  pub allow : T (allowed_word above w)
  pub has : Has s at (pol_word w) t
  pub count : m ≡ n

module _ (above : List ℕ → Bool) (s : List ℕ) (at n : ℕ) where
  took_as : (v w : PolWord) (u t m : ℕ) → got v u n ≡ got w t m → T (allowed_word above v) → Has s at (pol_word v) u → TookWord above s at n w t m
  took_as v w u t m e a h =
      subst₂ (λ (x : PolWord) (y : ℕ). TookWord above s at n x y m) (got-value e) (got-place e) (record { allow = a; has = h; count = sym (got-nodes e) })

  -- behind a numeral
  factor-got : (z : ℤ) (p u : ℕ) → token_at s at ≡ word (numeral z) p u → (k : Token) → token_at s u ≡ k → (w : PolWord) (t m : ℕ) → on_factor z n k ≡ got w t m → TookWord above s at n w t m
  unfolding on_factor allowed_word pol_word
  factor-got z p u h (ended q) g w t m e = absurd (off-got e)
  factor-got z p u h (word (mark b) q v) g w t m e = absurd (off-got e)
  factor-got z p u h (word (operator o) q v) g w t m e = go (same_op mul o) (same_op-eq mul o) e
    where
      go : (c : Bool) → (T c → mul ≡ o) → cond c (got (times-word z) v n) (off 6 q) ≡ got w t m → TookWord above s at n w t m
      go true f e = took_as (times-word z) w v t m e tt (has_word s (numeral z) _ at p u v h (has_one s (operator mul) u q v (g ∙ ap (λ (x : Op). word (operator x) q v) (sym (f tt)))))
      go false f e = absurd (off-got e)
  factor-got z p u h (word (numeral y) q v) g w t m e = absurd (off-got e)
  factor-got z p u h (word (name x) q v) g w t m e = go (same_name (bytes "d") x) (same_name_eq (bytes "d") x) e
    where
      go : (c : Bool) → (T c → bytes "d" ≡ x) → cond c (got (over_word z) v n) (off 6 q) ≡ got w t m → TookWord above s at n w t m
      go true f e = took_as (over_word z) w v t m e tt (has_word s (numeral z) _ at p u v h (has_one s (name (bytes "d")) u q v (g ∙ ap (λ (x : List ℕ). word (name x) q v) (sym (f tt)))))
      go false f e = absurd (off-got e)
  factor-got z p u h (word (negated-name x) q v) g w t m e = absurd (off-got e)
  factor-got z p u h (wrong x q) g w t m e = absurd (off-got e)

  -- a name
  name-took : (x : List ℕ) (p u : ℕ) → token_at s at ≡ word (name x) p u → (w : PolWord) (t m : ℕ) → named_word above n x p u ≡ got w t m → TookWord above s at n w t m
  unfolding named_word allowed_word operand pol_word
  name-took x p u h w t m e = go (same_name (bytes "d") x) refl (same_name (bytes "s") x) refl (same_name_eq (bytes "s") x) (above x) refl e
    where
      free : same_name (bytes "d") x ≡ false → same_name (bytes "s") x ≡ false → T (not (same_name (bytes "d") x) && not (same_name (bytes "s") x))
      free a b = and_mk (not (same_name (bytes "d") x)) _ (subst (λ (c : Bool). T (not c)) (sym a) tt) (subst (λ (c : Bool). T (not c)) (sym b) tt)

      go : (a : Bool) → same_name (bytes "d") x ≡ a → (b : Bool) → same_name (bytes "s") x ≡ b → (T b → bytes "s" ≡ x) → (c : Bool) → above x ≡ c →
          cond a (off 6 p) (cond b (got saturate-word u n) (cond c (got (line_word x) u n) (got (plain_word x) u n))) ≡ got w t m → TookWord above s at n w t m
      go true i b j f c k e = absurd (off-got e)
      go false i true j f c k e = took_as saturate-word w u t m e tt (has_one s (name (bytes "s")) at p u (h ∙ ap (λ (y : List ℕ). word (name y) p u) (sym (f tt))))
      go false i false j f true k e = took_as (line_word x) w u t m e (and_mk (operand x) _ (free i j) (subst T (sym k) tt)) (has_one s (name x) at p u h)
      go false i false j f false k e = took_as (plain_word x) w u t m e (and_mk (operand x) _ (free i j) (subst (λ (b : Bool). T (not b)) (sym k) tt)) (has_one s (name x) at p u h)

  word_got : (k : Token) → token_at s at ≡ k → (w : PolWord) (t m : ℕ) → on_word above s n k ≡ got w t m → TookWord above s at n w t m
  unfolding on_word allowed_word pol_word
  word_got (ended p) g w t m e = absurd (off-got e)
  word_got (word (mark b) p u) g w t m e = absurd (off-got e)
  word_got (word (operator o) p u) g w t m e = go (same_op add o) (same_op-eq add o) e
    where
      go : (c : Bool) → (T c → add ≡ o) → cond c (got plus-word u n) (off 6 p) ≡ got w t m → TookWord above s at n w t m
      go true f e = took_as plus-word w u t m e tt (has_one s (operator add) at p u (g ∙ ap (λ (x : Op). word (operator x) p u) (sym (f tt))))
      go false f e = absurd (off-got e)
  word_got (word (numeral z) p u) g w t m e = factor-got z p u g (token_at s u) refl w t m e
  word_got (word (name x) p u) g w t m e = name-took x p u g w t m e
  word_got (word (negated-name x) p u) g w t m e = took_as (negated_word x) w u t m e tt (has_one s (negated-name x) at p u g)
  word_got (wrong x p) g w t m e = absurd (off-got e)

pub word_at-has : (above : List ℕ → Bool) (s : List ℕ) (at n : ℕ) (w : PolWord) (t m : ℕ) → word_at above s at n ≡ got w t m → TookWord above s at n w t m
unfolding word_at
word_at-has above s at n w t m e = word_got above s at n (token_at s at) refl w t m e

-- the words behind ws, up to the closing bracket
pub record MoreTook (above : List ℕ → Bool) (s : List ℕ) (at n : ℕ) (ws vs : List PolWord) (t m : ℕ) : Type 0 where
  pub rest : List PolWord
  pub all : vs ≡ ws ++ rest
  pub allow : T (allowed_words above rest)
  pub has : Has s at (pol_words rest ++ (mark closing ∷ [])) t
  pub count : m ≡ n

one_more : (s : List ℕ) (at u t : ℕ) (w : PolWord) (ws : List PolWord) → Has s at (pol_word w) u → Has s u (pol_words ws ++ (mark closing ∷ [])) t → Has s at (pol_words (w ∷ ws) ++ (mark closing ∷ [])) t
unfolding pol_words
one_more s at u t w ws h k = has-as s at t _ _ (sym (append_assoc (pol_word w) (pol_words ws) (mark closing ∷ []))) (has-append s (pol_word w) _ at u t h k)

more-step : (f : ℕ) (above : List ℕ → Bool) (s : List ℕ) → ((at n : ℕ) (ws vs : List PolWord) (t m : ℕ) → more_words f above s at n ws ≡ got vs t m → MoreTook above s at n ws vs t m) → (at n : ℕ) (ws vs : List PolWord) (t m : ℕ) → more_words (suc f) above s at n ws ≡ got vs t m → MoreTook above s at n ws vs t m
unfolding more_words close_at pol_words allowed_words
more-step f above s ih at n ws vs t m e = go (item-got _ ws n (token_at s at) vs t m e)
  where
    go : ((p : ℕ) × (token_at s at ≡ word (mark closing) p t) × (vs ≡ ws) × (m ≡ n)) ⊎ (then (word_at above s at n) (λ w t m. more_words f above s t m (ws ++ (w ∷ []))) ≡ got vs t m) → MoreTook above s at n ws vs t m
    go (inl (p, h, k, c)) = record { rest = []; all = k ∙ sym (append-nil ws); allow = tt; has = has_one s (mark closing) at p t h; count = c }
    go (inr g) =
        let (w, u, i, g₁, g₂) = then-got (word_at above s at n) _ vs t m g in
        let y : TookWord above s at n w u i = word_at-has above s at n w u i g₁ in
        let r : MoreTook above s u i (ws ++ (w ∷ [])) vs t m = ih u i (ws ++ (w ∷ [])) vs t m g₂ in
        record {
          rest = w ∷ r.rest;
          all = r.all ∙ append_assoc ws (w ∷ []) r.rest;
          allow = and_mk (allowed_word above w) (allowed_words above r.rest) y.allow r.allow;
          has = one_more s at u t w r.rest y.has r.has;
          count = r.count ∙ y.count;
        }

more-has : (f : ℕ) (above : List ℕ → Bool) (s : List ℕ) (at n : ℕ) (ws vs : List PolWord) (t m : ℕ) → more_words f above s at n ws ≡ got vs t m → MoreTook above s at n ws vs t m
unfolding more_words
more-has zero above s at n ws vs t m e = absurd (off-got e)
more-has (suc f) above s at n ws vs t m e = more-step f above s (more-has f above s) at n ws vs t m e

-- the words of a line: at least one, allowed where `above` tells the ids, written up to the closing bracket
pub record WordsTook (above : List ℕ → Bool) (s : List ℕ) (at n : ℕ) (ws : List PolWord) (t m : ℕ) : Type 0 where
  pub some : T (some_word ws)
  pub allow : T (allowed_words above ws)
  pub has : Has s at (pol_words ws ++ (mark closing ∷ [])) t
  pub count : m ≡ n

pub words_at-has : (f : ℕ) (above : List ℕ → Bool) (s : List ℕ) (at n : ℕ) (ws : List PolWord) (t m : ℕ) → words_at f above s at n ≡ got ws t m → WordsTook above s at n ws t m
unfolding words_at allowed_words some_word
words_at-has f above s at n ws t m e =
    let (w, u, i, g₁, g₂) = then-got (word_at above s at n) _ ws t m e in
    let y : TookWord above s at n w u i = word_at-has above s at n w u i g₁ in
    let r : MoreTook above s u i (w ∷ []) ws t m = more-has f above s u i (w ∷ []) ws t m g₂ in
    subst (λ (vs : List PolWord). WordsTook above s at n vs t m) (sym r.all) (record {
      some = tt;
      allow = and_mk (allowed_word above w) (allowed_words above r.rest) y.allow r.allow;
      has = one_more s at u t w r.rest y.has r.has;
      count = r.count ∙ y.count;
    })
