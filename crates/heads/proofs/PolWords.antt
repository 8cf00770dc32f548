-- Each case of the words of pol lines, from the token that the code has.
use mathlib.Core.Path.{◌≡◌, refl, sym, subst, ◌∙◌}
use mathlib.Core.Bool.{Bool, true, false, and-true}
use mathlib.Core.List.{List, [], ◌∷◌}
use Prim.Native.Nat.{ℕ, zero, suc, ◌+◌, ◌-◌, ◌≤◌, ◌<◌}
use native.Mathlib.Omega.{arith}
use lib.Dec.{eqb}
use lib.ListN.{length, get_or}
use lib.Seq.{slice, slice-cons, slice_empty, length-slice}
use borrow.Author.Tests.{ne_eqb}
use Rattle.calculus.specs.Equality.{op_num, op_of}
use Rattle.calculus.specs.PolGrammar.{on_factor, named_word, on_word, word_at}
use Rattle.calculus.specs.Terms.{same_name}
use Rattle.calculus.specs.Tokens.{judged, token_at}
use Rattle.lexer.specs.Tokens.{token_of, Placed, NegatesIs}
use Rattle.std.specs.Prelude.{Result, Ok, Err}
use Rattle.lexer.specs.declared.Fault.{Fault}
use Rattle.lexer.specs.declared.Reason.TheVariants.{BadWord, Grammar}
use Rattle.lexer.specs.declared.Token.{Token}
use Rattle.lexer.specs.declared.Token.TheVariants.{Op, Num, Name, Tilde}
use Rattle.lexer.proofs.Bytes.{lengths_differ}
use Rattle.heads.specs.PolHeads.{pol_word_of, PolWordIs, PolHeadIn, NamedIs, NamedIn, FactorIs, FactorIn}
use Rattle.heads.specs.declared.PolHead.{PolHead}
use Rattle.heads.specs.declared.PolHead.TheVariants.{Plain, Negated, Add, Saturate, Times, Over}

-- ---- a name of one byte
module _ (s : List ℕ) (f t b : ℕ) (h : f < t) (l : t ≤ length s) where
  pub byte_more : (t - f ≡ 1 → ⊥) → false ≡ same_name (b ∷ []) (slice f t s)
  byte_more n = lengths_differ (b ∷ []) (slice f t s) (λ e. n (sym (length-slice f t s l) ∙ sym e))

  pub byte_one : t - f ≡ 1 → eqb b (get_or s f 0) ≡ same_name (b ∷ []) (slice f t s)
  unfolding same_name
  byte_one n =
      let u : suc f ≡ t = omega arith in
      let z : slice (suc f) t s ≡ [] = rw (u, slice_empty t s) in
      rw (slice-cons f t s 0 h l, z, and-true (eqb b (get_or s f 0)))

-- ---- the word that a name is
module _ (s : List ℕ) (p t : ℕ) where
  pub named-d : true ≡ same_name (100 ∷ []) (slice p t s) → NamedIs s p t (Err (Grammar, p))
  unfolding pol_word_of named_word
  named-d e = λ above n. rw (← e)

  module _ (d : false ≡ same_name (100 ∷ []) (slice p t s)) where
    pub named-s : true ≡ same_name (115 ∷ []) (slice p t s) → NamedIs s p t (Ok (Saturate t))
    unfolding pol_word_of named_word
    named-s e = λ above n. rw (← d, ← e)

    pub named-plain : false ≡ same_name (115 ∷ []) (slice p t s) → NamedIs s p t (Ok (Plain p t))
    unfolding pol_word_of named_word
    named-plain e = λ above n. rw (← d, ← e)

-- ---- the operator of a number
op-number : (k : ℕ) → k < 9 → op_num (op_of k) ≡ k
unfolding op_of
op-number zero h = refl
op-number (suc zero) h = refl
op-number (suc (suc zero)) h = refl
op-number (suc (suc (suc zero))) h = refl
op-number (suc (suc (suc (suc zero)))) h = refl
op-number (suc (suc (suc (suc (suc zero))))) h = refl
op-number (suc (suc (suc (suc (suc (suc zero)))))) h = refl
op-number (suc (suc (suc (suc (suc (suc (suc zero))))))) h = refl
op-number (suc (suc (suc (suc (suc (suc (suc (suc zero)))))))) h = refl
op-number (suc (suc (suc (suc (suc (suc (suc (suc (suc n))))))))) h = let z : ⊥ = omega arith in absurd z

op-other : (j k : ℕ) → k < 9 → (k ≡ j → ⊥) → eqb j (op_num (op_of k)) ≡ false
op-other j k h n = rw (op-number k h) (ne_eqb j k (λ e. n (sym e)))

module _ (s : List ℕ) (at : ℕ) (r : Result Token Fault) (q : token_of s r ≡ token_at s at) (here : Placed s at r) where
  placed-as : (u : Result Token Fault) → r ≡ u → Placed s at u
  placed-as u e = subst (Placed s at) e here

  -- ---- behind a numeral
  module _ (m : Bool) (v : ℕ) where
    pub factor-times : (o p t : ℕ) → r ≡ Ok (Op o p t) → o ≡ 2 → FactorIs s at m v (Ok (Times m v t)) × FactorIn s at m v (Ok (Times m v t))
    unfolding pol_word_of on_factor token_of op_of
    factor-times o p t e h = let (a, b, c, d) = placed-as (Ok (Op o p t)) e in (λ above n. rw (← q, e, h), (refl, refl, omega arith, d))

    pub factor-operator : (o p t : ℕ) → r ≡ Ok (Op o p t) → (o ≡ 2 → ⊥) → FactorIs s at m v (Err (Grammar, p))
    unfolding pol_word_of on_factor token_of
    factor-operator o p t e h = let k = (placed-as (Ok (Op o p t)) e).0 in λ above n. rw (← q, e, op-other 2 o k h)

    pub factor_d : (p t : ℕ) → r ≡ Ok (Name p t) → true ≡ same_name (100 ∷ []) (slice p t s) → FactorIs s at m v (Ok (Over m v t)) × FactorIn s at m v (Ok (Over m v t))
    unfolding pol_word_of on_factor token_of
    factor_d p t e h = let (a, b, c, d) = placed-as (Ok (Name p t)) e in (λ above n. rw (← q, e, ← h), (refl, refl, omega arith, d))

    pub factor-name : (p t : ℕ) → r ≡ Ok (Name p t) → false ≡ same_name (100 ∷ []) (slice p t s) → FactorIs s at m v (Err (Grammar, p))
    unfolding pol_word_of on_factor token_of
    factor-name p t e h = λ above n. rw (← q, e, ← h)

    pub factor_tilde : (p t : ℕ) → r ≡ Ok (Tilde p t) → (c : Bool) → NegatesIs s p t c → c ≡ true → FactorIs s at m v (Err (Grammar, p))
    unfolding pol_word_of on_factor token_of judged
    factor_tilde p t e c k h = let a = (subst (NegatesIs s p t) h k).0 in λ above n. rw (← q, e, a)

    pub factor-bad : (p t : ℕ) → r ≡ Ok (Tilde p t) → (c : Bool) → NegatesIs s p t c → c ≡ false → FactorIs s at m v (Err (BadWord, p))
    unfolding pol_word_of on_factor token_of judged
    factor-bad p t e c k h = let a = subst (NegatesIs s p t) h k in λ above n. rw (← q, e, a)

  -- ---- a word
  pub word-add : (o p t : ℕ) → r ≡ Ok (Op o p t) → o ≡ 0 → PolWordIs s at (Ok (Add t)) × PolHeadIn s at (Ok (Add t))
  unfolding pol_word_of word_at on_word token_of op_of
  word-add o p t e h = let (a, b, c, d) = placed-as (Ok (Op o p t)) e in (λ above n. rw (← q, e, h), (omega arith, d))

  pub word-operator : (o p t : ℕ) → r ≡ Ok (Op o p t) → (o ≡ 0 → ⊥) → PolWordIs s at (Err (Grammar, p))
  unfolding pol_word_of word_at on_word token_of
  word-operator o p t e h = let k = (placed-as (Ok (Op o p t)) e).0 in λ above n. rw (← q, e, op-other 0 o k h)

  pub word_number : (m : Bool) (v p t : ℕ) → r ≡ Ok (Num m v p t) → (f : Result PolHead Fault) → FactorIs s t m v f → FactorIn s t m v f → PolWordIs s at f × PolHeadIn s at f
  unfolding word_at on_word token_of
  word_number m v p t e f i k = (λ above n. i above n ∙ rw (← q, e), go f k)
    where
      go : (f : Result PolHead Fault) → FactorIn s t m v f → PolHeadIn s at f
      go (Ok (Plain a b)) k = absurd k
      go (Ok (Negated a b)) k = absurd k
      go (Ok (Add b)) k = absurd k
      go (Ok (Saturate b)) k = absurd k
      go (Ok (Times j w b)) (x, y, z, u) = let (c, d, g, h, l) = placed-as (Ok (Num m v p t)) e in (rw y c, λ g. rw y (d (sym x ∙ g)), omega arith, u)
      go (Ok (Over j w b)) (x, y, z, u) = let (c, d, g, h, l) = placed-as (Ok (Num m v p t)) e in (rw y c, λ g. rw y (d (sym x ∙ g)), omega arith, u)
      go (Err j) k = k

  pub word-named : (p t : ℕ) → r ≡ Ok (Name p t) → (f : Result PolHead Fault) → NamedIs s p t f → NamedIn p t f → PolWordIs s at f × PolHeadIn s at f
  unfolding word_at on_word token_of
  word-named p t e f i k = (λ above n. i above n ∙ rw (← q, e), go f k)
    where
      go : (f : Result PolHead Fault) → NamedIn p t f → PolHeadIn s at f
      go (Ok (Plain a b)) (x, y) = let (c, d, g, h) = placed-as (Ok (Name p t)) e in rw (x, y) (d, g, h, c)
      go (Ok (Negated a b)) k = absurd k
      go (Ok (Add b)) k = absurd k
      go (Ok (Saturate b)) k = let (c, d, g, h) = placed-as (Ok (Name p t)) e in rw k (omega arith, h)
      go (Ok (Times j w b)) k = absurd k
      go (Ok (Over j w b)) k = absurd k
      go (Err j) k = k

  pub word-negated : (p t : ℕ) → r ≡ Ok (Tilde p t) → (c : Bool) → NegatesIs s p t c → c ≡ true → PolWordIs s at (Ok (Negated (p + 1) t)) × PolHeadIn s at (Ok (Negated (p + 1) t))
  unfolding pol_word_of word_at on_word token_of judged
  word-negated p t e c k h =
      let (a, b, f) = subst (NegatesIs s p t) h k in
      let (g, i, j) = placed-as (Ok (Tilde p t)) e in
      (λ above n. rw (← q, e, a), (omega arith, b, j, f))

  pub word-bad : (p t : ℕ) → r ≡ Ok (Tilde p t) → (c : Bool) → NegatesIs s p t c → c ≡ false → PolWordIs s at (Err (BadWord, p))
  unfolding pol_word_of word_at on_word token_of judged
  word-bad p t e c k h = let a = subst (NegatesIs s p t) h k in λ above n. rw (← q, e, a)

  pub tilde_in : (p t : ℕ) → r ≡ Ok (Tilde p t) → (p < t) × (t ≤ length s)
  tilde_in p t e = let (a, b, c) = placed-as (Ok (Tilde p t)) e in (b, c)

  pub name_in : (p t : ℕ) → r ≡ Ok (Name p t) → (p < t) × (t ≤ length s)
  name_in p t e = let (a, b, c, d) = placed-as (Ok (Name p t)) e in (c, d)

  pub number_in : (m : Bool) (v p t : ℕ) → r ≡ Ok (Num m v p t) → t ≤ length s
  number_in m v p t e = let (a, b, c, d, f) = placed-as (Ok (Num m v p t)) e in f
