-- What a word makes of the stack, from what its parts answer.
use mathlib.Core.Path.{◌≡◌, refl, sym, ap, ◌∙◌}
use mathlib.Core.Bool.{Bool, true, false, cond}
use mathlib.Core.List.{List, [], ◌∷◌}
use Prim.Native.Nat.{ℕ, zero, suc, ◌+◌, ◌-◌, ◌≤◌, ◌<◌}
use native.Mathlib.Decide.{dec_lt}
use native.Mathlib.Omega.{arith}
use lib.Dec.{T}
use lib.IntN.{ℤ, pos}
use Rattle.calculus.specs.Entries.{Inequality}
use Rattle.calculus.specs.Pol.{max_literals, fits_entry, stacked, on_two}
use Rattle.calculus.specs.Terms.{Term, num}
use Rattle.calculus.specs.Words.{ok, ensure}
use Rattle.matching.specs.Entries.{entries, Under}
use Rattle.matching.specs.Matched.{Text, term}
use Rattle.matching.specs.Places.{placed}
use Rattle.sums.specs.Lists.{res_of}
use Rattle.sums.specs.Places.{left_at, right_at}
use Rattle.pol.specs.declared.Total.{Total}
use Rattle.pol.specs.Stack.{window, count_of, inequality_of, stack_of, Stack, Stored, KeptIs, StackUnder, SummedAt, WorkedIs}
use Rattle.pol.proofs.Keeping.{stack_same, stored-count, stored-key, stored-entry, stored-stands, stored-coefficients, stored-keys, stored-stack}
use Rattle.pol.proofs.Ranges.{fits-few, fits-constant-within, fits-within}

-- ---- the top of the stack
pub stack-one : (f : ℕ → Term) (cs : List ℤ) (ks : List ℕ) (d : ℕ) → 1 ≤ d → stack_of f cs ks d ≡ inequality_of f (window (d - 1) cs) (window (d - 1) ks) ∷ stack_of f cs ks (d - 1)
unfolding stack_of
stack-one f cs ks zero h = let z : ⊥ = omega arith in absurd z
stack-one f cs ks (suc d) h = let e : suc d - 1 ≡ d = omega arith in rw e

pub stack-two : (f : ℕ → Term) (cs : List ℤ) (ks : List ℕ) (d : ℕ) → 2 ≤ d
    → stack_of f cs ks d ≡ inequality_of f (window (d - 1) cs) (window (d - 1) ks) ∷ (inequality_of f (window (d - 2) cs) (window (d - 2) ks) ∷ stack_of f cs ks (d - 2))
stack-two f cs ks d h =
    let e : d - 1 - 1 ≡ d - 2 = omega arith in
    stack-one f cs ks d (omega arith) ∙ ap (λ (l : List Inequality). inequality_of f (window (d - 1) cs) (window (d - 1) ks) ∷ l) (stack-one f cs ks (d - 1) (omega arith) ∙ rw e)

-- an entry that got no number is not too large
pub kept-fitting : (cs : List ℤ) (n : ℕ) (c : ℤ) → ◌≡◌ {A = ℕ} (cond (fits_entry (record { sum = entries (λ i. num (pos 0)) cs [] n; const = c })) 0 53) 0
    → T (fits_entry (record { sum = entries (λ i. num (pos 0)) cs [] n; const = c }))
kept-fitting cs n c e = go (fits_entry (record { sum = entries (λ i. num (pos 0)) cs [] n; const = c })) e
  where
    go : (b : Bool) → ◌≡◌ {A = ℕ} (cond b 0 53) 0 → T b
    go true e = tt
    go false e = let z : ⊥ = omega arith in absurd z

-- ---- `+`
pub two-short : (t : List ℕ) (cs : List ℤ) (ks : List ℕ) (d e : ℕ) → d < 2 → WorkedIs t on_two cs ks d cs ks e 52
unfolding stack_of on_two res_of
two-short t cs ks d e h = record { is = λ x u. short d h x; stack = λ q. let z : ⊥ = omega arith in absurd z; under = λ q. let z : ⊥ = omega arith in absurd z }
  where
    short : (d : ℕ) → d < 2 → (x : Text t) → on_two (stack_of (term x) cs ks d) ≡ res_of 52 (stack_of (term x) cs ks e)
    short zero h x = refl
    short (suc zero) h x = refl
    short (suc (suc d)) h x = let z : ⊥ = omega arith in absurd z

module _ {t : List ℕ} {cs bs ds : List ℤ} {ks js ls : List ℕ} {d r : ℕ} {s : Total} (K : Stack t cs ks d) (two : 2 ≤ d) (S : SummedAt t cs ks d bs js s) (P : KeptIs bs js right_at left_at s.count s.constant (d - 2) ds ls r) where
  -- the stack before the new entry
  before : Stack t bs js d
  before = record { few = K.few; coefficients = omega (arith, K.coefficients, S.long); keys = omega (arith, K.keys, S.same); each = λ e l. rw (S.coefficients e, S.keys e) (K.each e l) }

  module _ (zero_is : r ≡ 0) where
    fitting : T (fits_entry (record { sum = entries (λ i. num (pos 0)) (placed right_at bs) [] s.count; const = s.constant }))
    fitting = kept-fitting (placed right_at bs) s.count s.constant (sym (P.number (λ i. num (pos 0)) []) ∙ zero_is)

    few : s.count ≤ max_literals
    few = fits-few (placed right_at bs) s.count s.constant fitting

    stored : Stored bs js right_at left_at s.count s.constant (d - 2) ds ls
    stored = P.stored zero_is

    coefficients : (e : ℕ) → e < d - 2 → window e ds ≡ window e cs
    coefficients e l = stored-coefficients stored few (omega (arith, K.few)) before.coefficients before.keys e l ∙ S.coefficients e

    keys : (e : ℕ) → e < d - 2 → window e ls ≡ window e ks
    keys e l = stored-keys stored few (omega (arith, K.few)) before.coefficients before.keys e l ∙ S.keys e

    two-stack : Stack t ds ls (d - 1)
    two-stack =
        let z : d - 2 + 1 ≡ d - 1 = omega arith in
        rw z at (stored-stack stored few (omega (arith, K.few)) before.coefficients before.keys (omega arith) before
        (stored-stands stored few S.literals S.names (fits-within (placed right_at bs) s.count s.constant fitting) (fits-constant-within (placed right_at bs) s.count s.constant fitting)))

    two-under : (m : ℕ) → StackUnder m ks d → StackUnder m ls (d - 1)
    two-under m U e l = go (dec_lt e (d - 2))
      where
        go : Dec (e < d - 2) → Under m (window e ls) (count_of (window e ls))
        go (yes q) = rw (keys e q) (U e (omega arith))
        go (no q) =
            let z : e ≡ d - 2 = omega arith in
            rw z (λ i h. let k : i < s.count = omega (arith, stored-count stored few) in rw (stored-key stored few i k) (S.under m U i k))

  pub two-worked : WorkedIs t on_two cs ks d ds ls (d - 1) r
  unfolding on_two stacked ensure res_of
  two-worked = record {
    is = λ x U. rw (stack-two (term x) cs ks d two, S.is x U) (go x (fits_entry (made x)) refl);
    stack = two-stack;
    under = two-under;
  }
    where
      made : Text t → Inequality
      made x = record { sum = entries (term x) (placed right_at bs) (placed left_at js) s.count; const = s.constant }

      go : (x : Text t) (b : Bool) → fits_entry (made x) ≡ b → ensure (fits_entry (made x)) 53 (ok (made x ∷ stack_of (term x) cs ks (d - 2))) ≡ res_of r (stack_of (term x) ds ls (d - 1))
      go x true e =
          let q : r ≡ 0 = P.number (term x) (placed left_at js) ∙ ap (λ (b : Bool). cond b 0 53) e in
          let n : d - 1 - 1 ≡ d - 2 = omega arith in
          rw (e, q, stack-one (term x) ds ls (d - 1) (omega arith), n, stored-entry (stored q) (few q) (term x), stack_same (term x) cs ds ks ls (d - 2) (coefficients q) (keys q))
      go x false e =
          let q : r ≡ 53 = P.number (term x) (placed left_at js) ∙ ap (λ (b : Bool). cond b 0 53) e in
          rw (e, q)
