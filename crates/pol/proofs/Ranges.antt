-- Numbers in range, one by one, and an entry that is not too large.
use mathlib.Core.Path.{◌≡◌, refl, sym, ap, subst, ◌∙◌}
use mathlib.Core.Bool.{Bool, true, false, cond, ◌&&◌}
use mathlib.Core.List.{List, []}
use Prim.Native.Nat.{ℕ, zero, suc, ◌+◌, ◌-◌, ◌≤◌, ◌<◌}
use native.Mathlib.Omega.{arith}
use borrow.Author.Tests.{le-leb, lt-leb, ltb-true, ltb-false, leb-true}
use lib.Dec.{T, leb}
use lib.IntN.{ℤ, pos, negsuc, nat_abs}
use lib.ListN.{length, get_or}
use lib.Signed.{le_z, lt_z}
use Rattle.integer.specs.Integers.{Within}
use Rattle.calculus.specs.Entries.{Entry}
use Rattle.calculus.specs.Pol.{max_literals, in_range, fits_entry}
use Rattle.calculus.specs.Sums.{all}
use Rattle.calculus.specs.Terms.{Term, num}
use Rattle.calculus.specs.Words.{max_numeral}
use Rattle.calculus.proofs.Booleans.{and_l, and_r, is_true}
use Rattle.matching.specs.Entries.{run, entry_at, entries}
use Rattle.matching.proofs.Runs.{all_start, all_more, all-stop, all_end}
use Rattle.sums.specs.Lists.{Bounded}
use Rattle.pol.specs.Stack.{RangeIs, FitsIs}

-- ---- one number
yes-no : {A : Type 0} → true ≡ false → A
yes-no q = absurd (subst (λ (b : Bool). cond b Unit ⊥) q tt)

pub range-below : (z : ℤ) → lt_z z (negsuc 99999998) ≡ true → false ≡ in_range z
unfolding in_range
range-below (pos n) e = yes-no (sym e)
range-below (negsuc n) e = sym (lt-leb (suc n) max_numeral (omega (arith, ltb-true 99999998 n e)))

pub range-above : (z : ℤ) (r : Bool) → lt_z z (negsuc 99999998) ≡ false → r ≡ le_z z (pos max_numeral) → r ≡ in_range z
unfolding in_range
range-above (pos n) r e q = q
range-above (negsuc n) r e q = q ∙ sym (le-leb (suc n) max_numeral (omega (arith, ltb-false 99999998 n e)))

-- ---- the coefficients from entry i on
abbrev pub Ranging : List ℤ → ℕ → ℕ → Type 0
Ranging cs n i = (d : ℕ → Term) (ks : List ℕ) → all (λ (e : Entry). in_range e.coefficient) (entries d cs ks n) ≡ all (λ (e : Entry). in_range e.coefficient) (run (entry_at d cs ks) i (n - i))

module _ (cs : List ℤ) (n : ℕ) where
  pub ranging-start : (i : ℕ) → i ≡ 0 → Ranging cs n i
  ranging-start i e d ks = rw e (all_start (λ (e : Entry). in_range e.coefficient) (entry_at d cs ks) n)

  module _ (i : ℕ) (R : Ranging cs n i) where
    pub ranging-more : i < n → in_range (get_or cs i (pos 0)) ≡ true → Ranging cs n (i + 1)
    ranging-more l e d ks = all_more (λ (e : Entry). in_range e.coefficient) (entry_at d cs ks) i n _ l e (R d ks)

    pub ranging-stop : i < n → in_range (get_or cs i (pos 0)) ≡ false → RangeIs cs n false
    ranging-stop l e d ks = all-stop (λ (e : Entry). in_range e.coefficient) (entry_at d cs ks) i n _ l e (R d ks)

    pub ranging_end : n ≤ i → RangeIs cs n true
    ranging_end l d ks = all_end (λ (e : Entry). in_range e.coefficient) (entry_at d cs ks) i n _ l (R d ks)

-- ---- an entry
pub entries-length : (d : ℕ → Term) (cs : List ℤ) (ks : List ℕ) (n : ℕ) → length (entries d cs ks n) ≡ n
unfolding run
entries-length d cs ks n = go 0 n
  where
    go : (i m : ℕ) → length (run (entry_at d cs ks) i m) ≡ m
    go i zero = refl
    go i (suc m) = ap suc (go (suc i) m)

module _ (cs : List ℤ) (n : ℕ) (c : ℤ) where
  pub fits-many : max_literals < n → FitsIs cs n c false
  unfolding fits_entry
  fits-many h d ks = rw (entries-length d cs ks n, lt-leb n max_literals h)

  pub fits-constant : in_range c ≡ false → FitsIs cs n c false
  unfolding fits_entry
  fits-constant e d ks = rw e (go (leb (length (entries d cs ks n)) max_literals))
    where
      go : (b : Bool) → false ≡ b && false
      go true = refl
      go false = refl

  pub fits-rest : {r : Bool} → n ≤ max_literals → in_range c ≡ true → RangeIs cs n r → FitsIs cs n c r
  unfolding fits_entry
  fits-rest h e R d ks = rw (entries-length d cs ks n, le-leb n max_literals h, e) (R d ks)

-- ---- numbers of an entry that is not too large
-- what is so of all is so of each
pub all-at : (P : Entry → Bool) (f : ℕ → Entry) (i n j : ℕ) → all P (run f i n) ≡ true → j < n → P (f (i + j)) ≡ true
unfolding run all
all-at P f i zero j e h = let z : ⊥ = omega arith in absurd z
all-at P f i (suc n) zero e h = let z : i + 0 ≡ i = omega arith in rw z (is_true (P (f i)) (and_l (P (f i)) (all P (run f (suc i) n)) (subst T (sym e) tt)))
all-at P f i (suc n) (suc j) e h =
    let z : i + suc j ≡ suc i + j = omega arith in
    rw z (all-at P f (suc i) n j (is_true (all P (run f (suc i) n)) (and_r (P (f i)) (all P (run f (suc i) n)) (subst T (sym e) tt))) (omega arith))

range-within : (z : ℤ) → in_range z ≡ true → Within max_numeral z
unfolding in_range
range-within z e = record { within = leb-true (nat_abs z) max_numeral e }

-- its three parts: how many literals, the constant, the coefficients
module _ (cs : List ℤ) (n : ℕ) (c : ℤ) (F : T (fits_entry (record { sum = entries (λ i. num (pos 0)) cs [] n; const = c }))) where
  abbrev made : List Entry
  made = entries (λ i. num (pos 0)) cs [] n

  abbrev inside : Bool
  inside = all (λ (e : Entry). in_range e.coefficient) made

  pub fits-few : n ≤ max_literals
  unfolding fits_entry
  fits-few = leb-true n max_literals (rw (entries-length (λ i. num (pos 0)) cs [] n) at (is_true (leb (length made) max_literals) (and_l (leb (length made) max_literals) (in_range c && inside) F)))

  numbers : T (in_range c && inside)
  unfolding fits_entry
  numbers = and_r (leb (length made) max_literals) (in_range c && inside) F

  pub fits-constant-within : Within max_numeral c
  fits-constant-within = range-within c (is_true (in_range c) (and_l (in_range c) inside numbers))

  pub fits-within : Bounded max_numeral cs n
  fits-within i h =
      let z : 0 + i ≡ i = omega arith in
      range-within (get_or cs i (pos 0))
      (rw z at (all-at (λ (e : Entry). in_range e.coefficient) (entry_at (λ i. num (pos 0)) cs []) 0 n i (is_true inside (and_r (in_range c) inside numbers)) h))

-- ---- a test of the entry, and the number
module _ (cs : List ℤ) (n : ℕ) (c : ℤ) {r : Bool} (F : FitsIs cs n c r) where
  pub kept-beyond : r ≡ false → (f : ℕ → Term) (ms : List ℕ) → ◌≡◌ {A = ℕ} 53 (cond (fits_entry (record { sum = entries f cs ms n; const = c })) 0 53)
  kept-beyond e f ms = rw (← F f ms, e)

  pub kept-fits : r ≡ true → (f : ℕ → Term) (ms : List ℕ) → ◌≡◌ {A = ℕ} 0 (cond (fits_entry (record { sum = entries f cs ms n; const = c })) 0 53)
  kept-fits e f ms = rw (← F f ms, e)

  pub kept-few : r ≡ true → n ≤ max_literals
  kept-few e = fits-few cs n c (subst T (sym e ∙ F (λ i. num (pos 0)) []) tt)
