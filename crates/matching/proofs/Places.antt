-- Reading and writing at a place, and what stands at other places.
use mathlib.Core.Path.{◌≡◌, refl, sym, ap, ◌∙◌}
use mathlib.Core.List.{List}
use Prim.Native.Nat.{ℕ, ◌+◌, ◌-◌, ◌≤◌, ◌<◌}
use native.Mathlib.Decide.{dec_lt}
use native.Mathlib.Omega.{arith}
use lib.IntN.{ℤ, pos}
use lib.ListN.{length, get_or, set, take, drop, length-drop, length-set}
use lib.Seq.{get_or-set_same, get_or-set_other, get_or-take, get_or-drop, take-set-lt, take-set-le, drop-set-add, drop-set-lt, length-take-le}
use Rattle.matching.specs.Places.{max_entries, part, placed, Put1, Apart, Others}

put1 : {A : Type 0} (z : A) (l : List A) (i : ℕ) (a : A) → i < length l → Put1 z l i a (set l i a)
put1 z l i a h = record { new = get_or-set_same l i a z h; old = λ m f. get_or-set_other l i m a z f }

-- ---- a part of a list
module _ {A : Type 0} (a w : ℕ) (l : List A) where
  pub part-get : (z : A) (i : ℕ) → i < w → get_or (part a w l) i z ≡ get_or l (a + i) z
  unfolding part
  part-get z i h = get_or-take w (drop a l) i z h ∙ get_or-drop a l i z

  pub part_length : a + w ≤ length l → length (part a w l) ≡ w
  unfolding part
  part_length h = length-take-le w (drop a l) (rw (length-drop a l) (omega arith))

  pub part-set : (i : ℕ) (x : A) → i < w → part a w (set l (a + i) x) ≡ set (part a w l) i x
  unfolding part
  part-set i x h = ap (take w) (drop-set-add a l i x) ∙ take-set-lt w (drop a l) i x h

  -- what is written outside a part leaves it as it was
  pub part-other : (j : ℕ) (x : A) → ((i : ℕ) → i < w → j ≡ a + i → ⊥) → part a w (set l j x) ≡ part a w l
  unfolding part
  part-other j x f = elim (dec_lt j a) [
    | yes h ↦ ap (take w) (drop-set-lt a l j x h)
    | no h ↦ elim (dec_lt (j - a) w) [
      | yes k ↦ absurd (f (j - a) k (omega arith))
      | no k ↦ let e : j ≡ a + (j - a) = omega arith in
          rw e (ap (take w) (drop-set-add a l (j - a) x) ∙ take-set-le w (drop a l) (j - a) x (omega arith))
    ]
  ]

  pub part-put : (z : A) (i : ℕ) (x : A) → i < w → a + w ≤ length l → Put1 z (part a w l) i x (part a w (set l (a + i) x))
  part-put z i x h r = rw (part-set i x h) (put1 z (part a w l) i x (rw (part_length r) h))

-- what code reads at a place
module _ (at : ℕ) where
  pub key-at : (ks : List ℕ) (i : ℕ) → i < max_entries → get_or (placed at ks) i 0 ≡ get_or ks (at + i) 0
  key-at ks i h = part-get at max_entries ks 0 i h

  pub coefficient-at : (cs : List ℤ) (i : ℕ) → i < max_entries → get_or (placed at cs) i (pos 0) ≡ get_or cs (at + i) (pos 0)
  coefficient-at cs i h = part-get at max_entries cs (pos 0) i h

-- ---- what is written at one place leaves the others as they were
pub others-none : {A : Type 0} (at : ℕ) (l : List A) → Others at l l
others-none at l = record { long = refl; there = λ b f. refl }

pub others-set : {A : Type 0} (at : ℕ) (l : List A) (i : ℕ) (x : A) → i < max_entries → Others at l (set l (at + i) x)
others-set at l i x h = record { long = length-set l (at + i) x; there = λ b f. part-other b max_entries l (at + i) x (λ j k e. f i j h k e) }

pub others-then : {A : Type 0} {at : ℕ} {l m o : List A} → Others at l m → Others at m o → Others at l o
others-then E F = record { long = F.long ∙ E.long; there = λ b f. F.there b f ∙ E.there b f }

-- what code reads at another place
pub still_at : {A : Type 0} (z : A) {at : ℕ} {l m : List A} → Others at l m → (b : ℕ) → Apart at b → (i : ℕ) → i < max_entries → get_or m (b + i) z ≡ get_or (placed b l) i z
still_at {A} z {at} {l} {m} E b f i h = sym (part-get b max_entries m z i h) ∙ ap (λ (o : List A). get_or o i z) (E.there b f)
