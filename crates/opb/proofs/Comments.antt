-- Laws of blanks and comments outside constraints.
use mathlib.Core.Path.{◌≡◌, refl, sym, ◌∙◌}
use mathlib.Core.Bool.{Bool, true, false, not, cond}
use mathlib.Core.List.{List}
use Prim.Native.Nat.{ℕ, zero, suc, ◌+◌, ◌-◌, ◌≤◌, ◌<◌}
use native.Mathlib.Numerals.{add-one}
use native.Mathlib.Omega.{arith}
use borrow.Author.Tests.{eq-eqb, ne_eqb}
use lib.Dec.{eqb}
use lib.ListN.{length, get_or, drop, drop_of_length-le}
use lib.Seq.{drop-cons}
use Rattle.calculus.specs.Bytes.{is_blank, class_of, unprintable, byte}
use Rattle.calculus.specs.OpbWords.{Place, first, later, comment, next_place, passed, gap, place_at}
use Rattle.opb.specs.Tokens.{place_of}
use Rattle.opb.specs.declared.Place as places
use Rattle.opb.specs.declared.Place.TheVariants.{First, Later, Comment}

-- ---- the place of a byte
module _ (s : List ℕ) (at : ℕ) where
  pub place-start : at ≡ 0 → place_of First ≡ place_at s at
  unfolding place_at
  place-start e = rw e

  behind : (at ≡ 0 → ⊥) → place_at s at ≡ cond (eqb (get_or s (at - 1) 0) 10) first later
  unfolding place_at
  behind = go at
    where
      go : (at : ℕ) → (at ≡ 0 → ⊥) → place_at s at ≡ cond (eqb (get_or s (at - 1) 0) 10) first later
      go zero h = absurd (h refl)
      go (suc p) h = let e : suc p - 1 ≡ p = omega arith in rw e

  pub place-line : (at ≡ 0 → ⊥) → get_or s (at - 1) 0 ≡ 10 → place_of First ≡ place_at s at
  place-line h e = sym (behind h ∙ rw (eq-eqb _ _ e))

  pub place-later : (at ≡ 0 → ⊥) → (get_or s (at - 1) 0 ≡ 10 → ⊥) → place_of Later ≡ place_at s at
  place-later h e = sym (behind h ∙ rw (ne_eqb _ _ e))

-- ---- by a place
module _ (p : places.Place) (b : ℕ) where
  pub comment_passes : (r : Bool) → p ≡ Comment → r ≡ not (eqb (class_of b) unprintable) → r ≡ passed (place_of p) b
  unfolding passed
  comment_passes r h e = rw h e

  pub blank-passes : (p ≡ Comment → ⊥) → is_blank b ≡ true → true ≡ passed (place_of p) b
  unfolding passed
  blank-passes h e = go p refl
    where
      go : (q : places.Place) → p ≡ q → true ≡ passed (place_of q) b
      go First f = rw e
      go Later f = rw e
      go Comment f = absurd (h f)

  pub star_passes : (r : Bool) → p ≡ First → is_blank b ≡ false → r ≡ eqb b (byte "*") → r ≡ passed (place_of p) b
  unfolding passed
  star_passes r h e k = rw (h, e) k

  pub none_passes : (p ≡ Comment → ⊥) → (p ≡ First → ⊥) → is_blank b ≡ false → false ≡ passed (place_of p) b
  unfolding passed
  none_passes h k e = go p refl
    where
      go : (q : places.Place) → p ≡ q → false ≡ passed (place_of q) b
      go First f = absurd (k f)
      go Later f = rw e
      go Comment f = absurd (h f)

  pub next-line : b ≡ 10 → place_of First ≡ next_place (place_of p) b
  unfolding next_place
  next-line e = go (place_of p)
    where
      go : (c : Place) → place_of First ≡ next_place c b
      go first = rw (eq-eqb b 10 e)
      go later = rw (eq-eqb b 10 e)
      go comment = rw (eq-eqb b 10 e)

  pub next-comment : (b ≡ 10 → ⊥) → p ≡ First → b ≡ byte "*" → place_of Comment ≡ next_place (place_of p) b
  unfolding next_place
  next-comment n h e = rw (h, e)

  pub next-later : (b ≡ 10 → ⊥) → p ≡ First → (b ≡ byte "*" → ⊥) → place_of Later ≡ next_place (place_of p) b
  unfolding next_place
  next-later n h e = rw (h, ne_eqb b 10 n, ne_eqb b (byte "*") e)

  pub next-same : (b ≡ 10 → ⊥) → (p ≡ First → ⊥) → place_of p ≡ next_place (place_of p) b
  unfolding next_place
  next-same n h = go p refl
    where
      go : (q : places.Place) → p ≡ q → place_of q ≡ next_place (place_of q) b
      go First f = absurd (h f)
      go Later f = rw (ne_eqb b 10 n)
      go Comment f = rw (ne_eqb b 10 n)

-- ---- the run
gap-end : (c : Place) (s : List ℕ) (i : ℕ) → length s ≤ i → gap c (drop i s) ≡ 0
unfolding gap
gap-end c s i h = rw (drop_of_length-le s h)

gap-stop : (c : Place) (s : List ℕ) (i : ℕ) → i < length s → passed c (get_or s i 0) ≡ false → gap c (drop i s) ≡ 0
unfolding gap
gap-stop c s i h e = rw (drop-cons s i 0 h, e)

gap-go : (c : Place) (s : List ℕ) (i : ℕ) → i < length s → passed c (get_or s i 0) ≡ true → gap c (drop i s) ≡ 1 + gap (next_place c (get_or s i 0)) (drop (i + 1) s)
unfolding gap
gap-go c s i h e = rw (drop-cons s i 0 h, e, add-one i) (omega arith)

module _ (s : List ℕ) (i : ℕ) (p : places.Place) (n : ℕ) (q : i + gap (place_of p) (drop i s) ≡ n) where
  pub skip_stop : i < length s → passed (place_of p) (get_or s i 0) ≡ false → i ≡ n
  skip_stop h e = omega (arith, gap-stop (place_of p) s i h e)

  pub skip-more : (r : places.Place) → i < length s → passed (place_of p) (get_or s i 0) ≡ true → place_of r ≡ next_place (place_of p) (get_or s i 0) → i + 1 + gap (place_of r) (drop (i + 1) s) ≡ n
  skip-more r h e k = rw k (omega (arith, gap-go (place_of p) s i h e))

  pub skip_end : i ≡ length s → length s ≡ n
  skip_end h = omega (arith, gap-end (place_of p) s i (omega arith))
