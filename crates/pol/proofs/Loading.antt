-- An entry of the stack read as the sum at a place, one literal after the other.
use mathlib.Core.Path.{◌≡◌, refl, sym, ap, ◌∙◌}
use mathlib.Core.List.{List}
use Prim.Native.Nat.{ℕ, ◌+◌, ◌≤◌, ◌<◌}
use native.Mathlib.Decide.{dec_lt}
use native.Mathlib.Nat.{not-suc-le-zero}
use native.Mathlib.Omega.{arith}
use lib.IntN.{ℤ, pos}
use lib.ListN.{get_or}
use Rattle.matching.specs.Places.{placed}
use Rattle.sums.specs.Found.{FollowedAt}
use Rattle.sums.specs.Lists.{Fine}
use Rattle.sums.specs.Places.{conclusion_at, slotted, Elsewhere}
use Rattle.sums.proofs.Places.{elsewhere-none, elsewhere-then}
use Rattle.pol.specs.Stack.{entry_words, base_of, count_of, window, Loaded}
use Rattle.pol.proofs.Windows.{window-get, window-still}

-- the first i literals of the entry with the words os and ps are at the place
pub record Loading (t : List ℕ) (os : List ℤ) (ps : List ℕ) (at : ℕ) (cs : List ℤ) (ks sl : List ℕ) (i : ℕ) (ds : List ℤ) (ls tl : List ℕ) : Type 0 where
  pub most : i ≤ count_of ps
  pub coefficients : (j : ℕ) → j < i → get_or (placed at ds) j (pos 0) ≡ get_or os j (pos 0)
  pub keys : (j : ℕ) → j < i → get_or (placed at ls) j 0 ≡ get_or ps j 0
  pub fine : Fine t (placed at ls) (slotted at tl) i
  pub elsewhere : Elsewhere at cs ks sl ds ls tl

pub loading-none : (t : List ℕ) (os : List ℤ) (ps : List ℕ) (at : ℕ) (cs : List ℤ) (ks sl : List ℕ) → Loading t os ps at cs ks sl 0 cs ks sl
loading-none t os ps at cs ks sl = record {
  most = omega arith;
  coefficients = λ j h. absurd (not-suc-le-zero h);
  keys = λ j h. absurd (not-suc-le-zero h);
  fine = record { few = omega arith; literals = λ j h. absurd (not-suc-le-zero h); slots = λ j h. absurd (not-suc-le-zero h) };
  elsewhere = elsewhere-none at cs ks sl;
}

module _ {t : List ℕ} {os : List ℤ} {ps : List ℕ} {at : ℕ} {cs : List ℤ} {ks sl : List ℕ} {i : ℕ} {ds : List ℤ} {ls tl : List ℕ} (L : Loading t os ps at cs ks sl i ds ls tl) where
  pub loading-more : {k : ℕ} {c : ℤ} {es : List ℤ} {ms ul : List ℕ} {r : ℕ} → i < count_of ps → k ≡ get_or ps i 0 → c ≡ get_or os i (pos 0) → FollowedAt t at ds ls tl i k c es ms ul r → Loading t os ps at cs ks sl r es ms ul
  loading-more {k} {c} {es} {ms} {ul} {r} h e f (F, E) = record {
    most = omega (arith, F.count);
    coefficients = λ j q. old-or-new j q (λ l. F.coefficients.old j (λ z. omega arith) ∙ L.coefficients j l) (λ z. rw z (F.coefficients.new ∙ f));
    keys = λ j q. old-or-new j q (λ l. F.keys.old j (λ z. omega arith) ∙ L.keys j l) (λ z. rw z (F.keys.new ∙ e));
    fine = F.fine;
    elsewhere = elsewhere-then L.elsewhere E;
  }
    where
      old-or-new : (j : ℕ) → j < r → {A : Type 0} → (j < i → A) → (j ≡ i → A) → A
      old-or-new j q {A} old new = go (dec_lt j i)
        where
          go : Dec (j < i) → A
          go (yes l) = old l
          go (no l) = new (omega (arith, F.count))

  pub loading-all : count_of ps ≤ i → Loaded t os ps (placed at ds) (placed at ls) (slotted at tl) (count_of ps) × Elsewhere at cs ks sl ds ls tl
  loading-all h =
      let e : i ≡ count_of ps = omega (arith, L.most) in (
        record {
          count = refl;
          coefficients = λ j q. L.coefficients j (omega arith);
          keys = λ j q. L.keys j (omega arith);
          fine = rw (← e) L.fine;
        },
        L.elsewhere,
      )

-- ---- what is read next: the entry's words are as they were
module _ (e : ℕ) {t : List ℕ} {at : ℕ} {cs : List ℤ} {ks sl : List ℕ} {i : ℕ} {ds : List ℤ} {ls tl : List ℕ} (L : Loading t (window e cs) (window e ks) at cs ks sl i ds ls tl) (near : at ≤ conclusion_at) (few : i < entry_words) where
  pub load-key : get_or ls (base_of e + i) 0 ≡ get_or (window e ks) i 0
  load-key = sym (window-get e ls 0 i few) ∙ ap (λ (l : List ℕ). get_or l i 0) (window-still 0 e near L.elsewhere.keys)

  pub load-coefficient : get_or ds (base_of e + i) (pos 0) ≡ get_or (window e cs) i (pos 0)
  load-coefficient = sym (window-get e ds (pos 0) i few) ∙ ap (λ (l : List ℤ). get_or l i (pos 0)) (window-still (pos 0) e near L.elsewhere.coefficients)
