-- Two entries of the stack, read as sums, added and reduced.
use mathlib.Core.Path.{◌≡◌, ap, ap₂, ◌∙◌}
use mathlib.Core.List.{List}
use Prim.Native.Nat.{ℕ, ◌+◌, ◌-◌, ◌*◌, ◌≤◌, ◌<◌}
use native.Mathlib.Omega.{arith}
use lib.IntN.{ℤ, pos, ◌+ℤ◌, ◌-ℤ◌}
use lib.ListN.{length, get_or}
use Rattle.integer.specs.Integers.{Within}
use mir.Syntax.{w64}
use mir.Val.{to_z, of_z, SFits}
use Rattle.integer.proofs.Fits.{fits-within, within_more, within-add, within-sub}
use Rattle.matching.proofs.Matches.{kept}
use Rattle.calculus.specs.Pol.{max_stack, max_literals, added, less_slack}
use Rattle.calculus.specs.Sums.{add_sums, reduce_sum, max_summands}
use Rattle.calculus.specs.Words.{max_numeral}
use Rattle.matching.specs.Entries.{entries, Under, Literals}
use Rattle.matching.specs.Matched.{Text, term}
use Rattle.matching.specs.Places.{max_entries, max_place, placed, Apart, Others}
use Rattle.sums.specs.Found.{AddAt, ReduceIs}
use Rattle.sums.specs.Lists.{OverNames, Bounded, Fine, max_total, max_added}
use Rattle.sums.specs.Places.{left_at, right_at, conclusion_at, slotted, Room, Rooms, Listed, Keyed}
use Rattle.sums.proofs.Places.{room_of, rooms-still, keyed_of, long-enough}
use Rattle.pol.specs.declared.Total.{Total}
use Rattle.pol.specs.Stack.{stack_words, base_of, window, constant_of, count_of, inequality_of, Standing, Stack, LoadedAt, StackUnder, SummedAt}
use Rattle.pol.proofs.Windows.{placed-window, stack-apart, window-still, entries-same}

-- ---- the constants, as the code adds them and takes the slack away
module _ {a b p q : ℤ} (e : p ≡ a) (f : q ≡ b) (v : Within max_numeral a) (w : Within max_numeral b) where
  pub constants_fit : SFits w64 (to_z w64 (of_z w64 p) +ℤ to_z w64 (of_z w64 q))
  constants_fit = rw (e, f, kept (omega arith) v, kept (omega arith) w) (fits-within (omega arith) (within-add v w))

  module _ {s : ℤ} (g : s ≡ to_z w64 (of_z w64 p) +ℤ to_z w64 (of_z w64 q)) where
    pub total-is : s ≡ a +ℤ b
    total-is = g ∙ rw (e, f, kept (omega arith) v, kept (omega arith) w)

    module _ {z : ℤ} (u : Within (max_entries * max_added) z) where
      total-within : Within (max_numeral + max_numeral) s
      total-within = rw total-is (within-add v w)

      pub slack-fits : SFits w64 (to_z w64 (of_z w64 s) -ℤ to_z w64 (of_z w64 z))
      slack-fits = rw (kept (omega arith) total-within, kept (omega arith) u) (fits-within (omega arith) (within-sub total-within u))

      pub rest-is : {r : ℤ} → r ≡ to_z w64 (of_z w64 s) -ℤ to_z w64 (of_z w64 z) → r ≡ s -ℤ z
      rest-is h = h ∙ rw (kept (omega arith) total-within, kept (omega arith) u)

-- ---- an entry whose literals stand at a place
pub record Same (os us : List ℤ) (ps vs : List ℕ) (n : ℕ) : Type 0 where
  pub count : n ≡ count_of ps
  pub coefficients : (i : ℕ) → i < n → get_or us i (pos 0) ≡ get_or os i (pos 0)
  pub keys : (i : ℕ) → i < n → get_or vs i 0 ≡ get_or ps i 0

-- at its own
same-there : {t : List ℕ} (e : ℕ) (cs : List ℤ) (ks : List ℕ) (n : ℕ) → Standing t (window e cs) (window e ks) → n ≡ count_of (window e ks) → Same (window e cs) (placed (base_of e) cs) (window e ks) (placed (base_of e) ks) n
same-there e cs ks n S h = record {
  count = h;
  coefficients = λ i q. placed-window e cs (pos 0) i (omega (arith, h, S.few));
  keys = λ i q. placed-window e ks 0 i (omega (arith, h, S.few));
}

module _ {t : List ℕ} {os us : List ℤ} {ps vs : List ℕ} {n : ℕ} (S : Standing t os ps) (L : Same os us ps vs n) where
  few : n ≤ max_literals
  few = omega (arith, L.count, S.few)

  bounded : Bounded max_total us n
  bounded i h = rw (L.coefficients i h) (within_more (omega arith) (S.within i (omega (arith, L.count))))

  literals : Literals t vs n
  literals i h = rw (L.keys i h) (S.literals i (omega (arith, L.count)))

  names : OverNames t vs n
  names i h = rw (L.keys i h) (S.names i (omega (arith, L.count)))

  under_all : {m : ℕ} → Under m ps (count_of ps) → Under m vs n
  under_all U i h = rw (L.keys i h) (U i (omega (arith, L.count)))

  is-entry : (x : Text t) → entries (term x) us vs n ≡ (inequality_of (term x) os ps).sum
  unfolding inequality_of
  is-entry x = rw (← L.count) (entries-same (term x) os us ps vs n L.coefficients L.keys)

-- ---- the two top entries
module _ {t : List ℕ} {cs : List ℤ} {ks sl : List ℕ} {d : ℕ} (K : Stack t cs ks d) (two : 2 ≤ d) (R : Rooms t cs ks sl) where
  first : Standing t (window (d - 2) cs) (window (d - 2) ks)
  first = K.each (d - 2) (omega arith)

  second : Standing t (window (d - 1) cs) (window (d - 1) ks)
  second = K.each (d - 1) (omega arith)

  pub first-asked : (Standing t (window (d - 2) cs) (window (d - 2) ks) × (d - 2 < max_stack) × (stack_words ≤ length cs) × (stack_words ≤ length ks) × (left_at ≤ conclusion_at)) × Room t left_at cs ks sl
  first-asked = ((first, omega (arith, K.few), K.coefficients, K.keys, omega arith), room_of R left_at (omega arith))

  pub totals-within : Within max_numeral (constant_of (window (d - 2) cs)) × Within max_numeral (constant_of (window (d - 1) cs))
  totals-within = (first.constant, second.constant)

  module _ {c₁ : List ℤ} {k₁ s₁ : List ℕ} {n : ℕ} (A : LoadedAt t (d - 2) left_at cs ks sl c₁ k₁ s₁ n) where
    rooms₁ : Rooms t c₁ k₁ s₁
    rooms₁ = rooms-still A.1 R

    coefficients₁ : (e : ℕ) → window e c₁ ≡ window e cs
    coefficients₁ e = window-still (pos 0) e (omega arith) A.1.coefficients

    keys₁ : (e : ℕ) → window e k₁ ≡ window e ks
    keys₁ e = window-still 0 e (omega arith) A.1.keys

    -- the top still stands
    second₁ : Standing t (window (d - 1) c₁) (window (d - 1) k₁)
    second₁ = rw (coefficients₁ (d - 1), keys₁ (d - 1)) second

    left : Same (window (d - 2) cs) (placed left_at c₁) (window (d - 2) ks) (placed left_at k₁) n
    left = record { count = A.0.count; coefficients = A.0.coefficients; keys = A.0.keys }

    module _ {m : ℕ} (B : m ≡ count_of (window (d - 1) k₁)) where
      right : Same (window (d - 1) cs) (placed (base_of (d - 1)) c₁) (window (d - 1) ks) (placed (base_of (d - 1)) k₁) m
      right = rw (← coefficients₁ (d - 1), ← keys₁ (d - 1)) (same-there (d - 1) c₁ k₁ m second₁ B)

      pub add-asked : (Room t left_at c₁ k₁ s₁ × Apart left_at (base_of (d - 1)))
          × ((Fine t (placed left_at k₁) (slotted left_at s₁) n × (n ≤ max_summands) × Bounded max_total (placed left_at c₁) n)
          × (Listed t (base_of (d - 1)) (base_of (d - 1)) c₁ k₁ m × (m ≤ max_summands) × Bounded max_total (placed (base_of (d - 1)) c₁) m))
      add-asked = (
        (room_of rooms₁ left_at (omega arith), stack-apart left_at (d - 1) (omega arith)),
        (
          (A.0.fine, omega (arith, few first left), bounded first left),
          (
            record {
              near = omega (arith, K.few);
              few = omega (arith, K.few);
              most = omega (arith, few second right);
              coefficients = omega (arith, K.few, K.coefficients, A.1.coefficients.long, few second right);
              keys = omega (arith, K.few, K.keys, A.1.keys.long, few second right);
              literals = literals second right;
            },
            omega (arith, few second right),
            bounded second right,
          ),
        ),
      )

      module _ {c₃ : List ℤ} {k₃ s₃ : List ℕ} {both : ℕ} (C : AddAt t left_at c₁ k₁ s₁ n (base_of (d - 1)) m c₃ k₃ s₃ both) where
        rooms₃ : Rooms t c₃ k₃ s₃
        rooms₃ = rooms-still C.1 rooms₁

        pub reduce_asked : (Keyed t left_at k₃ s₃ both × (left_at + both ≤ length c₃) × Bounded max_added (placed left_at c₃) both) × ((right_at + max_entries ≤ length c₃) × (right_at ≤ max_place) × Apart right_at left_at)
        reduce_asked = (
          (keyed_of rooms₃ left_at (omega arith) C.0.fine, long-enough rooms₃ left_at (omega arith) both C.0.fine.few, C.0.bounded),
          (long-enough rooms₃ right_at (omega arith) max_entries (omega arith), omega arith, λ i j a b q. omega arith),
        )

        module _ {c₄ : List ℤ} {slack : ℤ} (D : ReduceIs t (placed left_at c₃) (placed left_at k₃) both (placed right_at c₄) slack) (O : Others right_at c₃ c₄) where
          under : (m : ℕ) → StackUnder m ks d → Under m (placed left_at k₃) both
          under u U = C.0.under u (under_all first left (U (d - 2) (omega arith))) (under_all second right (U (d - 1) (omega arith)))

          sum_is : (x : Text t) → StackUnder x.n ks d
              → record { sum = entries (term x) (placed right_at c₄) (placed left_at k₃) both; slack = slack }
              ≡ reduce_sum (add_sums (inequality_of (term x) (window (d - 2) cs) (window (d - 2) ks)).sum (inequality_of (term x) (window (d - 1) cs) (window (d - 1) ks)).sum)
          sum_is x U =
              D.is x (under x.n U)
              ∙ ap reduce_sum (C.0.is x (under_all first left (U (d - 2) (omega arith))) (under_all second right (U (d - 1) (omega arith)))
              ∙ ap₂ add_sums (is-entry first left x) (is-entry second right x))

          pub summed : {total : ℤ} → total ≡ constant_of (window (d - 2) cs) +ℤ constant_of (window (d - 1) cs) → {r : Total} → r.count ≡ both → r.constant ≡ total -ℤ slack → SummedAt t cs ks d c₄ k₃ r
          unfolding added less_slack inequality_of
          summed {total} e {r} f g = rw (f, g, e) record {
            is = λ x U. rw (← sum_is x U);
            few = C.0.fine.few;
            literals = C.0.fine.literals;
            names = C.0.names (names first left) (names second right);
            under = under;
            coefficients = λ e. window-still (pos 0) e (omega arith) O ∙ window-still (pos 0) e (omega arith) C.1.coefficients ∙ coefficients₁ e;
            keys = λ e. window-still 0 e (omega arith) C.1.keys ∙ keys₁ e;
            long = O.long ∙ C.1.coefficients.long ∙ A.1.coefficients.long;
            same = C.1.keys.long ∙ A.1.keys.long;
          }
