-- The top of the stack under a map of numbers: one after the other, and what a word makes of it.
use mathlib.Core.Path.{◌≡◌, refl, sym, ap, subst, ◌∙◌}
use mathlib.Core.Bool.{Bool, true, false}
use mathlib.Core.List.{List, []}
use Prim.Native.Nat.{ℕ, zero, suc, ◌+◌, ◌-◌, ◌≤◌, ◌<◌}
use native.Mathlib.Decide.{dec_lt}
use native.Mathlib.Nat.{not-suc-le-zero}
use native.Mathlib.Omega.{arith}
use lib.Dec.{T}
use lib.IntN.{ℤ, pos}
use lib.ListN.{length, get_or, set, length-set}
use lib.Seq.{get_or-set_same, get_or-set_other}
use lib.Signed.{le_z, lt_z}
use Rattle.integer.specs.Integers.{Within, div_up, min_z}
use Rattle.calculus.specs.Entries.{Entry, Inequality}
use Rattle.calculus.specs.Pol.{max_stack, max_literals, fits_entry, each_by, mapped, multiplied, divided, saturated, stacked, on_top}
use Rattle.calculus.specs.Rules.{times_z}
use Rattle.calculus.specs.Sums.{all}
use Rattle.calculus.specs.Terms.{Term, num}
use Rattle.calculus.specs.Words.{Res, bad, bind, ensure, max_numeral}
use Rattle.matching.specs.Entries.{run, entry_at, entries}
use Rattle.matching.specs.Matched.{term}
use Rattle.matching.specs.Places.{placed}
use Rattle.matching.proofs.Matches.{integer-same, integer-other}
use Rattle.matching.proofs.Places.{coefficient-at}
use Rattle.rules.specs.Checked.{Nonnegative}
use Rattle.rules.proofs.Mapping.{less_zero, from_zero}
use Rattle.sums.specs.Lists.{res_of}
use Rattle.pol.specs.Stack.{entry_words, stack_words, base_of, window, constant_of, count_of, inequality_of, stack_of, Standing, Stack, FitsIs, WorkedIs, MappedAt, maps_to, TopIs}
use Rattle.pol.proofs.Keeping.{stack_same}
use Rattle.pol.proofs.Ranges.{fits-constant-within, fits-within}
use Rattle.pol.proofs.Windows.{window-get, window_same, entries-same}
use Rattle.pol.proofs.Working.{stack-one}

-- ---- one number after the other
-- the first i coefficients from b on became what f makes of them, and all else is as it was
pub record Mapping (f : ℤ → ℤ) (cs : List ℤ) (b i : ℕ) (ds : List ℤ) : Type 0 where
  pub long : length ds ≡ length cs
  pub below : (j : ℕ) → j < b → get_or ds j (pos 0) ≡ get_or cs j (pos 0)
  pub done : (j : ℕ) → j < i → get_or ds (b + j) (pos 0) ≡ f (get_or cs (b + j) (pos 0))
  pub left : (j : ℕ) → i ≤ j → get_or ds (b + j) (pos 0) ≡ get_or cs (b + j) (pos 0)

pub mapping-none : (f : ℤ → ℤ) (cs : List ℤ) (b : ℕ) → Mapping f cs b 0 cs
mapping-none f cs b = record { long = refl; below = λ j h. refl; done = λ j h. absurd (not-suc-le-zero h); left = λ j h. refl }

module _ {f : ℤ → ℤ} {cs ds : List ℤ} {b i : ℕ} (M : Mapping f cs b i ds) where
  pub mapping-more : {a : ℤ} → b + i < length ds → a ≡ f (get_or ds (b + i) (pos 0)) → Mapping f cs b (i + 1) (set ds (b + i) a)
  mapping-more {a} room e = record {
    long = length-set ds (b + i) a ∙ M.long;
    below = λ j h. get_or-set_other ds (b + i) j a (pos 0) (λ z. omega arith) ∙ M.below j h;
    done = λ j h. go j (dec_lt j i) h;
    left = λ j h. get_or-set_other ds (b + i) (b + j) a (pos 0) (λ z. omega arith) ∙ M.left j (omega arith);
  }
    where
      go : (j : ℕ) → Dec (j < i) → j < i + 1 → get_or (set ds (b + i) a) (b + j) (pos 0) ≡ f (get_or cs (b + j) (pos 0))
      go j (yes l) h = get_or-set_other ds (b + i) (b + j) a (pos 0) (λ z. omega arith) ∙ M.done j l
      go j (no l) h =
          let z : j ≡ i = omega arith in
          rw z (get_or-set_same ds (b + i) a (pos 0) room ∙ e ∙ ap f (M.left i (omega arith)))

-- a number of entry e that is not mapped yet
pub mapping-number : {f : ℤ → ℤ} {cs ds : List ℤ} (e : ℕ) {i : ℕ} → Mapping f cs (base_of e) i ds → (j : ℕ) → i ≤ j → j < entry_words → Within max_numeral (get_or (window e cs) j (pos 0)) → Within max_numeral (get_or ds (base_of e + j) (pos 0))
mapping-number {f} {cs} {ds} e M j h l w = rw (M.left j h, ← window-get e cs (pos 0) j l) w

-- and the constant behind them
pub mapping-all : {f : ℤ → ℤ} {cs ds : List ℤ} {e n : ℕ} → Mapping f cs (base_of e) n ds → n ≤ max_literals → e < max_stack → stack_words ≤ length cs → {a : ℤ} → a ≡ f (get_or ds (base_of e + max_literals) (pos 0))
    → MappedAt f cs e n (set ds (base_of e + max_literals) a)
mapping-all {f} {cs} {ds} {e} {n} M few low room {a} q = record {
  long = length-set ds (base_of e + max_literals) a ∙ M.long;
  below = λ j h. get_or-set_other ds (base_of e + max_literals) j a (pos 0) (λ z. omega arith) ∙ M.below j h;
  coefficients = λ i h. get_or-set_other ds (base_of e + max_literals) (base_of e + i) a (pos 0) (λ z. omega arith) ∙ M.done i h;
  constant = get_or-set_same ds (base_of e + max_literals) a (pos 0) (omega (arith, M.long)) ∙ q ∙ ap f (M.left max_literals few);
}

-- ---- an entry whose numbers were mapped
each-run : (f : ℤ → ℤ) (d : ℕ → Term) (cs ds : List ℤ) (ks : List ℕ) (i n : ℕ) → ((j : ℕ) → i ≤ j → j < i + n → get_or ds j (pos 0) ≡ f (get_or cs j (pos 0))) → run (entry_at d ds ks) i n ≡ each_by f (run (entry_at d cs ks) i n)
unfolding run each_by
each-run f d cs ds ks i zero h = refl
each-run f d cs ds ks i (suc n) h = rw (h i (omega arith) (omega arith), each-run f d cs ds ks (suc i) n (λ j a b. h j (omega arith) (omega arith)))

module _ {f : ℤ → ℤ} {cs ds : List ℤ} (ks : List ℕ) {e n : ℕ} (M : MappedAt f cs e n ds) (few : n ≤ max_literals) (count : n ≡ count_of (window e ks)) where
  coefficient : (i : ℕ) → i < n → get_or (window e ds) i (pos 0) ≡ f (get_or (window e cs) i (pos 0))
  coefficient i h = window-get e ds (pos 0) i (omega arith) ∙ M.coefficients i h ∙ ap f (sym (window-get e cs (pos 0) i (omega arith)))

  constant : constant_of (window e ds) ≡ f (constant_of (window e cs))
  constant = window-get e ds (pos 0) max_literals (omega arith) ∙ M.constant ∙ ap f (sym (window-get e cs (pos 0) max_literals (omega arith)))

  pub mapped-entry : (d : ℕ → Term) → inequality_of d (window e ds) (window e ks) ≡ mapped f (inequality_of d (window e cs) (window e ks))
  unfolding inequality_of mapped
  mapped-entry d = rw (← count, constant, each-run f d (window e cs) (window e ds) (window e ks) 0 n (λ j a b. coefficient j (omega arith)))

-- the entries at a place and those of the words
at-window : (d : ℕ → Term) (e : ℕ) (ds : List ℤ) (ks : List ℕ) (n : ℕ) → n ≤ max_literals → entries d (window e ds) ks n ≡ entries d (placed (base_of e) ds) ks n
at-window d e ds ks n few = entries-same d (placed (base_of e) ds) (window e ds) ks ks n (λ i h. window-get e ds (pos 0) i (omega arith) ∙ sym (coefficient-at (base_of e) ds i (omega arith))) (λ i h. refl)

-- ---- the top of d entries
module _ {f : ℤ → ℤ} {t : List ℕ} {cs ds : List ℤ} {ks : List ℕ} {d n : ℕ} (K : Stack t cs ks d) (some : 1 ≤ d) (M : MappedAt f cs (d - 1) n ds) (count : n ≡ count_of (window (d - 1) ks)) where
  top : Standing t (window (d - 1) cs) (window (d - 1) ks)
  top = K.each (d - 1) (omega arith)

  few : n ≤ max_literals
  few = omega (arith, count, top.few)

  below : (e : ℕ) → e < d - 1 → window e ds ≡ window e cs
  below e h = window_same e cs ds (pos 0) (omega (arith, K.few)) K.coefficients (omega (arith, K.coefficients, M.long)) (λ i l. M.below (base_of e + i) (omega arith))

  module _ {c : ℤ} {b : Bool} (z : c ≡ constant_of (window (d - 1) ds)) (F : FitsIs (placed (base_of (d - 1)) ds) n c b) where
    fits-is : (x : ℕ → Term) → b ≡ fits_entry (mapped f (inequality_of x (window (d - 1) cs) (window (d - 1) ks)))
    unfolding inequality_of
    fits-is x = F x (window (d - 1) ks) ∙ rw (z, count, ← at-window x (d - 1) ds (window (d - 1) ks) (count_of (window (d - 1) ks)) (rw count at few)) (ap fits_entry (mapped-entry ks M few count x))

    pub top-beyond : b ≡ false → WorkedIs t (on_top (maps_to f)) cs ks d ds ks d 53
    unfolding on_top bind stacked ensure res_of
    top-beyond e = record {
      is = λ x U. rw (stack-one (term x) cs ks d some, ← fits-is (term x), e);
      stack = λ q. let z : ⊥ = omega arith in absurd z;
      under = λ q. let z : ⊥ = omega arith in absurd z;
    }

    module _ (e : b ≡ true) where
      fitting : T (fits_entry (record { sum = entries (λ i. num (pos 0)) (placed (base_of (d - 1)) ds) [] n; const = c }))
      fitting = subst T (sym e ∙ F (λ i. num (pos 0)) []) tt

      standing : Standing t (window (d - 1) ds) (window (d - 1) ks)
      standing = record {
        few = top.few;
        literals = top.literals;
        names = top.names;
        within = λ i h. rw (window-get (d - 1) ds (pos 0) i (omega (arith, top.few)), ← coefficient-at (base_of (d - 1)) ds i (omega (arith, top.few))) (fits-within (placed (base_of (d - 1)) ds) n c fitting i (omega (arith, count)));
        constant = rw (← z) (fits-constant-within (placed (base_of (d - 1)) ds) n c fitting);
      }

      pub top-fits : WorkedIs t (on_top (maps_to f)) cs ks d ds ks d 0
      unfolding on_top bind stacked ensure res_of
      top-fits = record {
        is = λ x U. rw (stack-one (term x) cs ks d some, ← fits-is (term x), e, stack-one (term x) ds ks d some, mapped-entry ks M few count (term x), stack_same (term x) cs ds ks ks (d - 1) below (λ e h. refl));
        stack = λ q. record { few = K.few; coefficients = omega (arith, K.coefficients, M.long); keys = K.keys; each = λ e l. go e (dec_lt e (d - 1)) l };
        under = λ q m U. U;
      }
        where
          go : (e : ℕ) → Dec (e < d - 1) → e < d → Standing t (window e ds) (window e ks)
          go e (yes l) h = rw (below e l) (K.each e h)
          go e (no l) h = let z : e ≡ d - 1 = omega arith in rw z standing

-- ---- checks before the map
pub top-short : (f : Inequality → Res Inequality) (t : List ℕ) (cs : List ℤ) (ks : List ℕ) (d : ℕ) → d < 1 → WorkedIs t (on_top f) cs ks d cs ks d 52
unfolding stack_of on_top res_of
top-short f t cs ks zero h = record { is = λ x u. refl; stack = λ q. let z : ⊥ = omega arith in absurd z; under = λ q. let z : ⊥ = omega arith in absurd z }
top-short f t cs ks (suc d) h = let z : ⊥ = omega arith in absurd z

-- a check that fails at the top, whatever the names are
pub top-refused : (f : Inequality → Res Inequality) {t : List ℕ} (cs : List ℤ) (ks : List ℕ) (d : ℕ) → 1 ≤ d → ((x : ℕ → Term) → f (inequality_of x (window (d - 1) cs) (window (d - 1) ks)) ≡ bad 54) → WorkedIs t (on_top f) cs ks d cs ks d 54
unfolding on_top bind res_of
top-refused f {t} cs ks d some g = record {
  is = λ x U. rw (stack-one (term x) cs ks d some, g (term x));
  stack = λ q. let z : ⊥ = omega arith in absurd z;
  under = λ q. let z : ⊥ = omega arith in absurd z;
}

-- checks that pass
pub top_checked : (f g : Inequality → Res Inequality) {t : List ℕ} (cs : List ℤ) {ds : List ℤ} (ks : List ℕ) {d r : ℕ} → 1 ≤ d → ((x : ℕ → Term) → g (inequality_of x (window (d - 1) cs) (window (d - 1) ks)) ≡ f (inequality_of x (window (d - 1) cs) (window (d - 1) ks)))
    → WorkedIs t (on_top f) cs ks d ds ks d r → WorkedIs t (on_top g) cs ks d ds ks d r
unfolding on_top bind
top_checked f g {t} cs {ds} ks {d} some e W = record {
  is = λ x U. rw (stack-one (term x) cs ks d some, e (term x)) (rw (stack-one (term x) cs ks d some) at (W.is x U));
  stack = W.stack;
  under = W.under;
}

-- ---- the three words
module _ (cs : List ℤ) (ks : List ℕ) {d : ℕ} (some : 1 ≤ d) where
  module _ (m : ℤ) where
    pub times-refused : lt_z m (pos 0) ≡ true → TopIs (on_top (multiplied m)) cs ks d cs 54
    unfolding multiplied ensure
    times-refused e t K = top-refused (multiplied m) cs ks d some (λ x. rw (less_zero m e))

    pub over-refused : lt_z m (pos 0) ≡ true → TopIs (on_top (divided m)) cs ks d cs 54
    unfolding divided ensure
    over-refused e t K = top-refused (divided m) cs ks d some (λ x. rw (less_zero m e))

    module _ (e : lt_z m (pos 0) ≡ false) where
      pub times-done : {ds : List ℤ} {r : ℕ} → TopIs (on_top (maps_to (times_z m))) cs ks d ds r → TopIs (on_top (multiplied m)) cs ks d ds r
      unfolding multiplied ensure times_z
      times-done W t K = top_checked (maps_to (times_z m)) (multiplied m) cs ks some (λ x. rw (from_zero m e)) (W t K)

      pub over_zero : m ≡ pos 0 → TopIs (on_top (divided m)) cs ks d cs 54
      unfolding divided ensure
      over_zero z t K = top-refused (divided m) cs ks d some (λ x. rw (from_zero m e, integer-same m (pos 0) z))

      pub over_done : (m ≡ pos 0 → ⊥) → {ds : List ℤ} {r : ℕ} → TopIs (on_top (maps_to (div_up m))) cs ks d ds r → TopIs (on_top (divided m)) cs ks d ds r
      unfolding divided ensure
      over_done z W t K = top_checked (maps_to (div_up m)) (divided m) cs ks some (λ x. rw (from_zero m e, integer-other m (pos 0) z)) (W t K)

  module _ {k : ℤ} (c : k ≡ constant_of (window (d - 1) cs)) where
    pub saturate-constant : lt_z k (pos 0) ≡ true → TopIs (on_top saturated) cs ks d cs 54
    unfolding saturated ensure inequality_of
    saturate-constant e t K = top-refused saturated cs ks d some (λ x. rw (← c, less_zero k e))

    module _ (e : lt_z k (pos 0) ≡ false) {n : ℕ} (few : n ≤ max_literals) (count : n ≡ count_of (window (d - 1) ks)) {b : Bool} (N : Nonnegative (placed (base_of (d - 1)) cs) n b) where
      signs : (x : ℕ → Term) → all (λ (e : Entry). le_z (pos 0) e.coefficient) (entries x (window (d - 1) cs) (window (d - 1) ks) (count_of (window (d - 1) ks))) ≡ b
      signs x =
          rw (← count)
          (ap (all (λ (e : Entry). le_z (pos 0) e.coefficient)) (at-window x (d - 1) cs (window (d - 1) ks) n few) ∙ sym (N x (window (d - 1) ks)))

      pub saturate-coefficient : b ≡ false → TopIs (on_top saturated) cs ks d cs 54
      unfolding saturated ensure inequality_of
      saturate-coefficient f t K = top-refused saturated cs ks d some (λ x. rw (← c, from_zero k e, signs x, f))

      pub saturate_done : b ≡ true → {ds : List ℤ} {r : ℕ} → TopIs (on_top (maps_to (min_z k))) cs ks d ds r → TopIs (on_top saturated) cs ks d ds r
      unfolding saturated ensure inequality_of
      saturate_done f W t K = top_checked (maps_to (min_z k)) saturated cs ks some (λ x. rw (← c, from_zero k e, signs x, f)) (W t K)
