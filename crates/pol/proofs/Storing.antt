-- The copy of a sum to an entry of the stack, one literal after the other.
use mathlib.Core.Path.{◌≡◌, refl, ◌∙◌}
use mathlib.Core.List.{List}
use Prim.Native.Nat.{ℕ, ◌+◌, ◌≤◌, ◌<◌}
use native.Mathlib.Decide.{dec_lt}
use native.Mathlib.Nat.{not-suc-le-zero}
use native.Mathlib.Omega.{arith}
use lib.IntN.{ℤ, pos}
use lib.ListN.{length, get_or, set, length-set}
use lib.Seq.{get_or-set_same, get_or-set_other}
use Rattle.calculus.specs.Pol.{max_stack, max_literals}
use Rattle.sums.specs.Places.{conclusion_at}
use Rattle.pol.specs.Stack.{stack_at, stack_words, base_of, Stored}

-- the first i literals are copied to b
pub record Copied (cs : List ℤ) (ks : List ℕ) (from at b i : ℕ) (ds : List ℤ) (ls : List ℕ) : Type 0 where
  pub long : length ds ≡ length cs
  pub same : length ls ≡ length ks
  pub below : (j : ℕ) → j < b → get_or ds j (pos 0) ≡ get_or cs j (pos 0)
  pub under : (j : ℕ) → j < b → get_or ls j 0 ≡ get_or ks j 0
  pub coefficients : (j : ℕ) → j < i → get_or ds (b + j) (pos 0) ≡ get_or cs (from + j) (pos 0)
  pub keys : (j : ℕ) → j < i → get_or ls (b + j) 0 ≡ get_or ks (at + j) 0

pub copied_none : (cs : List ℤ) (ks : List ℕ) (from at b : ℕ) → Copied cs ks from at b 0 cs ks
copied_none cs ks from at b = record {
  long = refl;
  same = refl;
  below = λ j h. refl;
  under = λ j h. refl;
  coefficients = λ j h. absurd (not-suc-le-zero h);
  keys = λ j h. absurd (not-suc-le-zero h);
}

module _ {cs ds : List ℤ} {ks ls : List ℕ} {from at b i : ℕ} (C : Copied cs ks from at b i ds ls) where
  module _ (high : stack_at ≤ b) (near : from ≤ conclusion_at) (close : at ≤ conclusion_at) (few : i < max_literals) (room : b + i < length ds) (space : b + i < length ls) where
    pub copied_more : {c : ℤ} {k : ℕ} → c ≡ get_or ds (from + i) (pos 0) → k ≡ get_or ls (at + i) 0 → Copied cs ks from at b (i + 1) (set ds (b + i) c) (set ls (b + i) k)
    copied_more {c} {k} e f = record {
      long = length-set ds (b + i) c ∙ C.long;
      same = length-set ls (b + i) k ∙ C.same;
      below = λ j h. get_or-set_other ds (b + i) j c (pos 0) (λ z. omega arith) ∙ C.below j h;
      under = λ j h. get_or-set_other ls (b + i) j k 0 (λ z. omega arith) ∙ C.under j h;
      coefficients = λ j h. old-or-new j h
          (λ l. get_or-set_other ds (b + i) (b + j) c (pos 0) (λ z. omega arith) ∙ C.coefficients j l)
          (λ z. rw z (get_or-set_same ds (b + i) c (pos 0) room ∙ e ∙ C.below (from + i) (omega arith)));
      keys = λ j h. old-or-new j h
          (λ l. get_or-set_other ls (b + i) (b + j) k 0 (λ z. omega arith) ∙ C.keys j l)
          (λ z. rw z (get_or-set_same ls (b + i) k 0 space ∙ f ∙ C.under (at + i) (omega arith)));
    }
      where
        old-or-new : (j : ℕ) → j < i + 1 → {A : Type 0} → (j < i → A) → (j ≡ i → A) → A
        old-or-new j h {A} old new = go (dec_lt j i)
          where
            go : Dec (j < i) → A
            go (yes l) = old l
            go (no l) = new (omega arith)

-- the constant and the count behind them
pub copied_all : {cs ds : List ℤ} {ks ls : List ℕ} {from at n : ℕ} (d : ℕ) → Copied cs ks from at (base_of d) n ds ls → n ≤ max_literals → d < max_stack → stack_words ≤ length cs → stack_words ≤ length ks → (c : ℤ)
    → Stored cs ks from at n c d (set ds (base_of d + max_literals) c) (set ls (base_of d + max_literals) n)
copied_all {cs} {ds} {ks} {ls} {from} {at} {n} d C few low room space c = record {
  long = length-set ds (base_of d + max_literals) c ∙ C.long;
  same = length-set ls (base_of d + max_literals) n ∙ C.same;
  below = λ j h. get_or-set_other ds (base_of d + max_literals) j c (pos 0) (λ z. omega arith) ∙ C.below j h;
  under = λ j h. get_or-set_other ls (base_of d + max_literals) j n 0 (λ z. omega arith) ∙ C.under j h;
  coefficients = λ j h. get_or-set_other ds (base_of d + max_literals) (base_of d + j) c (pos 0) (λ z. omega arith) ∙ C.coefficients j h;
  keys = λ j h. get_or-set_other ls (base_of d + max_literals) (base_of d + j) n 0 (λ z. omega arith) ∙ C.keys j h;
  constant = get_or-set_same ds (base_of d + max_literals) c (pos 0) (omega (arith, C.long));
  count = get_or-set_same ls (base_of d + max_literals) n 0 (omega (arith, C.same));
}
