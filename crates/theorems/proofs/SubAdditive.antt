-- The three maps of coefficients, multiplication, division and saturation, are subadditive and monotone and keep 0.
use mathlib.Core.Path.{◌≡◌}
use Prim.Native.Nat.{ℕ, suc, ◌≤◌}
use native.Mathlib.Omega.{arith}
use lib.IntN.{ℤ, pos, ◌+ℤ◌, *ℤ-zero}
use lib.Signed.{◌≤ℤ◌, le_z_yes, ≤ℤ_refl}
use Rattle.integer.specs.Integers.{min_z, div_up}
use Rattle.integer.proofs.Laws.{≤_trans, *-mono, min-l, min_r, min_glb, min-add, div_up-sub, div_up-mono, div_up-zero}
use Rattle.integer.proofs.Parts.{int, link, ‹◌›, lit, ◌⊕◌, ◌⊗◌}
use Rattle.calculus.specs.Rules.{times_z}

-- of the numbers in Q, which are closed under sums
pub record SubAdd (Q : ℤ → Type 0) (f : ℤ → ℤ) : Type 0 where
  pub f_zero : f (pos 0) ≡ pos 0
  pub q-zero : Q (pos 0)
  pub q_add : (a b : ℤ) → Q a → Q b → Q (a +ℤ b)
  pub under : (a b : ℤ) → Q a → Q b → f (a +ℤ b) ≤ℤ (f a +ℤ f b)
  pub mono : (a b : ℤ) → a ≤ℤ b → f a ≤ℤ f b

abbrev pub Any : ℤ → Type 0
Any z = Unit {0}

pub times-sub : (n : ℕ) → SubAdd Any (times_z (pos n))
unfolding times_z
times-sub n = record {
  f_zero = *ℤ-zero (pos n);
  q-zero = tt;
  q_add = λ a b x y. tt;
  under = λ a b x y. omega (int, link (lit n ⊗ (‹ a › ⊕ ‹ b ›)), link (lit n ⊗ ‹ a › ⊕ lit n ⊗ ‹ b ›));
  mono = λ a b h. *-mono n h;
}

pub div_sub : (d : ℕ) → SubAdd Any (div_up (pos (suc d)))
div_sub d =
    let h : 1 ≤ suc d = omega arith in
    record {
      f_zero = div_up-zero (suc d) h;
      q-zero = tt;
      q_add = λ a b x y. tt;
      under = λ a b x y. div_up-sub (suc d) h a b;
      mono = λ a b l. div_up-mono (suc d) h l;
    }

pub min_sub : (k : ℤ) → pos 0 ≤ℤ k → SubAdd (λ z. pos 0 ≤ℤ z) (min_z k)
min_sub k h = record {
  f_zero = omega (int, min_r k (pos 0), min_glb {c = pos 0} h (≤ℤ_refl (pos 0)));
  q-zero = le_z_yes tt;
  q_add = λ a b x y. omega (int, link (‹ a › ⊕ ‹ b ›), link (lit 0));
  under = λ a b x y. min-add h x y;
  mono = λ a b l. min_glb (min-l k a) (≤_trans (min_r k a) l);
}
