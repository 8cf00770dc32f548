-- An inequality over names with greatest value below its constant is satisfied by no assignment, any other one by the best (02, No. 6).
use mathlib.Core.Path.{◌≡◌, refl, sym, subst}
use mathlib.Core.Bool.{Bool, true, false, not}
use mathlib.Core.List.{List, [], ◌∷◌}
use mathlib.Core.Logic.{◌↔◌}
use lib.Dec.{T}
use lib.IntN.{ℤ}
use lib.Signed.{lt_z, ◌≤ℤ◌, ◌<ℤ◌, lt_z_yes, lt_z_no}
use Rattle.integer.proofs.Parts.{int}
use Rattle.calculus.specs.Entries.{Inequality}
use Rattle.calculus.specs.Greatest.{greatest, beyond, unreachable}
use Rattle.calculus.specs.Rules.{single}
use Rattle.calculus.specs.Sums.{all_names, unwrap_inequality}
use Rattle.calculus.specs.Terms.{Term}
use Rattle.calculus.specs.Truth.{Assignment, Satisfies}
use Rattle.calculus.specs.Words.{Res, ok, bad, bind}
use Rattle.calculus.proofs.Booleans.{and_l, and_r, and_mk}
use Rattle.theorems.proofs.GreatestLaws.{greatest-bound, best, greatest-reached}
use Rattle.theorems.proofs.Reading.{bind_ok, ineq_distinct, ineq-ok}
use Rattle.theorems.proofs.RulesSound.{single-ok}

-- ---- one inequality that section 2 reads over names
module _ (t : Term) (q : Inequality) (e : unwrap_inequality t ≡ ok q) (n : T (all_names q.sum)) where
  -- below its constant no assignment satisfies it
  below_none : greatest q.sum <ℤ q.const → (σ : Assignment) → ¬ (Satisfies σ (t ∷ []))
  below_none h σ s = omega (int, greatest-bound σ q.sum (ineq_distinct t q e), (ineq-ok σ t q e n).true_of s)

  -- else the best one does
  reached-some : q.const ≤ℤ greatest q.sum → Satisfies (best q.sum) (t ∷ [])
  reached-some h = (ineq-ok (best q.sum) t q e n).of_true (subst (λ (z : ℤ). q.const ≤ℤ z) (sym (greatest-reached q.sum (ineq_distinct t q e) n)) h)

  -- so the test is exact: it says yes exactly where no assignment satisfies the line
  pub unreachable-exactly : T (unreachable (t ∷ [])) ↔ ((σ : Assignment) → ¬ (Satisfies σ (t ∷ [])))
  unfolding unreachable beyond bind single
  unreachable-exactly = (λ u. below_none (lt_z_yes (and_r (all_names q.sum) _ (subst (λ (r : Res Inequality). T (beyond r)) e u))), λ h. subst (λ (r : Res Inequality). T (beyond r)) (sym e) (go (lt_z (greatest q.sum) q.const) refl h))
    where
      go : (c : Bool) → lt_z (greatest q.sum) q.const ≡ c → ((σ : Assignment) → ¬ (Satisfies σ (t ∷ []))) → T (beyond (ok q))
      go true g h = and_mk (all_names q.sum) _ n (subst T (sym g) tt)
      go false g h = absurd (h (best q.sum) (reached-some (lt_z_no (subst (λ (b : Bool). T (not b)) (sym g) tt))))

-- ---- any clause
beyond-ok : (r : Res Inequality) → T (beyond r) → (q : Inequality) × (r ≡ ok q) × T (all_names q.sum) × (greatest q.sum <ℤ q.const)
unfolding beyond
beyond-ok (ok q) t = (q, refl, and_l (all_names q.sum) _ t, lt_z_yes (and_r (all_names q.sum) _ t))
beyond-ok (bad n) t = absurd t

-- no assignment satisfies a clause with greatest value below its constant
pub unreachable-none : (σ : Assignment) (c : List Term) → T (unreachable c) → Satisfies σ c → ⊥
unfolding unreachable
unreachable-none σ c u s =
    let (q, e, n, h) = beyond-ok (bind (single c) unwrap_inequality) u in
    let (t, e₁, e₂) = bind_ok (single c) unwrap_inequality q e in
    below_none t q e₂ n h σ (subst (Satisfies σ) (single-ok c t e₁) s)
