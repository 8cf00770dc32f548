-- The rule of each number answers as the definition's rule of that number.
use mathlib.Core.Path.{◌≡◌, refl, sym, subst}
use mathlib.Core.Bool.{Bool}
use mathlib.Core.List.{List}
use Prim.Native.Nat.{ℕ, zero, suc, ◌≤◌}
use native.Mathlib.Omega.{arith}
use Rattle.std.specs.Prelude.{Result}
use Rattle.calculus.specs.Links.{cp_part, cp_transfer}
use Rattle.calculus.specs.Marks.{apply_rule}
use Rattle.calculus.specs.Normalize.{cp_normalize}
use Rattle.calculus.specs.Rules.{cp_addition, cp_multiplication, cp_division, cp_saturation, cp_literal}
use Rattle.calculus.specs.Terms.{Term}
use Rattle.calculus.specs.Words.{Res}
use Rattle.heads.specs.Heads.{rule_named}
use Rattle.matching.specs.declared.Refusal.{Refusal}
use Rattle.links.specs.Steps.{RuleIs}
use Rattle.steps.specs.Answers.{addition_number, multiplication_number, division_number, saturation_number, literal_number, normalize_number, transfer_number, part_number, NumberIs}

addition-rule : cp_addition ≡ apply_rule (rule_named addition_number)
unfolding rule_named apply_rule
addition-rule = refl

multiplication-rule : cp_multiplication ≡ apply_rule (rule_named multiplication_number)
unfolding rule_named apply_rule
multiplication-rule = refl

division-rule : cp_division ≡ apply_rule (rule_named division_number)
unfolding rule_named apply_rule
division-rule = refl

saturation-rule : cp_saturation ≡ apply_rule (rule_named saturation_number)
unfolding rule_named apply_rule
saturation-rule = refl

literal-rule : cp_literal ≡ apply_rule (rule_named literal_number)
unfolding rule_named apply_rule
literal-rule = refl

normalize-rule : cp_normalize ≡ apply_rule (rule_named normalize_number)
unfolding rule_named apply_rule
normalize-rule = refl

transfer-rule : cp_transfer ≡ apply_rule (rule_named transfer_number)
unfolding rule_named apply_rule
transfer-rule = refl

part-rule : (m : ℕ) → part_number ≤ m → cp_part ≡ apply_rule (rule_named m)
unfolding rule_named apply_rule
part-rule zero h = absurd (omega arith)
part-rule (suc zero) h = absurd (omega arith)
part-rule (suc (suc zero)) h = absurd (omega arith)
part-rule (suc (suc (suc zero))) h = absurd (omega arith)
part-rule (suc (suc (suc (suc zero)))) h = absurd (omega arith)
part-rule (suc (suc (suc (suc (suc zero))))) h = absurd (omega arith)
part-rule (suc (suc (suc (suc (suc (suc zero)))))) h = absurd (omega arith)
part-rule (suc (suc (suc (suc (suc (suc (suc n))))))) h = refl

module _ (t w ps xs cs : List ℕ) (r : Result Bool Refusal) where
  by : (rule : List (List Term) → List Term → List Term → Res Bool) (m k : ℕ) → m ≡ k → rule ≡ apply_rule (rule_named k) → RuleIs rule t w ps xs cs r → NumberIs m t w ps xs cs r
  by rule m k e f q = subst (λ (n : ℕ). NumberIs n t w ps xs cs r) (sym e) (subst (λ (f : List (List Term) → List Term → List Term → Res Bool). RuleIs f t w ps xs cs r) f q)

  pub by-addition : (m : ℕ) → m ≡ addition_number → RuleIs cp_addition t w ps xs cs r → NumberIs m t w ps xs cs r
  by-addition m e q = by cp_addition m addition_number e addition-rule q

  pub by_multiplication : (m : ℕ) → m ≡ multiplication_number → RuleIs cp_multiplication t w ps xs cs r → NumberIs m t w ps xs cs r
  by_multiplication m e q = by cp_multiplication m multiplication_number e multiplication-rule q

  pub by_division : (m : ℕ) → m ≡ division_number → RuleIs cp_division t w ps xs cs r → NumberIs m t w ps xs cs r
  by_division m e q = by cp_division m division_number e division-rule q

  pub by_saturation : (m : ℕ) → m ≡ saturation_number → RuleIs cp_saturation t w ps xs cs r → NumberIs m t w ps xs cs r
  by_saturation m e q = by cp_saturation m saturation_number e saturation-rule q

  pub by_literal : (m : ℕ) → m ≡ literal_number → RuleIs cp_literal t w ps xs cs r → NumberIs m t w ps xs cs r
  by_literal m e q = by cp_literal m literal_number e literal-rule q

  pub by_normalize : (m : ℕ) → m ≡ normalize_number → RuleIs cp_normalize t w ps xs cs r → NumberIs m t w ps xs cs r
  by_normalize m e q = by cp_normalize m normalize_number e normalize-rule q

  pub by_transfer : (m : ℕ) → m ≡ transfer_number → RuleIs cp_transfer t w ps xs cs r → NumberIs m t w ps xs cs r
  by_transfer m e q = by cp_transfer m transfer_number e transfer-rule q

  pub by_part : (m : ℕ) → part_number ≤ m → RuleIs cp_part t w ps xs cs r → NumberIs m t w ps xs cs r
  by_part m h q = by cp_part m m refl (part-rule m h) q
