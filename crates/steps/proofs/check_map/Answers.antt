-- Each arm's rule is the one of its number; what is left has number 3.
use native.Mathlib.Omega.{arith}
use Rattle.steps.proofs.Numbered.{by_multiplication, by_division, by_saturation}
use Rattle.steps.proofs.check_map.Goals as goal

pub returns-then-rule-eq-MULTIPLICATION : goal.returns-then-rule-eq-MULTIPLICATION
returns-then-rule-eq-MULTIPLICATION c = by_multiplication c.args.nodes.now c.args.commands.now c.args.premises.now c.args.args.now c.args.conclusion.now c.cp_multiplication.result c.args.rule (omega arith) c.cp_multiplication.ensures

pub returns-then-rule-eq-DIVISION : goal.returns-then-rule-eq-DIVISION
returns-then-rule-eq-DIVISION c = by_division c.args.nodes.now c.args.commands.now c.args.premises.now c.args.args.now c.args.conclusion.now c.cp_division.result c.args.rule (omega arith) c.cp_division.ensures

pub returns : goal.returns
returns c = by_saturation c.args.nodes.now c.args.commands.now c.args.premises.now c.args.args.now c.args.conclusion.now c.cp_saturation.result c.args.rule (omega arith) c.cp_saturation.ensures
