-- Each arm's rule is the one of its number; what is left has number 7, or more.
use native.Mathlib.Omega.{arith}
use Rattle.steps.proofs.Numbered.{by_literal, by_transfer, by_part}
use Rattle.steps.proofs.check_terms.Goals as goal

pub returns-then-rule-eq-LITERAL : goal.returns-then-rule-eq-LITERAL
returns-then-rule-eq-LITERAL c = by_literal c.args.nodes.now c.args.commands.now c.args.premises.now c.args.args.now c.args.conclusion.now c.cp_literal.result c.args.rule (omega arith) c.cp_literal.ensures

pub returns-then-rule-eq-TRANSFER : goal.returns-then-rule-eq-TRANSFER
returns-then-rule-eq-TRANSFER c = by_transfer c.args.nodes.now c.args.commands.now c.args.premises.now c.args.args.now c.args.conclusion.now c.cp_transfer.result c.args.rule (omega arith) c.cp_transfer.ensures

pub returns : goal.returns
returns c = by_part c.args.nodes.now c.args.commands.now c.args.premises.now c.args.args.now c.args.conclusion.now c.cp_part.result c.args.rule (omega arith) c.cp_part.ensures
