-- `reader::rule_from` owes the rule behind its keyword. Assumes nothing.
use Rattle.calculus.specs.Grammar.{mark_number}
use mathlib.Core.Path.{ap}
use Rattle.heads.specs.Heads.{step_of}
use Rattle.heads.proofs.Refusals.{passed_on}
use Rattle.reader.proofs.Sections.{rule-asks, rule-refused, rule-behind}
use Rattle.reader.proofs.rule_from.Goals as goal

pub rule_at-requires : goal.rule_at-requires
unfolding mark_number
rule_at-requires c = rule-asks c.args.text.now c.args.at (step_of c.expect.result) c.expect.ensures.0 c.expect.ensures.1 _ (ap step_of c.in_ok-t.was)

pub returns-in_err-t : goal.returns-in_err-t
unfolding mark_number
returns-in_err-t c = rw (passed_on c.from_residual.result c.from_residual.ensures.1) (rule-refused c.args.text.now c.args.at (step_of c.expect.result) c.expect.ensures.0 c.expect.ensures.1 _ (ap step_of c.in_err-t.was))

pub returns : goal.returns
unfolding mark_number
returns c = rule-behind c.args.text.now c.args.at (step_of c.expect.result) c.expect.ensures.0 c.expect.ensures.1 _ (ap step_of c.in_ok-t.was) c.rule_at.result c.rule_at.ensures.0 c.rule_at.ensures.1
