-- `heads::rule_at` owes the rule that stands here: the place of its name among those of the rules is its number. Assumes nothing.
use Rattle.heads.proofs.Laws.{rule-off, named_in, rule-yes, rule-none}
use Rattle.heads.proofs.Refusals.{passed_on}
use native.Mathlib.Omega.{arith}
use Rattle.heads.proofs.rule_at.Goals as goal

pub rule-k-requires : goal.rule-k-requires
rule-k-requires c = named_in c.args.text.now c.args.at c.name_at.result c.name_at.ensures.0 c.name_at.ensures.1 _ _ c.in_ok-from.was

pub returns-then-k-lt-RULES : goal.returns-then-k-lt-RULES
returns-then-k-lt-RULES c = let h = rule-yes c.args.text.now c.args.at c.name_at.result c.name_at.ensures.0 c.name_at.ensures.1 _ _ c.rule-k.result c.in_ok-from.was c.rule-k.ensures.0 c.if-k-lt-RULES.true in (h.0, (h.1, h.2, h.3))

pub returns : goal.returns
returns c = (rule-none c.args.text.now c.args.at c.name_at.result c.name_at.ensures.0 c.name_at.ensures.1 _ _ c.rule-k.result c.in_ok-from.was c.rule-k.ensures.0 (omega (arith, c.rule-k.ensures.1, c.if-k-lt-RULES.false)), tt)

pub returns-in_err-from : goal.returns-in_err-from
returns-in_err-from c = rw (passed_on c.from_residual.result c.from_residual.ensures.1) (rule-off c.args.text.now c.args.at c.name_at.result c.name_at.ensures.0 c.name_at.ensures.1 _ c.in_err-from.was, tt)
