-- `opb::sum_nodes` owes the nodes of a sum: of none, of one and of several summands. Assumes nothing.
use native.Mathlib.Omega.{arith}
use Rattle.opb.proofs.Counting.{sum-none, sum_one, sum_more}
use Rattle.opb.proofs.sum_nodes.Goals as goal

pub returns-then-count-eq0 : goal.returns-then-count-eq0
returns-then-count-eq0 c = (sum-none c.args.count c.args.negated c.if-count-eq0.true, omega arith)

pub returns-then-count-eq1 : goal.returns-then-count-eq1
returns-then-count-eq1 c = (sum_one c.args.count c.args.negated c.if-count-eq1.true, omega arith)

pub returns : goal.returns
returns c = (sum_more c.args.count c.args.negated c.if-count-eq0.false c.if-count-eq1.false, omega arith)
