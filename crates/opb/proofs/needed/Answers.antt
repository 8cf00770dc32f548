-- `opb::needed` owes the nodes of a constraint's assumptions, one or two. Assumes nothing.
use native.Mathlib.Omega.{arith}
use Rattle.opb.proofs.Counting.{needed-two, needed-one}
use Rattle.opb.proofs.needed.Goals as goal

pub returns-then-equal : goal.returns-then-equal
returns-then-equal c = (needed-two c.args.equal c.args.count c.args.negated _ c.if-equal.true c.sum_nodes-n.ensures.0, omega (arith, c.sum_nodes-n.ensures.1))

pub returns-else-equal : goal.returns-else-equal
returns-else-equal c = (needed-one c.args.equal c.args.count c.args.negated _ c.if-equal.false c.sum_nodes-n.ensures.0, omega (arith, c.sum_nodes-n.ensures.1))
