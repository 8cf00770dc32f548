-- The loop's invariant: the answer from entry i on is that for the whole.
use native.Mathlib.Omega.{arith}
use Rattle.rules.specs.Checked.{map_of}
use Rattle.matching.specs.Places.{placed}
use Rattle.sums.specs.Places.{left_at, conclusion_at}
use Rattle.rules.proofs.Mapping.{agree-more, agree-stop, agree-end}
use Rattle.rules.proofs.coefficients_agree.Goals as goal

pub returns-then-not-coefficient_agrees : goal.returns-then-not-coefficient_agrees
returns-then-not-coefficient_agrees c = agree-stop c.args.nodes.now (map_of c.args.by) (placed left_at c.args.coeffs.now) (placed left_at c.args.keys.now) c.args.n (placed conclusion_at c.args.coeffs.now) (placed conclusion_at c.args.keys.now) c.args.m c.loop-i.i c.loop-i.invariant (omega arith) (rw c.if-not-coefficient_agrees.true at c.coefficient_agrees.ensures)

pub loop-i-preserved : goal.loop-i-preserved
loop-i-preserved c = agree-more c.args.nodes.now (map_of c.args.by) (placed left_at c.args.coeffs.now) (placed left_at c.args.keys.now) c.args.n (placed conclusion_at c.args.coeffs.now) (placed conclusion_at c.args.keys.now) c.args.m c.loop-i.i c.loop-i.invariant (omega arith) (rw c.if-not-coefficient_agrees.false at c.coefficient_agrees.ensures)

pub returns : goal.returns
returns c = agree-end c.args.nodes.now (map_of c.args.by) (placed left_at c.args.coeffs.now) (placed left_at c.args.keys.now) c.args.n (placed conclusion_at c.args.coeffs.now) (placed conclusion_at c.args.keys.now) c.args.m c.loop-i.i c.loop-i.invariant (omega arith)
