-- `opb_reader::put_constraint` owes the assumptions of a constraint: one, or two.
use native.Mathlib.Omega.{arith}
use Rattle.opb_reader.proofs.Assuming.{partly-start, partly_asks, partly_more, partly_end}
use Rattle.opb_reader.proofs.put_constraint.Goals as goal

pub loop-j-init : goal.loop-j-init
loop-j-init c = partly-start _ (c.requires) _

pub put_assumption-m-requires : goal.put_assumption-m-requires
put_assumption-m-requires c = partly_asks _ (c.requires) c.loop-j.invariant (omega (arith, c.loop-j-test.true, c.resulting-j-end.ensures.0))

pub loop-j-preserved : goal.loop-j-preserved
loop-j-preserved c = partly_more _ (c.requires) c.loop-j.invariant (omega (arith, c.loop-j-test.true, c.resulting-j-end.ensures.0)) c.put_assumption-m.ensures

pub returns : goal.returns
returns c = partly_end _ (c.requires) c.loop-j.invariant (omega (arith, c.loop-j-test.false, c.loop-j.auto.j-end, c.resulting-j-end.ensures.0))
