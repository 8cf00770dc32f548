-- `normalize::push_negation`: the first i entries are pushed, the others as they were.
use native.Mathlib.Omega.{arith}
use Rattle.integer.proofs.Signed.{back}
use Rattle.normalize.proofs.Pushing.{pushing-none, pushing-more, pushing_end}
use Rattle.normalize.proofs.push_negation.Goals as goal

pub loop-i-init : goal.loop-i-init
loop-i-init c = pushing-none c.requires

pub loop-i-preserved : goal.loop-i-preserved
loop-i-preserved c = rw (back c.push_at-t.result c.push_at-t.type_inv) (pushing-more c.requires c.loop-i.invariant c.loop-i-test.true c.loop-i.auto.coeffs c.loop-i.auto.keys c.push_at-t.ensures)

pub returns : goal.returns
returns c = pushing_end c.requires c.loop-i.invariant (omega arith)
