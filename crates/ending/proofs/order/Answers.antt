-- `ending::order` owes the first r entries in order. The invariant: those from i on are.
use native.Mathlib.Omega.{arith}
use Rattle.ending.proofs.Sorting.{ordering-start, ordering-more, ordering-all}
use Rattle.ending.proofs.order.Goals as goal

pub loop-i-init : goal.loop-i-init
loop-i-init c = ordering-start c.args.r c.requires.0 c.requires.1

pub loop-i-preserved : goal.loop-i-preserved
loop-i-preserved c = ordering-more c.loop-i.invariant (omega arith) c.put_in_order.ensures

pub returns : goal.returns
returns c = ordering-all c.loop-i.invariant (omega arith)
