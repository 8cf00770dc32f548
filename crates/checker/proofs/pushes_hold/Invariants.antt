use Prim.Native.Nat.{◌-◌, ◌≤◌}
use lib.ListN.{length}
use Rattle.checker.proofs.Pushing.{Walk}
use Rattle.checker.proofs.pushes_hold.Given as goal

abbrev pub invariant-loop-head : goal.invariant-loop-head
invariant-loop-head l = Walk l.text l.commands l.k l.marks l.i × (l.i ≤ length l.text)

abbrev pub decreases-loop-head : goal.decreases-loop-head
decreases-loop-head l = length l.text - l.i
