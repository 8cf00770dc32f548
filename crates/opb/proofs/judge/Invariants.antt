use Prim.Native.Nat.{◌-◌}
use lib.ListN.{length}
use Rattle.opb.proofs.Judging.{Inv}
use Rattle.opb.proofs.judge.Given as goal

abbrev pub invariant-loop-m : goal.invariant-loop-m
invariant-loop-m l = Inv l.text l.at l.initial.summands l.summands l.i l.q l.g

abbrev pub decreases-loop-m : goal.decreases-loop-m
decreases-loop-m l = length l.text - l.i
