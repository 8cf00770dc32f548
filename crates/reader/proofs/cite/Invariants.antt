use Prim.Native.Nat.{◌-◌}
use lib.ListN.{length}
use Rattle.reader.proofs.Citing.{Inv}
use Rattle.reader.proofs.cite.Given as goal

abbrev pub invariant-loop-j : goal.invariant-loop-j
invariant-loop-j l = Inv l.text l.commands l.k l.at l.initial.nodes l.initial.pending l.n l.c l.nodes l.pending l.i l.q

abbrev pub decreases-loop-j : goal.decreases-loop-j
decreases-loop-j l = length l.text - l.i
