use Prim.Native.Nat.{◌-◌}
use lib.ListN.{length}
use Rattle.opb_reader.proofs.Looping.{Inv}
use Rattle.opb_reader.proofs.read_opb.Given as goal

abbrev pub invariant-loop-summands : goal.invariant-loop-summands
invariant-loop-summands l = Inv l.opb l.string l.initial.nodes l.initial.commands l.initial.pending l.initial.names l.nodes l.commands l.pending l.names l.summands l.at l.k l.n

abbrev pub decreases-loop-summands : goal.decreases-loop-summands
decreases-loop-summands l = length l.opb - l.at
