use Prim.Native.Nat.{◌-◌}
use lib.ListN.{length}
use Rattle.calculus.specs.Commands as read
use Rattle.calculus.specs.Commands.{enough}
use Rattle.reader.specs.Commands.{commands_of}
use Rattle.reader.proofs.Filing.{Inv}
use Rattle.reader.proofs.read_commands.Given as goal

abbrev pub invariant-loop-t : goal.invariant-loop-t
invariant-loop-t l = Inv (read.commands enough l.text l.start l.made (commands_of l.text l.initial.nodes l.initial.commands l.before)) l.text l.initial.nodes l.initial.commands l.initial.pending l.initial.names l.nodes l.commands l.pending l.names l.at l.k l.n l.c l.pols

abbrev pub decreases-loop-t : goal.decreases-loop-t
decreases-loop-t l = length l.text - l.at
