use Rattle.integer.specs.Integers.{signed}
use Rattle.opb_reader.proofs.Assuming.{Partly}
use Rattle.opb_reader.proofs.put_constraint.Given as goal

abbrev pub invariant-loop-j : goal.invariant-loop-j
invariant-loop-j l = Partly l.string l.summands l.initial.nodes l.nodes l.initial.commands l.commands l.pending l.names l.equal l.count (signed l.negative l.magnitude) l.k l.n l.j l.m
