use Rattle.matching.proofs.Names.{Names}
use Rattle.matching.specs.Places.{placed}
use Rattle.matching.proofs.all_names.Given as goal

abbrev pub invariant-loop-i : goal.invariant-loop-i
invariant-loop-i l = Names l.nodes (placed l.at l.keys) l.n l.i
