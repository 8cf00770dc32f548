use Rattle.matching.specs.Places.{placed}
use Rattle.marks.proofs.Values.{Adding}
use Rattle.marks.proofs.greatest.Given as goal

abbrev pub invariant-loop-i : goal.invariant-loop-i
invariant-loop-i l = Adding l.nodes (placed l.at l.coeffs) (placed l.at l.keys) l.n l.value l.i
