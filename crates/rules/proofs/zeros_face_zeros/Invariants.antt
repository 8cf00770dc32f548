use Rattle.matching.specs.Places.{placed}
use Rattle.sums.specs.Places.{left_at, right_at, conclusion_at}
use Rattle.rules.proofs.Adding.{Face}
use Rattle.rules.proofs.zeros_face_zeros.Given as goal

abbrev pub invariant-loop-i : goal.invariant-loop-i
invariant-loop-i l = Face l.nodes (placed right_at l.coeffs) (placed left_at l.keys) l.n (placed conclusion_at l.coeffs) (placed conclusion_at l.keys) l.m l.i
