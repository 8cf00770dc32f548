use Rattle.rules.specs.Checked.{map_of}
use Rattle.matching.specs.Places.{placed}
use Rattle.sums.specs.Places.{left_at, conclusion_at}
use Rattle.rules.proofs.Mapping.{Agreeing}
use Rattle.rules.proofs.coefficients_agree.Given as goal

abbrev pub invariant-loop-i : goal.invariant-loop-i
invariant-loop-i l = Agreeing l.nodes (map_of l.by) (placed left_at l.coeffs) (placed left_at l.keys) l.n (placed conclusion_at l.coeffs) (placed conclusion_at l.keys) l.m l.i
