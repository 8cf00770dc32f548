use Rattle.matching.specs.Places.{placed}
use Rattle.pol.proofs.Ranges.{Ranging}
use Rattle.pol.proofs.all_in_range.Given as goal

abbrev pub invariant-loop-i : goal.invariant-loop-i
invariant-loop-i l = Ranging (placed l.from l.coeffs) l.n l.i
