use Rattle.matching.specs.Places.{placed, Others}
use Rattle.sums.proofs.Reducing.{Reducing}
use Rattle.sums.proofs.reduce_pbsum.Given as goal

abbrev pub invariant-loop-i : goal.invariant-loop-i
invariant-loop-i l = Reducing l.nodes (placed l.at l.initial.coeffs) (placed l.at l.keys) l.n (placed l.into l.coeffs) l.slack l.i × Others l.into l.initial.coeffs l.coeffs
