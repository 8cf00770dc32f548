use Rattle.matching.specs.Places.{placed}
use Rattle.sums.specs.Places.{slotted, Elsewhere}
use Rattle.sums.proofs.Adding.{Adding}
use Rattle.sums.proofs.add_pbsums.Given as goal

abbrev pub invariant-loop-i : goal.invariant-loop-i
invariant-loop-i l = Adding l.nodes (placed l.at l.initial.coeffs) (placed l.at l.initial.keys) l.n (placed l.at2 l.initial.coeffs) (placed l.at2 l.initial.keys) l.m (placed l.at l.coeffs) (placed l.at l.keys) (slotted l.at l.slots) l.k l.i × Elsewhere l.at l.initial.coeffs l.initial.keys l.initial.slots l.coeffs l.keys l.slots
