use Rattle.matching.specs.Places.{placed}
use Rattle.sums.specs.Places.{slotted, Elsewhere}
use Rattle.sums.proofs.Reading.{Reading}
use Rattle.sums.proofs.read_summands.Given as goal

abbrev pub invariant-loop-t : goal.invariant-loop-t
invariant-loop-t l = Reading l.nodes l.ts l.top (placed l.at l.coeffs) (placed l.at l.keys) (slotted l.at l.slots) l.n l.t-index × Elsewhere l.at l.initial.coeffs l.initial.keys l.initial.slots l.coeffs l.keys l.slots
