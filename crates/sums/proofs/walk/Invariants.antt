use Rattle.matching.specs.Places.{placed}
use Rattle.sums.proofs.Slots.{Walking}
use Rattle.sums.proofs.walk.Given as goal

abbrev pub invariant-loop-i : goal.invariant-loop-i
invariant-loop-i l = Walking l.nodes (placed l.at l.keys) l.n l.key l.i
