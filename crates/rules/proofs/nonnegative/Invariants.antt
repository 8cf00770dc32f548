use Rattle.matching.specs.Places.{placed}
use Rattle.rules.proofs.Mapping.{Counting}
use Rattle.rules.proofs.nonnegative.Given as goal

abbrev pub invariant-loop-c : goal.invariant-loop-c
invariant-loop-c l = Counting (placed l.at l.coeffs) l.n l.c-index
