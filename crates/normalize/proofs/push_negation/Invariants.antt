use Rattle.normalize.proofs.Pushing.{Pushing}
use Rattle.normalize.proofs.push_negation.Given as goal

abbrev pub invariant-loop-i : goal.invariant-loop-i
invariant-loop-i l = Pushing l.initial.coeffs l.initial.keys l.coeffs l.keys l.i l.t
