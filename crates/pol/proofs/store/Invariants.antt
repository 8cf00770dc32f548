use Rattle.pol.proofs.Storing.{Copied}
use Rattle.pol.proofs.store.Given as goal

abbrev pub invariant-loop-i : goal.invariant-loop-i
invariant-loop-i l = Copied l.initial.coeffs l.initial.keys l.from l.at l.b l.i l.coeffs l.keys
