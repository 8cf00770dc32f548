use Rattle.ending.proofs.Sorting.{Ordering}
use Rattle.ending.proofs.order.Given as goal

abbrev pub invariant-loop-i : goal.invariant-loop-i
invariant-loop-i l = Ordering l.text l.nodes l.initial.coeffs l.initial.keys l.r l.coeffs l.keys l.i
