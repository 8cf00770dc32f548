use Rattle.ending.proofs.Sorting.{Moving}
use Rattle.ending.proofs.put_in_order.Given as goal

abbrev pub invariant-loop-j : goal.invariant-loop-j
invariant-loop-j l = Moving l.text l.nodes l.initial.coeffs l.initial.keys l.i l.r l.coeffs l.keys l.j
