use Rattle.normalize.proofs.Collecting.{Collecting}
use Rattle.normalize.proofs.collect_addition_list.Given as goal

abbrev pub invariant-loop-i : goal.invariant-loop-i
invariant-loop-i l = Collecting l.nodes l.ts l.initial.coeffs l.initial.keys l.coeffs l.keys l.i
