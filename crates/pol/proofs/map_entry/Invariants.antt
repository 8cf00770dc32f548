use Rattle.rules.specs.Checked.{map_of}
use Rattle.pol.proofs.Tops.{Mapping}
use Rattle.pol.proofs.map_entry.Given as goal

abbrev pub invariant-loop-i : goal.invariant-loop-i
invariant-loop-i l = Mapping (map_of l.by) l.initial.coeffs l.b l.i l.coeffs
