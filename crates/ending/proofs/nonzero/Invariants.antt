use mathlib.Core.Path.{◌≡◌}
use Rattle.pol.specs.Stack.{count_of, window}
use Rattle.ending.proofs.Choosing.{Choosing}
use Rattle.ending.proofs.nonzero.Given as goal

abbrev pub invariant-loop-i : goal.invariant-loop-i
invariant-loop-i l = Choosing l.initial.coeffs l.initial.keys l.i l.r l.coeffs l.keys × (l.n ≡ count_of (window 0 l.initial.keys))
