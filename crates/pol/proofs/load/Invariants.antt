use mathlib.Core.Path.{◌≡◌}
use Prim.Native.Nat.{◌-◌}
use Rattle.pol.specs.Stack.{count_of, window}
use Rattle.pol.proofs.Loading.{Loading}
use Rattle.pol.proofs.load.Given as goal

abbrev pub invariant-loop-i : goal.invariant-loop-i
invariant-loop-i l = Loading l.nodes (window l.e l.initial.coeffs) (window l.e l.initial.keys) l.at l.initial.coeffs l.initial.keys l.initial.slots l.i l.coeffs l.keys l.slots × (l.n ≡ count_of (window l.e l.initial.keys))

abbrev pub decreases-loop-i : goal.decreases-loop-i
decreases-loop-i l = l.n - l.i
