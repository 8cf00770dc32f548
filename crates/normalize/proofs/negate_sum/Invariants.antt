use Prim.Native.Nat.{◌-◌}
use Rattle.normalize.proofs.Negating.{Negating}
use Rattle.normalize.proofs.negate_sum.Given as goal

abbrev pub invariant-loop-i : goal.invariant-loop-i
invariant-loop-i l = Negating l.initial.coeffs l.n l.coeffs l.i

abbrev pub decreases-loop-i : goal.decreases-loop-i
decreases-loop-i l = l.n - l.i
