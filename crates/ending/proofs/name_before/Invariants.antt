use mathlib.Core.Path.{◌≡◌}
use Prim.Native.Nat.{◌≤◌}
use lib.Seq.{slice}
use Rattle.calculus.specs.Pol.{name_before}
use Rattle.ending.proofs.name_before.Given as goal

abbrev pub invariant-loop-j : goal.invariant-loop-j
invariant-loop-j l = (l.i ≤ l.b) × (name_before (slice l.i l.b l.text) (slice l.j l.d l.text) ≡ name_before (slice l.a l.b l.text) (slice l.c l.d l.text))
