use Prim.Native.Nat.{◌+◌}
use mathlib.Core.Path.{◌≡◌}
use lib.Seq.{slice}
use Rattle.calculus.specs.Terms.{same_name}
use Rattle.lexer.proofs.spells.Given as goal

-- what is left of both parts answers for the whole
abbrev pub invariant-loop-i : goal.invariant-loop-i
invariant-loop-i l = same_name (slice (l.a + l.i) l.b l.x) (slice (l.from + l.i) l.to l.y) ≡ same_name (slice l.a l.b l.x) (slice l.from l.to l.y)
