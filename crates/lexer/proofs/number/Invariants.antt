use Prim.Native.Nat.{◌≤◌}
use Rattle.lexer.specs.Tokens.{number_from}
use lib.Seq.{slice}
use mathlib.Core.Path.{◌≡◌}
use Rattle.lexer.proofs.number.Given as goal

abbrev pub invariant-loop-i : goal.invariant-loop-i
invariant-loop-i l = (l.acc ≤ 99999999) × (number_from l.acc (slice l.i l.to l.text) ≡ number_from 0 (slice l.from l.to l.text))
