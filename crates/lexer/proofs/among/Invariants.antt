use Rattle.lexer.specs.Tokens.{place, cut}
use lib.ListN.{drop}
use lib.Seq.{slice}
use Prim.Native.Nat.{◌+◌}
use mathlib.Core.Path.{◌≡◌}
use Rattle.lexer.proofs.among.Given as goal

abbrev pub invariant-loop-k : goal.invariant-loop-k
invariant-loop-k l = l.k + place (drop l.k (cut l.words l.starts 0 l.n)) (slice l.from l.to l.text) ≡ place (cut l.words l.starts 0 l.n) (slice l.from l.to l.text)
