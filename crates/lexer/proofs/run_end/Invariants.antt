use Prim.Native.Nat.{ℕ, ◌+◌}
use Rattle.calculus.specs.Tokens.{span}
use lib.ListN.{drop}
use mathlib.Core.Bool.{Bool}
use mathlib.Core.Path.{◌≡◌}
use Rattle.lexer.proofs.run_end.Given as goal

-- whatever the test, what is left of the run ends where the whole does
abbrev pub invariant-loop-k : goal.invariant-loop-k
invariant-loop-k g l = (p : ℕ → Bool) → ((b : ℕ) (r : Bool) → goal.F-post g l.test b r → r ≡ p b) → l.at + l.k + span p (drop (l.at + l.k) l.text) ≡ l.at + span p (drop l.at l.text)
