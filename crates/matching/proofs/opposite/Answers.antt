-- The key of the same variable with the other sign.
use mathlib.Core.Path.{◌∙◌, ap₂}
use mathlib.Core.Bool.{not, Bool}
use Prim.Native.Nat.{ℕ}
use Rattle.matching.specs.Matched.{key_of}
use Rattle.matching.proofs.opposite.Goals as goal

pub returns : goal.returns
returns c = c.key_of.ensures ∙ ap₂ (λ (v : ℕ) (b : Bool). key_of v (not b)) c.variable_of.ensures c.negated_of.ensures
