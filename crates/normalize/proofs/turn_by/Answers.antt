-- `normalize::turn_by` answers z or its negation, as `turn` says.
use mathlib.Core.Path.{◌∙◌, ap}
use native.Mathlib.Omega.{arith}
use lib.IntN.{neg_ℤ}
use mir.Facts.{to_z-of_z}
use Rattle.integer.proofs.Fits.{within-neg, fits-within}
use Rattle.integer.proofs.Signed.{back}
use Rattle.normalize.specs.Flattening.{turn}
use Rattle.normalize.proofs.turn_by.Goals as goal

pub negate-requires : goal.negate-requires
negate-requires c = rw (to_z-of_z c.ranges.z) (fits-within (omega arith) (within-neg (c.requires)))

pub returns-then-s : goal.returns-then-s
unfolding turn
returns-then-s c = rw c.if-s.true (back c.negate.result c.negate.type_inv ∙ c.negate.ensures ∙ ap neg_ℤ (to_z-of_z c.ranges.z))

pub returns-else-s : goal.returns-else-s
unfolding turn
returns-else-s c = rw (c.if-s.false, to_z-of_z c.ranges.z)
