-- `normalize::push_one` keeps a coefficient that is not negative, and flips the literal of one that is.
use mathlib.Core.Path.{refl, sym, ◌∙◌}
use native.Mathlib.Omega.{arith}
use mir.Facts.{to_z-of_z}
use Rattle.integer.proofs.Fits.{within-neg, fits-within}
use Rattle.integer.proofs.Signed.{back}
use Rattle.normalize.proofs.Pushing.{one_kept, one-flipped}
use Rattle.normalize.proofs.push_one.Goals as goal

pub returns-then-at_most : goal.returns-then-at_most
returns-then-at_most c = one_kept _ (to_z-of_z c.ranges.c) (sym c.at_most.ensures ∙ c.if-at_most.true) refl refl refl

pub negate-m-requires : goal.negate-m-requires
negate-m-requires c = rw (to_z-of_z c.ranges.c) (fits-within (omega arith) (within-neg c.requires.0))

pub returns : goal.returns
returns c = one-flipped _ (to_z-of_z c.ranges.c) (sym c.at_most.ensures ∙ c.if-at_most.false) (back c.negate-m.result c.negate-m.type_inv ∙ c.negate-m.ensures) refl c.opposite.ensures refl
