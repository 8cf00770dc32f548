-- The test is the definition's, and the difference fits.
use mathlib.Core.Path.{sym, ◌∙◌}
use native.Mathlib.Omega.{arith}
use mir.Facts.{to_z-of_z}
use Rattle.integer.proofs.Fits.{within-sub, fits-within}
use Rattle.integer.proofs.Signed.{back}
use Rattle.sums.proofs.Reducing.{keep_low, keep_high}
use Rattle.sums.proofs.keep_of.Goals as goal

pub subtract-requires : goal.subtract-requires
subtract-requires c = rw (to_z-of_z c.ranges.a, to_z-of_z c.ranges.b) (fits-within (omega arith) (within-sub c.requires.within c.requires.within_2))

pub returns-then-less : goal.returns-then-less
returns-then-less c = back c.subtract.result c.subtract.type_inv ∙ (rw (to_z-of_z c.ranges.a, to_z-of_z c.ranges.b) at c.subtract.ensures) ∙ keep_low _ _ (rw (to_z-of_z c.ranges.a, to_z-of_z c.ranges.b) at (sym c.less.ensures ∙ c.if-less.true))

pub returns-else-less : goal.returns-else-less
returns-else-less c = keep_high _ _ (rw (to_z-of_z c.ranges.a, to_z-of_z c.ranges.b) at (sym c.less.ensures ∙ c.if-less.false))
