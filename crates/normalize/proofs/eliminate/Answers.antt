-- `normalize::eliminate`: each relation is one law of proofs/Relating, its constant within i64.
use mathlib.Core.Path.{refl, ◌∙◌}
use native.Mathlib.Omega.{arith}
use mir.Facts.{to_z-of_z}
use Rattle.integer.proofs.Signed.{back}
use Rattle.normalize.proofs.Relating.{eliminated_ge, eliminated_gt, eliminated_le, eliminated_lt, more-fits, less-fits, minus-fits}
use Rattle.normalize.proofs.eliminate.Goals as goal

pub add-requires : goal.add-requires
add-requires c = rw (to_z-of_z c.ranges.constant) (more-fits c.requires.within)

pub returns-then-op-eq-GT : goal.returns-then-op-eq-GT
returns-then-op-eq-GT c = eliminated_gt c.requires.within _ c.if-op-eq-GT.true refl (back c.add.result c.add.type_inv ∙ (rw (to_z-of_z c.ranges.constant) at c.add.ensures))

pub subtract-requires : goal.subtract-requires
subtract-requires c = rw (to_z-of_z c.ranges.constant) (less-fits c.requires.within)

pub returns-then-op-eq-LT : goal.returns-then-op-eq-LT
returns-then-op-eq-LT c = eliminated_lt c.requires.within _ c.if-op-eq-LT.true refl (back c.subtract.result c.subtract.type_inv ∙ (rw (to_z-of_z c.ranges.constant) at c.subtract.ensures))

pub negate-requires : goal.negate-requires
negate-requires c = rw (to_z-of_z c.ranges.constant) (minus-fits c.requires.within)

pub returns-then-op-eq-LE : goal.returns-then-op-eq-LE
returns-then-op-eq-LE c = eliminated_le c.requires.within _ c.if-op-eq-LE.true refl (back c.negate.result c.negate.type_inv ∙ (rw (to_z-of_z c.ranges.constant) at c.negate.ensures))

pub returns : goal.returns
returns c = eliminated_ge c.requires.within _ (omega (arith, c.if-op-eq-GT.false, c.if-op-eq-LT.false, c.if-op-eq-LE.false, c.requires.ge_bound.0, c.requires.ge_bound.1)) refl (to_z-of_z c.ranges.constant)
