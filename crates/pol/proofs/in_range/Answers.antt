-- `pol::in_range` owes the test of the range, from both ends.
use mathlib.Core.Path.{sym, ◌∙◌}
use mir.Facts.{to_z-of_z}
use Rattle.pol.proofs.Ranges.{range-below, range-above}
use Rattle.pol.proofs.in_range.Goals as goal

pub returns-then-less : goal.returns-then-less
returns-then-less c = range-below c.args.z (sym (rw (to_z-of_z c.ranges.z) at c.less.ensures) ∙ c.if-less.true)

pub returns : goal.returns
returns c = range-above c.args.z _ (sym (rw (to_z-of_z c.ranges.z) at c.less.ensures) ∙ c.if-less.false) (rw (to_z-of_z c.ranges.z) at c.at_most.ensures)
