-- A zero is passed over; any other coefficient is compared.
use mathlib.Core.Path.{◌∙◌, sym}
use mir.Facts.{to_z-of_z}
use Rattle.integer.proofs.Signed.{back}
use Rattle.matching.specs.Places.{placed}
use Rattle.sums.specs.Places.{left_at, right_at}
use Rattle.rules.proofs.Adding.{entry_zero, entry_other}
use Rattle.rules.proofs.coefficient_is.Goals as goal

pub returns-then-same_integer : goal.returns-then-same_integer
returns-then-same_integer c = entry_zero (placed right_at c.args.coeffs.now) (placed left_at c.args.keys.now) c.args.n _ c.args.key (sym (rw (to_z-of_z c.ranges.c) at c.same_integer.ensures) ∙ c.if-same_integer.true)

pub returns : goal.returns
returns c = entry_other (placed right_at c.args.coeffs.now) (placed left_at c.args.keys.now) c.args.n _ c.args.key (sym (rw (to_z-of_z c.ranges.c) at c.same_integer.ensures) ∙ c.if-same_integer.false) c.coefficient_at.result c.coefficient_at.ensures _ (rw (back c.coefficient_at.result c.coefficient_at.type_inv, to_z-of_z c.ranges.c) at c.same_integer-2.ensures)
