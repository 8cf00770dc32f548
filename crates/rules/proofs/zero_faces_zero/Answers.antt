-- A coefficient that is not zero is passed over; a zero faces a zero.
use mathlib.Core.Path.{◌∙◌, sym}
use mir.Facts.{to_z-of_z}
use Rattle.integer.proofs.Signed.{back}
use Rattle.matching.specs.Places.{placed}
use Rattle.sums.specs.Places.{left_at, right_at}
use Rattle.rules.proofs.Adding.{face_zero, face-other}
use Rattle.rules.proofs.zero_faces_zero.Goals as goal

pub returns-then-not-same_integer : goal.returns-then-not-same_integer
returns-then-not-same_integer c = face-other (placed right_at c.args.coeffs.now) (placed left_at c.args.keys.now) c.args.n _ c.args.key (sym (rw (to_z-of_z c.ranges.c) at c.same_integer.ensures) ∙ c.if-not-same_integer.true)

pub returns : goal.returns
returns c = face_zero (placed right_at c.args.coeffs.now) (placed left_at c.args.keys.now) c.args.n _ c.args.key (sym (rw (to_z-of_z c.ranges.c) at c.same_integer.ensures) ∙ c.if-not-same_integer.false) c.coefficient_at.result c.coefficient_at.ensures _ (rw (back c.coefficient_at.result c.coefficient_at.type_inv) at c.same_integer-2.ensures)
