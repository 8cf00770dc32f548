-- `ending::magnitude` owes the magnitude of a numeral, whose negation fits an i64, and which fits a word. Assumes nothing.
use native.Mathlib.Omega.{arith}
use lib.IntN.{+ℤ_idl}
use mir.Facts.{to_z-of_z}
use Rattle.integer.proofs.Fits.{fits-within, within-neg}
use Rattle.ending.proofs.Wording.{plus_cast, minus-cast, minus-size}
use Rattle.ending.proofs.magnitude.Goals as goal

pub overflow_sub-result : goal.overflow_sub-result
overflow_sub-result c = rw (to_z-of_z c.ranges.z, +ℤ_idl) (fits-within (omega arith) (within-neg c.requires))

pub overflow_cast-result : goal.overflow_cast-result
overflow_cast-result c = rw (to_z-of_z c.ranges.z, +ℤ_idl, to_z-of_z (fits-within (omega arith) (within-neg c.requires))) (minus-cast c.args.z (rw (to_z-of_z c.ranges.z) at c.if-z-lt0.true) c.requires)

pub overflow_cast-result-else-z-lt0 : goal.overflow_cast-result-else-z-lt0
overflow_cast-result-else-z-lt0 c = rw (to_z-of_z c.ranges.z) (plus_cast c.args.z (rw (to_z-of_z c.ranges.z) at c.if-z-lt0.false) c.requires)

pub returns-then-z-lt0 : goal.returns-then-z-lt0
returns-then-z-lt0 c = rw (to_z-of_z c.ranges.z, +ℤ_idl, to_z-of_z (fits-within (omega arith) (within-neg c.requires))) (minus-size c.args.z)

pub returns-else-z-lt0 : goal.returns-else-z-lt0
returns-else-z-lt0 c = rw (to_z-of_z c.ranges.z)
