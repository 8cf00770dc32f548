use Prim.Native.Nat.{◌<◌, ◌^◌}
use native.Mathlib.Omega.{arith}
use mir.Facts.{to_z-of_z}
use mir.Facts.{to_z_pos}
use lib.IntN.{+ℤ_idl}
use mir.Syntax.{w64}
use Rattle.integer.specs.Integers.{signed}
use Rattle.integer.proofs.Fits.{fits_signed}
use Rattle.integer.proofs.Parts.{parts}
use Rattle.integer.proofs.Signed.{sfits_out}
use Rattle.integer.proofs.with_sign.Goals as goal
use Rattle.integer.proofs.with_sign.Goals.{Start}
use mathlib.Core.Bool.{true}

half : (s : Start) → s.args.magnitude < 2 ^ 63
half s = omega arith

pub overflow_sub-result : goal.overflow_sub-result
overflow_sub-result c = rw (to_z_pos w64 (half c.before)) (sfits_out (simp parts (omega arith)))

pub returns-then-negative : goal.returns-then-negative
unfolding signed
returns-then-negative c = rw (c.if-negative.true, to_z_pos w64 (half c.before), +ℤ_idl, to_z-of_z (fits_signed true (half c.before)))

pub returns-else-negative : goal.returns-else-negative
unfolding signed
returns-else-negative c = rw (c.if-negative.false, to_z_pos w64 (half c.before))
