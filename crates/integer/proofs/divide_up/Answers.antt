use Rattle.std.proofs.Common.{pos, ◌+ℤ◌, ◌-ℤ◌, SFits}
use mir.Facts.{to_z-of_z}
use mir.Syntax.{w64}
use Rattle.integer.specs.Integers.{div_up}
use Rattle.integer.proofs.Fits.{fits-less-one, fits-quot}
use Rattle.integer.proofs.divide_up.Goals as goal
use Rattle.integer.proofs.divide_up.Goals.{Start}

less_one : (c : Start) → SFits w64 (c.args.a +ℤ c.args.d -ℤ pos 1)
less_one c = fits-less-one c.ranges.a c.requires.pos_bound c.requires.sfits

pub returns : goal.returns
unfolding div_up
returns c = rw (to_z-of_z c.ranges.a, to_z-of_z c.ranges.d, to_z-of_z c.requires.sfits, to_z-of_z (less_one c), to_z-of_z (fits-quot c.requires.pos_bound (less_one c)))
