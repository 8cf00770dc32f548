-- `normalize::entry_of`: the coefficient as it is, and the variable and the sign of the key.
use mir.Facts.{to_z-of_z}
use Rattle.normalize.proofs.entry_of.Goals as goal

pub returns : goal.returns
returns c = rw (to_z-of_z c.ranges.c, c.variable_of.ensures, c.negated_of.ensures)
