-- `lines::put_clause` owes the clause of what a line leaves.
use mir.Facts.{to_z-of_z}
use Rattle.ending.proofs.Wording.{signed_is}
use Rattle.lines.proofs.Leaving.{constant-numeral}
use Rattle.lines.proofs.put_clause.Goals as goal

pub put_inequality-requires : goal.put_inequality-requires
put_inequality-requires c = (c.requires.making, constant-numeral c.requires.within (rw (to_z-of_z c.ranges.constant) at c.less-negative.ensures) (rw (to_z-of_z c.ranges.constant) at c.magnitude-size.ensures))

pub returns : goal.returns
returns c = rw (signed_is c.args.constant) at (rw (rw (to_z-of_z c.ranges.constant) at c.less-negative.ensures, rw (to_z-of_z c.ranges.constant) at c.magnitude-size.ensures) at c.put_inequality.ensures)
