-- The test of two integers is the definition's.
use mir.Facts.{to_z-of_z}
use Rattle.calculus.proofs.TermLaws.{same_integer-tests}
use Rattle.rules.proofs.same_integer.Goals as goal

pub returns : goal.returns
returns c = same_integer-tests _ _ _ (rw (to_z-of_z c.ranges.a, to_z-of_z c.ranges.b) at c.equal.ensures)
