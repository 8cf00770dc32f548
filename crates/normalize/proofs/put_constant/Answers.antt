-- `normalize::put_constant` adds a constant, which fits: so many products of two numerals do.
use native.Mathlib.Omega.{arith}
use mir.Facts.{to_z-of_z}
use Rattle.integer.proofs.Signed.{back}
use Rattle.matching.proofs.Matches.{kept}
use Rattle.normalize.proofs.Growing.{added-fits}
use Rattle.normalize.proofs.Signs.{turn-within}
use Rattle.normalize.proofs.put_constant.Goals as goal

pub add-requires : goal.add-requires
add-requires c = rw (kept (omega (arith, c.requires.leaves_lt_max_summands)) c.requires.within, back c.turn_by.result c.turn_by.type_inv, c.turn_by.ensures, to_z-of_z c.ranges.c) (added-fits c.requires.within c.requires.leaves_lt_max_summands (turn-within c.args.s c.args.c c.requires.within_2))
