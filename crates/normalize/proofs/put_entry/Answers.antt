-- `normalize::put_entry` appends one entry: `entry-grown`.
use mathlib.Core.Path.{refl, ◌∙◌, ap}
use native.Mathlib.Omega.{arith}
use mir.Facts.{to_z-of_z}
use Rattle.integer.proofs.Signed.{back}
use Rattle.matching.proofs.Matches.{kept}
use Rattle.normalize.specs.Flattening.{turn}
use Rattle.normalize.proofs.Growing.{entry-grown}
use Rattle.normalize.proofs.put_entry.Goals as goal

pub returns : goal.returns
returns c =
    rw (back c.turn_by.result c.turn_by.type_inv)
    (entry-grown c.args.key c.args.c c.turn_by.result _ c.requires.leaf_ready c.requires.within (c.turn_by.ensures ∙ ap (turn c.args.s) (to_z-of_z c.ranges.c)) refl refl (kept (omega (arith, c.requires.leaf_ready.room)) c.requires.leaf_ready.good.bound) refl)
