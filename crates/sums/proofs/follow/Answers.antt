-- `sums::follow` owes one entry more, and that keys can still be looked up. A key that stands there already keeps its slot; another is appended.
use native.Mathlib.Omega.{arith}
use mir.Facts.{to_z-of_z}
use Rattle.sums.proofs.Places.{entry_at}
use Rattle.sums.proofs.Putting.{followed_again, followed-new}
use Rattle.sums.proofs.follow.Goals as goal

pub returns-then-i-n : goal.returns-then-i-n
returns-then-i-n c = let e = entry_at c.args.at c.args.coeffs.now c.args.keys.now c.args.slots.now c.args.n c.args.key c.args.c c.requires.room.coefficients c.requires.room.keys c.requires.fine.1 in rw (to_z-of_z c.ranges.c) (followed_again c.find-i.ensures c.requires.fine.0 c.requires.variable.0 c.requires.variable.1 c.requires.fine.1 (omega arith) e.0 e.1, e.2)

pub returns : goal.returns
returns c = let a = rw (to_z-of_z c.ranges.c) at c.append.ensures in (followed-new c.find-i.ensures c.requires.fine.0 c.requires.variable.0 c.requires.variable.1 c.requires.fine.1 (omega arith) a.0, a.1)
