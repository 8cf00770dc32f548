-- `integer::larger` owes `max_z a b`: in each branch the test's answer decides which of the two that is. Assumes nothing.
use mir.Facts.{to_z-of_z}
use Rattle.integer.specs.Integers.{max_z}
use Rattle.integer.proofs.larger.Goals as goal

pub returns-then-a-b : goal.returns-then-a-b
unfolding max_z
returns-then-a-b c = let fa = c.ranges.a in let fb = c.ranges.b in simp (to_z-of_z, simp to_z-of_z at c.if-a-b.true)

pub returns-else-a-b : goal.returns-else-a-b
unfolding max_z
returns-else-a-b c = let fa = c.ranges.a in let fb = c.ranges.b in simp (to_z-of_z, simp to_z-of_z at c.if-a-b.false)
