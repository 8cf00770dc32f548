-- `opb::counted` owes one more where d holds. Assumes nothing.
use native.Mathlib.Numerals.{add-one}
use Rattle.opb.proofs.counted.Goals as goal

pub returns-then-d : goal.returns-then-d
returns-then-d c = rw c.if-d.true (add-one _)

pub returns-else-d : goal.returns-else-d
returns-else-d c = rw c.if-d.false
