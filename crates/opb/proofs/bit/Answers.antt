-- `opb::bit` owes 1 for yes and 0 for no. Assumes nothing.
use Rattle.opb.specs.Judged.{bit_of}
use Rattle.opb.proofs.bit.Goals as goal

pub returns-then-b : goal.returns-then-b
unfolding bit_of
returns-then-b c = rw c.if-b.true

pub returns-else-b : goal.returns-else-b
unfolding bit_of
returns-else-b c = rw c.if-b.false
