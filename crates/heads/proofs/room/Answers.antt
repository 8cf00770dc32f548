-- `heads::room` owes the test of the two limits: in each branch of the first test. Assumes nothing.
use Rattle.heads.proofs.Laws.{room-more, room-none}
use Rattle.heads.proofs.room.Goals as goal

pub returns-then-level-le-MAX_DEPTH : goal.returns-then-level-le-MAX_DEPTH
returns-then-level-le-MAX_DEPTH c = room-more c.args.level c.args.n c.if-level-le-MAX_DEPTH.true

pub returns-else-level-le-MAX_DEPTH : goal.returns-else-level-le-MAX_DEPTH
returns-else-level-le-MAX_DEPTH c = room-none c.args.level c.args.n c.if-level-le-MAX_DEPTH.false
