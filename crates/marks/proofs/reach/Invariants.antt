use Rattle.marks.proofs.Reaching.{Reaching}
use Rattle.marks.proofs.reach.Given as goal

abbrev pub invariant-loop-t : goal.invariant-loop-t
invariant-loop-t l = Reaching l.nodes l.ts l.ends.ones l.ends.zeros l.t-index
