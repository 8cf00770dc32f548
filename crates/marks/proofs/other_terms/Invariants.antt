use Rattle.marks.proofs.Reaching.{Walked}
use Rattle.marks.proofs.other_terms.Given as goal

abbrev pub invariant-loop-t : goal.invariant-loop-t
invariant-loop-t l = Walked l.nodes l.ts l.t-index
