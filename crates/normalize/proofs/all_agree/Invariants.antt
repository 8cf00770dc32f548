use Rattle.matching.specs.Places.{placed}
use Rattle.normalize.specs.Lists.{normalized_at}
use Rattle.normalize.proofs.Comparing.{Agreeing}
use Rattle.normalize.proofs.all_agree.Given as goal

abbrev pub invariant-loop-i : goal.invariant-loop-i
invariant-loop-i l = Agreeing l.nodes l.coeffs l.keys l.n (placed normalized_at l.coeffs) (placed normalized_at l.keys) l.m l.i
