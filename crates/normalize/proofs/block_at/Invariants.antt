use Rattle.normalize.proofs.Negating.{Filling}
use Rattle.normalize.proofs.block_at.Given as goal

abbrev pub invariant-loop-k : goal.invariant-loop-k
invariant-loop-k l = Filling l.coeffs l.keys l.i l.block l.k
