use Rattle.normalize.specs.Halves.{PutIs}
use Rattle.normalize.proofs.put_block.Given as goal

abbrev pub invariant-loop-k : goal.invariant-loop-k
invariant-loop-k l = PutIs l.initial.coeffs l.i l.k l.block l.coeffs
