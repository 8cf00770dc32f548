-- `terms::hash` owes the hash of a byte string: the loop keeps that the bytes from b on, behind those with the hash h, give it. Assumes nothing.
use Rattle.std.proofs.Common.{arith}
use Rattle.std.proofs.lemmas.Slice.{between_is}
use Rattle.terms.proofs.Index.{hash-more, hash_end}
use Rattle.terms.proofs.hash.Goals as goal

pub loop-b-preserved : goal.loop-b-preserved
loop-b-preserved c = (omega arith, hash-more _ _ _ c.loop-b.invariant.1 c.loop-b-test.true)

pub returns : goal.returns
returns c = (rw (← between_is c.args.text.now c.args.from c.args.to) (hash_end _ _ _ c.loop-b.invariant.1 c.loop-b-test.false), c.loop-b.invariant.0)
