-- The loop's invariant: the sum of the whole is the sum of the summands that are left, added to the entries so far.
use mathlib.Core.Path.{refl}
use native.Mathlib.Omega.{arith}
use Rattle.matching.proofs.Matches.{kept}
use Rattle.sums.proofs.Places.{elsewhere-none, elsewhere-then}
use Rattle.sums.proofs.Reading.{passed, read-start, read-end, read-stop, read_next}
use Rattle.sums.proofs.read_summands.Goals as goal

pub loop-t-init : goal.loop-t-init
loop-t-init c = (read-start _ _ _ _ _ _ _ _ refl refl, elsewhere-none _ _ _ _)

pub returns-in_err-key : goal.returns-in_err-key
returns-in_err-key c = rw (passed c.from_residual.result c.from_residual.ensures.1) (read-stop c.loop-t.invariant.0 c.requires.nodes.1 (omega arith) (rw c.in_err-key.was at c.read_summand.ensures), c.loop-t.invariant.1)

pub loop-t-preserved : goal.loop-t-preserved
loop-t-preserved c = let s = rw c.in_ok-key.was at c.read_summand.ensures in let p = rw (kept (omega arith) s.within) at c.put-n.ensures in
    (read_next c.loop-t.invariant.0 c.requires.nodes.1 (omega arith) c.requires.nodes.0.below _ _ s _ _ _ _ p.0, elsewhere-then c.loop-t.invariant.1 p.1)

pub returns : goal.returns
returns c = (read-end c.loop-t.invariant.0 c.requires.nodes.1 (omega arith) (omega arith), c.loop-t.invariant.1)
