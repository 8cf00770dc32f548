-- The loop's invariant: the sum of the two is the entries so far, with what is left of the second.
use native.Mathlib.Omega.{arith}
use lib.IntN.{pos}
use Rattle.integer.proofs.Fits.{within_more}
use Rattle.matching.proofs.Matches.{kept}
use Rattle.matching.proofs.Places.{still_at}
use Rattle.sums.proofs.Places.{elsewhere-then}
use Rattle.sums.proofs.Adding.{add-next, add-end}
use Rattle.sums.proofs.add_pbsums.Goals as goal

pub put-k-requires-clause-variable : goal.put-k-requires-clause-variable
put-k-requires-clause-variable c = rw (still_at 0 c.loop-i.invariant.1.keys c.args.at2 c.requires.room.1 c.loop-i.i (omega (arith, c.requires.listed.1))) (c.requires.listed.0.literals c.loop-i.i (omega arith))

pub put-k-requires-clause-within : goal.put-k-requires-clause-within
put-k-requires-clause-within c = let w = c.requires.listed.2 c.loop-i.i (omega arith) in
    rw (still_at (pos 0) c.loop-i.invariant.1.coefficients c.args.at2 c.requires.room.1 c.loop-i.i (omega (arith, c.requires.listed.1)), kept (omega arith) w) (within_more (omega arith) w)

pub loop-i-preserved : goal.loop-i-preserved
loop-i-preserved c = let f = c.loop-i.invariant.1 in let u = still_at 0 f.keys c.args.at2 c.requires.room.1 c.loop-i.i (omega (arith, c.requires.listed.1)) in let v = still_at (pos 0) f.coefficients c.args.at2 c.requires.room.1 c.loop-i.i (omega (arith, c.requires.listed.1)) in let w = c.requires.listed.2 c.loop-i.i (omega arith) in let p = rw (u, v, kept (omega arith) w) at c.put-k.ensures in
    (add-next c.loop-i.invariant.0 c.requires.listed.1 (omega arith) c.requires.listed.2 _ _ _ _ p.0, elsewhere-then f p.1)

pub returns : goal.returns
returns c = (add-end c.loop-i.invariant.0 c.requires.listed.1 (omega arith) (omega arith), c.loop-i.invariant.1)
