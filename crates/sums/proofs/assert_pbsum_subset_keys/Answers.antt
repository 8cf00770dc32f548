-- The loop's invariant: the answer from entry i on is that for the whole.
use native.Mathlib.Omega.{arith}
use Rattle.matching.specs.Places.{placed}
use Rattle.sums.proofs.Keys.{subset-more, subset-stop, subset_end}
use Rattle.sums.proofs.assert_pbsum_subset_keys.Goals as goal

pub returns-then-not-key_kept : goal.returns-then-not-key_kept
returns-then-not-key_kept c = subset-stop c.args.nodes.now (placed c.args.from c.args.coeffs.now) (placed c.args.at c.args.keys.now) c.args.n (placed c.args.at2 c.args.keys.now) c.args.m c.loop-i.i c.loop-i.invariant (omega arith) (rw c.if-not-key_kept.true at c.key_kept.ensures)

pub loop-i-preserved : goal.loop-i-preserved
loop-i-preserved c = subset-more c.args.nodes.now (placed c.args.from c.args.coeffs.now) (placed c.args.at c.args.keys.now) c.args.n (placed c.args.at2 c.args.keys.now) c.args.m c.loop-i.i c.loop-i.invariant (omega arith) (rw c.if-not-key_kept.false at c.key_kept.ensures)

pub returns : goal.returns
returns c = subset_end c.args.nodes.now (placed c.args.from c.args.coeffs.now) (placed c.args.at c.args.keys.now) c.args.n (placed c.args.at2 c.args.keys.now) c.args.m c.loop-i.i c.loop-i.invariant (omega arith)
