-- `opb::judge` owes the judgement of one constraint: the loop keeps the summands that were read, their counts, their words while there is room, and that the rest of the constraint from i on is the whole. Assumes nothing.
use native.Mathlib.Omega.{arith}
use Rattle.opb.proofs.Parts.{passed}
use Rattle.opb.proofs.Judging.{judge-start, judge-off, judge-more, judge_not, judge-whole, summand, compared}
use Rattle.opb.proofs.judge.Goals as goal

pub loop-m-init : goal.loop-m-init
loop-m-init c = judge-start c.args.text.now c.args.at c.args.summands.now c.requires.0 c.requires.1 c.requires.2

pub item_at-requires : goal.item_at-requires
item_at-requires c = c.loop-m.invariant.place

pub store_summand-requires : goal.store_summand-requires
store_summand-requires c = let S = summand c.args.text.now c.args.at c.args.summands.now c.loop-m.summands c.loop-m.i c.loop-m.q c.loop-m.g c.loop-m.invariant _ (rw c.in_ok-m.was at c.item_at.ensures) _ _ _ _ _ c.in-Summand.is in (c.loop-m.invariant.room, omega (arith, S.5, S.6, c.loop-m.invariant.short), omega (arith, S.6, c.loop-m.invariant.short))

pub overflow_add-q : goal.overflow_add-q
overflow_add-q c = omega (arith, c.loop-m.invariant.counted, c.loop-m.invariant.place, c.loop-m.invariant.short)

pub counted-g-requires : goal.counted-g-requires
counted-g-requires c = omega (arith, c.loop-m.invariant.fewer, c.loop-m.invariant.counted, c.loop-m.invariant.place, c.loop-m.invariant.short)

pub loop-m-smaller : goal.loop-m-smaller
loop-m-smaller c = let S = summand c.args.text.now c.args.at c.args.summands.now c.loop-m.summands c.loop-m.i c.loop-m.q c.loop-m.g c.loop-m.invariant _ (rw c.in_ok-m.was at c.item_at.ensures) _ _ _ _ _ c.in-Summand.is in omega (arith, S.4, S.6)

pub loop-m-preserved : goal.loop-m-preserved
loop-m-preserved c = judge-more c.args.text.now c.args.at c.args.summands.now c.loop-m.summands c.loop-m.i c.loop-m.q c.loop-m.g c.loop-m.invariant _ (rw c.in_ok-m.was at c.item_at.ensures) _ _ _ _ _ c.in-Summand.is _ c.store_summand.ensures _ c.counted-g.ensures

pub constant_at-requires : goal.constant_at-requires
constant_at-requires c = (compared c.args.text.now c.args.at c.args.summands.now c.loop-m.summands c.loop-m.i c.loop-m.q c.loop-m.g c.loop-m.invariant _ (rw c.in_ok-m.was at c.item_at.ensures) _ _ c.in-Compared.is).2

pub returns-in_err-m : goal.returns-in_err-m
returns-in_err-m c = (rw (passed c.from_residual.result c.from_residual.ensures.1) (judge-off c.args.text.now c.args.at c.args.summands.now c.loop-m.summands c.loop-m.i c.loop-m.q c.loop-m.g c.loop-m.invariant _ (rw c.in_err-m.was at c.item_at.ensures)), c.loop-m.invariant.long)

pub returns-in_err-negative-in-Compared : goal.returns-in_err-negative-in-Compared
returns-in_err-negative-in-Compared c = (rw (passed c.from_residual-in_err-negative-in-Compared.result c.from_residual-in_err-negative-in-Compared.ensures.1) (judge_not c.args.text.now c.args.at c.args.summands.now c.loop-m.summands c.loop-m.i c.loop-m.q c.loop-m.g c.loop-m.invariant _ (rw c.in_ok-m.was at c.item_at.ensures) _ _ c.in-Compared.is _ (rw c.in_err-negative-in-Compared.was at c.constant_at.ensures)), c.loop-m.invariant.long)

pub returns-in-Compared : goal.returns-in-Compared
returns-in-Compared c = (judge-whole c.args.text.now c.args.at c.args.summands.now c.loop-m.summands c.loop-m.i c.loop-m.q c.loop-m.g c.loop-m.invariant _ (rw c.in_ok-m.was at c.item_at.ensures) _ _ c.in-Compared.is _ _ _ (rw c.in_ok-negative-in-Compared.was at c.constant_at.ensures), c.loop-m.invariant.long)
