-- `normalize::negate_sum`: the first i entries are negated, the others as they were; a turn negates a block.
use native.Mathlib.Omega.{arith}
use Rattle.normalize.proofs.Negating.{negating-none, negating_turns, negating-more, negating_end}
use Rattle.normalize.proofs.negate_sum.Goals as goal

pub loop-i-init : goal.loop-i-init
loop-i-init c = negating-none (c.requires)

pub overflow_sub-n : goal.overflow_sub-n
overflow_sub-n c = omega (arith, c.loop-i-test.true)

pub block_at-requires : goal.block_at-requires
block_at-requires c = (omega (arith, c.block_count-m.ensures, c.loop-i-test.true, c.loop-i.invariant.coeffs, c.requires.coeffs), (omega (arith, c.block_count-m.ensures, c.loop-i-test.true, c.requires.keys), omega (arith, c.block_count-m.ensures)))

pub negated_block-block-requires : goal.negated_block-block-requires
negated_block-block-requires c = negating_turns c.requires c.loop-i.invariant (omega (arith, c.block_count-m.ensures, c.loop-i-test.true)) c.block_at.ensures

pub put_block-requires : goal.put_block-requires
put_block-requires c = (omega (arith, c.block_count-m.ensures, c.loop-i-test.true, c.loop-i.invariant.coeffs, c.requires.coeffs), omega (arith, c.block_count-m.ensures))

pub overflow_add-i : goal.overflow_add-i
overflow_add-i c = omega (arith, c.block_count-m.ensures, c.loop-i-test.true, c.ranges.n)

pub loop-i-smaller : goal.loop-i-smaller
loop-i-smaller c = omega (arith, c.block_count-m.ensures, c.loop-i-test.true)

pub loop-i-preserved : goal.loop-i-preserved
loop-i-preserved c = negating-more c.requires c.loop-i.invariant (omega (arith, c.block_count-m.ensures, c.loop-i-test.true)) c.block_at.ensures c.negated_block-block.ensures c.put_block.auto.coeffs c.put_block.ensures

pub shape_of-coeffs : goal.shape_of-coeffs
shape_of-coeffs c = c.loop-i.invariant.coeffs

pub returns : goal.returns
returns c = negating_end c.requires c.loop-i.invariant c.loop-i-test.false
