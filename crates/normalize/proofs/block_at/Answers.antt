-- `normalize::block_at`: the first k places of the block have their entries, the others none.
use mathlib.Core.Path.{◌≡◌}
use native.Mathlib.Omega.{arith}
use Rattle.integer.proofs.Signed.{back}
use Rattle.normalize.proofs.Negating.{filling-none, filling-more}
use Rattle.normalize.proofs.block_at.Goals as goal

pub loop-k-init : goal.loop-k-init
loop-k-init c = filling-none c.entry_of-block.ensures

pub loop-k-preserved : goal.loop-k-preserved
loop-k-preserved c = filling-more c.loop-k.invariant (omega arith) (rw (back _ c.entry_of-arg-1.given) at c.entry_of.ensures)

pub returns : goal.returns
returns c = let e : c.loop-k.k ≡ c.args.m = omega arith in rw e at c.loop-k.invariant.filled
