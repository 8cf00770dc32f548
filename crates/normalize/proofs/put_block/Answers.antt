-- `normalize::put_block`: the first k coefficients of the block stand in their places, no others changed.
use borrow.Author.Rules.{rules}
use mathlib.Core.Path.{◌≡◌}
use native.Mathlib.Omega.{arith}
use lib.ListN.{get_or}
use mir.Facts.{to_z-of_z}
use mir.Syntax.{w64}
use Rattle.normalize.specs.Halves.{vacant}
use Rattle.normalize.proofs.Negating.{putting-none, putting-more}
use Rattle.normalize.proofs.put_block.Goals as goal

pub loop-k-init : goal.loop-k-init
loop-k-init c = putting-none

pub loop-k-preserved : goal.loop-k-preserved
loop-k-preserved c = putting-more c.loop-k.invariant (omega arith) (to_z-of_z {w = w64} {z = (get_or c.args.block c.loop-k.k vacant).coefficient} (search rules))

pub returns : goal.returns
returns c = let e : c.loop-k.k ≡ c.args.m = omega arith in rw e at c.loop-k.invariant
