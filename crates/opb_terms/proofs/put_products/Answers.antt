-- `opb_terms::put_products` owes the terms of the summands as pending nodes. The loop's invariant: those of the first i summands. Assumes nothing.
use native.Mathlib.Omega.{arith}
use Rattle.opb_terms.proofs.Products.{loop-start, loop-ready, loop-more}
use Rattle.opb_terms.proofs.put_products.Goals as goal

pub loop-i-init : goal.loop-i-init
loop-i-init c = loop-start c.requires

pub put_product-m-requires : goal.put_product-m-requires
put_product-m-requires c = (c.requires.summands.room, omega (arith, c.requires.summands.few, c.loop-i-test.true), c.requires.summands.each _ c.loop-i-test.true, loop-ready c.requires c.loop-i.invariant c.loop-i-test.true, omega (arith, c.child_base-base.ensures, c.loop-i.invariant.grown.kept.long))

pub loop-i-preserved : goal.loop-i-preserved
loop-i-preserved c = loop-more c.requires c.loop-i.invariant c.loop-i-test.true _ c.loop-i.auto.pending c.put_product-m.ensures.0 c.put_product-m.ensures.1
