-- `ending::put_in_order` owes entry i in its place among those behind it. The invariant: it is entry j, behind those that stand before it.
use mathlib.Core.Path.{sym, ◌∙◌}
use native.Mathlib.Omega.{arith}
use Rattle.ending.proofs.Sorting.{moving-start, moving-keys, moving-more, moving-stop, moving_end}
use Rattle.ending.proofs.put_in_order.Goals as goal

pub loop-j-init : goal.loop-j-init
loop-j-init c = moving-start c.args.i c.requires.2 c.requires.0 c.requires.1

pub lit_before-requires : goal.lit_before-requires
lit_before-requires c = moving-keys c.loop-j.invariant (omega arith)

pub returns-then-lit_before : goal.returns-then-lit_before
returns-then-lit_before c = moving-stop c.loop-j.invariant (omega arith) (sym c.lit_before.ensures ∙ c.if-lit_before.true)

pub loop-j-preserved : goal.loop-j-preserved
loop-j-preserved c = moving-more c.loop-j.invariant (omega arith) (sym c.lit_before.ensures ∙ c.if-lit_before.false) c.swap.ensures.0 c.swap.ensures.1

pub returns : goal.returns
returns c = moving_end c.loop-j.invariant (omega arith)
