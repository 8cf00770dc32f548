-- `ending::nonzero` owes the literals of the stack's one entry that are not 0. The invariant: of the first i of them r are not 0.
use mathlib.Core.Path.{sym, ◌∙◌}
use native.Mathlib.Omega.{arith}
use Rattle.integer.proofs.Signed.{back}
use Rattle.pol.proofs.Windows.{window-get}
use Rattle.ending.proofs.Choosing.{choosing-start, choosing-coefficient, choosing-key, choosing-more, choosing-all}
use Rattle.ending.proofs.nonzero.Goals as goal

pub loop-i-init : goal.loop-i-init
loop-i-init c = (choosing-start _ _, c.wide-n.ensures ∙ sym (window-get 0 c.args.keys.now 0 64 (omega arith)))

pub loop-i-preserved : goal.loop-i-preserved
loop-i-preserved c = (choosing-more c.loop-i.invariant.0 (omega (arith, c.loop-i.invariant.1, c.requires)) (omega (arith, c.loop-i.invariant.1)) (back _ c.c-1.given ∙ choosing-coefficient c.loop-i.invariant.0 (omega (arith, c.loop-i.invariant.1, c.requires))) (choosing-key c.loop-i.invariant.0 (omega (arith, c.loop-i.invariant.1, c.requires))) c.keep_nonzero-r.ensures, c.loop-i.invariant.1)

pub returns : goal.returns
returns c = (choosing-all c.loop-i.invariant.0 (omega (arith, c.loop-i.invariant.1)), c.loop-i.invariant.0.behind)
