-- `opb::behind_comments` owes the first byte behind blanks and comments: the loop keeps that i and the rest of the run end where the whole does. Assumes nothing.
use mathlib.Core.Path.{sym, ◌∙◌}
use native.Mathlib.Omega.{arith}
use Rattle.opb.proofs.Comments.{skip_stop, skip-more, skip_end}
use Rattle.opb.proofs.behind_comments.Goals as goal

pub loop-i-init : goal.loop-i-init
loop-i-init c = rw c.place_at-place.ensures

pub returns-then-not-passes : goal.returns-then-not-passes
returns-then-not-passes c = (skip_stop c.args.text.now c.loop-i.i c.loop-i.place _ c.loop-i.invariant c.loop-i-test.true (sym c.passes.ensures ∙ c.if-not-passes.true), omega arith, omega arith)

pub loop-i-preserved : goal.loop-i-preserved
loop-i-preserved c = skip-more c.args.text.now c.loop-i.i c.loop-i.place _ c.loop-i.invariant c.next_place-place.result c.loop-i-test.true (sym c.passes.ensures ∙ c.if-not-passes.false) c.next_place-place.ensures

pub returns : goal.returns
returns c = (skip_end c.args.text.now c.loop-i.i c.loop-i.place _ c.loop-i.invariant (omega arith), omega arith, omega arith)
