-- `checker::pushes_hold` owes whether each id that is pushed is marked. The invariant: those before this byte are.
use mathlib.Core.Path.{sym, subst, ◌∙◌}
use Rattle.heads.specs.PolHeads.{PolWordIs, PolHeadIn}
use native.Mathlib.Omega.{arith}
use Rattle.lines.proofs.Passing.{head-inside, head-later, closed-yes, closed-no}
use Rattle.checker.proofs.Pushing.{walk_start, walk-word, walk_not, walk-ended, walk_more}
use Rattle.checker.proofs.pushes_hold.Goals as goal

pub overflow_mul-k : goal.overflow_mul-k
overflow_mul-k c = omega (arith, c.requires.1, c.requires.0.few)

pub overflow_add-k : goal.overflow_add-k
overflow_add-k c = omega (arith, c.requires.1, c.requires.0.few)

pub offset_bounds-commands-k : goal.offset_bounds-commands-k
offset_bounds-commands-k c = omega (arith, c.requires.1, c.requires.0.few)

pub bounds-commands-k : goal.bounds-commands-k
bounds-commands-k c = omega (arith, c.requires.1, c.requires.0.few, c.requires.0.room)

pub overflow_sub-i : goal.overflow_sub-i
overflow_sub-i c = omega (arith, c.wide_short.ensures, c.requires.0.spans.up c.args.k c.requires.1, c.requires.0.spans.inside c.args.k c.requires.1)

pub loop-head-init : goal.loop-head-init
loop-head-init c = (rw c.wide_short.ensures (walk_start c.args.text.now c.args.commands.now c.args.k c.args.marks.now c.requires.3), omega arith)

pub pol_word-requires : goal.pol_word-requires
pol_word-requires c = c.loop-head.invariant.1

pub push_holds-requires : goal.push_holds-requires
push_holds-requires c = (c.requires.0, omega (arith, c.requires.1), c.requires.2, (c.loop-head.i, subst (PolHeadIn c.args.text.now c.loop-head.i) c.in-Ok.is c.pol_word.ensures.1))

pub returns-in_default : goal.returns-in_default
returns-in_default c = let z : ⊥ = walk-word c.loop-head.invariant.0 _ (subst (PolWordIs c.args.text.now c.loop-head.i) c.in_default.is c.pol_word.ensures.0) in absurd z

pub returns-then-not-push_holds : goal.returns-then-not-push_holds
returns-then-not-push_holds c = walk_not c.loop-head.invariant.0 c.in-Ok.head (subst (PolWordIs c.args.text.now c.loop-head.i) c.in-Ok.is c.pol_word.ensures.0) c.push_holds.ensures c.if-not-push_holds.true

pub closes-requires : goal.closes-requires
closes-requires c = rw c.behind-i.ensures (head-inside c.args.text.now c.loop-head.i c.in-Ok.head (subst (PolHeadIn c.args.text.now c.loop-head.i) c.in-Ok.is c.pol_word.ensures.1))

pub returns-then-is_some : goal.returns-then-is_some
returns-then-is_some c = walk-ended c.loop-head.invariant.0 c.in-Ok.head (subst (PolWordIs c.args.text.now c.loop-head.i) c.in-Ok.is c.pol_word.ensures.0) c.push_holds.ensures c.if-not-push_holds.false (sym (rw c.behind-i.ensures at c.closes.ensures.0)) (closed-yes c.args.text.now _ c.closes.result c.closes.ensures.1 (sym c.is_some.ensures ∙ c.if-is_some.true))

pub loop-head-smaller : goal.loop-head-smaller
loop-head-smaller c = let h = head-later c.args.text.now c.loop-head.i c.in-Ok.head (subst (PolHeadIn c.args.text.now c.loop-head.i) c.in-Ok.is c.pol_word.ensures.1) in omega (arith, h, c.behind-i.ensures, head-inside c.args.text.now c.loop-head.i c.in-Ok.head (subst (PolHeadIn c.args.text.now c.loop-head.i) c.in-Ok.is c.pol_word.ensures.1))

pub loop-head-preserved : goal.loop-head-preserved
loop-head-preserved c = (rw c.behind-i.ensures (walk_more c.loop-head.invariant.0 c.in-Ok.head (subst (PolWordIs c.args.text.now c.loop-head.i) c.in-Ok.is c.pol_word.ensures.0) c.push_holds.ensures c.if-not-push_holds.false (sym (rw c.behind-i.ensures at c.closes.ensures.0) ∙ closed-no c.closes.result (sym c.is_some.ensures ∙ c.if-is_some.false))), rw c.behind-i.ensures (head-inside c.args.text.now c.loop-head.i c.in-Ok.head (subst (PolHeadIn c.args.text.now c.loop-head.i) c.in-Ok.is c.pol_word.ensures.1)))
