-- `lines::run_words` owes what the stack machine makes of a line's words. The invariant: what it makes of those before this byte.
use mathlib.Core.Path.{refl, sym, subst, ◌∙◌}
use Rattle.heads.specs.PolHeads.{PolWordIs, PolHeadIn}
use native.Mathlib.Omega.{arith}
use Rattle.lines.proofs.Passing.{pass-start, pass-room, pass_failed, pass-more, pass-ended, pass_uneven, pass-none, closed-yes, closed-no, head-inside, head-later}
use Rattle.lines.proofs.run_words.Goals as goal

pub loop-head-init : goal.loop-head-init
loop-head-init c = (pass-start c.args.from c.requires.0 c.requires.1, c.requires.2, refl, refl, refl, refl, refl)

pub pol_word-requires : goal.pol_word-requires
pol_word-requires c = c.loop-head.invariant.1

pub returns-in_default : goal.returns-in_default
returns-in_default c = pass-none c.loop-head.invariant.0 _ (subst (PolWordIs c.args.text.now c.loop-head.i) c.in_default.is c.pol_word.ensures.0)

pub run_word-word-requires : goal.run_word-word-requires
run_word-word-requires c = record {
  going = (c.loop-head.invariant.0.going, pass-room c.loop-head.invariant.0);
  head_in = (c.loop-head.i, subst (PolHeadIn c.args.text.now c.loop-head.i) c.in-Ok.is c.pol_word.ensures.1);
}

pub shape_of-nodes-then-word-ne0 : goal.shape_of-nodes-then-word-ne0
shape_of-nodes-then-word-ne0 c = c.run_word-word.auto.nodes ∙ c.loop-head.invariant.2

pub shape_of-names-then-word-ne0 : goal.shape_of-names-then-word-ne0
shape_of-names-then-word-ne0 c = c.run_word-word.auto.names ∙ c.loop-head.invariant.3

pub shape_of-coeffs-then-word-ne0 : goal.shape_of-coeffs-then-word-ne0
shape_of-coeffs-then-word-ne0 c = c.run_word-word.auto.coeffs ∙ c.loop-head.invariant.4

pub shape_of-keys-then-word-ne0 : goal.shape_of-keys-then-word-ne0
shape_of-keys-then-word-ne0 c = c.run_word-word.auto.keys ∙ c.loop-head.invariant.5

pub shape_of-slots-then-word-ne0 : goal.shape_of-slots-then-word-ne0
shape_of-slots-then-word-ne0 c = c.run_word-word.auto.slots ∙ c.loop-head.invariant.6

pub returns-then-word-ne0 : goal.returns-then-word-ne0
returns-then-word-ne0 c = pass_failed c.loop-head.invariant.0 (subst (PolWordIs c.args.text.now c.loop-head.i) c.in-Ok.is c.pol_word.ensures.0) c.run_word-word.ensures (λ e. omega (arith, c.if-word-ne0.true))

pub closes-requires : goal.closes-requires
closes-requires c = rw c.behind-i.ensures (head-inside c.args.text.now c.loop-head.i c.in-Ok.head (subst (PolHeadIn c.args.text.now c.loop-head.i) c.in-Ok.is c.pol_word.ensures.1))

pub shape_of-nodes-then-d-ne1 : goal.shape_of-nodes-then-d-ne1
shape_of-nodes-then-d-ne1 c = c.run_word-word.auto.nodes ∙ c.loop-head.invariant.2

pub shape_of-names-then-d-ne1 : goal.shape_of-names-then-d-ne1
shape_of-names-then-d-ne1 c = c.run_word-word.auto.names ∙ c.loop-head.invariant.3

pub shape_of-coeffs-then-d-ne1 : goal.shape_of-coeffs-then-d-ne1
shape_of-coeffs-then-d-ne1 c = c.run_word-word.auto.coeffs ∙ c.loop-head.invariant.4

pub shape_of-keys-then-d-ne1 : goal.shape_of-keys-then-d-ne1
shape_of-keys-then-d-ne1 c = c.run_word-word.auto.keys ∙ c.loop-head.invariant.5

pub shape_of-slots-then-d-ne1 : goal.shape_of-slots-then-d-ne1
shape_of-slots-then-d-ne1 c = c.run_word-word.auto.slots ∙ c.loop-head.invariant.6

pub returns-then-d-ne1 : goal.returns-then-d-ne1
returns-then-d-ne1 c = pass_uneven c.loop-head.invariant.0 (subst (PolWordIs c.args.text.now c.loop-head.i) c.in-Ok.is c.pol_word.ensures.0) c.run_word-word.ensures (omega (arith, c.if-word-ne0.false)) (sym (rw c.behind-i.ensures at c.closes.ensures.0)) (closed-yes c.args.text.now _ c.closes.result c.closes.ensures.1 (sym c.is_some.ensures ∙ c.if-is_some.true)) (λ e. omega (arith, c.if-d-ne1.true))

pub shape_of-nodes-then-is_some : goal.shape_of-nodes-then-is_some
shape_of-nodes-then-is_some c = c.run_word-word.auto.nodes ∙ c.loop-head.invariant.2

pub shape_of-names-then-is_some : goal.shape_of-names-then-is_some
shape_of-names-then-is_some c = c.run_word-word.auto.names ∙ c.loop-head.invariant.3

pub shape_of-coeffs-then-is_some : goal.shape_of-coeffs-then-is_some
shape_of-coeffs-then-is_some c = c.run_word-word.auto.coeffs ∙ c.loop-head.invariant.4

pub shape_of-keys-then-is_some : goal.shape_of-keys-then-is_some
shape_of-keys-then-is_some c = c.run_word-word.auto.keys ∙ c.loop-head.invariant.5

pub shape_of-slots-then-is_some : goal.shape_of-slots-then-is_some
shape_of-slots-then-is_some c = c.run_word-word.auto.slots ∙ c.loop-head.invariant.6

pub returns-then-is_some : goal.returns-then-is_some
returns-then-is_some c = pass-ended c.loop-head.invariant.0 (subst (PolWordIs c.args.text.now c.loop-head.i) c.in-Ok.is c.pol_word.ensures.0) c.run_word-word.ensures (omega (arith, c.if-word-ne0.false)) (sym (rw c.behind-i.ensures at c.closes.ensures.0)) (closed-yes c.args.text.now _ c.closes.result c.closes.ensures.1 (sym c.is_some.ensures ∙ c.if-is_some.true)) (omega (arith, c.if-d-ne1.false))

pub loop-head-smaller : goal.loop-head-smaller
loop-head-smaller c = let h = head-later c.args.text.now c.loop-head.i c.in-Ok.head (subst (PolHeadIn c.args.text.now c.loop-head.i) c.in-Ok.is c.pol_word.ensures.1) in omega (arith, h, c.behind-i.ensures, head-inside c.args.text.now c.loop-head.i c.in-Ok.head (subst (PolHeadIn c.args.text.now c.loop-head.i) c.in-Ok.is c.pol_word.ensures.1))

pub loop-head-preserved : goal.loop-head-preserved
loop-head-preserved c = (rw c.behind-i.ensures (pass-more c.loop-head.invariant.0 (subst (PolWordIs c.args.text.now c.loop-head.i) c.in-Ok.is c.pol_word.ensures.0) c.run_word-word.ensures (omega (arith, c.if-word-ne0.false)) (sym (rw c.behind-i.ensures at c.closes.ensures.0) ∙ closed-no c.closes.result (sym c.is_some.ensures ∙ c.if-is_some.false))), rw c.behind-i.ensures (head-inside c.args.text.now c.loop-head.i c.in-Ok.head (subst (PolHeadIn c.args.text.now c.loop-head.i) c.in-Ok.is c.pol_word.ensures.1)), c.run_word-word.auto.nodes ∙ c.loop-head.invariant.2, c.run_word-word.auto.names ∙ c.loop-head.invariant.3, c.run_word-word.auto.coeffs ∙ c.loop-head.invariant.4, c.run_word-word.auto.keys ∙ c.loop-head.invariant.5, c.run_word-word.auto.slots ∙ c.loop-head.invariant.6)
