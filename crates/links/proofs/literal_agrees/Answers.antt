-- Each way out is one law of proofs/Literals.
use mathlib.Core.Path.{◌∙◌, sym}
use native.Mathlib.Omega.{arith}
use Rattle.matching.proofs.Matches.{kept}
use Rattle.links.proofs.Fronts.{refused}
use Rattle.links.proofs.Literals.{literal-36, literal-term, literal-24, literal-34, literal_product}
use Rattle.links.proofs.literal_agrees.Goals as goal

pub returns-in_err-s : goal.returns-in_err-s
returns-in_err-s c = rw (refused _ c.from_residual.ensures.1 c.in_err-s.ensures.ok_part c.in_err-s.ensures.value) (λ x a t. literal-36 x _ _ (rw c.in_err-s.ensures.ok_part at c.side_of.ensures))

pub returns-in_default : goal.returns-in_default
returns-in_default c = λ x a t. let S = rw c.in_ok-s.ensures.ok_part at c.side_of.ensures in literal-term x _ _ S _ (rw c.in_default.is at c.binary.ensures) (c.same_as.ensures x (omega (arith, S.inner.before)) a)

pub returns-in_err-z : goal.returns-in_err-z
returns-in_err-z c = rw (refused _ c.from_residual-in_err-z.ensures.1 c.in_err-z.ensures.ok_part c.in_err-z.ensures.value) (λ x a t. literal-24 x _ _ (rw c.in_ok-s.ensures.ok_part at c.side_of.ensures) (rw c.in-Some.is at c.binary.ensures) (rw c.in_err-z.ensures.ok_part at c.as_constant.ensures))

pub returns-then-not-equal : goal.returns-then-not-equal
returns-then-not-equal c = λ x a t. let Z = rw c.in_ok-z.ensures.ok_part at c.as_constant.ensures in literal-34 x _ _ (rw c.in_ok-s.ensures.ok_part at c.side_of.ensures) (rw c.in-Some.is at c.binary.ensures) Z (λ e. c.equal.ensures.no c.if-not-equal.true (kept (omega arith) Z.within ∙ e))

pub returns : goal.returns
returns c = λ x a t. let S = rw c.in_ok-s.ensures.ok_part at c.side_of.ensures in let B = rw c.in-Some.is at c.binary.ensures in let Z = rw c.in_ok-z.ensures.ok_part at c.as_constant.ensures in literal_product x _ _ S B Z _ (sym (kept (omega arith) Z.within) ∙ c.equal.ensures.yes c.if-not-equal.false) (c.same_as-2.ensures x (omega (arith, S.inner.before, B.right.before)) a)
