-- Each way out is one law of proofs/Matches.
use mathlib.Core.Path.{◌∙◌, sym}
use native.Mathlib.Omega.{arith}
use Rattle.matching.proofs.Matches.{kept}
use Rattle.matching.proofs.Matches.{negation-none, negation-term, negation-other, negation-one}
use Rattle.matching.proofs.negation_of.Goals as goal

pub as_constant-requires : goal.as_constant-requires
as_constant-requires c = (rw c.in_ok-a.was at c.binary.ensures).left.node

pub returns-in_err-a : goal.returns-in_err-a
returns-in_err-a c = rw c.from_residual.ensures (negation-none _ _ (rw c.in_err-a.was at c.binary.ensures))

pub returns-in_err-z : goal.returns-in_err-z
returns-in_err-z c = rw c.from_residual-in_err-z.ensures (negation-term _ _ (rw c.in_ok-a.was at c.binary.ensures) (rw c.in_err-z.was at c.as_constant.ensures))

pub returns-then-equal : goal.returns-then-equal
returns-then-equal c = negation-one _ _ (rw c.in_ok-a.was at c.binary.ensures) (rw c.in_ok-z.was at c.as_constant.ensures) (sym (kept (omega arith) (rw c.in_ok-z.was at c.as_constant.ensures).within) ∙ c.equal.ensures.yes c.if-equal.true)

pub returns-else-equal : goal.returns-else-equal
returns-else-equal c = negation-other _ _ (rw c.in_ok-a.was at c.binary.ensures) (rw c.in_ok-z.was at c.as_constant.ensures) (λ e. c.equal.ensures.no c.if-equal.false (kept (omega arith) (rw c.in_ok-z.was at c.as_constant.ensures).within ∙ e))
