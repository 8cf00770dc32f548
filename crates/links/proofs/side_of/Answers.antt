-- Each way out is one law of proofs/Literals.
use mathlib.Core.Path.{◌∙◌, sym}
use native.Mathlib.Omega.{arith}
use Rattle.matching.proofs.Matches.{kept}
use Rattle.links.proofs.Literals.{side-none, side-term, side-other, side_zero}
use Rattle.links.proofs.side_of.Goals as goal

pub returns-in_err-s : goal.returns-in_err-s
returns-in_err-s c = rw c.from_residual.ensures (side-none _ _ (rw c.in_err-s.was at c.binary.ensures))

pub returns-in_err-z : goal.returns-in_err-z
returns-in_err-z c = rw c.from_residual-in_err-z.ensures (side-term _ _ (rw c.in_ok-s.was at c.binary.ensures) (rw c.in_err-z.was at c.as_constant.ensures))

pub returns-then-is_zero : goal.returns-then-is_zero
returns-then-is_zero c = side_zero _ _ (rw c.in_ok-s.was at c.binary.ensures) (rw c.in_ok-z.was at c.as_constant.ensures) (sym (kept (omega arith) (rw c.in_ok-z.was at c.as_constant.ensures).within) ∙ c.is_zero.ensures.yes c.if-is_zero.true)

pub returns-else-is_zero : goal.returns-else-is_zero
returns-else-is_zero c = side-other _ _ (rw c.in_ok-s.was at c.binary.ensures) (rw c.in_ok-z.was at c.as_constant.ensures) (λ e. c.is_zero.ensures.no c.if-is_zero.false (kept (omega arith) (rw c.in_ok-z.was at c.as_constant.ensures).within ∙ e))
