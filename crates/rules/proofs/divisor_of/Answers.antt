-- Each way out is one law of proofs/Mapping.
-- Each way out is one law of proofs/Mapping.
use mathlib.Core.Bool.{false}
use mathlib.Core.Path.{◌∙◌, sym, ap}
use native.Mathlib.Omega.{arith}
use lib.IntN.{ℤ, pos}
use lib.Signed.{lt_z}
use Rattle.matching.proofs.Matches.{kept}
use Rattle.matching.specs.declared.Refusal.TheVariants.{ExpectedAnyInteger}
use Rattle.sums.proofs.Reading.{passed, refused}
use Rattle.rules.proofs.Mapping.{over-24, over-27, over-28, over-21, over-all, over-one, positive}
use mathlib.Core.Path.{◌≡◌}
use Rattle.rules.proofs.divisor_of.Goals as goal

pub returns-then-less : goal.returns-then-less
returns-then-less c = over-27 c.args.nodes.now c.args.commands.now c.args.premises.now c.args.args.now c.args.conclusion.now (rw c.in_ok-clause.was at c.one_premise.ensures) (rw (rw c.in_ok-divisor.was at c.ok_or.ensures.ok_part) at c.as_constant.ensures) (ap (λ (z : ℤ). lt_z z (pos 0)) (sym (kept (omega arith) (rw (rw c.in_ok-divisor.was at c.ok_or.ensures.ok_part) at c.as_constant.ensures).within)) ∙ sym c.less.ensures ∙ c.if-less.true)

pub returns-then-is_zero : goal.returns-then-is_zero
returns-then-is_zero c = over-28 c.args.nodes.now c.args.commands.now c.args.premises.now c.args.args.now c.args.conclusion.now (rw c.in_ok-clause.was at c.one_premise.ensures) (rw (rw c.in_ok-divisor.was at c.ok_or.ensures.ok_part) at c.as_constant.ensures) (ap (λ (z : ℤ). lt_z z (pos 0)) (sym (kept (omega arith) (rw (rw c.in_ok-divisor.was at c.ok_or.ensures.ok_part) at c.as_constant.ensures).within)) ∙ sym c.less.ensures ∙ c.if-less.false) (sym (kept (omega arith) (rw (rw c.in_ok-divisor.was at c.ok_or.ensures.ok_part) at c.as_constant.ensures).within) ∙ c.is_zero.ensures.yes c.if-is_zero.true)

pub returns-then-conclusion-ne1 : goal.returns-then-conclusion-ne1
returns-then-conclusion-ne1 c = over-21 c.args.nodes.now c.args.commands.now c.args.premises.now c.args.args.now c.args.conclusion.now (rw c.in_ok-clause.was at c.one_premise.ensures) (rw (rw c.in_ok-divisor.was at c.ok_or.ensures.ok_part) at c.as_constant.ensures) (ap (λ (z : ℤ). lt_z z (pos 0)) (sym (kept (omega arith) (rw (rw c.in_ok-divisor.was at c.ok_or.ensures.ok_part) at c.as_constant.ensures).within)) ∙ sym c.less.ensures ∙ c.if-less.false) (λ e. c.is_zero.ensures.no c.if-is_zero.false (kept (omega arith) (rw (rw c.in_ok-divisor.was at c.ok_or.ensures.ok_part) at c.as_constant.ensures).within ∙ e)) (λ e. omega arith)

pub returns-in_err-clause : goal.returns-in_err-clause
returns-in_err-clause c = rw (passed c.from_residual.result c.from_residual.ensures.1) (over-one c.args.nodes.now c.args.commands.now c.args.premises.now c.args.args.now c.args.conclusion.now _ (rw c.in_err-clause.was at c.one_premise.ensures))

pub returns-in_err-divisor : goal.returns-in_err-divisor
returns-in_err-divisor c = let w = refused c.as_constant.result ExpectedAnyInteger c.from_residual-in_err-divisor.result c.ok_or.ensures.value c.in_err-divisor.was c.from_residual-in_err-divisor.ensures.1 in
    rw w.1 (over-24 c.args.nodes.now c.args.commands.now c.args.premises.now c.args.args.now c.args.conclusion.now (rw c.in_ok-clause.was at c.one_premise.ensures) (rw w.0 at c.as_constant.ensures))

pub returns : goal.returns
returns c = let h : lt_z c.in_ok-divisor.divisor (pos 0) ≡ false = ap (λ (z : ℤ). lt_z z (pos 0)) (sym (kept (omega arith) (rw (rw c.in_ok-divisor.was at c.ok_or.ensures.ok_part) at c.as_constant.ensures).within)) ∙ sym c.less.ensures ∙ c.if-less.false in let g : c.in_ok-divisor.divisor ≡ pos 0 → ⊥ = λ e. c.is_zero.ensures.no c.if-is_zero.false (kept (omega arith) (rw (rw c.in_ok-divisor.was at c.ok_or.ensures.ok_part) at c.as_constant.ensures).within ∙ e) in
    rw (kept (omega arith) (rw (rw c.in_ok-divisor.was at c.ok_or.ensures.ok_part) at c.as_constant.ensures).within) (over-all c.args.nodes.now c.args.commands.now c.args.premises.now c.args.args.now c.args.conclusion.now (rw c.in_ok-clause.was at c.one_premise.ensures) (rw (rw c.in_ok-divisor.was at c.ok_or.ensures.ok_part) at c.as_constant.ensures) h g c.requires.all_nodes (omega arith), positive _ h g)
