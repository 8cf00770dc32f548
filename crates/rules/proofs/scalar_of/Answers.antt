-- Each way out is one law of proofs/Mapping.
use mathlib.Core.Path.{◌∙◌, sym}
use native.Mathlib.Omega.{arith}
use lib.IntN.{ℤ, pos}
use lib.Signed.{lt_z}
use mathlib.Core.Path.{ap}
use Rattle.matching.proofs.Matches.{kept}
use Rattle.matching.specs.declared.Refusal.TheVariants.{ExpectedAnyInteger}
use Rattle.sums.proofs.Reading.{passed, refused}
use Rattle.rules.proofs.Mapping.{times-24, times-27, times-21, times-all, times-one}
use Rattle.rules.proofs.scalar_of.Goals as goal

pub returns-then-less : goal.returns-then-less
returns-then-less c = times-27 c.args.nodes.now c.args.commands.now c.args.premises.now c.args.args.now c.args.conclusion.now (rw c.in_ok-clause.was at c.one_premise.ensures) (rw (rw c.in_ok-scalar.was at c.ok_or.ensures.ok_part) at c.as_constant.ensures) (ap (λ (z : ℤ). lt_z z (pos 0)) (sym (kept (omega arith) (rw (rw c.in_ok-scalar.was at c.ok_or.ensures.ok_part) at c.as_constant.ensures).within)) ∙ sym c.less.ensures ∙ c.if-less.true)

pub returns-then-conclusion-ne1 : goal.returns-then-conclusion-ne1
returns-then-conclusion-ne1 c = times-21 c.args.nodes.now c.args.commands.now c.args.premises.now c.args.args.now c.args.conclusion.now (rw c.in_ok-clause.was at c.one_premise.ensures) (rw (rw c.in_ok-scalar.was at c.ok_or.ensures.ok_part) at c.as_constant.ensures) (ap (λ (z : ℤ). lt_z z (pos 0)) (sym (kept (omega arith) (rw (rw c.in_ok-scalar.was at c.ok_or.ensures.ok_part) at c.as_constant.ensures).within)) ∙ sym c.less.ensures ∙ c.if-less.false) (λ e. omega arith)

pub returns-in_err-clause : goal.returns-in_err-clause
returns-in_err-clause c = rw (passed c.from_residual.result c.from_residual.ensures.1) (times-one c.args.nodes.now c.args.commands.now c.args.premises.now c.args.args.now c.args.conclusion.now _ (rw c.in_err-clause.was at c.one_premise.ensures))

pub returns-in_err-scalar : goal.returns-in_err-scalar
returns-in_err-scalar c = let w = refused c.as_constant.result ExpectedAnyInteger c.from_residual-in_err-scalar.result c.ok_or.ensures.value c.in_err-scalar.was c.from_residual-in_err-scalar.ensures.1 in
    rw w.1 (times-24 c.args.nodes.now c.args.commands.now c.args.premises.now c.args.args.now c.args.conclusion.now (rw c.in_ok-clause.was at c.one_premise.ensures) (rw w.0 at c.as_constant.ensures))

pub returns : goal.returns
returns c = rw (kept (omega arith) (rw (rw c.in_ok-scalar.was at c.ok_or.ensures.ok_part) at c.as_constant.ensures).within) (times-all c.args.nodes.now c.args.commands.now c.args.premises.now c.args.args.now c.args.conclusion.now (rw c.in_ok-clause.was at c.one_premise.ensures) (rw (rw c.in_ok-scalar.was at c.ok_or.ensures.ok_part) at c.as_constant.ensures) (ap (λ (z : ℤ). lt_z z (pos 0)) (sym (kept (omega arith) (rw (rw c.in_ok-scalar.was at c.ok_or.ensures.ok_part) at c.as_constant.ensures).within)) ∙ sym c.less.ensures ∙ c.if-less.false) c.requires.all_nodes (omega arith), tt)
