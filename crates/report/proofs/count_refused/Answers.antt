-- count_refused: owes how many lines are refused: the loop keeps their count among those of the first answers, whatever lines have these answers.
use mathlib.Core.Path.{sym, ◌∙◌}
use native.Mathlib.Omega.{arith}
use lib.Seq.{length-take-le, get_or-take}
use Rattle.report.proofs.Totals.{refused_none, refused-one, refused-same, refused_all}
use Rattle.report.proofs.count_refused.Goals as goal
use Rattle.report.proofs.count_refused.Goals.{then-number-ne0, else-number-ne0}

pub loop-number-init : goal.loop-number-init
loop-number-init c = (omega arith, λ ls are. refused_none ls)

pub loop-number-preserved : goal.loop-number-preserved
loop-number-preserved c =
    let long = length-take-le c.args.n c.args.numbers.now c.requires in
    let same = get_or-take c.args.n c.args.numbers.now c.loop-number.number-index 0 (omega arith) in
    elim c.if-number-ne0.branch [
      | then-number-ne0 w ↦ (omega (arith, w.refused-is), λ ls are. refused-one are (omega arith) (c.loop-number.invariant.1 ls are) (λ e. w.if-number-ne0.true (same ∙ e)) ∙ sym w.refused-is)
      | else-number-ne0 w ↦ (omega (arith, w.refused-is), λ ls are. refused-same are (omega arith) (c.loop-number.invariant.1 ls are) (sym same ∙ w.if-number-ne0.false) ∙ sym w.refused-is)
    ]

pub returns-clause-ls_value : goal.returns-clause-ls_value
returns-clause-ls_value c ls are = refused_all are (omega (arith, length-take-le c.args.n c.args.numbers.now c.requires)) (c.loop-number.invariant.1 ls are)
