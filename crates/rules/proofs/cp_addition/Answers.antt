-- What the counts leave of the rule is the addition of the two inequalities.
use mathlib.Core.Path.{◌∙◌, sym}
use Rattle.sums.proofs.Reading.{passed}
use Rattle.rules.specs.Checked.{add_terms}
use Rattle.rules.proofs.Adding.{addition-is, three-read}
use Rattle.rules.proofs.Unread.{add-refused}
use Rattle.rules.proofs.cp_addition.Goals as goal

pub returns-in_err-left : goal.returns-in_err-left
returns-in_err-left c = rw (passed c.from_residual.result c.from_residual.ensures.1) (λ x I. sym ((rw c.in_err-left.was at c.two_premises.ensures) x.text add_terms) ∙ addition-is _ _ _)

pub returns-in_err-three : goal.returns-in_err-three
returns-in_err-three c = let B = rw c.in_ok-left.was at c.two_premises.ensures in let R = rw c.in_err-three.was at c.unwrap_three.ensures in
    rw (passed c.from_residual-in_err-three.result c.from_residual-in_err-three.ensures.1) (λ x I. sym (add-refused R.0 x (B.before x.n I).0 (B.before x.n I).1 (B.before x.n I).2) ∙ sym (B.is x.text add_terms) ∙ addition-is _ _ _)

pub returns : goal.returns
returns c = λ x I. let B = rw c.in_ok-left.was at c.two_premises.ensures in let R = rw c.in_ok-three.was at c.unwrap_three.ensures in three-read c.in_ok-three.three R.0 c.added.result c.added.ensures x (B.before x.n I).0 (B.before x.n I).1 (B.before x.n I).2 ∙ sym (B.is x.text add_terms) ∙ addition-is _ _ _
