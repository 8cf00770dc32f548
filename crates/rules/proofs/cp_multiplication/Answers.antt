-- What the counts leave of the rule is the check of the two inequalities.
use mathlib.Core.Path.{◌∙◌, sym}
use native.Mathlib.Omega.{arith}
use Rattle.matching.proofs.Matches.{kept}
use Rattle.sums.proofs.Reading.{passed}
use Rattle.rules.proofs.Mapping.{by_read, by-refused}
use Rattle.rules.proofs.Unread.{two-refused}
use Rattle.rules.proofs.cp_multiplication.Goals as goal

pub returns-in_err-clause : goal.returns-in_err-clause
returns-in_err-clause c = rw (passed c.from_residual.result c.from_residual.ensures.1) (λ x I. (rw c.in_err-clause.was at c.scalar_of.ensures) x)

pub returns-in_err-premise : goal.returns-in_err-premise
returns-in_err-premise c = let S = rw c.in_ok-clause.was at c.scalar_of.ensures in let T = rw c.in_err-premise.was at c.unwrap_two.ensures in
    rw (passed c.from_residual-in_err-premise.result c.from_residual-in_err-premise.ensures.1) (λ x I. by-refused _ _ (two-refused T.0 x (S.0.before x.n I).0 (S.0.before x.n I).1) _ ∙ sym (S.0.is x))

pub returns : goal.returns
returns c = λ x I. let S = rw c.in_ok-clause.was at c.scalar_of.ensures in let T = rw c.in_ok-premise.was at c.unwrap_two.ensures in by_read c.in_ok-premise.premise c.in_ok-premise.conclusion T.0 x (S.0.before x.n I).0 (S.0.before x.n I).1 _ _ ((rw (kept (omega arith) S.0.within) at c.by_check.ensures) x (λ i l. omega (arith, T.0.first.under i l, (S.0.before x.n I).0)) (λ i l. omega (arith, T.0.second.under i l, (S.0.before x.n I).1))) ∙ sym (S.0.is x)
