-- What the counts leave of the rule is the link itself.
use mathlib.Core.Path.{◌∙◌, sym}
use mathlib.Core.List.{map}
use native.Mathlib.Omega.{arith}
use Rattle.std.proofs.lemmas.Result.{err_from_is_err_and}
use Rattle.calculus.specs.Rules.{single}
use Rattle.calculus.specs.Terms.{Term}
use Rattle.calculus.specs.Words.{bind}
use Rattle.matching.specs.Matched.{term}
use Rattle.matching.proofs.Checks.{bind-of, bind-bad}
use Rattle.links.proofs.Fronts.{single_of, single-not}
use Rattle.links.proofs.Linking.{part-is}
use Rattle.links.specs.Steps.{part_term}
use Rattle.links.proofs.cp_part.Goals as goal

pub returns-then-conclusion-ne1 : goal.returns-then-conclusion-ne1
returns-then-conclusion-ne1 c = λ x I. let O = rw c.in_ok-clause.was at c.one_premise.ensures in sym (O.is x.text (λ (a s : Term). bind (single (map (term x) c.args.conclusion.now)) (λ (n : Term). part_term a s n)) ∙ bind-bad _ _ 21 (single-not (term x) c.args.conclusion.now (λ e. omega arith))) ∙ part-is _ _ _

pub returns-in_err-clause : goal.returns-in_err-clause
returns-in_err-clause c = let p = err_from_is_err_and c.from_residual.result c.from_residual.ensures.1 in rw (p.1, p.2) (λ x I. sym ((rw c.in_err-clause.was at c.one_premise.ensures) x.text (λ (a s : Term). bind (single (map (term x) c.args.conclusion.now)) (λ (n : Term). part_term a s n))) ∙ part-is _ _ _)

pub returns : goal.returns
returns c = λ x I. let O = rw c.in_ok-clause.was at c.one_premise.ensures in c.part_agrees.ensures x (O.before x.n c.args.conclusion.now I).0 (O.before x.n c.args.conclusion.now I).1 (I.conclusion 0 (omega arith)) ∙ sym (O.is x.text (λ (a s : Term). bind (single (map (term x) c.args.conclusion.now)) (λ (n : Term). part_term a s n)) ∙ bind-of _ _ _ (single_of (term x) c.args.conclusion.now (omega arith))) ∙ part-is _ _ _
