-- `sums::same_literal` owes whether two keys are one literal. The signs decide where they differ, else the comparison of the two terms.
use mathlib.Core.Path.{sym, ◌∙◌}
use Rattle.sums.proofs.Slots.{differ_of, agree_of, same-sign_differs, same-terms}
use Rattle.matching.proofs.Matches.{pair-nodes}
use Rattle.sums.proofs.same_literal.Goals as goal

pub returns-then-negated_of : goal.returns-then-negated_of
returns-then-negated_of c = same-sign_differs c.args.nodes.now c.args.key c.args.other (λ e. differ_of c.negated_of.result c.negated_of-2.result c.if-negated_of.true (c.negated_of.ensures ∙ e ∙ sym c.negated_of-2.ensures))

pub equal-requires : goal.equal-requires
equal-requires c = rw (c.wide.ensures, c.variable_of.ensures, c.wide-2.ensures, c.variable_of-2.ensures) (pair-nodes c.requires.node c.requires.node_2)

pub returns : goal.returns
returns c = same-terms c.args.nodes.now c.args.key c.args.other c.equal.result c.wide.result c.wide-2.result (c.wide.ensures ∙ c.variable_of.ensures) (c.wide-2.ensures ∙ c.variable_of-2.ensures) (sym c.negated_of.ensures ∙ agree_of c.negated_of.result c.negated_of-2.result c.if-negated_of.false ∙ c.negated_of-2.ensures) c.equal.ensures
