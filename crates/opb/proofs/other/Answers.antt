-- `opb::other` owes the meaning of a word that is no number and does not begin with `x`. Assumes nothing.
use mathlib.Core.Path.{sym, ◌∙◌}
use Rattle.opb.proofs.Meanings.{other-at_least, other-equal, other-min, other-max, other_none}
use borrow.Author.Rules.{rules}
use Rattle.opb.proofs.other.Goals as goal

pub negated_literal-requires : goal.negated_literal-requires
negated_literal-requires c = (search rules, search rules, c.if-text-from-eq126.true)

pub returns-then-text-from-eq126 : goal.returns-then-text-from-eq126
returns-then-text-from-eq126 c = c.negated_literal.ensures

pub returns-then-same : goal.returns-then-same
returns-then-same c = (other-at_least c.args.text.now c.args.from c.args.to (sym c.if-same.true ∙ c.same.ensures), search rules)

pub returns-then-same-2 : goal.returns-then-same-2
returns-then-same-2 c = (other-equal c.args.text.now c.args.from c.args.to (sym c.if-same.false ∙ c.same.ensures) (sym c.if-same-2.true ∙ c.same-2.ensures), search rules)

pub returns-then-same-3 : goal.returns-then-same-3
returns-then-same-3 c = (other-min c.args.text.now c.args.from c.args.to (sym c.if-same.false ∙ c.same.ensures) (sym c.if-same-2.false ∙ c.same-2.ensures) (sym c.if-same-3.true ∙ c.same-3.ensures), search rules)

pub returns-then-same-4 : goal.returns-then-same-4
returns-then-same-4 c = (other-max c.args.text.now c.args.from c.args.to (sym c.if-same.false ∙ c.same.ensures) (sym c.if-same-2.false ∙ c.same-2.ensures) (sym c.if-same-3.false ∙ c.same-3.ensures) (sym c.if-same-4.true ∙ c.same-4.ensures), search rules)

pub returns : goal.returns
returns c = (other_none c.args.text.now c.args.from c.args.to (sym c.if-same.false ∙ c.same.ensures) (sym c.if-same-2.false ∙ c.same-2.ensures) (search rules) (search rules) c.if-text-from-eq126.false c.requires.2 (sym c.if-same-3.false ∙ c.same-3.ensures) (sym c.if-same-4.false ∙ c.same-4.ensures), search rules)
