-- `ending::lit_before` owes the order of literals: of one variable plain before negated, of two their names in byte order. Assumes nothing.
use mathlib.Core.Path.{sym, ◌∙◌}
use Rattle.ending.proofs.Naming.{lit-same, names-asked, names-answer}
use Rattle.ending.proofs.lit_before.Goals as goal

pub returns-then-v-w : goal.returns-then-v-w
returns-then-v-w c = lit-same c.requires (sym (c.wide-v.ensures ∙ c.variable_of.ensures) ∙ c.if-v-w.true ∙ c.wide-w.ensures ∙ c.variable_of-2.ensures)

pub name_before-requires : goal.name_before-requires
name_before-requires c = names-asked c.requires (c.wide-v.ensures ∙ c.variable_of.ensures) (c.wide-w.ensures ∙ c.variable_of-2.ensures) c.first_of-a.ensures c.second_of-b.ensures c.first_of-c.ensures c.second_of-d.ensures

pub returns : goal.returns
returns c = names-answer c.requires (c.wide-v.ensures ∙ c.variable_of.ensures) (c.wide-w.ensures ∙ c.variable_of-2.ensures) c.first_of-a.ensures c.second_of-b.ensures c.first_of-c.ensures c.second_of-d.ensures c.if-v-w.false c.name_before.ensures
