-- The variable of the argument's literal is the definition's.
use Rattle.links.proofs.Literals.{literal-name}
use Rattle.links.proofs.is_literal.Goals as goal

pub is_name-requires : goal.is_name-requires
is_name-requires c = rw c.variable_of.ensures c.literal_of.ensures.inner.node

pub returns : goal.returns
returns c = literal-name c.literal_of.ensures _ (rw c.variable_of.ensures at c.is_name.ensures)
