-- `terms::put_numeral` owes the node of a numeral: its kind tells the sign. Assumes nothing.
use Rattle.terms.proofs.put_numeral.Goals as goal

pub returns-then-negative : goal.returns-then-negative
returns-then-negative c = rw c.if-negative.true c.put_node.ensures

pub returns-else-negative : goal.returns-else-negative
returns-else-negative c = rw c.if-negative.false c.put_node-else-negative.ensures
