-- `terms::put_variable` owes the node of a variable under the number of the first node with its name, and the names with it among them. Assumes nothing.
use Rattle.terms.proofs.Naming.{variable-old, variable-new}
use Rattle.terms.proofs.put_variable.Goals as goal

pub returns-then-k-n : goal.returns-then-k-n
returns-then-k-n c = variable-new c.requires.1 c.requires.2 c.requires.4 c.requires.5 c.requires.6 c.first_node-k.ensures c.put_node.ensures c.if-k-n.true c.hash-h.ensures.0 c.enter.ensures

pub returns-else-k-n : goal.returns-else-k-n
returns-else-k-n c = variable-old c.requires.1 c.requires.2 c.requires.4 c.requires.5 c.requires.6 c.first_node-k.ensures c.put_node.ensures c.if-k-n.false
