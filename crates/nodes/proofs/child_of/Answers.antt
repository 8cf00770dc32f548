-- `nodes::child_of` meets its contract: the word read is that of the number behind the first child word.
use Rattle.nodes.proofs.child_of.Goals as goal

pub returns : goal.returns
returns c = rw (← c.child_base.ensures) c.wide.ensures
