-- `wider::widen` owes the nodes and child words in use in a larger table: two copies, the second behind the first.
use Rattle.wider.proofs.Copying.{moved_by}
use Rattle.wider.proofs.widen.Goals as goal

pub returns : goal.returns
returns c = moved_by c.requires.0 c.requires.1 c.copy_words.ensures c.child_base-from.ensures c.child_base-to.ensures c.copy_words-2.ensures
