-- Where the part starts and ends is what the command's words say.
use Rattle.links.proofs.Fronts.{part-is}
use Rattle.links.proofs.part_of.Goals as goal

pub returns : goal.returns
returns c = part-is c.args.nodes.now c.args.commands.now c.args.k c.args.j c.child_base.result c.word_of.result c.word_of-2.result c.child_base.ensures c.word_of.ensures c.word_of-2.ensures
