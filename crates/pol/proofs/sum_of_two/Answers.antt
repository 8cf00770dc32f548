-- `pol::sum_of_two` owes the two top entries of the stack, added and reduced.
use mathlib.Core.Path.{refl, ◌∙◌}
use Rattle.integer.proofs.Signed.{back}
use Rattle.pol.proofs.Summing.{constants_fit, total-is, slack-fits, rest-is, first-asked, totals-within, add-asked, reduce_asked, summed}
use Rattle.pol.proofs.sum_of_two.Goals as goal

pub add-total-requires : goal.add-total-requires
add-total-requires c = let w = totals-within c.requires.stack.0 c.requires.stack.1 c.requires.rooms in constants_fit c.constant_of.ensures c.constant_of-2.ensures w.0 w.1

pub load-n-requires : goal.load-n-requires
load-n-requires c = let asked = first-asked c.requires.stack.0 c.requires.stack.1 c.requires.rooms in record {
  standing = asked.0;
  room = asked.1;
}

pub add_pbsums-both-requires : goal.add_pbsums-both-requires
add_pbsums-both-requires c = let asked = add-asked c.requires.stack.0 c.requires.stack.1 c.requires.rooms c.load-n.ensures c.count_of-m.ensures in record {
  room = asked.0;
  fine = asked.1.0;
  listed = asked.1.1;
}

pub reduce_pbsum-slack-requires : goal.reduce_pbsum-slack-requires
reduce_pbsum-slack-requires c = let asked = reduce_asked c.requires.stack.0 c.requires.stack.1 c.requires.rooms c.load-n.ensures c.count_of-m.ensures c.add_pbsums-both.ensures in record {
  keyed = asked.0;
  max_entries_in_bounds = asked.1;
}

pub subtract-requires : goal.subtract-requires
subtract-requires c = let w = totals-within c.requires.stack.0 c.requires.stack.1 c.requires.rooms in slack-fits c.constant_of.ensures c.constant_of-2.ensures w.0 w.1 c.add-total.ensures c.reduce_pbsum-slack.ensures.0.within

pub returns : goal.returns
returns c = let w = totals-within c.requires.stack.0 c.requires.stack.1 c.requires.rooms in summed c.requires.stack.0 c.requires.stack.1 c.requires.rooms c.load-n.ensures c.count_of-m.ensures c.add_pbsums-both.ensures c.reduce_pbsum-slack.ensures.0 c.reduce_pbsum-slack.ensures.1 (total-is c.constant_of.ensures c.constant_of-2.ensures w.0 w.1 c.add-total.ensures) refl (back c.subtract.result c.subtract.type_inv ∙ rest-is c.constant_of.ensures c.constant_of-2.ensures w.0 w.1 c.add-total.ensures c.reduce_pbsum-slack.ensures.0.within c.subtract.ensures)
