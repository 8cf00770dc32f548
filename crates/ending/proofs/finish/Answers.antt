-- `ending::finish` owes the stack's one entry, without zeros and in order, as summands: what its parts answer, put together.
use Rattle.ending.proofs.Finishing.{nonzero_asked, order_asked, words-near, finish-all}
use Rattle.ending.proofs.finish.Goals as goal

pub nonzero-r-requires : goal.nonzero-r-requires
nonzero-r-requires c = nonzero_asked c.requires.0 c.requires.1

pub order-requires : goal.order-requires
order-requires c = order_asked c.requires.0 c.requires.1 c.nonzero-r.ensures.0 c.nonzero-r.ensures.1

pub put_words-requires : goal.put_words-requires
put_words-requires c = (c.order.ensures.gathered, words-near c.requires.0 c.requires.1 c.nonzero-r.ensures.0 c.nonzero-r.ensures.1 c.order.ensures c.requires.2, c.requires.3)

pub returns : goal.returns
returns c = finish-all c.requires.0 c.requires.1 c.nonzero-r.ensures.0 c.nonzero-r.ensures.1 c.order.ensures c.put_words.ensures
