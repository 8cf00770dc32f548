-- `ending::put_summand` owes the five words of an entry. Assumes nothing.
use mathlib.Core.Path.{◌∙◌}
use native.Mathlib.Omega.{arith}
use Rattle.integer.proofs.Signed.{back}
use Rattle.matching.proofs.Matches.{node-room}
use Rattle.ending.proofs.Wording.{words-put}
use Rattle.ending.proofs.put_summand.Goals as goal

pub magnitude-size-requires : goal.magnitude-size-requires
magnitude-size-requires c = rw (back _ c.c-1.given) (c.requires.0.within c.args.q (omega arith))

pub first_of-a-requires : goal.first_of-a-requires
first_of-a-requires c = rw (c.wide-v.ensures, c.variable_of.ensures) (node-room (c.requires.0.literals c.args.q (omega arith)).node)

pub second_of-b-requires : goal.second_of-b-requires
second_of-b-requires c = rw (c.wide-v.ensures, c.variable_of.ensures) (node-room (c.requires.0.literals c.args.q (omega arith)).node)

pub store_summand-requires : goal.store_summand-requires
store_summand-requires c = (c.requires.2, rw (c.first_of-a.ensures, c.wide-v.ensures, c.variable_of.ensures) (c.requires.1 c.args.q (omega arith)).0, rw (c.second_of-b.ensures, c.wide-v.ensures, c.variable_of.ensures) (c.requires.1 c.args.q (omega arith)).1)

pub returns : goal.returns
returns c = words-put c.args.nodes.now c.args.coeffs.now c.args.keys.now c.args.q c.args.summands.now (rw (back _ c.c-1.given) at c.less-minus.ensures) (rw (back _ c.c-1.given) at c.magnitude-size.ensures) c.negated_of-bar.ensures (c.wide-v.ensures ∙ c.variable_of.ensures) c.first_of-a.ensures c.second_of-b.ensures c.store_summand.ensures
