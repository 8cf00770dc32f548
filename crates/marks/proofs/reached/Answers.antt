-- Each way out is one law: no `>=`, no constant, too many summands, a lone numeral, and what the two walks over the summands answer.
use mathlib.Core.Path.{refl}
use native.Mathlib.Omega.{arith}
use Rattle.matching.proofs.Matches.{kept}
use Rattle.sums.proofs.Reading.{split-nodes}
use Rattle.marks.proofs.Reaching.{reached-other, reached-term, reached-long, reached-sum}
use Rattle.marks.proofs.reached.Goals as goal

pub returns-in_default : goal.returns-in_default
returns-in_default c = reached-other (rw c.in_default.is at c.binary.ensures)

pub returns-in_default-as_constant : goal.returns-in_default-as_constant
returns-in_default-as_constant c = reached-term (rw c.in-Some.is at c.binary.ensures) (rw c.in_default-as_constant.is at c.as_constant.ensures)

pub returns-then-ts-gt-MAX_SUMMANDS : goal.returns-then-ts-gt-MAX_SUMMANDS
returns-then-ts-gt-MAX_SUMMANDS c = reached-long (rw c.in-Some.is at c.binary.ensures) (rw c.in-Some-as_constant.is at c.as_constant.ensures) c.split_summation-ts.ensures (omega arith)

pub lone_constant-requires : goal.lone_constant-requires
lone_constant-requires c = (split-nodes c.split_summation-ts.ensures (rw c.in-Some.is at c.binary.ensures).left.node).node

pub reach-requires-clause-all_nodes : goal.reach-requires-clause-all_nodes
reach-requires-clause-all_nodes c = ((split-nodes c.split_summation-ts.ensures (rw c.in-Some.is at c.binary.ensures).left.node).node, omega arith)

pub returns-then-reach : goal.returns-then-reach
returns-then-reach c = λ e. let k = rw c.in-Some-as_constant.is at c.as_constant.ensures in
    reached-sum (rw c.in-Some.is at c.binary.ensures) k c.split_summation-ts.ensures (omega arith) (rw c.in-None.is at c.lone_constant.ensures) _ _ (kept (omega arith) k.within) c.reach.ensures c.if-reach.true

pub other_terms-requires : goal.other_terms-requires
other_terms-requires c = (split-nodes c.split_summation-ts.ensures (rw c.in-Some.is at c.binary.ensures).left.node).node

pub returns-else-reach : goal.returns-else-reach
returns-else-reach c = reached-sum (rw c.in-Some.is at c.binary.ensures) (rw c.in-Some-as_constant.is at c.as_constant.ensures) c.split_summation-ts.ensures (omega arith) (rw c.in-None.is at c.lone_constant.ensures) _ _ refl (c.other_terms.ensures _)
