-- The ways through the definition: too many, a lone constant, the summands.
use mathlib.Core.Path.{refl, sym, subst, ◌∙◌}
use native.Mathlib.Omega.{arith}
use borrow.Author.Rules.{rules}
use lib.IntN.{pos}
use Rattle.calculus.proofs.TermLaws.{same_integer-tests}
use Rattle.sums.specs.Found.{Nodes}
use Rattle.sums.proofs.Places.{elsewhere-none}
use Rattle.sums.proofs.Reading.{split-nodes, sum-40, sum-zero, sum-25, read-by}
use mir.Facts.{to_z-of_z}
use mir.Syntax.{w64}
use Rattle.sums.proofs.get_pb_hashmap.Goals as goal

pub returns-then-pbsum-gt-MAX_SUMMANDS : goal.returns-then-pbsum-gt-MAX_SUMMANDS
returns-then-pbsum-gt-MAX_SUMMANDS c = (λ x h. sum-40 c.split_summation-pbsum.ensures (omega arith) x.text, elsewhere-none _ _ _ _)

pub lone_constant-requires : goal.lone_constant-requires
lone_constant-requires c = (split-nodes c.split_summation-pbsum.ensures c.requires.node).node

pub returns-in-Some : goal.returns-in-Some
returns-in-Some c = (sum-zero c.split_summation-pbsum.ensures (omega arith) (rw c.in-Some.is at c.lone_constant.ensures) _ _ _ _ refl (sym (same_integer-tests _ (pos 0) c.is_zero.result (rw (to_z-of_z {w = w64} {z = c.in-Some.constant} (search rules)) at c.is_zero.ensures)) ∙ c.if-is_zero.true), elsewhere-none _ _ _ _)

pub returns-in-Some-2 : goal.returns-in-Some-2
returns-in-Some-2 c = (λ x h. sum-25 c.split_summation-pbsum.ensures (omega arith) (rw c.in-Some.is at c.lone_constant.ensures) (sym (same_integer-tests _ (pos 0) c.is_zero.result (rw (to_z-of_z {w = w64} {z = c.in-Some.constant} (search rules)) at c.is_zero.ensures)) ∙ c.if-is_zero.false) x.text, elsewhere-none _ _ _ _)

pub read_summands-requires-clause-nodes : goal.read_summands-requires-clause-nodes
read_summands-requires-clause-nodes c = (subst (Nodes c.args.nodes.now c.split_summation-pbsum.result.now) (omega (arith, c.wide.ensures)) (split-nodes c.split_summation-pbsum.ensures c.requires.node), omega arith)

pub returns-in-None : goal.returns-in-None
returns-in-None c = read-by c.split_summation-pbsum.ensures (omega arith) (rw c.in-None.is at c.lone_constant.ensures) (omega (arith, c.wide.ensures)) _ _ _ _ _ _ _ c.read_summands.result c.read_summands.ensures
