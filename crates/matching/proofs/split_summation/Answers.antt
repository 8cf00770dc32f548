-- The children of a sum, or the one place.
use mathlib.Core.Path.{◌∙◌, ap}
use native.Mathlib.Omega.{arith}
use Prim.Native.Nat.{ℕ}
use Rattle.nodes.specs.Nodes.{kind_at, first_at, second_at, children_at}
use Rattle.matching.proofs.Matches.{split-sum, split_one}
use Rattle.matching.proofs.split_summation.Goals as goal

pub children-requires : goal.children-requires
children-requires c = (rw c.wide-at.ensures c.requires.node, omega (arith, c.kind_of.ensures))

pub returns-then-kind_of-eq-ADD : goal.returns-then-kind_of-eq-ADD
returns-then-kind_of-eq-ADD c = split-sum c.requires.node (omega (arith, c.kind_of.ensures ∙ ap (kind_at c.args.nodes.now) c.wide-at.ensures)) c.children.result.now (c.children.ensures ∙ ap (λ (w : ℕ). children_at c.args.nodes.now (first_at c.args.nodes.now w) (second_at c.args.nodes.now w)) c.wide-at.ensures)

pub returns-else-kind_of-eq-ADD : goal.returns-else-kind_of-eq-ADD
returns-else-kind_of-eq-ADD c = split_one c.requires.node (λ e. omega (arith, c.kind_of.ensures ∙ ap (kind_at c.args.nodes.now) c.wide-at.ensures)) c.args.one.now c.requires.one_value
