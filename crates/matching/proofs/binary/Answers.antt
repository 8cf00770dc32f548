-- The operator by its kind, the arguments by their part of the table.
use mathlib.Core.Path.{◌∙◌, ap}
use Prim.Native.Nat.{ℕ}
use Rattle.nodes.specs.Nodes.{kind_at, first_at, second_at, children_at}
use native.Mathlib.Omega.{arith}
use Rattle.matching.proofs.Matches.{node-room, binary-other, binary-count, binary-two}
use Rattle.matching.proofs.binary.Goals as goal

pub kind_of-requires : goal.kind_of-requires
kind_of-requires c = omega (arith, c.wide-at.ensures, node-room c.requires.node)

pub returns-then-kind_of-op : goal.returns-then-kind_of-op
returns-then-kind_of-op c = binary-other c.requires.node _ c.requires.op_lt_plus_kind (λ e. omega (arith, c.kind_of.ensures ∙ ap (kind_at c.args.nodes.now) c.wide-at.ensures))

pub children-arguments-requires : goal.children-arguments-requires
children-arguments-requires c = (rw c.wide-at.ensures c.requires.node, omega (arith, c.requires.op_lt_plus_kind, c.kind_of.ensures))

pub returns-then-arguments-ne2 : goal.returns-then-arguments-ne2
returns-then-arguments-ne2 c = binary-count c.requires.node _ c.requires.op_lt_plus_kind (omega (arith, c.kind_of.ensures ∙ ap (kind_at c.args.nodes.now) c.wide-at.ensures)) c.children-arguments.result.now (c.children-arguments.ensures ∙ ap (λ (w : ℕ). children_at c.args.nodes.now (first_at c.args.nodes.now w) (second_at c.args.nodes.now w)) c.wide-at.ensures) (λ e. omega arith)

pub returns : goal.returns
returns c = binary-two c.requires.node _ c.requires.op_lt_plus_kind (omega (arith, c.kind_of.ensures ∙ ap (kind_at c.args.nodes.now) c.wide-at.ensures)) c.children-arguments.result.now (c.children-arguments.ensures ∙ ap (λ (w : ℕ). children_at c.args.nodes.now (first_at c.args.nodes.now w) (second_at c.args.nodes.now w)) c.wide-at.ensures) (omega arith)
