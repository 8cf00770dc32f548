-- `marks::are_arithmetic` and `marks::is_arithmetic` say whether terms are arithmetic: each way out is one law of proofs/Statements or proofs/Arguments.
-- The nodes fall with each turn of the cycle: children stand before their parent.
use Prim.Native.Nat.{◌<◌}
use native.Mathlib.Omega.{arith}
use Rattle.calculus.specs.Truth.{is_arithmetic, are_arithmetic}
use Rattle.nodes.specs.Nodes.{plus_kind, kind_at}
use Rattle.nodes.proofs.Tables.{children-room}
use Rattle.matching.proofs.Matches.{node-room}
use Rattle.marks.proofs.Arguments.{children-nodes, children-end, children-inside, children-part, left-node, left_below, left-more, left-stop, left_end}
use Rattle.marks.proofs.Statements.{arithmetic-none, arithmetic-more, arithmetic-leaf, arithmetic-other, arithmetic-all}
use Rattle.marks.proofs.+are_arithmetic_is_arithmetic.Goals as goal
use Rattle.marks.proofs.+are_arithmetic_is_arithmetic.Goals.{are_arithmetic-then-kind_of-lt-PLUS_KIND+else-not-is_arithmetic, are_arithmetic-else-kind_of-lt-PLUS_KIND}

pub are_arithmetic-kind_of-requires : goal.are_arithmetic-kind_of-requires
are_arithmetic-kind_of-requires t c = omega (arith, c.wide.ensures, node-room (left-node c.loop-k.invariant c.requires.0 (omega arith) c.requires.1))

pub are_arithmetic-is_arithmetic-requires : goal.are_arithmetic-is_arithmetic-requires
are_arithmetic-is_arithmetic-requires t c = (omega (arith, c.decreases, left_below c.loop-k.invariant c.requires.0 (omega arith)), (left-node c.loop-k.invariant c.requires.0 (omega arith) c.requires.1, omega (arith, rw c.wide.ensures at c.kind_of.ensures)))

pub are_arithmetic-returns-then-not-is_arithmetic : goal.are_arithmetic-returns-then-not-is_arithmetic
are_arithmetic-returns-then-not-is_arithmetic t c = left-stop is_arithmetic are_arithmetic arithmetic-none arithmetic-more c.loop-k.invariant c.requires.0 (omega arith) (rw c.if-not-is_arithmetic.true at c.is_arithmetic.ensures)

pub are_arithmetic-loop-k-preserved : goal.are_arithmetic-loop-k-preserved
are_arithmetic-loop-k-preserved t c = left-more is_arithmetic are_arithmetic arithmetic-none arithmetic-more c.loop-k.invariant c.requires.0 (omega arith) (elim c.if-kind_of-lt-PLUS_KIND.branch [
  | are_arithmetic-then-kind_of-lt-PLUS_KIND+else-not-is_arithmetic w ↦ rw w.if-not-is_arithmetic.false at w.is_arithmetic.ensures
  | are_arithmetic-else-kind_of-lt-PLUS_KIND w ↦ arithmetic-leaf (left-node c.loop-k.invariant c.requires.0 (omega arith) c.requires.1) (omega (arith, w.if-kind_of-lt-PLUS_KIND.false, rw c.wide.ensures at c.kind_of.ensures))
])

pub are_arithmetic-returns : goal.are_arithmetic-returns
are_arithmetic-returns t c = left_end is_arithmetic are_arithmetic arithmetic-none arithmetic-more c.loop-k.invariant c.requires.0 (omega arith)

pub is_arithmetic-kind_of-requires : goal.is_arithmetic-kind_of-requires
is_arithmetic-kind_of-requires t c = omega (arith, c.wide-at.ensures, node-room c.requires.0)

pub is_arithmetic-returns-then-kind_of-ge-GE : goal.is_arithmetic-returns-then-kind_of-ge-GE
is_arithmetic-returns-then-kind_of-ge-GE t c = let kind = rw c.wide-at.ensures at c.kind_of.ensures in
    arithmetic-other c.requires.0 (omega (arith, kind, c.if-kind_of-ge-GE.true)) c.requires.1

pub is_arithmetic-first_of-requires : goal.is_arithmetic-first_of-requires
is_arithmetic-first_of-requires t c = omega (arith, c.wide-at.ensures, node-room c.requires.0)

pub is_arithmetic-overflow_add-from : goal.is_arithmetic-overflow_add-from
is_arithmetic-overflow_add-from t c = let first = rw c.wide-at.ensures at c.first_of.ensures in
    omega (arith, c.child_base.ensures, first, children-room c.requires.0 c.requires.1)

pub is_arithmetic-second_of-requires : goal.is_arithmetic-second_of-requires
is_arithmetic-second_of-requires t c = omega (arith, c.wide-at.ensures, node-room c.requires.0)

pub is_arithmetic-overflow_add-from-2 : goal.is_arithmetic-overflow_add-from-2
is_arithmetic-overflow_add-from-2 t c = let first = rw c.wide-at.ensures at c.first_of.ensures in
    let second = rw c.wide-at.ensures at c.second_of.ensures in
    omega (arith, children-inside c.requires.0 c.requires.1 c.child_base.ensures first second)

pub is_arithmetic-are_arithmetic-requires : goal.is_arithmetic-are_arithmetic-requires
is_arithmetic-are_arithmetic-requires t c = let first = rw c.wide-at.ensures at c.first_of.ensures in
    let second = rw c.wide-at.ensures at c.second_of.ensures in
    let low : kind_at c.args.nodes.now c.args.i < plus_kind = c.requires.1 in
    let inside = children-inside c.requires.0 low c.child_base.ensures first second in
    rw (children-part c.requires.0 low c.child_base.ensures first second) (omega (arith, c.decreases, children-end c.requires.0 low), (inside, children-nodes c.requires.0 low))

pub is_arithmetic-returns : goal.is_arithmetic-returns
is_arithmetic-returns t c = let kind = rw c.wide-at.ensures at c.kind_of.ensures in
    let first = rw c.wide-at.ensures at c.first_of.ensures in
    let second = rw c.wide-at.ensures at c.second_of.ensures in
    let part = children-part c.requires.0 c.requires.1 c.child_base.ensures first second in
    arithmetic-all c.requires.0 _ (omega (arith, kind, c.if-kind_of-ge-GE.false)) (rw part at c.are_arithmetic.ensures)
