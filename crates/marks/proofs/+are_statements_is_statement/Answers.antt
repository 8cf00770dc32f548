-- `marks::are_statements` and `marks::is_statement` say whether terms are statements: each way out is one law of proofs/Statements or proofs/Arguments.
-- The nodes fall with each turn of the cycle: children stand before their parent.
use mathlib.Core.Path.{◌≡◌, ap}
use Prim.Native.Nat.{◌<◌}
use native.Mathlib.Omega.{arith}
use lib.ListN.{length}
use Rattle.calculus.specs.Truth.{is_statement, are_statements}
use Rattle.nodes.specs.Nodes.{plus_kind, kind_at, second_at}
use Rattle.nodes.proofs.Tables.{children-room}
use Rattle.matching.proofs.Matches.{node-room}
use Rattle.marks.proofs.Arguments.{end_at, children-nodes, children-end, children-count, children-inside, children-part, rest_more, rest-stop, rest_end}
use Rattle.marks.proofs.Statements.{statements-none, statements-more, statement-low, statement-leaf, statement_and, statement-count, statement_arithmetic, statement-relation, statement_equal}
use Rattle.marks.proofs.+are_statements_is_statement.Goals as goal

pub are_statements-is_statement-requires : goal.are_statements-is_statement-requires
are_statements-is_statement-requires t c = (omega (arith, c.decreases, end_at c.args.args.now c.loop-arg.arg-index (omega arith)), c.requires c.loop-arg.arg-index (omega arith))

pub are_statements-returns-then-not-is_statement : goal.are_statements-returns-then-not-is_statement
are_statements-returns-then-not-is_statement t c = rest-stop is_statement are_statements statements-none statements-more c.loop-arg.invariant (omega arith) (rw c.if-not-is_statement.true at c.is_statement.ensures)

pub are_statements-loop-arg-preserved : goal.are_statements-loop-arg-preserved
are_statements-loop-arg-preserved t c = rest_more is_statement are_statements statements-none statements-more c.loop-arg.invariant (omega arith) (rw c.if-not-is_statement.false at c.is_statement.ensures)

pub are_statements-returns : goal.are_statements-returns
are_statements-returns t c = rest_end is_statement are_statements statements-none statements-more c.loop-arg.invariant (omega arith)

pub is_statement-kind_of-kind-requires : goal.is_statement-kind_of-kind-requires
is_statement-kind_of-kind-requires t c = omega (arith, c.wide-at.ensures, node-room c.requires)

pub is_statement-returns-then-kind-lt-GE : goal.is_statement-returns-then-kind-lt-GE
is_statement-returns-then-kind-lt-GE t c = let kind = rw c.wide-at.ensures at c.kind_of-kind.ensures in
    statement-low c.requires (omega (arith, kind, c.if-kind-lt-GE.true))

pub is_statement-returns-then-kind-ge-PLUS_KIND : goal.is_statement-returns-then-kind-ge-PLUS_KIND
is_statement-returns-then-kind-ge-PLUS_KIND t c = let kind = rw c.wide-at.ensures at c.kind_of-kind.ensures in
    statement-leaf c.requires (omega (arith, kind, c.if-kind-ge-PLUS_KIND.true))

pub is_statement-children-args-requires : goal.is_statement-children-args-requires
is_statement-children-args-requires t c = let low : kind_at c.args.nodes.now c.args.i < plus_kind = omega (arith, rw c.wide-at.ensures at c.kind_of-kind.ensures, c.if-kind-ge-PLUS_KIND.false) in
    rw c.wide-at.ensures (c.requires, low)

pub is_statement-are_statements-requires : goal.is_statement-are_statements-requires
is_statement-are_statements-requires t c = let kind = rw c.wide-at.ensures at c.kind_of-kind.ensures in
    let same = rw c.wide-at.ensures at c.children-args.ensures in
    rw same (omega (arith, c.decreases, children-end c.requires (omega (arith, kind, c.if-kind-ge-PLUS_KIND.false))), children-nodes c.requires (omega (arith, kind, c.if-kind-ge-PLUS_KIND.false)))

pub is_statement-returns-then-kind-eq-AND : goal.is_statement-returns-then-kind-eq-AND
is_statement-returns-then-kind-eq-AND t c = let kind = rw c.wide-at.ensures at c.kind_of-kind.ensures in
    let same = rw c.wide-at.ensures at c.children-args.ensures in
    statement_and c.requires _ (omega (arith, kind, c.if-kind-eq-AND.true)) (rw same at c.are_statements.ensures)

pub is_statement-returns-then-args-ne2 : goal.is_statement-returns-then-args-ne2
is_statement-returns-then-args-ne2 t c = let kind = rw c.wide-at.ensures at c.kind_of-kind.ensures in
    let same = rw c.wide-at.ensures at c.children-args.ensures in
    statement-count c.requires (omega (arith, kind, c.if-kind-lt-GE.false)) (omega (arith, kind, c.if-kind-ge-PLUS_KIND.false, c.if-kind-eq-AND.false)) (λ e. omega (arith, ap length same, c.if-args-ne2.true))

pub is_statement-first_of-requires : goal.is_statement-first_of-requires
is_statement-first_of-requires t c = omega (arith, c.wide-at.ensures, node-room c.requires)

pub is_statement-overflow_add-from : goal.is_statement-overflow_add-from
is_statement-overflow_add-from t c = let kind = rw c.wide-at.ensures at c.kind_of-kind.ensures in
    let first = rw c.wide-at.ensures at c.first_of.ensures in
    omega (arith, c.child_base.ensures, first, children-room c.requires (omega (arith, kind, c.if-kind-ge-PLUS_KIND.false)))

pub is_statement-overflow_add-from-2 : goal.is_statement-overflow_add-from-2
is_statement-overflow_add-from-2 t c = let kind = rw c.wide-at.ensures at c.kind_of-kind.ensures in
    let same = rw c.wide-at.ensures at c.children-args.ensures in
    let first = rw c.wide-at.ensures at c.first_of.ensures in
    let low : kind_at c.args.nodes.now c.args.i < plus_kind = omega (arith, kind, c.if-kind-ge-PLUS_KIND.false) in
    let second : 2 ≡ second_at c.args.nodes.now c.args.i = omega (arith, ap length same, c.if-args-ne2.false, children-count c.requires low) in
    omega (arith, children-inside c.requires low c.child_base.ensures first second)

pub is_statement-are_arithmetic-requires : goal.is_statement-are_arithmetic-requires
is_statement-are_arithmetic-requires t c = let kind = rw c.wide-at.ensures at c.kind_of-kind.ensures in
    let same = rw c.wide-at.ensures at c.children-args.ensures in
    let first = rw c.wide-at.ensures at c.first_of.ensures in
    let low : kind_at c.args.nodes.now c.args.i < plus_kind = omega (arith, kind, c.if-kind-ge-PLUS_KIND.false) in
    let second : 2 ≡ second_at c.args.nodes.now c.args.i = omega (arith, ap length same, c.if-args-ne2.false, children-count c.requires low) in
    let part = children-part c.requires low c.child_base.ensures first second in
    rw part (children-inside c.requires low c.child_base.ensures first second, children-nodes c.requires low)

pub is_statement-returns-then-are_arithmetic : goal.is_statement-returns-then-are_arithmetic
is_statement-returns-then-are_arithmetic t c = let kind = rw c.wide-at.ensures at c.kind_of-kind.ensures in
    let same = rw c.wide-at.ensures at c.children-args.ensures in
    let first = rw c.wide-at.ensures at c.first_of.ensures in
    let low : kind_at c.args.nodes.now c.args.i < plus_kind = omega (arith, kind, c.if-kind-ge-PLUS_KIND.false) in
    let second : 2 ≡ second_at c.args.nodes.now c.args.i = omega (arith, ap length same, c.if-args-ne2.false, children-count c.requires low) in
    let part = children-part c.requires low c.child_base.ensures first second in
    statement_arithmetic c.requires (omega (arith, kind, c.if-kind-lt-GE.false)) (omega (arith, kind, c.if-kind-ge-PLUS_KIND.false, c.if-kind-eq-AND.false)) (omega (arith, ap length same, c.if-args-ne2.false)) (rw (part, c.if-are_arithmetic.true) at c.are_arithmetic.ensures)

pub is_statement-returns-then-kind-ne-EQ : goal.is_statement-returns-then-kind-ne-EQ
is_statement-returns-then-kind-ne-EQ t c = let kind = rw c.wide-at.ensures at c.kind_of-kind.ensures in
    let same = rw c.wide-at.ensures at c.children-args.ensures in
    let first = rw c.wide-at.ensures at c.first_of.ensures in
    let low : kind_at c.args.nodes.now c.args.i < plus_kind = omega (arith, kind, c.if-kind-ge-PLUS_KIND.false) in
    let second : 2 ≡ second_at c.args.nodes.now c.args.i = omega (arith, ap length same, c.if-args-ne2.false, children-count c.requires low) in
    let part = children-part c.requires low c.child_base.ensures first second in
    statement-relation c.requires (omega (arith, kind, c.if-kind-lt-GE.false)) (omega (arith, kind, c.if-kind-ge-PLUS_KIND.false, c.if-kind-eq-AND.false)) (λ e. omega (arith, kind, c.if-kind-ne-EQ.true)) (rw (part, c.if-are_arithmetic.false) at c.are_arithmetic.ensures)

pub is_statement-are_statements-requires-2 : goal.is_statement-are_statements-requires-2
is_statement-are_statements-requires-2 t c = let kind = rw c.wide-at.ensures at c.kind_of-kind.ensures in
    let same = rw c.wide-at.ensures at c.children-args.ensures in
    rw same (omega (arith, c.decreases, children-end c.requires (omega (arith, kind, c.if-kind-ge-PLUS_KIND.false))), children-nodes c.requires (omega (arith, kind, c.if-kind-ge-PLUS_KIND.false)))

pub is_statement-returns : goal.is_statement-returns
is_statement-returns t c = let kind = rw c.wide-at.ensures at c.kind_of-kind.ensures in
    let same = rw c.wide-at.ensures at c.children-args.ensures in
    let first = rw c.wide-at.ensures at c.first_of.ensures in
    let low : kind_at c.args.nodes.now c.args.i < plus_kind = omega (arith, kind, c.if-kind-ge-PLUS_KIND.false) in
    let second : 2 ≡ second_at c.args.nodes.now c.args.i = omega (arith, ap length same, c.if-args-ne2.false, children-count c.requires low) in
    let part = children-part c.requires low c.child_base.ensures first second in
    statement_equal c.requires _ (omega (arith, kind, c.if-kind-ne-EQ.false)) (omega (arith, ap length same, c.if-args-ne2.false)) (rw (part, c.if-are_arithmetic.false) at c.are_arithmetic.ensures) (rw same at c.are_statements-2.ensures)
