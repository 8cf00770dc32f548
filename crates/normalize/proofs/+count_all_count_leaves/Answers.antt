-- `normalize::count_all` and `normalize::count_leaves` count leaves up to one more than the most: each way out is one law of proofs/Counting.
-- The nodes fall with each turn of the cycle: children stand before their parent.
use Prim.Native.Nat.{◌<◌}
use native.Mathlib.Omega.{arith}
use Rattle.nodes.specs.Nodes.{plus_kind, kind_at}
use Rattle.matching.proofs.Matches.{node-room}
use Rattle.normalize.proofs.Counting.{count_none, count-more, count-end, count-opened, count-leaf}
use Rattle.normalize.proofs.Trees.{node_at, end_at, children-nodes, children-end}
use Rattle.normalize.proofs.+count_all_count_leaves.Goals as goal

pub count_all-loop-arg-init : goal.count_all-loop-arg-init
count_all-loop-arg-init t c = count_none c.requires.1

pub count_all-count_leaves-m-requires : goal.count_all-count_leaves-m-requires
count_all-count_leaves-m-requires t c = (omega (arith, c.decreases, end_at c.args.args.now c.loop-arg.arg-index c.loop-arg-test.true), (node_at c.args.args.now c.loop-arg.arg-index c.requires.0 c.loop-arg-test.true, c.loop-arg.invariant.most))

pub count_all-loop-arg-preserved : goal.count_all-loop-arg-preserved
count_all-loop-arg-preserved t c = count-more c.loop-arg.invariant c.loop-arg-test.true c.count_leaves-m.ensures

pub count_all-returns : goal.count_all-returns
count_all-returns t c = count-end c.loop-arg.invariant c.loop-arg-test.false

pub count_leaves-kind_of-requires : goal.count_leaves-kind_of-requires
count_leaves-kind_of-requires t c = omega (arith, c.wide-at.ensures, node-room c.requires.0)

pub count_leaves-children-requires : goal.count_leaves-children-requires
count_leaves-children-requires t c = let low : kind_at c.args.nodes.now c.args.i < plus_kind = omega (arith, c.if-kind_of-le-SUB.true, rw c.wide-at.ensures at c.kind_of.ensures) in
    rw c.wide-at.ensures (c.requires.0, low)

pub count_leaves-count_all-requires : goal.count_leaves-count_all-requires
count_leaves-count_all-requires t c = let kind = rw c.wide-at.ensures at c.kind_of.ensures in
    let same = rw c.wide-at.ensures at c.children.ensures in
    rw same (omega (arith, c.decreases, children-end c.requires.0 (omega (arith, kind, c.if-kind_of-le-SUB.true))), (children-nodes c.requires.0 (omega (arith, kind, c.if-kind_of-le-SUB.true)), c.requires.1))

pub count_leaves-returns-then-kind_of-le-SUB : goal.count_leaves-returns-then-kind_of-le-SUB
count_leaves-returns-then-kind_of-le-SUB t c = let kind = rw c.wide-at.ensures at c.kind_of.ensures in
    let same = rw c.wide-at.ensures at c.children.ensures in
    count-opened c.requires.0 _ _ (omega (arith, kind, c.if-kind_of-le-SUB.true)) (rw same at c.count_all.ensures)

pub count_leaves-returns-else-kind_of-le-SUB : goal.count_leaves-returns-else-kind_of-le-SUB
count_leaves-returns-else-kind_of-le-SUB t c = let kind = rw c.wide-at.ensures at c.kind_of.ensures in
    count-leaf c.requires.0 _ _ (omega (arith, kind, c.if-kind_of-le-SUB.false)) c.one_more.ensures
