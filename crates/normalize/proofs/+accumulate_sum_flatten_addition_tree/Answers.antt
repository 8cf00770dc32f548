-- `normalize::accumulate_sum` and `normalize::flatten_addition_tree` append what their terms flatten to: each way out is one law of proofs/Growing.
-- The nodes fall with each turn of the cycle: children stand before their parent. The loop's invariant: with the rest appended it is the whole.
use Prim.Native.Nat.{◌<◌}
use native.Mathlib.Omega.{arith}
use Rattle.nodes.specs.Nodes.{plus_kind, kind_at}
use Rattle.matching.proofs.Matches.{node-room}
use Rattle.normalize.proofs.Growing.{leaf-ready, leaf-grown, add-ready, add-grown, first-less, first-ready, mark-grown, rest-ready, rest-less, minus-grown, summing-none, summing_end, summing_less, summing-ready, summing-more}
use Rattle.normalize.proofs.Trees.{children-some, children-end}
use Rattle.normalize.proofs.+accumulate_sum_flatten_addition_tree.Goals as goal

pub accumulate_sum-loop-arg-init : goal.accumulate_sum-loop-arg-init
accumulate_sum-loop-arg-init t c = summing-none c.requires

pub accumulate_sum-flatten_addition_tree-b-requires : goal.accumulate_sum-flatten_addition_tree-b-requires
accumulate_sum-flatten_addition_tree-b-requires t c = (omega (arith, c.decreases, summing_less c.requires c.loop-arg.invariant c.loop-arg-test.true), summing-ready c.requires c.loop-arg.invariant c.loop-arg-test.true)

pub accumulate_sum-loop-arg-preserved : goal.accumulate_sum-loop-arg-preserved
accumulate_sum-loop-arg-preserved t c = summing-more c.requires c.loop-arg.invariant c.loop-arg-test.true _ c.flatten_addition_tree-b.ensures

pub accumulate_sum-returns : goal.accumulate_sum-returns
accumulate_sum-returns t c = summing_end c.requires c.loop-arg.invariant c.loop-arg-test.false

pub flatten_addition_tree-kind_of-kind-requires : goal.flatten_addition_tree-kind_of-kind-requires
flatten_addition_tree-kind_of-kind-requires t c = omega (arith, c.wide-at.ensures, node-room c.requires.node)

pub flatten_addition_tree-put_leaf-requires : goal.flatten_addition_tree-put_leaf-requires
flatten_addition_tree-put_leaf-requires t c = let kind = rw c.wide-at.ensures at c.kind_of-kind.ensures in
    leaf-ready c.requires (omega (arith, kind, c.if-kind-gt-SUB.true))

pub flatten_addition_tree-returns-then-kind-gt-SUB : goal.flatten_addition_tree-returns-then-kind-gt-SUB
flatten_addition_tree-returns-then-kind-gt-SUB t c = let kind = rw c.wide-at.ensures at c.kind_of-kind.ensures in
    leaf-grown c.requires (omega (arith, kind, c.if-kind-gt-SUB.true)) c.put_leaf.ensures

pub flatten_addition_tree-children-args-requires : goal.flatten_addition_tree-children-args-requires
flatten_addition_tree-children-args-requires t c = let low : kind_at c.args.nodes.now c.args.i < plus_kind = omega (arith, c.if-kind-gt-SUB.false, rw c.wide-at.ensures at c.kind_of-kind.ensures) in
    rw c.wide-at.ensures (c.requires.node, low)

pub flatten_addition_tree-accumulate_sum-requires : goal.flatten_addition_tree-accumulate_sum-requires
flatten_addition_tree-accumulate_sum-requires t c = let kind = rw c.wide-at.ensures at c.kind_of-kind.ensures in
    let same = rw c.wide-at.ensures at c.children-args.ensures in
    rw same (omega (arith, c.decreases, children-end c.requires.node (omega (arith, kind, c.if-kind-gt-SUB.false))), add-ready c.requires (omega (arith, kind, c.if-kind-eq-ADD.true)))

pub flatten_addition_tree-returns-then-kind-eq-ADD : goal.flatten_addition_tree-returns-then-kind-eq-ADD
flatten_addition_tree-returns-then-kind-eq-ADD t c = let kind = rw c.wide-at.ensures at c.kind_of-kind.ensures in
    let same = rw c.wide-at.ensures at c.children-args.ensures in
    add-grown c.requires (omega (arith, kind, c.if-kind-eq-ADD.true)) (rw same at c.accumulate_sum.ensures)

pub flatten_addition_tree-bounds-args-0 : goal.flatten_addition_tree-bounds-args-0
flatten_addition_tree-bounds-args-0 t c = let kind = rw c.wide-at.ensures at c.kind_of-kind.ensures in
    let same = rw c.wide-at.ensures at c.children-args.ensures in
    rw same (children-some c.requires.node (omega (arith, kind, c.if-kind-gt-SUB.false)))

pub flatten_addition_tree-flatten_addition_tree-b-requires : goal.flatten_addition_tree-flatten_addition_tree-b-requires
flatten_addition_tree-flatten_addition_tree-b-requires t c = let kind = rw c.wide-at.ensures at c.kind_of-kind.ensures in
    let same = rw c.wide-at.ensures at c.children-args.ensures in
    rw same (omega (arith, c.decreases, first-less c.requires (omega (arith, kind, c.if-kind-gt-SUB.false, c.if-kind-eq-ADD.false))), first-ready c.requires (omega (arith, kind, c.if-kind-gt-SUB.false, c.if-kind-eq-ADD.false)))

pub flatten_addition_tree-returns-then-args-eq1 : goal.flatten_addition_tree-returns-then-args-eq1
flatten_addition_tree-returns-then-args-eq1 t c = let kind = rw c.wide-at.ensures at c.kind_of-kind.ensures in
    let same = rw c.wide-at.ensures at c.children-args.ensures in
    let first = rw same at c.flatten_addition_tree-b.ensures in
    mark-grown c.requires (omega (arith, kind, c.if-kind-gt-SUB.false, c.if-kind-eq-ADD.false)) first _ (rw same at c.if-args-eq1.true) c.marked.ensures

pub flatten_addition_tree-slice_bounds-accumulate_sum-count : goal.flatten_addition_tree-slice_bounds-accumulate_sum-count
flatten_addition_tree-slice_bounds-accumulate_sum-count t c = let kind = rw c.wide-at.ensures at c.kind_of-kind.ensures in
    let same = rw c.wide-at.ensures at c.children-args.ensures in
    omega (arith, rw (← same) at (children-some c.requires.node (omega (arith, kind, c.if-kind-gt-SUB.false))))

pub flatten_addition_tree-slice_bounds-accumulate_sum-start : goal.flatten_addition_tree-slice_bounds-accumulate_sum-start
flatten_addition_tree-slice_bounds-accumulate_sum-start t c = let kind = rw c.wide-at.ensures at c.kind_of-kind.ensures in
    let same = rw c.wide-at.ensures at c.children-args.ensures in
    omega (arith, rw (← same) at (children-some c.requires.node (omega (arith, kind, c.if-kind-gt-SUB.false))))

pub flatten_addition_tree-accumulate_sum-requires-2 : goal.flatten_addition_tree-accumulate_sum-requires-2
flatten_addition_tree-accumulate_sum-requires-2 t c = let kind = rw c.wide-at.ensures at c.kind_of-kind.ensures in
    let same = rw c.wide-at.ensures at c.children-args.ensures in
    let first = rw same at c.flatten_addition_tree-b.ensures in
    rw same (omega (arith, c.decreases, rest-less c.requires (omega (arith, kind, c.if-kind-gt-SUB.false, c.if-kind-eq-ADD.false)) first (omega (arith, rw same at c.if-args-eq1.false, children-some c.requires.node (omega (arith, kind, c.if-kind-gt-SUB.false))))), rest-ready c.requires (omega (arith, kind, c.if-kind-gt-SUB.false, c.if-kind-eq-ADD.false)) first (omega (arith, rw same at c.if-args-eq1.false, children-some c.requires.node (omega (arith, kind, c.if-kind-gt-SUB.false)))))

pub flatten_addition_tree-returns : goal.flatten_addition_tree-returns
flatten_addition_tree-returns t c = let kind = rw c.wide-at.ensures at c.kind_of-kind.ensures in
    let same = rw c.wide-at.ensures at c.children-args.ensures in
    let first = rw same at c.flatten_addition_tree-b.ensures in
    minus-grown c.requires (omega (arith, kind, c.if-kind-gt-SUB.false, c.if-kind-eq-ADD.false)) first (omega (arith, rw same at c.if-args-eq1.false, children-some c.requires.node (omega (arith, kind, c.if-kind-gt-SUB.false)))) (rw same at c.accumulate_sum-2.ensures)
