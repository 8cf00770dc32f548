-- `terms::place_of` owes the place of a byte string among those of the words: the loop goes back along the strings of its hash, and keeps that those with these bytes stand before the bound. Assumes nothing.
use Prim.Native.Nat.{◌<◌}
use mathlib.Core.Path.{sym, ◌∙◌}
use native.Mathlib.Omega.{arith}
use borrow.Author.Rules.{rules}
use Rattle.terms.specs.Spans.{string_at}
use Rattle.terms.proofs.Index.{is_same, not_same, walk_start, walk_more, walk_end, place_end, place_here}
use Rattle.terms.proofs.Places.{string_lies}
use Rattle.terms.proofs.place_of.Goals as goal

pub overflow_add-base : goal.overflow_add-base
overflow_add-base c = omega (arith, c.requires.1.room, c.hash-h.ensures.1)

pub offset_bounds-spans-base : goal.offset_bounds-spans-base
offset_bounds-spans-base c = omega (arith, c.requires.1.room, c.hash-h.ensures.1)

pub bounds-spans-base : goal.bounds-spans-base
bounds-spans-base c = omega (arith, c.requires.1.room, c.hash-h.ensures.1)

pub loop-k-init : goal.loop-k-init
loop-k-init c = walk_start c.requires.1.index _ c.hash-h.result c.wide_short-k.result c.hash-h.ensures.0 c.wide_short-k.ensures

pub overflow_mul-k : goal.overflow_mul-k
overflow_mul-k c = omega (arith, c.requires.1.room, c.requires.1.behind, c.loop-k.invariant.within)

pub offset_bounds-spans-k : goal.offset_bounds-spans-k
offset_bounds-spans-k c = omega (arith, c.requires.1.room, c.requires.1.behind, c.loop-k.invariant.within)

pub bounds-spans-k : goal.bounds-spans-k
bounds-spans-k c = omega (arith, c.requires.1.room, c.requires.1.behind, c.loop-k.invariant.within)

pub overflow_sub-a : goal.overflow_sub-a
overflow_sub-a c = rw c.wide_short.ensures (c.requires.0.inside c.loop-k.k (omega (arith, c.loop-k.invariant.within)))

pub overflow_mul-k-in-loop-k : goal.overflow_mul-k-in-loop-k
overflow_mul-k-in-loop-k c = omega (arith, c.requires.1.room, c.requires.1.behind, c.loop-k.invariant.within)

pub overflow_add-k : goal.overflow_add-k
overflow_add-k c = omega (arith, c.requires.1.room, c.requires.1.behind, c.loop-k.invariant.within)

pub offset_bounds-spans-k-in-loop-k : goal.offset_bounds-spans-k-in-loop-k
offset_bounds-spans-k-in-loop-k c = omega (arith, c.requires.1.room, c.requires.1.behind, c.loop-k.invariant.within)

pub bounds-spans-k-in-loop-k : goal.bounds-spans-k-in-loop-k
bounds-spans-k-in-loop-k c = omega (arith, c.requires.1.room, c.requires.1.behind, c.loop-k.invariant.within)

pub overflow_sub-b : goal.overflow_sub-b
overflow_sub-b c = rw c.wide_short-in-loop-k.ensures (omega (arith, c.requires.0.up c.loop-k.k (omega (arith, c.loop-k.invariant.within)), c.requires.0.inside c.loop-k.k (omega (arith, c.loop-k.invariant.within))))

pub same-requires : goal.same-requires
same-requires c =
    let P = string_lies c.requires.0 c.loop-k.k (omega (arith, c.loop-k.invariant.within)) in
    (rw (c.wide_short.ensures, c.wide_short-in-loop-k.ensures) P.0, rw c.wide_short-in-loop-k.ensures P.1, search rules, search rules)

pub returns-then-same : goal.returns-then-same
unfolding string_at
returns-then-same c =
    let h : c.loop-k.k < c.args.count = omega (arith, c.loop-k.invariant.within) in
    (place_here c.requires.1 _ c.loop-k.k h (is_same _ _ (sym c.if-same.true ∙ c.same.ensures ∙ rw (c.wide_short.ensures, c.wide_short-in-loop-k.ensures))), omega arith)

pub overflow_add-base-in-loop-k : goal.overflow_add-base-in-loop-k
overflow_add-base-in-loop-k c = omega (arith, c.requires.1.room, c.requires.1.behind, c.loop-k.invariant.within)

pub overflow_add-base-in-loop-k-2 : goal.overflow_add-base-in-loop-k-2
overflow_add-base-in-loop-k-2 c = omega (arith, c.requires.1.room, c.requires.1.behind, c.loop-k.invariant.within)

pub offset_bounds-spans-base-in-loop-k : goal.offset_bounds-spans-base-in-loop-k
offset_bounds-spans-base-in-loop-k c = omega (arith, c.requires.1.room, c.requires.1.behind, c.loop-k.invariant.within)

pub bounds-spans-base-in-loop-k : goal.bounds-spans-base-in-loop-k
bounds-spans-base-in-loop-k c = omega (arith, c.requires.1.room, c.requires.1.behind, c.loop-k.invariant.within)

pub loop-k-smaller : goal.loop-k-smaller
loop-k-smaller c = omega arith

pub loop-k-preserved : goal.loop-k-preserved
unfolding string_at
loop-k-preserved c = walk_more c.requires.1.index _ c.loop-k.invariant (omega arith) (not_same _ _ (sym c.if-same.false ∙ c.same.ensures ∙ rw (c.wide_short.ensures, c.wide_short-in-loop-k.ensures))) c.wide_short-k-in-loop-k.result c.wide_short-k-in-loop-k.ensures

pub returns : goal.returns
returns c = (place_end c.requires.1 _ (λ j l. walk_end c.requires.1.index _ c.loop-k.invariant (λ h a. omega arith) j l tt), omega arith)
