-- `terms::first_node` owes the first node of a name: the loop goes back along the first nodes of its hash, and keeps that one with these bytes stands before the bound. Assumes nothing.
use mathlib.Core.Path.{◌≡◌, sym, ◌∙◌}
use Prim.Native.Nat.{◌+◌}
use native.Mathlib.Omega.{arith}
use Rattle.terms.proofs.Index.{is_same, not_same, walk_start, walk_more, walk_end}
use Rattle.terms.proofs.Naming.{first-in, first-here, first-none}
use Rattle.terms.proofs.first_node.Goals as goal

pub offset_bounds-names-h : goal.offset_bounds-names-h
offset_bounds-names-h c = omega arith

pub bounds-names-h : goal.bounds-names-h
bounds-names-h c = omega (arith, c.requires.2.room)

pub loop-k-init : goal.loop-k-init
loop-k-init c =
    let e : 0 + c.args.h ≡ c.args.h = omega arith in
    walk_start c.requires.2.index _ c.args.h c.wide_short-k.result c.requires.3 (rw e c.wide_short-k.ensures)

pub kind_of-requires : goal.kind_of-requires
kind_of-requires c = omega (arith, c.requires.0, c.requires.1, c.loop-k.invariant.within)

pub overflow_cast-k : goal.overflow_cast-k
overflow_cast-k c = omega (arith, c.requires.1, c.loop-k.invariant.within)

pub overflow_add-k : goal.overflow_add-k
overflow_add-k c = omega (arith, c.requires.1, c.loop-k.invariant.within)

pub returns-then-kind_of-k : goal.returns-then-kind_of-k
returns-then-kind_of-k c = first-none c.requires.2 _ (walk_end c.requires.2.index _ c.loop-k.invariant (λ l f. c.if-kind_of-k.true (c.kind_of.ensures ∙ f)))

pub first_of-a-requires : goal.first_of-a-requires
first_of-a-requires c = omega (arith, c.requires.0, c.requires.1, c.loop-k.invariant.within)

pub second_of-b-requires : goal.second_of-b-requires
second_of-b-requires c = omega (arith, c.requires.0, c.requires.1, c.loop-k.invariant.within)

pub same-requires : goal.same-requires
same-requires c =
    let (up, inside) = first-in c.requires.2 c.loop-k.k (omega (arith, c.loop-k.invariant.within)) (sym c.kind_of.ensures ∙ c.if-kind_of-k.false) in
    (rw (c.first_of-a.ensures, c.second_of-b.ensures) up, rw c.second_of-b.ensures inside, c.requires.5, c.requires.6)

pub returns-then-same : goal.returns-then-same
returns-then-same c =
    first-here c.requires.2 _ c.loop-k.k (omega (arith, c.loop-k.invariant.within)) (sym c.kind_of.ensures ∙ c.if-kind_of-k.false)
    (is_same _ _ (sym c.if-same.true ∙ c.same.ensures ∙ rw (c.first_of-a.ensures, c.second_of-b.ensures)))

pub overflow_add-k-in-loop-k : goal.overflow_add-k-in-loop-k
overflow_add-k-in-loop-k c = omega (arith, c.requires.1, c.loop-k.invariant.within)

pub offset_bounds-names-k : goal.offset_bounds-names-k
offset_bounds-names-k c = omega (arith, c.requires.1, c.loop-k.invariant.within)

pub bounds-names-k : goal.bounds-names-k
bounds-names-k c = omega (arith, c.requires.1, c.requires.2.room, c.loop-k.invariant.within)

pub loop-k-smaller : goal.loop-k-smaller
loop-k-smaller c = omega arith

pub loop-k-preserved : goal.loop-k-preserved
loop-k-preserved c =
    walk_more c.requires.2.index _ c.loop-k.invariant (omega arith)
    (not_same _ _ (sym c.if-same.false ∙ c.same.ensures ∙ rw (c.first_of-a.ensures, c.second_of-b.ensures))) c.wide_short-k-in-loop-k.result c.wide_short-k-in-loop-k.ensures

pub returns : goal.returns
returns c = first-none c.requires.2 _ (walk_end c.requires.2.index _ c.loop-k.invariant (λ l f. omega arith))
