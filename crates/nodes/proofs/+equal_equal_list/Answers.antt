-- `nodes::equal` and `nodes::equal_list` meet their contracts: each way out of the two is one law of proofs/Comparing.
-- The first node falls with each turn of the cycle: a child stands before its parent. The loop's invariant: the answer for the rest is that for the whole.
use mathlib.Core.Path.{◌≡◌, sym, subst, ◌∙◌}
use Prim.Native.Nat.{◌<◌}
use native.Mathlib.Omega.{arith}
use Rattle.nodes.specs.Nodes.{plus_kind, kind_at, second_at}
use Rattle.nodes.specs.Equal.{SameIs}
use Rattle.nodes.proofs.Comparing.{equal-other, equal-name, equal-numeral, equal-short, equal-all, left-child, pair_of, rest-differ, rest_more, rest_end}
use Rattle.nodes.proofs.+equal_equal_list.Goals as goal

pub equal-returns-then-kind-kind_of : goal.equal-returns-then-kind-kind_of
equal-returns-then-kind-kind_of t c = equal-other c.requires (λ e. c.if-kind-kind_of.true (c.kind_of-kind.ensures ∙ e ∙ sym c.kind_of.ensures))

pub equal-returns-then-kind-ge-NAME_KIND : goal.equal-returns-then-kind-ge-NAME_KIND
equal-returns-then-kind-ge-NAME_KIND t c = let e : kind_at c.args.nodes.now c.args.i ≡ kind_at c.args.nodes.now c.args.j = sym c.kind_of-kind.ensures ∙ c.if-kind-kind_of.false ∙ c.kind_of.ensures in
    equal-name c.requires e (omega (arith, c.kind_of-kind.ensures, c.if-kind-ge-NAME_KIND.true))

pub equal-returns-then-kind-ge-PLUS_KIND : goal.equal-returns-then-kind-ge-PLUS_KIND
equal-returns-then-kind-ge-PLUS_KIND t c = let e : kind_at c.args.nodes.now c.args.i ≡ kind_at c.args.nodes.now c.args.j = sym c.kind_of-kind.ensures ∙ c.if-kind-kind_of.false ∙ c.kind_of.ensures in
    rw (c.first_of.ensures, c.first_of-then-kind-ge-PLUS_KIND.ensures) (equal-numeral c.requires e (omega (arith, c.kind_of-kind.ensures, c.if-kind-ge-PLUS_KIND.true)) (omega (arith, c.kind_of-kind.ensures, c.if-kind-ge-NAME_KIND.false)))

pub equal-returns-then-count-second_of : goal.equal-returns-then-count-second_of
equal-returns-then-count-second_of t c = let e : kind_at c.args.nodes.now c.args.i ≡ kind_at c.args.nodes.now c.args.j = sym c.kind_of-kind.ensures ∙ c.if-kind-kind_of.false ∙ c.kind_of.ensures in
    let g : kind_at c.args.nodes.now c.args.i < plus_kind = omega (arith, c.kind_of-kind.ensures, c.if-kind-ge-PLUS_KIND.false) in
    equal-short c.requires e g (λ d. c.if-count-second_of.true (c.second_of-count.ensures ∙ d ∙ sym c.second_of.ensures))

pub equal-returns : goal.equal-returns
equal-returns t c = let e : kind_at c.args.nodes.now c.args.i ≡ kind_at c.args.nodes.now c.args.j = sym c.kind_of-kind.ensures ∙ c.if-kind-kind_of.false ∙ c.kind_of.ensures in
    let g : kind_at c.args.nodes.now c.args.i < plus_kind = omega (arith, c.kind_of-kind.ensures, c.if-kind-ge-PLUS_KIND.false) in
    let d : second_at c.args.nodes.now c.args.i ≡ second_at c.args.nodes.now c.args.j = sym c.second_of-count.ensures ∙ c.if-count-second_of.false ∙ c.second_of.ensures in
    equal-all c.requires e g c.equal_list.result d (rw (c.first_of-2.ensures, c.first_of-3.ensures, c.second_of-count.ensures) at c.equal_list.ensures)

pub equal_list-equal-requires : goal.equal_list-equal-requires
equal_list-equal-requires t c = let less : c.loop-k.k < c.args.count = omega arith in
    (omega (arith, c.decreases, c.child_of.ensures, left-child c.requires c.loop-k.k less), pair_of c.requires c.loop-k.k less c.child_of.result c.child_of-in-loop-k.result c.child_of.ensures c.child_of-in-loop-k.ensures)

pub equal_list-returns-then-not-equal : goal.equal_list-returns-then-not-equal
equal_list-returns-then-not-equal t c = let less : c.loop-k.k < c.args.count = omega arith in
    rest-differ c.requires c.loop-k.k less c.child_of.result c.child_of-in-loop-k.result c.child_of.ensures c.child_of-in-loop-k.ensures c.loop-k.invariant (subst (SameIs c.args.nodes.now c.child_of.result c.child_of-in-loop-k.result) c.if-not-equal.true c.equal.ensures)

pub equal_list-loop-k-preserved : goal.equal_list-loop-k-preserved
equal_list-loop-k-preserved t c = let less : c.loop-k.k < c.args.count = omega arith in
    rest_more c.requires c.loop-k.k less c.child_of.result c.child_of-in-loop-k.result c.child_of.ensures c.child_of-in-loop-k.ensures c.loop-k.invariant (subst (SameIs c.args.nodes.now c.child_of.result c.child_of-in-loop-k.result) c.if-not-equal.false c.equal.ensures)

pub equal_list-returns : goal.equal_list-returns
equal_list-returns t c = rest_end c.requires c.loop-k.k c.loop-k-test.false c.loop-k.invariant
