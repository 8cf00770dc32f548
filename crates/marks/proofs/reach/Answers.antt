-- The loop's invariant: what is summed up so far has these two values.
use mathlib.Core.Bool.{true}
use mathlib.Core.Path.{sym, ◌∙◌}
use native.Mathlib.Omega.{arith}
use mir.Facts.{to_z-of_z}
use mir.Syntax.{w64}
use borrow.Author.Rules.{rules}
use Rattle.matching.proofs.Matches.{kept}
use Rattle.marks.proofs.Reaching.{reach-start, reach-negated, reach-plain, ones-within, zeros_within, reach_ones, reach_zeros, reach-refused}
use Rattle.marks.proofs.reach.Goals as goal
use Rattle.marks.proofs.reach.Goals.{then-negated_of, else-negated_of}

pub loop-t-init : goal.loop-t-init
loop-t-init c = reach-start _ _

pub returns-in_default : goal.returns-in_default
returns-in_default c = reach-refused c.loop-t.invariant (omega arith) _ (rw c.in_default.is at c.read_summand.ensures) _

pub loop-t-preserved : goal.loop-t-preserved
loop-t-preserved c =
    let s = rw c.in-Ok.is at c.read_summand.ensures in
    let o = kept (omega arith) (ones-within c.loop-t.invariant c.requires.all_nodes.1 (omega arith)) in
    let z = kept (omega arith) (zeros_within c.loop-t.invariant c.requires.all_nodes.1 (omega arith)) in
    let k = kept (omega arith) s.within in
    elim c.if-negated_of.branch [
      | then-negated_of w ↦ rw (w.ends-is, to_z-of_z {w = w64} {z = w.add.result} (search rules)) (reach-negated c.loop-t.invariant (omega arith) s _ (sym c.negated_of.ensures ∙ w.if-negated_of.true) (rw (z, k) at w.add.ensures))
      | else-negated_of w ↦ rw (w.ends-is, to_z-of_z {w = w64} {z = w.add-else-negated_of.result} (search rules)) (reach-plain c.loop-t.invariant (omega arith) s _ (sym c.negated_of.ensures ∙ w.if-negated_of.false) (rw (o, k) at w.add-else-negated_of.ensures))
    ]

pub returns-then-at_most : goal.returns-then-at_most
returns-then-at_most c = reach_ones c.loop-t.invariant (omega arith) _ true (sym c.if-at_most.true ∙ rw (to_z-of_z c.ranges.constant, kept (omega arith) (ones-within c.loop-t.invariant c.requires.all_nodes.1 (omega arith))) at c.at_most.ensures)

pub returns : goal.returns
returns c = reach_zeros c.loop-t.invariant (omega arith) _ _ (rw (to_z-of_z c.ranges.constant, kept (omega arith) (zeros_within c.loop-t.invariant c.requires.all_nodes.1 (omega arith))) at c.at_most-2.ensures)
