-- `normalize::relation_check`: `=` is checked by its two halves, any other relation is eliminated first.
-- where the ways around `negate_sum` meet
use mathlib.Core.Path.{refl, ◌∙◌}
use native.Mathlib.Omega.{arith}
use mir.Facts.{to_z-of_z}
use Rattle.integer.proofs.Fits.{within_more}
use Rattle.matching.proofs.Matches.{kept}
use Rattle.normalize.proofs.Runs.{room-kept}
use Rattle.normalize.proofs.Negating.{negate-ready, TurnedIs, turned-yes, turned-no, turned-held}
use Rattle.normalize.proofs.Relating.{related-two, related-one}
use Rattle.normalize.proofs.relation_check.Goals as goal
use Rattle.normalize.proofs.relation_check.Goals.{Joined-e, then-e, else-e}

joined : (c : Joined-e) → TurnedIs c.eliminate-e.result.negated c.args.coeffs.now c.args.keys.now c.args.n c.if-e.coeffs
joined c =
    elim c.if-e.branch [
      | then-e w ↦ turned-yes w.if-e.true w.negate_sum.ensures w.negate_sum.auto.coeffs w.coeffs-is
      | else-e w ↦ turned-no w.if-e.false c.requires.held.0.within w.coeffs-is
    ]

pub two_halves-requires : goal.two_halves-requires
two_halves-requires c = rw (to_z-of_z c.ranges.constant) record {
  general = record { held = c.requires.held.0; within = within_more (omega arith) c.requires.held.1; room = c.requires.held.2 };
  node = c.requires.node;
}

pub returns-then-op-eq-EQ : goal.returns-then-op-eq-EQ
returns-then-op-eq-EQ c = related-two c.if-op-eq-EQ.true (rw (to_z-of_z c.ranges.constant) at c.two_halves.ensures)

pub negate_sum-requires : goal.negate_sum-requires
negate_sum-requires c = negate-ready c.requires.held.2 c.requires.held.0

pub one_half-requires : goal.one_half-requires
one_half-requires c =
    let left = rw (to_z-of_z c.ranges.constant) at c.eliminate-e.ensures in
    record {
      general = record { held = turned-held c.requires.held.0 (joined (goal.at.one_half-requires c).Joined-e); within = rw (kept (omega arith) left.within) left.within; room = room-kept c.requires.held.2 (joined (goal.at.one_half-requires c).Joined-e).coeffs refl };
      node = c.requires.node;
    }

pub shape_of-coeffs : goal.shape_of-coeffs
shape_of-coeffs c = c.one_half.auto.coeffs ∙ (joined (goal.at.shape_of-coeffs c).Joined-e).coeffs

pub returns : goal.returns
returns c =
    let left = rw (to_z-of_z c.ranges.constant) at c.eliminate-e.ensures in
    related-one left (joined (goal.at.returns c).Joined-e) (rw (kept (omega arith) left.within) at c.one_half.ensures)
