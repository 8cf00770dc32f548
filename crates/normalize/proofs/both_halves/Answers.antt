-- `normalize::both_halves`: the entries are pushed for the first half, and negated and pushed for the second.
use mathlib.Core.Path.{◌∙◌}
use mir.Facts.{to_z-of_z}
use Rattle.integer.proofs.Signed.{back}
use Rattle.normalize.proofs.Halving.{pushed_still}
use Rattle.normalize.proofs.Returned.{passed}
use Rattle.normalize.proofs.Runs.{room-kept}
use Rattle.normalize.proofs.Negating.{negate-ready, negate-held}
use Rattle.normalize.proofs.Pushing.{push-ready, push-held}
use Rattle.normalize.proofs.Relating.{both_first, both-second, both-accepted}
use Rattle.normalize.proofs.both_halves.Goals as goal

pub returns-in_err-x : goal.returns-in_err-x
returns-in_err-x c =
    let first = back c.add-general.result c.add-general.type_inv ∙ (rw (to_z-of_z c.ranges.constant, back c.push_negation.result c.push_negation.type_inv) at c.add-general.ensures) in
    rw (passed c.from_residual.result c.from_residual.ensures.1) (both_first c.push_negation.ensures first c.in_err-x.ensures.half_is)

pub negate_sum-requires : goal.negate_sum-requires
negate_sum-requires c = negate-ready (room-kept c.requires.general.room (c.half_check.ensures.still.coeffs.long ∙ c.push_negation.auto.coeffs) (c.half_check.ensures.still.keys.long ∙ c.push_negation.auto.keys)) (push-held c.requires.general.held (pushed_still c.half_check.ensures.still c.requires.general.held.most c.push_negation.ensures))

pub push_negation-requires-2 : goal.push_negation-requires-2
push_negation-requires-2 c =
    let held = push-held c.requires.general.held (pushed_still c.half_check.ensures.still c.requires.general.held.most c.push_negation.ensures) in
    push-ready (room-kept c.requires.general.room (c.negate_sum.auto.coeffs ∙ c.half_check.ensures.still.coeffs.long ∙ c.push_negation.auto.coeffs) (c.half_check.ensures.still.keys.long ∙ c.push_negation.auto.keys)) (negate-held held c.negate_sum.ensures)

pub half_check-requires-2 : goal.half_check-requires-2
half_check-requires-2 c =
    let held = push-held c.requires.general.held (pushed_still c.half_check.ensures.still c.requires.general.held.most c.push_negation.ensures) in
    record {
      sum = c.requires.node.1.0;
      const = c.requires.node.1.1;
      held = push-held (negate-held held c.negate_sum.ensures) c.push_negation-2.ensures;
      room = room-kept c.requires.general.room (c.push_negation-2.auto.coeffs ∙ c.negate_sum.auto.coeffs ∙ c.half_check.ensures.still.coeffs.long ∙ c.push_negation.auto.coeffs) (c.push_negation-2.auto.keys ∙ c.half_check.ensures.still.keys.long ∙ c.push_negation.auto.keys);
    }

pub returns-in_err-y : goal.returns-in_err-y
returns-in_err-y c =
    let first = back c.add-general.result c.add-general.type_inv ∙ (rw (to_z-of_z c.ranges.constant, back c.push_negation.result c.push_negation.type_inv) at c.add-general.ensures) in
    let second = back c.add-negated.result c.add-negated.type_inv ∙ (rw (back c.push_negation-2.result c.push_negation-2.type_inv, back c.negate.result c.negate.type_inv, c.negate.ensures) at c.add-negated.ensures) in
    let still = pushed_still c.half_check.ensures.still c.requires.general.held.most c.push_negation.ensures in
    rw (passed c.from_residual-in_err-y.result c.from_residual-in_err-y.ensures.1)
    (both-second c.push_negation.ensures first c.in_ok-x.ensures.half_is still c.negate_sum.ensures c.push_negation-2.ensures second c.in_err-y.ensures.half_is)

pub returns : goal.returns
returns c =
    let first = back c.add-general.result c.add-general.type_inv ∙ (rw (to_z-of_z c.ranges.constant, back c.push_negation.result c.push_negation.type_inv) at c.add-general.ensures) in
    let second = back c.add-negated.result c.add-negated.type_inv ∙ (rw (back c.push_negation-2.result c.push_negation-2.type_inv, back c.negate.result c.negate.type_inv, c.negate.ensures) at c.add-negated.ensures) in
    let still = pushed_still c.half_check.ensures.still c.requires.general.held.most c.push_negation.ensures in
    both-accepted c.push_negation.ensures first c.in_ok-x.ensures.half_is still c.negate_sum.ensures c.push_negation-2.ensures second c.in_ok-y.ensures.half_is c.both.ensures
