-- `normalize::one_half`: the entries are pushed, and the rest is `half_check`.
use mathlib.Core.Path.{◌∙◌}
use mir.Facts.{to_z-of_z}
use Rattle.integer.proofs.Signed.{back}
use Rattle.normalize.proofs.Pushing.{push-held}
use Rattle.normalize.proofs.Relating.{one-not, one-half}
use Rattle.normalize.proofs.Returned.{refused}
use Rattle.normalize.proofs.Runs.{room-kept}
use Rattle.normalize.proofs.one_half.Goals as goal

pub returns-in_err-sum : goal.returns-in_err-sum
returns-in_err-sum c =
    rw (refused c.from_residual.result c.from_residual.ensures.1 c.in_err-sum.ensures.ok_part c.in_err-sum.ensures.value) (one-not (rw c.in_err-sum.ensures.ok_part at c.binary.ensures))

pub half_check-requires : goal.half_check-requires
half_check-requires c =
    let pair = rw c.in_ok-sum.ensures.ok_part at c.binary.ensures in
    record { sum = pair.left.node; const = pair.right.node; held = push-held c.requires.general.held c.push_negation.ensures; room = room-kept c.requires.general.room c.push_negation.auto.coeffs c.push_negation.auto.keys }

pub returns : goal.returns
returns c =
    let total = back c.add-total.result c.add-total.type_inv ∙ (rw (to_z-of_z c.ranges.constant, back c.push_negation.result c.push_negation.type_inv) at c.add-total.ensures) in
    one-half (rw c.in_ok-sum.ensures.ok_part at c.binary.ensures) c.push_negation.ensures total c.half_check.ensures.half_is
