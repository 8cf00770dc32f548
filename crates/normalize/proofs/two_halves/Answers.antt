-- `normalize::two_halves`: 23 for each form that is not met, before any half is checked.
use mir.Facts.{to_z-of_z}
use Rattle.normalize.proofs.Relating.{two-not, two-left, two-right, two-halves}
use Rattle.normalize.proofs.Returned.{refused}
use Rattle.normalize.proofs.two_halves.Goals as goal

pub returns-in_err-left : goal.returns-in_err-left
returns-in_err-left c =
    rw (refused c.from_residual.result c.from_residual.ensures.1 c.in_err-left.ensures.ok_part c.in_err-left.ensures.value) (two-not (rw c.in_err-left.ensures.ok_part at c.binary.ensures))

pub returns-in_err-suml : goal.returns-in_err-suml
returns-in_err-suml c =
    rw (refused c.from_residual-in_err-suml.result c.from_residual-in_err-suml.ensures.1 c.in_err-suml.ensures.ok_part c.in_err-suml.ensures.value)
    (two-left (rw c.in_ok-left.ensures.ok_part at c.binary.ensures) (rw c.in_err-suml.ensures.ok_part at c.binary-2.ensures))

pub returns-in_err-sumr : goal.returns-in_err-sumr
returns-in_err-sumr c =
    rw (refused c.from_residual-in_err-sumr.result c.from_residual-in_err-sumr.ensures.1 c.in_err-sumr.ensures.ok_part c.in_err-sumr.ensures.value)
    (two-right (rw c.in_ok-left.ensures.ok_part at c.binary.ensures) (rw c.in_ok-suml.ensures.ok_part at c.binary-2.ensures) (rw c.in_err-sumr.ensures.ok_part at c.binary-3.ensures))

pub returns : goal.returns
returns c = two-halves (rw c.in_ok-left.ensures.ok_part at c.binary.ensures) (rw c.in_ok-suml.ensures.ok_part at c.binary-2.ensures) (rw c.in_ok-sumr.ensures.ok_part at c.binary-3.ensures) (rw (to_z-of_z c.ranges.constant) at c.both_halves.ensures)
