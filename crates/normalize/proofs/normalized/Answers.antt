-- `normalize::normalized`: 23 for the equation, then the relation, then its sides.
use Rattle.normalize.proofs.Relating.{whole-not, whole-refused, whole-sides}
use Rattle.normalize.proofs.Returned.{passed, refused}
use Rattle.normalize.proofs.normalized.Goals as goal

pub returns-in_err-general : goal.returns-in_err-general
returns-in_err-general c =
    rw (refused c.from_residual.result c.from_residual.ensures.1 c.in_err-general.ensures.ok_part c.in_err-general.ensures.value) (whole-not (rw c.in_err-general.ensures.ok_part at c.binary.ensures))

pub returns-in_err-op : goal.returns-in_err-op
returns-in_err-op c =
    rw (passed c.from_residual-in_err-op.result c.from_residual-in_err-op.ensures.1)
    (whole-refused (rw c.in_ok-general.ensures.ok_part at c.binary.ensures) (rw c.in_err-op.was at c.match_supported_relation_err.ensures))

pub returns : goal.returns
returns c = whole-sides (rw c.in_ok-general.ensures.ok_part at c.binary.ensures) (rw c.in_ok-op.was at c.match_supported_relation_err.ensures) c.sides_check.ensures
