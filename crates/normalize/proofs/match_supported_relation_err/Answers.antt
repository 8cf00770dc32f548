-- `normalize::match_supported_relation_err`: the operators' numbers decide, and then the arguments.
use native.Mathlib.Omega.{arith}
use Rattle.normalize.proofs.Relating.{relation-low, relation-high, relation-is, relation-not}
use Rattle.normalize.proofs.Returned.{refused}
use Rattle.normalize.proofs.match_supported_relation_err.Goals as goal

pub returns-in_err-lhs-in-3-to-7 : goal.returns-in_err-lhs-in-3-to-7
returns-in_err-lhs-in-3-to-7 c =
    let kind = rw c.wide.ensures at c.kind_of-op.ensures in
    rw (refused c.from_residual.result c.from_residual.ensures.1 c.in_err-lhs-in-3-to-7.ensures.ok_part c.in_err-lhs-in-3-to-7.ensures.value)
    (relation-not c.requires c.kind_of-op.result kind (omega arith) (omega arith) (rw c.in_err-lhs-in-3-to-7.ensures.ok_part at c.binary.ensures))

pub returns-in_ok-lhs-in-3-to-7 : goal.returns-in_ok-lhs-in-3-to-7
returns-in_ok-lhs-in-3-to-7 c =
    let kind = rw c.wide.ensures at c.kind_of-op.ensures in
    relation-is c.requires c.kind_of-op.result kind (omega arith) (omega arith) (rw c.in_ok-lhs-in-3-to-7.ensures.ok_part at c.binary.ensures)

pub returns-in-0-to-2 : goal.returns-in-0-to-2
returns-in-0-to-2 c =
    let kind = rw c.wide.ensures at c.kind_of-op.ensures in
    relation-low c.requires (omega (arith, kind))

pub returns-in_default : goal.returns-in_default
returns-in_default c =
    let kind = rw c.wide.ensures at c.kind_of-op.ensures in
    relation-high c.requires (omega (arith, kind))
