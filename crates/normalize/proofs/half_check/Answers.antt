-- `normalize::half_check`: each way out is one step of the chain of checks, in the order of `half_check`.
use native.Mathlib.Omega.{arith}
use mir.Facts.{to_z-of_z}
use Rattle.matching.proofs.Matches.{kept}
use Rattle.normalize.proofs.Halving.{half-long, half-collect, half-refused, half-term, half_sides, held-still, sides_still}
use Rattle.normalize.proofs.Returned.{passed, refused}
use Rattle.normalize.proofs.Runs.{room-kept}
use Rattle.normalize.proofs.half_check.Goals as goal

pub returns-then-ts-gt-MAX_SUMMANDS-clause-half_is : goal.returns-then-ts-gt-MAX_SUMMANDS-clause-half_is
returns-then-ts-gt-MAX_SUMMANDS-clause-half_is c = half-long c.requires c.split_summation-ts.ensures c.if-ts-gt-MAX_SUMMANDS.true

pub collect_addition_list-requires : goal.collect_addition_list-requires
collect_addition_list-requires c = half-collect c.requires c.split_summation-ts.ensures c.if-ts-gt-MAX_SUMMANDS.false

pub returns-in_err-m-clause-half_is : goal.returns-in_err-m-clause-half_is
returns-in_err-m-clause-half_is c =
    rw (passed c.from_residual.result c.from_residual.ensures.1)
    (half-refused c.requires c.split_summation-ts.ensures c.if-ts-gt-MAX_SUMMANDS.false c.in_err-m.ensures.collect_is.1)

pub returns-in_err-z-clause-half_is : goal.returns-in_err-z-clause-half_is
returns-in_err-z-clause-half_is c =
    rw (refused c.from_residual-in_err-z.result c.from_residual-in_err-z.ensures.1 c.in_err-z.ensures.ok_part c.in_err-z.ensures.value)
    (half-term c.requires c.split_summation-ts.ensures c.if-ts-gt-MAX_SUMMANDS.false c.in_ok-m.ensures.collect_is (rw c.in_err-z.ensures.ok_part at c.as_constant.ensures))

pub check_pb_inequalities-requires : goal.check_pb_inequalities-requires
check_pb_inequalities-requires c =
    let still = c.collect_addition_list.ensures.still in
    record { room = room-kept c.requires.room still.coeffs.long still.keys.long; general = held-still still c.requires.held.most c.requires.held; normalized = c.in_ok-m.ensures.collect_is.held }

pub returns-clause-half_is : goal.returns-clause-half_is
returns-clause-half_is c =
    let number = rw c.in_ok-z.ensures.ok_part at c.as_constant.ensures in
    let sides = sides_still c.collect_addition_list.ensures.still c.requires.held.most c.check_pb_inequalities.ensures in
    half_sides c.requires c.split_summation-ts.ensures c.if-ts-gt-MAX_SUMMANDS.false c.in_ok-m.ensures.collect_is number sides (to_z-of_z c.ranges.total) (kept (omega arith) number.within)
