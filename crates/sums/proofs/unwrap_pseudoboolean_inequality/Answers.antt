-- The relation, the constant, the sum: each way out is one law.
use native.Mathlib.Omega.{arith}
use Rattle.matching.proofs.Matches.{kept}
use Rattle.matching.specs.declared.Refusal.TheVariants.{TermOfWrongForm, ExpectedAnyInteger}
use Rattle.sums.proofs.Places.{elsewhere-none}
use Rattle.sums.proofs.Reading.{passed, refused, inequality-23, inequality-24, inequality-refused, inequality-read}
use Rattle.sums.proofs.unwrap_pseudoboolean_inequality.Goals as goal

pub returns-in_err-pbsum : goal.returns-in_err-pbsum
returns-in_err-pbsum c = let w = refused c.binary.result TermOfWrongForm c.from_residual.result c.ok_or.ensures.value c.in_err-pbsum.was c.from_residual.ensures.1 in
    rw w.1 (λ x h. inequality-23 _ _ (rw w.0 at c.binary.ensures) x.text, elsewhere-none _ _ _ _)

pub returns-in_err-constant : goal.returns-in_err-constant
returns-in_err-constant c = let p = rw (rw c.in_ok-pbsum.was at c.ok_or.ensures.ok_part) at c.binary.ensures in
    let w = refused c.as_constant.result ExpectedAnyInteger c.from_residual-in_err-constant.result c.ok_or-2.ensures.value c.in_err-constant.was c.from_residual-in_err-constant.ensures.1 in
    rw w.1 (λ x h. inequality-24 _ _ p (rw w.0 at c.as_constant.ensures) x.text, elsewhere-none _ _ _ _)

pub returns-in_err-count : goal.returns-in_err-count
returns-in_err-count c = let p = rw (rw c.in_ok-pbsum.was at c.ok_or.ensures.ok_part) at c.binary.ensures in let z = rw (rw c.in_ok-constant.was at c.ok_or-2.ensures.ok_part) at c.as_constant.ensures in
    let r = rw c.in_err-count.was at c.get_pb_hashmap.ensures in rw (passed c.from_residual-in_err-count.result c.from_residual-in_err-count.ensures.1) (inequality-refused _ _ p z r.0, r.1)

pub returns : goal.returns
returns c = let p = rw (rw c.in_ok-pbsum.was at c.ok_or.ensures.ok_part) at c.binary.ensures in let z = rw (rw c.in_ok-constant.was at c.ok_or-2.ensures.ok_part) at c.as_constant.ensures in
    let r = rw c.in_ok-count.was at c.get_pb_hashmap.ensures in (inequality-read _ _ p z _ (kept (omega arith) z.within) r.0, r.1)
