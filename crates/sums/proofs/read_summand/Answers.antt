-- `sums::read_summand` owes the definition's summand or its number. Each way out is one law of proofs/Reading.
use native.Mathlib.Omega.{arith}
use Rattle.matching.proofs.Matches.{kept}
use Rattle.matching.specs.declared.Refusal.TheVariants.{NeitherPlainNorNegated, ExpectedAnyInteger}
use Rattle.sums.proofs.Reading.{refused, summand-26, summand-24, summand-ok}
use Rattle.sums.proofs.read_summand.Goals as goal

pub returns-in_err-c : goal.returns-in_err-c
returns-in_err-c c = let w = refused c.binary.result NeitherPlainNorNegated c.from_residual.result c.ok_or.ensures.value c.in_err-c.was c.from_residual.ensures.1 in
    rw w.1 (summand-26 _ _ (rw w.0 at c.binary.ensures))

pub returns-in_err-z : goal.returns-in_err-z
returns-in_err-z c = let p = rw (rw c.in_ok-c.was at c.ok_or.ensures.ok_part) at c.binary.ensures in
    let w = refused c.as_constant.result ExpectedAnyInteger c.from_residual-in_err-z.result c.ok_or-2.ensures.value c.in_err-z.was c.from_residual-in_err-z.ensures.1 in
    rw w.1 (summand-24 _ _ p (rw w.0 at c.as_constant.ensures))

pub returns : goal.returns
returns c = let p = rw (rw c.in_ok-c.was at c.ok_or.ensures.ok_part) at c.binary.ensures in let z = rw (rw c.in_ok-z.was at c.ok_or-2.ensures.ok_part) at c.as_constant.ensures in
    summand-ok _ _ p z c.literal_key.ensures _ (kept (omega arith) z.within)
