-- `normalize::term_to_ctv` answers by what was matched: each way out is one law of proofs/Products.
use mathlib.Core.Path.{refl, ◌∙◌}
use native.Mathlib.Omega.{arith}
use Rattle.integer.proofs.Signed.{back}
use Rattle.matching.proofs.Matches.{kept}
use Rattle.normalize.proofs.Products.{entry_whole, entry-left, entry-right, entry-neither, product-both}
use Rattle.normalize.proofs.term_to_ctv.Goals as goal

pub returns-in_default : goal.returns-in_default
returns-in_default c = entry_whole c.in_default.ensures c.literal_of.ensures refl

pub returns-in-Some-Some : goal.returns-in-Some-Some
returns-in-Some-Some c =
    let left = rw c.in-Some-Some.is-0 at c.as_constant.ensures in
    let right = rw c.in-Some-Some.is-1 at c.as_constant-2.ensures in
    product-both (rw c.in-Some.is at c.binary.ensures) left right (back c.multiply.result c.multiply.type_inv ∙ c.multiply.ensures ∙ rw (kept (omega arith) left.within, kept (omega arith) right.within) refl)

pub returns-in-Some-None : goal.returns-in-Some-None
returns-in-Some-None c =
    let left = rw c.in-Some-None.is-0 at c.as_constant.ensures in
    entry-left (rw c.in-Some.is at c.binary.ensures) left (rw c.in-Some-None.is-1 at c.as_constant-2.ensures) c.literal_of-in-Some-None.ensures (kept (omega arith) left.within)

pub returns-in-None-Some : goal.returns-in-None-Some
returns-in-None-Some c =
    let right = rw c.in-None-Some.is-1 at c.as_constant-2.ensures in
    entry-right (rw c.in-Some.is at c.binary.ensures) (rw c.in-None-Some.is-0 at c.as_constant.ensures) right c.literal_of-in-None-Some.ensures (kept (omega arith) right.within)

pub returns-in-None-None : goal.returns-in-None-None
returns-in-None-None c = entry-neither (rw c.in-Some.is at c.binary.ensures) (rw c.in-None-None.is-0 at c.as_constant.ensures) (rw c.in-None-None.is-1 at c.as_constant-2.ensures) c.literal_of-in-None-None.ensures refl
