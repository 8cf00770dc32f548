-- `opb_terms::sign` owes the sign of a numeral, turned where asked. Assumes nothing.
use Rattle.opb_terms.proofs.Turning.{sign-plain, sign-minus, sign_plus}
use Rattle.opb_terms.proofs.sign.Goals as goal

pub returns-then-negative : goal.returns-then-negative
returns-then-negative c = sign-minus _ c.requires c.if-turned.true c.if-negative.true

pub returns-then-turned : goal.returns-then-turned
returns-then-turned c = sign_plus _ c.requires c.if-turned.true c.if-negative.false

pub returns : goal.returns
returns c = sign-plain _ c.requires c.if-turned.false
