-- `lexer::magnitude` owes the number that the digits say: a leading zero is tested before them. Assumes nothing.
use Rattle.lexer.proofs.Numbers.{magnitude-led, magnitude-plain}
use mathlib.Core.Logic.{inl, inr}
use borrow.Author.Rules.{rules}
use Rattle.lexer.proofs.magnitude.Goals as goal
use Rattle.lexer.proofs.magnitude.Goals.{then-to-from-gt1+else-text-from-eq48, else-to-from-gt1}

pub returns-then-text-from-eq48 : goal.returns-then-text-from-eq48
returns-then-text-from-eq48 c = magnitude-led c.args.text.now c.args.from c.args.to (search rules) c.if-to-from-gt1.true c.if-text-from-eq48.true

pub returns : goal.returns
returns c = magnitude-plain c.args.text.now c.args.from c.args.to (search rules) _ (search rules) (elim c.if-to-from-gt1.branch [ then-to-from-gt1+else-text-from-eq48 w ↦ inr w.if-text-from-eq48.false | else-to-from-gt1 w ↦ inl w.if-to-from-gt1.false ]) c.number.ensures
