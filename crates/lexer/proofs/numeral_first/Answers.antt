-- `lexer::numeral_first` owes the test of a word that is to be a numeral: its first byte, or its second behind a minus. Assumes nothing.
use Rattle.lexer.proofs.Numbers.{first-digit, first-other, first_short, first-second}
use borrow.Author.Rules.{rules}
use mathlib.Core.Path.{sym, ◌∙◌}
use Rattle.lexer.proofs.numeral_first.Goals as goal

pub returns-then-is_digit : goal.returns-then-is_digit
returns-then-is_digit c = first-digit c.args.text.now c.args.from c.args.to (search rules) (search rules) (sym c.is_digit.ensures ∙ c.if-is_digit.true)

pub returns-then-b-ne45 : goal.returns-then-b-ne45
returns-then-b-ne45 c = first-other c.args.text.now c.args.from c.args.to (search rules) (search rules) (sym c.is_digit.ensures ∙ c.if-is_digit.false) c.if-b-ne45.true

pub returns-then-to-from-lt2 : goal.returns-then-to-from-lt2
returns-then-to-from-lt2 c = first_short c.args.text.now c.args.from c.args.to (search rules) (search rules) (sym c.is_digit.ensures ∙ c.if-is_digit.false) c.if-to-from-lt2.true

pub returns : goal.returns
returns c = first-second c.args.text.now c.args.from c.args.to (search rules) (search rules) _ (sym c.is_digit.ensures ∙ c.if-is_digit.false) c.if-b-ne45.false c.if-to-from-lt2.false c.is_digit-2.ensures
