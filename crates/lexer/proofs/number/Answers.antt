-- `lexer::number` owes the number that the digits say: the loop keeps that the digits from i on behind `acc` say it, and stops past the limit, where no digits help. Assumes nothing.
use Rattle.lexer.proofs.Numbers.{number-stop, number_more, number-big, number-end}
use borrow.Author.Rules.{rules}
use mathlib.Core.Path.{refl, sym, ◌∙◌}
use Rattle.lexer.proofs.number.Goals as goal

pub loop-i-init : goal.loop-i-init
loop-i-init c = (search rules, refl)

pub returns-then-not-is_digit : goal.returns-then-not-is_digit
returns-then-not-is_digit c = number-stop c.args.text.now c.loop-i.i c.args.to c.loop-i.acc _ c.loop-i.invariant.1 (search rules) (search rules) (sym c.is_digit.ensures ∙ c.if-not-is_digit.true)

pub returns-then-acc-gt-MAX_NUMERAL : goal.returns-then-acc-gt-MAX_NUMERAL
returns-then-acc-gt-MAX_NUMERAL c = number-big c.args.text.now c.loop-i.i c.args.to c.loop-i.acc _ c.loop-i.invariant.1 (search rules) _ (search rules) (sym c.is_digit.ensures ∙ c.if-not-is_digit.false) c.digit_value.ensures.0 c.if-acc-gt-MAX_NUMERAL.true

pub loop-i-preserved : goal.loop-i-preserved
loop-i-preserved c = (search rules, number_more c.args.text.now c.loop-i.i c.args.to c.loop-i.acc _ c.loop-i.invariant.1 (search rules) _ (search rules) (sym c.is_digit.ensures ∙ c.if-not-is_digit.false) c.digit_value.ensures.0)

pub returns : goal.returns
returns c = number-end c.args.text.now c.loop-i.i c.args.to c.loop-i.acc _ c.loop-i.invariant.1 (search rules) (search rules) (search rules)
