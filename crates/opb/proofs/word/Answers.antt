-- `opb::word` owes the meaning of a word: by its first byte, and by whether a digit stands behind it. Assumes nothing.
use mathlib.Core.Path.{sym, ◌∙◌}
use native.Mathlib.Omega.{arith}
use Rattle.opb.proofs.Meanings.{meant, word-variable, word-digit, word-bare, word-plus, word-minus, word-other}
use borrow.Author.Rules.{rules}
use Rattle.opb.proofs.word.Goals as goal

pub literal-requires : goal.literal-requires
literal-requires c = (omega arith, search rules, search rules, c.if-b-eq120.true, c.requires.2)

pub returns-then-b-eq120 : goal.returns-then-b-eq120
returns-then-b-eq120 c = (c.literal.ensures.0 ∙ meant _ _ (word-variable c.args.text.now c.args.from c.args.to (search rules) (search rules) c.if-b-eq120.true), c.literal.ensures.1)

pub returns-then-is_digit : goal.returns-then-is_digit
returns-then-is_digit c = (c.unsigned.ensures.0 ∙ meant _ _ (word-digit c.args.text.now c.args.from c.args.to (search rules) (search rules) (sym c.is_digit.ensures ∙ c.if-is_digit.true)), c.unsigned.ensures.1)

pub other-requires : goal.other-requires
other-requires c = (search rules, search rules, c.if-b-eq120.false)

pub returns-then-digits-from : goal.returns-then-digits-from
returns-then-digits-from c = (c.other.ensures.0 ∙ meant _ _ (word-bare c.args.text.now c.args.from c.args.to (search rules) (search rules) c.args.digits c.requires.2 c.requires.3 (sym c.is_digit.ensures ∙ c.if-is_digit.false) c.if-digits-from.true), c.other.ensures.1)

pub unsigned-requires-then-b-eq43 : goal.unsigned-requires-then-b-eq43
unsigned-requires-then-b-eq43 c = (omega arith, omega (arith, c.requires.3, c.if-digits-from.false), search rules)

pub returns-then-b-eq43 : goal.returns-then-b-eq43
returns-then-b-eq43 c = (c.unsigned-then-b-eq43.ensures.0 ∙ meant _ _ (word-plus c.args.text.now c.args.from c.args.to (search rules) (search rules) c.args.digits c.requires.2 c.requires.3 c.if-digits-from.false c.if-b-eq43.true), c.unsigned-then-b-eq43.ensures.1)

pub returns-then-b-eq45 : goal.returns-then-b-eq45
returns-then-b-eq45 c = (c.below_zero.ensures.0 ∙ meant _ _ (word-minus c.args.text.now c.args.from c.args.to (search rules) (search rules) c.args.digits c.requires.2 c.requires.3 c.if-digits-from.false c.if-b-eq45.true), c.below_zero.ensures.1)

pub other-requires-2 : goal.other-requires-2
other-requires-2 c = (search rules, search rules, c.if-b-eq120.false)

pub returns : goal.returns
returns c = (c.other-2.ensures.0 ∙ meant _ _ (word-other c.args.text.now c.args.from c.args.to (search rules) (search rules) c.args.digits c.requires.2 c.requires.3 (sym c.is_digit.ensures ∙ c.if-is_digit.false) c.if-b-eq43.false c.if-b-eq45.false), c.other-2.ensures.1)
