-- `opb::inside_token` owes the token behind the blanks, and its place: by its first byte. Assumes nothing.
use mathlib.Core.Path.{sym, ◌∙◌}
use native.Mathlib.Omega.{arith}
use Rattle.opb.proofs.Inside.{word-whole, token_end, token-word, token-semicolon, token-opens, token-closes, token-bad, placed-from}
use borrow.Author.Rules.{rules}
use Rattle.opb.proofs.inside_token.Goals as goal

pub returns-then-text-from : goal.returns-then-text-from
returns-then-text-from c = (token_end c.args.text.now c.args.at c.behind_blanks-from.result c.behind_blanks-from.ensures.0 c.if-text-from.true, omega (arith, c.behind_blanks-from.ensures.1, c.if-text-from.true))

pub word_end-requires : goal.word_end-requires
word_end-requires c = c.digits_end-digits.ensures.1

pub word-requires : goal.word-requires
word-requires c = (omega (arith, c.digits_end-digits.ensures.0, c.word_end.ensures.0), c.word_end.ensures.1, c.digits_end-digits.ensures.0, omega (arith, c.word_end.ensures.0))

pub returns-then-in_opb_word : goal.returns-then-in_opb_word
returns-then-in_opb_word c = (c.word.ensures.0 ∙ token-word c.args.text.now c.args.at c.behind_blanks-from.result c.behind_blanks-from.ensures.0 (search rules) c.word_end.result (sym c.in_opb_word.ensures ∙ c.if-in_opb_word.true) (word-whole c.args.text.now c.behind_blanks-from.result c.digits_end-digits.result c.word_end.result (search rules) (sym c.in_opb_word.ensures ∙ c.if-in_opb_word.true) c.digits_end-digits.ensures.0 c.word_end.ensures.0), placed-from c.args.text.now c.args.at c.behind_blanks-from.result (omega (arith, c.behind_blanks-from.ensures.0)) c.word.result c.word.ensures.1)

pub returns-then-b-eq59 : goal.returns-then-b-eq59
returns-then-b-eq59 c = (token-semicolon c.args.text.now c.args.at c.behind_blanks-from.result c.behind_blanks-from.ensures.0 (search rules) (sym c.in_opb_word.ensures ∙ c.if-in_opb_word.false) c.if-b-eq59.true, (omega (arith, c.behind_blanks-from.ensures.0), search rules))

pub returns-then-k-eq-OPENS : goal.returns-then-k-eq-OPENS
returns-then-k-eq-OPENS c = (token-opens c.args.text.now c.args.at c.behind_blanks-from.result c.behind_blanks-from.ensures.0 (search rules) (sym c.in_opb_word.ensures ∙ c.if-in_opb_word.false) c.class-k.result c.if-b-eq59.false c.class-k.ensures c.if-k-eq-OPENS.true, (omega (arith, c.behind_blanks-from.ensures.0), search rules))

pub returns-then-k-eq-CLOSES : goal.returns-then-k-eq-CLOSES
returns-then-k-eq-CLOSES c = (token-closes c.args.text.now c.args.at c.behind_blanks-from.result c.behind_blanks-from.ensures.0 (search rules) (sym c.in_opb_word.ensures ∙ c.if-in_opb_word.false) c.class-k.result c.if-b-eq59.false c.class-k.ensures c.if-k-eq-CLOSES.true, (omega (arith, c.behind_blanks-from.ensures.0), search rules))

pub returns : goal.returns
returns c = (token-bad c.args.text.now c.args.at c.behind_blanks-from.result c.behind_blanks-from.ensures.0 (search rules) (sym c.in_opb_word.ensures ∙ c.if-in_opb_word.false) c.class-k.result c.if-b-eq59.false c.class-k.ensures c.if-k-eq-OPENS.false c.if-k-eq-CLOSES.false, (omega (arith, c.behind_blanks-from.ensures.0), search rules))
