-- `lexer::next_token` owes the token behind the blanks, and its place: by the class of its first byte. Assumes nothing.
use Rattle.lexer.proofs.Named.{word-whole}
use Rattle.lexer.proofs.Spoken.{token_end, token-word, token_open, token_close, token-bad, word-progress, placed-from}
use borrow.Author.Rules.{rules}
use mathlib.Core.Path.{◌∙◌}
use native.Mathlib.Omega.{arith}
use Rattle.lexer.proofs.next_token.Goals as goal

pub returns-then-text-from : goal.returns-then-text-from
returns-then-text-from c = (token_end c.args.text.now c.args.at c.behind_blanks-from.result c.behind_blanks-from.ensures.0 c.if-text-from.true, omega arith)

pub returns-then-k-eq-OPENS : goal.returns-then-k-eq-OPENS
returns-then-k-eq-OPENS c = (token_open c.args.text.now c.args.at c.behind_blanks-from.result c.behind_blanks-from.ensures.0 _ c.class-k.ensures (search rules) c.if-k-eq-OPENS.true, search rules)

pub returns-then-k-eq-CLOSES : goal.returns-then-k-eq-CLOSES
returns-then-k-eq-CLOSES c = (token_close c.args.text.now c.args.at c.behind_blanks-from.result c.behind_blanks-from.ensures.0 _ c.class-k.ensures (search rules) c.if-k-eq-CLOSES.true, search rules)

pub word_end-requires : goal.word_end-requires
word_end-requires c = c.name_end-names.ensures.1

pub word-requires : goal.word-requires
word-requires c = record {
  from_lt_to = (word-progress c.args.text.now _ c.class-k.result _ c.class-k.ensures (search rules) c.if-k-ge-DIGIT.true (word-whole c.args.text.now c.behind_blanks-from.result c.name_end-names.result c.word_end.result c.name_end-names.ensures.0 c.word_end.ensures.0), c.word_end.ensures.1);
  names_value = c.name_end-names.ensures.0;
}

pub returns-then-k-ge-DIGIT : goal.returns-then-k-ge-DIGIT
returns-then-k-ge-DIGIT c = (c.word.ensures.0 ∙ token-word c.args.text.now c.args.at c.behind_blanks-from.result c.behind_blanks-from.ensures.0 c.class-k.result _ c.class-k.ensures (word-whole c.args.text.now c.behind_blanks-from.result c.name_end-names.result c.word_end.result c.name_end-names.ensures.0 c.word_end.ensures.0) (search rules) c.if-k-ge-DIGIT.true, placed-from c.args.text.now c.args.at c.behind_blanks-from.result (omega (arith, c.behind_blanks-from.ensures.0)) c.word.result c.word.ensures.1)

pub returns : goal.returns
returns c = (token-bad c.args.text.now c.args.at c.behind_blanks-from.result c.behind_blanks-from.ensures.0 _ c.class-k.ensures (search rules) c.if-k-ge-DIGIT.false c.if-k-eq-OPENS.false c.if-k-eq-CLOSES.false, search rules)
