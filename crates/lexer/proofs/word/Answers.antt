-- `lexer::word` owes the meaning of a word: a numeral, one of the words with one meaning, a name, or a refusal. Assumes nothing.
use Rattle.lexer.proofs.Meanings.{word-numeral, word-op, word-mark, word-name, word-tilde, word_none, name-short}
use borrow.Author.Rules.{rules}
use mathlib.Core.Path.{sym, ◌∙◌}
use native.Mathlib.Omega.{arith}
use Rattle.lexer.proofs.word.Goals as goal

pub returns-then-numeral_first : goal.returns-then-numeral_first
returns-then-numeral_first c = (c.numeral.ensures.0 ∙ word-numeral _ _ _ (sym c.if-numeral_first.true ∙ c.numeral_first.ensures), c.numeral.ensures.1)

pub returns-then-k-lt-OPERATORS : goal.returns-then-k-lt-OPERATORS
returns-then-k-lt-OPERATORS c = (word-op c.args.text.now c.args.from c.args.to (sym c.if-numeral_first.false ∙ c.numeral_first.ensures) c.fixed-k.result c.fixed-k.ensures.0 c.if-k-lt-OPERATORS.true, search rules)

pub returns-then-k-lt-WORDS : goal.returns-then-k-lt-WORDS
returns-then-k-lt-WORDS c = (word-mark c.args.text.now c.args.from c.args.to (sym c.if-numeral_first.false ∙ c.numeral_first.ensures) c.fixed-k.result c.fixed-k.ensures.0 c.if-k-lt-OPERATORS.false c.if-k-lt-WORDS.true c.fixed_mark.result c.fixed_mark.ensures, search rules)

pub is_name-requires : goal.is_name-requires
is_name-requires c = c.requires

pub returns-then-is_name : goal.returns-then-is_name
returns-then-is_name c = (word-name c.args.text.now c.args.from c.args.to (sym c.if-numeral_first.false ∙ c.numeral_first.ensures) c.fixed-k.result c.fixed-k.ensures.0 (omega arith) (search rules) (sym c.if-is_name.true ∙ c.is_name.ensures), (name-short c.args.text.now c.args.from c.args.to (search rules) (sym c.if-is_name.true ∙ c.is_name.ensures), search rules, search rules, search rules))

pub returns-then-text-from-eq126 : goal.returns-then-text-from-eq126
returns-then-text-from-eq126 c = (word-tilde c.args.text.now c.args.from c.args.to (sym c.if-numeral_first.false ∙ c.numeral_first.ensures) c.fixed-k.result c.fixed-k.ensures.0 (omega arith) (search rules) (sym c.if-is_name.false ∙ c.is_name.ensures), search rules)

pub returns : goal.returns
returns c = (word_none c.args.text.now c.args.from c.args.to (sym c.if-numeral_first.false ∙ c.numeral_first.ensures) c.fixed-k.result c.fixed-k.ensures.0 (omega arith) (search rules) (sym c.if-is_name.false ∙ c.is_name.ensures) (search rules) c.if-text-from-eq126.false, search rules)
