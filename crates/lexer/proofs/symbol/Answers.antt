-- `lexer::symbol` owes the place of a word of one byte: by computation, or none of the bytes is its. Assumes nothing.
use Rattle.calculus.specs.Terms.{same_name}
use Rattle.calculus.specs.Words.{fixed_words, word_text, operator_text, mark_text}
use Rattle.lexer.proofs.Meanings.{symbol-none}
use Rattle.lexer.specs.Tokens.{place, fixed_texts}
use borrow.Author.Rules.{rules}
use Rattle.lexer.proofs.symbol.Goals as goal

pub returns-then-b-eq43 : goal.returns-then-b-eq43
unfolding fixed_texts fixed_words word_text operator_text mark_text place same_name
returns-then-b-eq43 c = (rw c.if-b-eq43.true, search rules)

pub returns-then-b-eq45 : goal.returns-then-b-eq45
unfolding fixed_texts fixed_words word_text operator_text mark_text place same_name
returns-then-b-eq45 c = (rw c.if-b-eq45.true, search rules)

pub returns-then-b-eq42 : goal.returns-then-b-eq42
unfolding fixed_texts fixed_words word_text operator_text mark_text place same_name
returns-then-b-eq42 c = (rw c.if-b-eq42.true, search rules)

pub returns-then-b-eq62 : goal.returns-then-b-eq62
unfolding fixed_texts fixed_words word_text operator_text mark_text place same_name
returns-then-b-eq62 c = (rw c.if-b-eq62.true, search rules)

pub returns-then-b-eq60 : goal.returns-then-b-eq60
unfolding fixed_texts fixed_words word_text operator_text mark_text place same_name
returns-then-b-eq60 c = (rw c.if-b-eq60.true, search rules)

pub returns-then-b-eq61 : goal.returns-then-b-eq61
unfolding fixed_texts fixed_words word_text operator_text mark_text place same_name
returns-then-b-eq61 c = (rw c.if-b-eq61.true, search rules)

pub returns : goal.returns
returns c = (symbol-none _ c.if-b-eq43.false c.if-b-eq45.false c.if-b-eq42.false c.if-b-eq62.false c.if-b-eq60.false c.if-b-eq61.false, search rules)
