-- `lexer::listed` owes the place of a word among those with one meaning: the table holds them, by computation. Assumes nothing.
use Rattle.lexer.proofs.Meanings.{cuts}
use Rattle.lexer.specs.Tokens.{cut, fixed_texts}
use Rattle.calculus.specs.Words.{fixed_words, word_text, operator_text, mark_text}
use borrow.Author.Rules.{rules}
use Rattle.lexer.proofs.listed.Goals as goal

pub among-requires : goal.among-requires
among-requires c = (cuts _ _ 15 (search rules) tt, search rules, search rules)

pub returns : goal.returns
unfolding cut fixed_texts fixed_words word_text operator_text mark_text
returns c = c.among.ensures
