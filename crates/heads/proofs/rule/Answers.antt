-- `heads::rule` owes the place of a name among those of the rules: the table holds them, by computation. Assumes nothing.
use Rattle.lexer.proofs.Meanings.{cuts}
use Rattle.calculus.specs.Terms.{rule_text}
use Rattle.heads.specs.Heads.{rule_texts}
use Rattle.lexer.specs.Tokens.{cut}
use borrow.Author.Rules.{rules}
use Rattle.heads.proofs.rule.Goals as goal

pub among-requires : goal.among-requires
among-requires c = (cuts _ _ 8 (search rules) tt, search rules, search rules)

pub returns : goal.returns
unfolding cut rule_texts rule_text
returns c = c.among.ensures
