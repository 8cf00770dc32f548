-- `lexer::renumbered` owes the place among all words. Assumes nothing.
use Rattle.lexer.proofs.Meanings.{renumber-other}
use Rattle.lexer.specs.Tokens.{renumber}
use borrow.Author.Rules.{rules}
use Rattle.lexer.proofs.renumbered.Goals as goal

pub returns-then-k-eq0 : goal.returns-then-k-eq0
unfolding renumber
returns-then-k-eq0 c = (rw c.if-k-eq0.true, search rules)

pub returns-then-k-eq1 : goal.returns-then-k-eq1
unfolding renumber
returns-then-k-eq1 c = (rw c.if-k-eq1.true, search rules)

pub returns : goal.returns
returns c = (renumber-other _ c.if-k-eq0.false c.if-k-eq1.false, search rules)
