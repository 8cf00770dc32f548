-- `lexer::longer` owes the place of a word of two bytes or more: the table holds these words, by computation. Assumes nothing.
use Rattle.lexer.proofs.Meanings.{cuts, longer-placed}
use Rattle.lexer.specs.Tokens.{cut, longer_texts, renumber}
use borrow.Author.Rules.{rules}
use mathlib.Core.Path.{ap, ◌∙◌}
use Rattle.lexer.proofs.longer.Goals as goal

pub among-requires : goal.among-requires
among-requires c = (cuts _ _ 9 (search rules) tt, search rules, search rules)

pub renumbered-requires : goal.renumbered-requires
renumbered-requires c = c.among.ensures.1

pub returns : goal.returns
unfolding cut longer_texts
returns c = (longer-placed c.args.text.now c.args.from c.args.to _ (search rules) (search rules) (c.renumbered.ensures.0 ∙ ap renumber c.among.ensures.0), c.renumbered.ensures.1)
