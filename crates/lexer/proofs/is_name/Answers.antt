-- `lexer::is_name` owes the test of a name of up to 32 bytes: a letter first, and no byte behind those of names. Assumes nothing.
use Rattle.lexer.proofs.Bytes.{name-not}
use Rattle.lexer.proofs.Named.{name-broken, name-whole}
use borrow.Author.Rules.{rules}
use mathlib.Core.Path.{sym, ◌∙◌}
use Rattle.lexer.proofs.is_name.Goals as goal

pub returns-then-not-is_letter : goal.returns-then-not-is_letter
returns-then-not-is_letter c = name-not c.args.text.now c.args.from c.args.to (search rules) (search rules) (sym c.is_letter.ensures ∙ c.if-not-is_letter.true)

pub returns-then-names-to : goal.returns-then-names-to
returns-then-names-to c = name-broken c.args.text.now c.args.from c.args.names c.args.to (search rules) (search rules) (sym c.is_letter.ensures ∙ c.if-not-is_letter.false) c.requires.names_value c.if-names-to.true

pub returns : goal.returns
returns c = name-whole c.args.text.now c.args.from c.args.names c.args.to (search rules) (search rules) (sym c.is_letter.ensures ∙ c.if-not-is_letter.false) c.requires.names_value c.if-names-to.false
