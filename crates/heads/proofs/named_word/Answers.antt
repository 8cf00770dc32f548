-- `heads::named_word` owes the word that a name is in a pol line: not `d`, the operation `s`, or a name. Assumes nothing.
use Rattle.heads.proofs.PolWords.{named-d, named-s, named-plain}
use mathlib.Core.Path.{refl, sym, ◌∙◌}
use Rattle.heads.proofs.named_word.Goals as goal

pub returns-then-is_byte : goal.returns-then-is_byte
returns-then-is_byte c = (named-d c.args.text.now c.args.from c.args.to (sym c.if-is_byte.true ∙ c.is_byte.ensures), tt)

pub returns-then-is_byte-2 : goal.returns-then-is_byte-2
returns-then-is_byte-2 c = (named-s c.args.text.now c.args.from c.args.to (sym c.if-is_byte.false ∙ c.is_byte.ensures) (sym c.if-is_byte-2.true ∙ c.is_byte-2.ensures), refl)

pub returns : goal.returns
returns c = (named-plain c.args.text.now c.args.from c.args.to (sym c.if-is_byte.false ∙ c.is_byte.ensures) (sym c.if-is_byte-2.false ∙ c.is_byte-2.ensures), (refl, refl))
