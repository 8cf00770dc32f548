-- `lexer::fixed` owes the place of a word among those with one meaning: by its length and its first byte. Assumes nothing.
use Rattle.lexer.proofs.Meanings.{fixed_symbol, fixed-none}
use borrow.Author.Rules.{rules}
use mathlib.Core.Path.{refl}
use native.Mathlib.Omega.{arith}
use Rattle.lexer.proofs.fixed.Goals as goal

pub returns-then-n-eq1 : goal.returns-then-n-eq1
returns-then-n-eq1 c = (fixed_symbol c.args.text.now c.args.from c.args.to _ (search rules) (search rules) c.if-n-eq1.true c.symbol.ensures.0, c.symbol.ensures.1)

pub longer-requires : goal.longer-requires
longer-requires c = (omega (arith, c.if-n-eq1.false), search rules)

pub returns-then-leads : goal.returns-then-leads
returns-then-leads c = c.longer.ensures

pub returns : goal.returns
returns c = (fixed-none c.args.text.now c.args.from c.args.to _ (search rules) (search rules) refl (c.leads.ensures c.if-leads.false), search rules)
