-- `opb::literal` owes the literal of a variable: `x`, a digit or more, and 32 bytes at most. Assumes nothing.
use native.Mathlib.Omega.{arith}
use Rattle.opb.proofs.Meanings.{variable-broken, variable-bare, variable-long, variable-good, literal-bad, literal-good}
use borrow.Author.Rules.{rules}
use Rattle.opb.proofs.literal.Goals as goal

pub returns-then-digits-to : goal.returns-then-digits-to
returns-then-digits-to c = (literal-bad c.args.text.now c.args.from c.args.to _ _ (variable-broken c.args.text.now c.args.name c.args.to c.args.digits (search rules) (search rules) c.requires.3 c.requires.4 c.if-digits-to.true), search rules)

pub returns-then-to-name-lt2 : goal.returns-then-to-name-lt2
returns-then-to-name-lt2 c = (literal-bad c.args.text.now c.args.from c.args.to _ _ (variable-bare c.args.text.now c.args.name c.args.to c.args.digits (search rules) (search rules) c.requires.3 c.requires.4 c.if-to-name-lt2.true), search rules)

pub returns-then-to-name-gt-MAX_NAME : goal.returns-then-to-name-gt-MAX_NAME
returns-then-to-name-gt-MAX_NAME c = (literal-bad c.args.text.now c.args.from c.args.to _ _ (variable-long c.args.text.now c.args.name c.args.to c.args.digits (search rules) (search rules) c.requires.3 c.requires.4 c.if-to-name-gt-MAX_NAME.true), search rules)

pub returns : goal.returns
returns c = (literal-good c.args.text.now c.args.from c.args.to _ c.args.negated c.args.name (variable-good c.args.text.now c.args.name c.args.to c.args.digits (search rules) (search rules) c.requires.3 c.requires.4 c.if-digits-to.false c.if-to-name-lt2.false c.if-to-name-gt-MAX_NAME.false), (omega arith, omega arith, search rules, search rules, search rules))
