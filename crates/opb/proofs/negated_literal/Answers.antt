-- `opb::negated_literal` owes the meaning of a word that begins with `~`. Assumes nothing.
use Prim.Native.Nat.{◌+◌}
use mathlib.Core.Path.{◌≡◌, ◌∙◌}
use native.Mathlib.Omega.{arith}
use Rattle.opb.proofs.Meanings.{meant, tilde, tilde-bad, tilde_bare, tilde-other}
use borrow.Author.Rules.{rules}
use Rattle.opb.proofs.negated_literal.Goals as goal

pub returns-then-to-from-lt2 : goal.returns-then-to-from-lt2
returns-then-to-from-lt2 c = (tilde-bad c.args.text.now c.args.from c.args.to (search rules) (search rules) c.requires.2 (tilde_bare c.args.text.now c.args.from c.args.to (search rules) (search rules) c.if-to-from-lt2.true), search rules)

pub returns-then-text-from-ne120 : goal.returns-then-text-from-ne120
returns-then-text-from-ne120 c = (tilde-bad c.args.text.now c.args.from c.args.to (search rules) (search rules) c.requires.2 (tilde-other c.args.text.now c.args.from c.args.to (search rules) (search rules) c.if-to-from-lt2.false c.if-text-from-ne120.true), search rules)

pub literal-requires : goal.literal-requires
literal-requires c = let e : c.args.from + 2 ≡ c.args.from + 1 + 1 = omega arith in (search rules, omega arith, search rules, c.if-text-from-ne120.false, rw (← e) c.digits_end.ensures.0)

pub returns : goal.returns
returns c = (c.literal.ensures.0 ∙ meant _ _ (tilde c.args.text.now c.args.from c.args.to (search rules) (search rules) c.requires.2), c.literal.ensures.1)
