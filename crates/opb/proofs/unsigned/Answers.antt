-- `opb::unsigned` owes the number of a word without `-`. Assumes nothing.
use native.Mathlib.Omega.{arith}
use Rattle.lexer.proofs.Numbers.{plus_only}
use Rattle.opb.proofs.Meanings.{unsigned_big, unsigned-good}
use borrow.Author.Rules.{rules}
use Rattle.opb.proofs.unsigned.Goals as goal

pub returns-then-v-gt-MAX_NUMERAL : goal.returns-then-v-gt-MAX_NUMERAL
returns-then-v-gt-MAX_NUMERAL c = (unsigned_big c.args.text.now c.args.from c.args.to _ _ c.magnitude-v.ensures c.if-v-gt-MAX_NUMERAL.true, search rules)

pub returns : goal.returns
returns c = (unsigned-good c.args.text.now c.args.from c.args.to _ _ c.magnitude-v.ensures c.if-v-gt-MAX_NUMERAL.false, (c.if-v-gt-MAX_NUMERAL.false, λ e. plus_only _ e, omega arith, omega arith, search rules))
