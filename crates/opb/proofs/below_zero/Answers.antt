-- `opb::below_zero` owes the number of a word with `-`: never -0. Assumes nothing.
use Rattle.opb.proofs.Meanings.{minus-zero, minus-big, minus-good}
use borrow.Author.Rules.{rules}
use Rattle.opb.proofs.below_zero.Goals as goal

pub returns-then-v-eq0 : goal.returns-then-v-eq0
returns-then-v-eq0 c = (minus-zero c.args.text.now c.args.from c.args.to _ _ c.magnitude-v.ensures c.if-v-eq0.true, search rules)

pub returns-then-v-gt-MAX_NUMERAL : goal.returns-then-v-gt-MAX_NUMERAL
returns-then-v-gt-MAX_NUMERAL c = (minus-big c.args.text.now c.args.from c.args.to _ _ c.magnitude-v.ensures c.if-v-gt-MAX_NUMERAL.true, search rules)

pub returns : goal.returns
returns c = (minus-good c.args.text.now c.args.from c.args.to _ _ c.magnitude-v.ensures c.if-v-eq0.false c.if-v-gt-MAX_NUMERAL.false, search rules)
