-- `lexer::numeral` owes the numeral that a word is: a minus is followed by a magnitude that is not 0. Assumes nothing.
use Rattle.lexer.proofs.Numbers.{minus-zero, minus-big, minus-good, plus_big, plus-good, plus_only}
use borrow.Author.Rules.{rules}
use Rattle.lexer.proofs.numeral.Goals as goal

pub returns-then-v-eq0 : goal.returns-then-v-eq0
returns-then-v-eq0 c = (minus-zero c.args.text.now c.args.from c.args.to _ (search rules) (search rules) c.if-text-from-eq45.true c.magnitude-v.ensures c.if-v-eq0.true, search rules)

pub returns-then-v-gt-MAX_NUMERAL : goal.returns-then-v-gt-MAX_NUMERAL
returns-then-v-gt-MAX_NUMERAL c = (minus-big c.args.text.now c.args.from c.args.to _ (search rules) (search rules) c.if-text-from-eq45.true c.magnitude-v.ensures c.if-v-gt-MAX_NUMERAL.true, search rules)

pub returns-then-text-from-eq45 : goal.returns-then-text-from-eq45
returns-then-text-from-eq45 c = (minus-good c.args.text.now c.args.from c.args.to _ (search rules) (search rules) c.if-text-from-eq45.true c.magnitude-v.ensures c.if-v-eq0.false c.if-v-gt-MAX_NUMERAL.false, search rules)

pub returns-then-v-gt-MAX_NUMERAL-2 : goal.returns-then-v-gt-MAX_NUMERAL-2
returns-then-v-gt-MAX_NUMERAL-2 c = (plus_big c.args.text.now c.args.from c.args.to _ (search rules) (search rules) c.if-text-from-eq45.false c.magnitude-v-2.ensures c.if-v-gt-MAX_NUMERAL-2.true, search rules)

pub returns : goal.returns
returns c = (plus-good c.args.text.now c.args.from c.args.to _ (search rules) (search rules) c.if-text-from-eq45.false c.magnitude-v-2.ensures c.if-v-gt-MAX_NUMERAL-2.false, (search rules, λ e. plus_only _ e, search rules, search rules, search rules))
