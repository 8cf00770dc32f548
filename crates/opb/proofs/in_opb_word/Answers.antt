-- `opb::in_opb_word` owes the test of a byte of a word: `;` is none, any other byte is as in the lexer. Assumes nothing.
use Rattle.opb.proofs.Inside.{semicolon-ends, others-as-words}
use Rattle.opb.proofs.in_opb_word.Goals as goal

pub returns-then-b-ne59 : goal.returns-then-b-ne59
returns-then-b-ne59 c = others-as-words c.args.b _ c.if-b-ne59.true c.in_word.ensures

pub returns : goal.returns
returns c = semicolon-ends c.args.b c.if-b-ne59.false
