-- `opb::word_end` owes the end of the word: it is where the run that passes the test ends. Assumes nothing.
use Rattle.std.proofs.Common.{rules}
use Rattle.calculus.specs.OpbWords.{in_opb_word}
use Rattle.opb.proofs.word_end.Goals as goal

pub returns : goal.returns
returns c = c.run_end.ensures in_opb_word (λ b r e. search rules)
