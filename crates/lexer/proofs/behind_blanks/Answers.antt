-- `lexer::behind_blanks` owes the first byte that is no blank: it is where the run that passes the test ends. Assumes nothing.
use Rattle.std.proofs.Common.{rules}
use Rattle.calculus.specs.Bytes.{is_blank}
use Rattle.lexer.proofs.behind_blanks.Goals as goal

pub returns : goal.returns
returns c = c.run_end.ensures is_blank (λ b r e. search rules)
