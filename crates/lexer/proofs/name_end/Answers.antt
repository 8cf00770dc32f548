-- `lexer::name_end` owes the end of the bytes that a name may have: it is where the run that passes the test ends. Assumes nothing.
use Rattle.std.proofs.Common.{rules}
use Rattle.calculus.specs.Bytes.{in_name}
use Rattle.lexer.proofs.name_end.Goals as goal

pub returns : goal.returns
returns c = c.run_end.ensures in_name (λ b r e. search rules)
