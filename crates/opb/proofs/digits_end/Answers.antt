-- `opb::digits_end` owes the end of the digits: it is where the run that passes the test ends. Assumes nothing.
use Rattle.std.proofs.Common.{rules}
use Rattle.calculus.specs.Bytes.{is_digit}
use Rattle.opb.proofs.digits_end.Goals as goal

pub returns : goal.returns
returns c = c.run_end.ensures is_digit (λ b r e. search rules)
