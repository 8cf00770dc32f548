-- `lexer::same` owes the definition's test of equal bytes: it is `==` of the two parts. Assumes nothing.
use Rattle.std.proofs.Common.{arith, ◌∙◌}
use Rattle.lexer.proofs.Bytes.{same-parts}
use Rattle.lexer.proofs.same.Goals as goal

pub returns : goal.returns
returns c = c.eq.ensures ∙ same-parts c.args.x.now c.args.y.now c.args.a c.args.b c.args.from c.args.to (omega arith) (omega arith)
