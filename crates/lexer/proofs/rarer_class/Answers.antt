-- `lexer::rarer_class` owes the class of a byte: by its range, whose bytes are of one class by computation, or from the table. Assumes nothing.
use Rattle.calculus.specs.Bytes.{class_of, is_blank, is_digit, is_letter, letter, other}
use Rattle.lexer.proofs.Classes.{alike, ranged}
use native.Mathlib.Omega.{arith}
use Rattle.lexer.proofs.rarer_class.Goals as goal

pub returns-then-b-le47 : goal.returns-then-b-le47
unfolding alike class_of is_blank is_digit is_letter
returns-then-b-le47 c = ranged other 42 6 tt c.args.b (omega arith) (omega arith)

pub returns-then-b-le63 : goal.returns-then-b-le63
unfolding alike class_of is_blank is_digit is_letter
returns-then-b-le63 c = ranged other 58 6 tt c.args.b (omega arith) (omega arith)

pub returns-then-b-le90 : goal.returns-then-b-le90
unfolding alike class_of is_blank is_digit is_letter
returns-then-b-le90 c = ranged letter 64 27 tt c.args.b (omega arith) (omega arith)

pub returns-then-b-eq95 : goal.returns-then-b-eq95
unfolding class_of is_blank is_digit is_letter
returns-then-b-eq95 c = rw c.if-b-eq95.true
