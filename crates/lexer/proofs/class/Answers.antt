-- `lexer::class` owes the class of a byte: by its range, whose bytes are of one class by computation, or as the rarer bytes are told. Assumes nothing.
use Rattle.calculus.specs.Bytes.{class_of, is_blank, is_digit, is_letter, digit, letter}
use Rattle.lexer.proofs.Classes.{alike, ranged}
use native.Mathlib.Omega.{arith}
use Rattle.lexer.proofs.class.Goals as goal

pub returns-then-b-eq40 : goal.returns-then-b-eq40
unfolding class_of is_blank is_digit is_letter
returns-then-b-eq40 c = rw c.if-b-eq40.true

pub returns-then-b-eq41 : goal.returns-then-b-eq41
unfolding class_of is_blank is_digit is_letter
returns-then-b-eq41 c = rw c.if-b-eq41.true

pub returns-then-b-le122 : goal.returns-then-b-le122
unfolding alike class_of is_blank is_digit is_letter
returns-then-b-le122 c = ranged letter 97 26 tt c.args.b (omega arith) (omega arith)

pub returns-then-b-le57 : goal.returns-then-b-le57
unfolding alike class_of is_blank is_digit is_letter
returns-then-b-le57 c = ranged digit 48 10 tt c.args.b (omega arith) (omega arith)
