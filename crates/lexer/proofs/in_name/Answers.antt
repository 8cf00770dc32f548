-- `lexer::in_name` owes the test of a byte of a name: in each range the code's answer is the definition's, by computation. Assumes nothing.
use Prim.Native.Nat.{ℕ}
use Rattle.calculus.specs.Bytes.{is_digit, is_letter, in_name}
use Rattle.lexer.proofs.Classes.{agree, agreed}
use lib.Dec.{leb, eqb}
use mathlib.Core.Bool.{true, false}
use native.Mathlib.Omega.{arith}
use Rattle.lexer.proofs.in_name.Goals as goal

pub returns-then-b-ge97 : goal.returns-then-b-ge97
unfolding agree in_name is_letter is_digit
returns-then-b-ge97 c = agreed (λ (b : ℕ). leb b 122) in_name 97 159 tt c.args.b (omega arith) (omega arith)

pub returns-then-b-lt48 : goal.returns-then-b-lt48
unfolding agree in_name is_letter is_digit
returns-then-b-lt48 c = agreed (λ (b : ℕ). eqb b 46) in_name 0 48 tt c.args.b (omega arith) (omega arith)

pub returns-then-b-le57 : goal.returns-then-b-le57
unfolding agree in_name is_letter is_digit
returns-then-b-le57 c = agreed (λ (b : ℕ). true) in_name 48 10 tt c.args.b (omega arith) (omega arith)

pub returns-then-b-lt64 : goal.returns-then-b-lt64
unfolding agree in_name is_letter is_digit
returns-then-b-lt64 c = agreed (λ (b : ℕ). false) in_name 58 6 tt c.args.b (omega arith) (omega arith)

pub returns-then-b-le90 : goal.returns-then-b-le90
unfolding agree in_name is_letter is_digit
returns-then-b-le90 c = agreed (λ (b : ℕ). true) in_name 64 27 tt c.args.b (omega arith) (omega arith)

pub returns : goal.returns
unfolding agree in_name is_letter is_digit
returns c = agreed (λ (b : ℕ). eqb b 95) in_name 91 6 tt c.args.b (omega arith) (omega arith)
