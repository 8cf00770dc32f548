-- `lexer::is_digit` owes the test of a digit: in each range the code's answer is the definition's, by computation. Assumes nothing.
use Prim.Native.Nat.{ℕ}
use Rattle.calculus.specs.Bytes.{is_digit}
use Rattle.lexer.proofs.Classes.{agree, agreed}
use lib.Dec.{leb}
use mathlib.Core.Bool.{false}
use native.Mathlib.Omega.{arith}
use Rattle.lexer.proofs.is_digit.Goals as goal

pub returns-then-b-lt48 : goal.returns-then-b-lt48
unfolding agree is_digit
returns-then-b-lt48 c = agreed (λ (b : ℕ). false) is_digit 0 48 tt c.args.b (omega arith) (omega arith)

pub returns : goal.returns
unfolding agree is_digit
returns c = agreed (λ (b : ℕ). leb b 57) is_digit 48 208 tt c.args.b (omega arith) (omega arith)
