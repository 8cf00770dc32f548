-- `lexer::is_letter` owes the test of a letter: in each range the code's answer is the definition's, by computation. Assumes nothing.
use Prim.Native.Nat.{ℕ}
use Rattle.calculus.specs.Bytes.{is_letter}
use Rattle.lexer.proofs.Classes.{agree, agreed}
use lib.Dec.{leb, eqb}
use mathlib.Core.Bool.{true, false}
use native.Mathlib.Omega.{arith}
use Rattle.lexer.proofs.is_letter.Goals as goal

pub returns-then-b-ge97 : goal.returns-then-b-ge97
unfolding agree is_letter
returns-then-b-ge97 c = agreed (λ (b : ℕ). leb b 122) is_letter 97 159 tt c.args.b (omega arith) (omega arith)

pub returns-then-b-lt64 : goal.returns-then-b-lt64
unfolding agree is_letter
returns-then-b-lt64 c = agreed (λ (b : ℕ). false) is_letter 0 64 tt c.args.b (omega arith) (omega arith)

pub returns-then-b-le90 : goal.returns-then-b-le90
unfolding agree is_letter
returns-then-b-le90 c = agreed (λ (b : ℕ). true) is_letter 64 27 tt c.args.b (omega arith) (omega arith)

pub returns : goal.returns
unfolding agree is_letter
returns c = agreed (λ (b : ℕ). eqb b 95) is_letter 91 6 tt c.args.b (omega arith) (omega arith)
