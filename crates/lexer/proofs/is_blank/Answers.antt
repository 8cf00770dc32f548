-- `lexer::is_blank` owes the test of a blank: in each range the code's answer is the definition's, by computation. Assumes nothing.
use Prim.Native.Nat.{ℕ}
use Rattle.calculus.specs.Bytes.{is_blank}
use Rattle.lexer.proofs.Classes.{agree, agreed}
use lib.Dec.{eqb}
use mathlib.Core.Bool.{true, false}
use native.Mathlib.Omega.{arith}
use Rattle.lexer.proofs.is_blank.Goals as goal

pub returns-then-b-gt32 : goal.returns-then-b-gt32
unfolding agree is_blank
returns-then-b-gt32 c = agreed (λ (b : ℕ). false) is_blank 33 223 tt c.args.b (omega arith) (omega arith)

pub returns-then-b-gt13 : goal.returns-then-b-gt13
unfolding agree is_blank
returns-then-b-gt13 c = agreed (λ (b : ℕ). eqb b 32) is_blank 14 19 tt c.args.b (omega arith) (omega arith)

pub returns-then-b-lt9 : goal.returns-then-b-lt9
unfolding agree is_blank
returns-then-b-lt9 c = agreed (λ (b : ℕ). false) is_blank 0 9 tt c.args.b (omega arith) (omega arith)

pub returns-then-b-le10 : goal.returns-then-b-le10
unfolding agree is_blank
returns-then-b-le10 c = agreed (λ (b : ℕ). true) is_blank 9 2 tt c.args.b (omega arith) (omega arith)

pub returns : goal.returns
unfolding agree is_blank
returns c = agreed (λ (b : ℕ). eqb b 13) is_blank 11 3 tt c.args.b (omega arith) (omega arith)
