-- `lexer::in_word` owes the test of a byte of a word: in each range the code's answer is the definition's, by computation. Assumes nothing.
use Prim.Native.Nat.{ℕ}
use Rattle.calculus.specs.Bytes.{class_of, is_blank, is_digit, is_letter, in_word}
use Rattle.lexer.proofs.Classes.{agree, agreed}
use lib.Dec.{leb, ltb}
use mathlib.Core.Bool.{false}
use native.Mathlib.Omega.{arith}
use Rattle.lexer.proofs.in_word.Goals as goal

pub returns-then-b-le32 : goal.returns-then-b-le32
unfolding agree class_of is_blank is_digit is_letter in_word
returns-then-b-le32 c = agreed (λ (b : ℕ). false) in_word 0 33 tt c.args.b (omega arith) (omega arith)

pub returns-then-b-ge42 : goal.returns-then-b-ge42
unfolding agree class_of is_blank is_digit is_letter in_word
returns-then-b-ge42 c = agreed (λ (b : ℕ). leb b 126) in_word 42 214 tt c.args.b (omega arith) (omega arith)

pub returns : goal.returns
unfolding agree class_of is_blank is_digit is_letter in_word
returns c = agreed (λ (b : ℕ). ltb b 40) in_word 33 9 tt c.args.b (omega arith) (omega arith)
