-- `opb::printable` owes the test of a byte of a comment: below the space a blank, from it on the bytes up to `~`, by computation. Assumes nothing.
use Prim.Native.Nat.{ℕ}
use mathlib.Core.Bool.{not}
use mathlib.Core.Path.{◌∙◌}
use native.Mathlib.Omega.{arith}
use lib.Dec.{eqb, leb}
use Rattle.calculus.specs.Bytes.{class_of, is_blank, is_digit, is_letter, unprintable}
use Rattle.lexer.proofs.Classes.{agree, agreed}
use Rattle.opb.proofs.printable.Goals as goal

pub returns-then-b-lt32 : goal.returns-then-b-lt32
unfolding agree class_of is_blank is_digit is_letter
returns-then-b-lt32 c = c.is_blank.ensures ∙ agreed is_blank (λ (b : ℕ). not (eqb (class_of b) unprintable)) 0 32 tt c.args.b (omega arith) (omega arith)

pub returns : goal.returns
unfolding agree class_of is_blank is_digit is_letter
returns c = agreed (λ (b : ℕ). leb b 126) (λ (b : ℕ). not (eqb (class_of b) unprintable)) 32 224 tt c.args.b (omega arith) (omega arith)
