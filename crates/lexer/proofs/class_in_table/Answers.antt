-- `lexer::class_in_table` owes the class of a byte: two tests that are computed over all entries of the table. Assumes nothing.
-- the entry x at byte k is a digit, and it is that of the byte's class
use mathlib.Core.Path.{◌≡◌}
use mathlib.Core.Bool.{Bool}
use mathlib.Core.List.{List}
use Prim.Native.Nat.{ℕ, ◌-◌, ◌≤◌, ◌<◌}
use lib.Dec.{T, leb, leb→le, eqb, eqb→eq}
use lib.ListN.{length, get_or}
use borrow.Author.Rules.{rules}
use Rattle.calculus.specs.Bytes.{byte, class_of, is_blank, is_digit, is_letter}
use Rattle.lexer.proofs.Table.{every, at}
use Rattle.lexer.proofs.class_in_table.Goals as goal

digit : ℕ → ℕ → Bool
digit k x = leb (byte "0") x

right : ℕ → ℕ → Bool
right k x = eqb (x - byte "0") (class_of k)

is_digit_lem : (table : List ℕ) (k : ℕ) → k < length table → T (every digit 0 table) → byte "0" ≤ get_or table k 0
unfolding digit
is_digit_lem table k h t = leb→le _ _ (at digit table t k h)

is_right : (table : List ℕ) (k : ℕ) → k < length table → T (every right 0 table) → get_or table k 0 - byte "0" ≡ class_of k
unfolding right
is_right table k h t = eqb→eq _ _ (at right table t k h)

pub overflow_sub-result : goal.overflow_sub-result
unfolding digit
overflow_sub-result c = search (rules, is_digit_lem)

pub returns : goal.returns
unfolding right class_of is_blank is_digit is_letter
returns c = search (rules, is_right)
