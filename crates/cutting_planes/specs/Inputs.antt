-- What the program promises of the bytes that it reads, and what it asks of the check that they are handed to.
use Rattle.std.specs.Prelude.{◌≡◌, List, ℕ, ◌+◌, ◌≤◌, ◌<◌, length}
use Rattle.std.specs.Borrow.{Bor, MutBor}
use Rattle.std.proofs.Math.Seq.{paste}

-- d has become e: the first bytes of src were stored behind the first `at` bytes, all of them or as many as there is room for;
-- nothing else changed, and r is the place behind them
pub record Stored (d : List ℕ) (at : ℕ) (src e : List ℕ) (r : ℕ) : Type 0 where
  pub count : ℕ
  pub within : count ≤ length src
  pub next : r ≡ at + count
  pub room : r ≤ length d
  pub all : r < length d → count ≡ length src
  pub bytes : e ≡ paste d at src count

-- where P says what a call of a check may give: the size that it answers is within the report that it leaves
abbrev pub WithinReport : (Bor (List ℕ) → MutBor (List ℕ) → MutBor (List ℕ) → ℕ → MutBor (List ℕ) → MutBor (List ℕ) → Type 0) → Type 0
WithinReport P = (text : _) (nodes report : _) (size : ℕ) (nodes_left report_left : _) → P text nodes report size nodes_left report_left → size ≤ length report_left.now
