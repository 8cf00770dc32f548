-- Bytes written from a place on: what each function says that appends to a lent report.
use Rattle.std.specs.Prelude.{◌≡◌, List, ◌++◌, ℕ, ◌+◌, ◌≤◌, length, take, drop}

-- d with s in place of what stood there from byte `at` on
unfoldable pub put : List ℕ → ℕ → List ℕ → List ℕ
put d at s = take at d ++ s ++ drop (at + length s) d

-- d has become e: s was written at byte `at` and nothing else changed; r is the place behind it
pub record Wrote (d : List ℕ) (at : ℕ) (s : List ℕ) (e : List ℕ) (r : ℕ) : Type 0 where
  pub next : r ≡ at + length s
  pub room : r ≤ length d
  pub size : length e ≡ length d
  pub same : e ≡ put d at s
