-- A table in a larger one: words that are copied, and nodes that are each the first with their name.
use Rattle.std.specs.Prelude.{◌≡◌, List, ℕ, ◌+◌, ◌≤◌, ◌<◌, length, get_or}
use Rattle.terms.specs.Names.{First}

-- v is u with the first i words of t from word `from` on at word `to`; of the words behind them nothing is said
pub record Copied (t u : List ℕ) (from to i : ℕ) (v : List ℕ) : Type 0 where
  pub long : length v ≡ length u
  pub below : (j : ℕ) → j < to → get_or v j 0 ≡ get_or u j 0
  pub words : (j : ℕ) → j < i → get_or v (to + j) 0 ≡ get_or t (from + j) 0

-- each of the nodes n to m is the first with its name
abbrev pub AllFirst : List ℕ → ℕ → ℕ → Type 0
AllFirst t n m = (k : ℕ) → n ≤ k → k < m → First t k
