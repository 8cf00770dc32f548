-- What the lists of a sum stand for: its entry list, in order of first appearance (01, sections 2 and 9), and what is kept of them.
use Rattle.std.specs.Prelude.{◌≡◌, cond, List, [], ◌∷◌, ℕ, zero, suc, ◌+◌, ◌*◌, ◌^◌, ◌≤◌, ◌<◌, ℤ, pos, get_or}
use Rattle.integer.specs.Integers.{Within}
use Rattle.calculus.specs.Entries.{Lit, Entry}
use Rattle.calculus.specs.Sums.{same_lit, max_summands}
use Rattle.calculus.specs.Words.{Res, ok, bad, max_numeral}
use Rattle.nodes.specs.Nodes.{name_kind, kind_at}
use Rattle.matching.specs.Entries.{Literals}
use Rattle.matching.specs.Matched.{variable_of}
use Rattle.matching.specs.Places.{max_entries}

-- how many entries stand before the first of a literal; all of them where it is no key
unfoldable pub index_of : Lit → List Entry → ℕ
index_of k [] = 0
index_of k (e ∷ E) = cond (same_lit k e.lit) 0 (suc (index_of k E))

-- the first n coefficients are within B
abbrev pub Bounded : ℕ → List ℤ → ℕ → Type 0
Bounded B cs n = (i : ℕ) → i < n → Within B (get_or cs i (pos 0))

-- a key's variable is a name
abbrev pub OverName : List ℕ → ℕ → Type 0
OverName t k = name_kind ≤ kind_at t (variable_of k)

-- those of the first n keys are
abbrev pub OverNames : (t ks : List ℕ) → ℕ → Type 0
OverNames t ks n = (i : ℕ) → i < n → OverName t (get_or ks i 0)

-- the slot of a key holds the place of one of the first n keys, and that is this key
abbrev pub Taken : (ks sl : List ℕ) → ℕ → ℕ → Type 0
Taken ks sl n k = (get_or sl k 0 < n) × (get_or ks (get_or sl k 0) 0 ≡ k)

-- n keys that can be looked up: the slot of a key over a name holds its place, or that of the same key before it; nothing is asked of the other slots
pub record Fine (t ks sl : List ℕ) (n : ℕ) : Type 0 where
  pub few : n ≤ max_entries
  pub literals : Literals t ks n
  pub slots : (i : ℕ) → i < n → OverName t (get_or ks i 0) → Taken ks sl (suc i) (get_or ks i 0)

-- ---- bounds (01, section 9): the total of a literal in a sum that was read, and in the sum of two
abbrev pub max_total : ℕ
max_total = max_summands * max_numeral

abbrev pub max_added : ℕ
max_added = max_total + max_summands * max_total

-- what puts an entry stays below
abbrev pub max_coefficient : ℕ
max_coefficient = 2 ^ 60

-- an answer by its number: 0 for the value
unfoldable pub res_of : {A : Type 0} → ℕ → A → Res A
res_of zero a = ok a
res_of (suc n) a = bad (suc n)
