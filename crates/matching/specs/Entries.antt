-- A list of entries as two lists side by side: the coefficients, and the keys of the literals (01, section 9).
use Rattle.std.specs.Prelude.{◌≡◌, Bool, List, [], ◌∷◌, ℕ, zero, suc, ◌<◌, ℤ, pos, get_or}
use Rattle.calculus.specs.Entries.{Entry, entry}
use Rattle.calculus.specs.Sums.{all_names}
use Rattle.calculus.specs.Terms.{Term}
use Rattle.nodes.specs.Nodes.{decode, Node}
use Rattle.matching.specs.Matched.{variable_of, lit_at, Variable}

-- f i, f (i + 1), .., n of them
unfoldable pub run : (ℕ → Entry) → ℕ → ℕ → List Entry
run f i zero = []
run f i (suc n) = f i ∷ run f (suc i) n

-- entry i of the coefficients cs and the keys ks, where d gives the term of a node
abbrev pub entry_at : (ℕ → Term) → List ℤ → List ℕ → ℕ → Entry
entry_at d cs ks i = entry (lit_at d (get_or ks i 0)) (get_or cs i (pos 0))

-- the first n entries
abbrev pub entries : (ℕ → Term) → List ℤ → List ℕ → ℕ → List Entry
entries d cs ks n = run (entry_at d cs ks) 0 n

-- the variables of the first n keys are nodes
abbrev pub Variables : List ℕ → List ℕ → ℕ → Type 0
Variables t ks n = (i : ℕ) → i < n → Node t (variable_of (get_or ks i 0))

-- and stand before m
abbrev pub Under : ℕ → List ℕ → ℕ → Type 0
Under m ks n = (i : ℕ) → i < n → variable_of (get_or ks i 0) < m

-- whether they are names: the coefficients don't matter, nor does the text
abbrev pub NamesAre : (t ks : List ℕ) → ℕ → Bool → Type 0
NamesAre t ks n r = (s : List ℕ) (cs : List ℤ) → r ≡ all_names (entries (decode s t) cs ks n)

-- the first n keys are over variables by their numbers
abbrev pub Literals : List ℕ → List ℕ → ℕ → Type 0
Literals t ks n = (i : ℕ) → i < n → Variable t (variable_of (get_or ks i 0))
