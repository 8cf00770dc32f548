-- The greatest value of a sum in the lent arrays, and whether a clause is out of its reach (02, No. 6), over texts in which the names lie.
use Rattle.std.specs.Prelude.{◌≡◌, Bool, true, false, List, [], map, ℕ, ◌*◌, ◌<◌, ℤ}
use Rattle.integer.specs.Integers.{Within}
use Rattle.calculus.specs.Greatest.{greatest_at, greatest, beyond, unreachable}
use Rattle.calculus.specs.Sums.{summands, unwrap_inequality, max_summands}
use Rattle.calculus.specs.Terms.{listed}
use Rattle.calculus.specs.Words.{ok, bind}
use Rattle.nodes.specs.Nodes.{Below}
use Rattle.matching.specs.Matched.{Text, term}
use Rattle.matching.specs.Entries.{entry_at, entries, Under}
use Rattle.sums.specs.Lists.{max_total}

-- what entry i of the first n adds
pub record GreatestAtIs (t : List ℕ) (cs : List ℤ) (ks : List ℕ) (n i : ℕ) (r : ℤ) : Type 0 where
  pub is : (x : Text t) → Under x.n ks n → r ≡ greatest_at (entries (term x) cs ks n) (entry_at (term x) cs ks i)
  pub within : Within max_total r

-- the greatest value of the first n entries
pub record GreatestIs (t : List ℕ) (cs : List ℤ) (ks : List ℕ) (n : ℕ) (r : ℤ) : Type 0 where
  pub is : (x : Text t) → Under x.n ks n → r ≡ greatest (entries (term x) cs ks n)
  pub within : Within (max_summands * max_total) r

-- yes only where the nodes ts are no sum, or one whose greatest value is not below the constant
abbrev pub ReachIs : List ℕ → List ℕ → ℤ → Bool → Type 0
ReachIs t ts z r = r ≡ true → (x : Text t) → Below x.n ts → beyond (bind (summands (listed (map (term x) ts)) []) (λ E. ok (record { sum = E; const = z }))) ≡ false

-- yes only where they are no sum over names
abbrev pub OtherIs : List ℕ → List ℕ → Bool → Type 0
OtherIs t ts r = (z : ℤ) → ReachIs t ts z r

-- yes only where node i is no inequality out of reach
abbrev pub ReachedIs : List ℕ → ℕ → Bool → Type 0
ReachedIs t i r = r ≡ true → (x : Text t) → i < x.n → beyond (unwrap_inequality (term x i)) ≡ false

-- whether the clause of the nodes l is unreachable
abbrev pub UnreachableIs : List ℕ → List ℕ → Bool → Type 0
UnreachableIs t l r = (x : Text t) → Below x.n l → r ≡ unreachable (map (term x) l)
