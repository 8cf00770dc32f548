-- What is pushed on the stack of a pol line (02, No. 2): the inequality of an id above, or the axiom of a literal. A name that no node has
-- becomes a node for as long as the line runs, so that its literals have keys.
use Rattle.std.specs.Prelude.{◌≡◌, Bool, List, map, ℕ, ◌+◌, ◌≤◌, ◌<◌, ℤ, pos, set}
use Rattle.calculus.specs.Pol.{line_inequality, push}
use Rattle.nodes.specs.Nodes.{name_at, Table}
use Rattle.terms.specs.Names.{First}
use Rattle.terms.specs.Reading.{Grown}
use Rattle.matching.specs.Matched.{key_of, Text, term}
use Rattle.sums.specs.Lists.{res_of}
use Rattle.sums.specs.Places.{left_at}
use Rattle.links.specs.Steps.{AllUnder}
use Rattle.pol.specs.Stack.{stack_of, Stack, Stored, StackUnder}

-- an id whose clause is the nodes l was pushed on d entries; or its number is r
pub record LinePushed (t l : List ℕ) (cs : List ℤ) (ks : List ℕ) (d : ℕ) (ds : List ℤ) (ls : List ℕ) (r : ℕ) : Type 0 where
  pub is : (x : Text t) → StackUnder x.n ks d → AllUnder x.n l → push (stack_of (term x) cs ks d) (line_inequality (map (term x) l)) ≡ res_of r (stack_of (term x) ds ls (d + 1))
  pub stack : r ≡ 0 → Stack t ds ls (d + 1)
  pub under : r ≡ 0 → (m : ℕ) → StackUnder m ks d → AllUnder m l → StackUnder m ls (d + 1)

-- v is the first node with the name x among the m that are in use in the table u, where n were in t: it is new where there is one more
pub record NumberedAs (s t u y : List ℕ) (n : ℕ) (x : List ℕ) (v m : ℕ) : Type 0 where
  pub grown : (c : ℕ) → Table t n c → Grown s t u y n c m c
  pub before : v < m
  pub first : First u v
  pub name : name_at s u v ≡ x
  pub most : m ≤ n + 1
  pub new : (k : ℕ) → n ≤ k → k < m → k ≡ v

-- entry d is the axiom of the literal over node v, negated or not; it was made at the place of the first premise
abbrev pub AxiomPut : (cs : List ℤ) (ks : List ℕ) (v : ℕ) (b : Bool) (d : ℕ) (ds : List ℤ) (ls : List ℕ) → Type 0
AxiomPut cs ks v b d ds ls = Stored (set cs left_at (pos 1)) (set ks left_at (key_of v b)) left_at left_at 1 (pos 0) d ds ls
