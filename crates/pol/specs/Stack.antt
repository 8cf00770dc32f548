-- The stack of a pol line in the lent arrays, behind the three sums of a rule (02, No. 2): entry e is 65 words of the coefficients and of the
-- keys, up to 64 literals one by one, and behind them its constant and how many there are.
use Rattle.std.specs.Prelude.{◌≡◌, Bool, cond, List, [], ◌∷◌, ℕ, zero, suc, ◌+◌, ◌-◌, ◌*◌, ◌≤◌, ◌<◌, ℤ, pos, length, get_or}
use Rattle.integer.specs.Integers.{Within}
use Rattle.calculus.specs.Entries.{Inequality}
use Rattle.calculus.specs.Pol.{max_stack, max_literals, in_range, fits_entry, added, mapped}
use Rattle.calculus.specs.Sums.{all}
use Rattle.calculus.specs.Terms.{Term}
use Rattle.calculus.specs.Words.{Res, ok, max_numeral}
use Rattle.matching.specs.Entries.{entries, Under, Literals}
use Rattle.matching.specs.Matched.{Text, term}
use Rattle.matching.specs.Places.{max_entries, part, placed}
use Rattle.sums.specs.Lists.{OverNames, Bounded, Fine, res_of}
use Rattle.sums.specs.Places.{left_at, right_at, slotted, Elsewhere}
use Rattle.pol.specs.declared.Total.{Total}

-- where the stack begins, the words of an entry, and of all arrays
abbrev pub stack_at : ℕ
stack_at = 3072

abbrev pub entry_words : ℕ
entry_words = 65

abbrev pub stack_words : ℕ
stack_words = 5152

-- where entry e begins
abbrev pub base_of : ℕ → ℕ
base_of e = stack_at + entry_words * e

-- its words
abbrev pub window : {A : Type 0} → ℕ → List A → List A
window e l = part (base_of e) entry_words l

-- behind the literals of its words
abbrev pub constant_of : List ℤ → ℤ
constant_of us = get_or us max_literals (pos 0)

abbrev pub count_of : List ℕ → ℕ
count_of vs = get_or vs max_literals 0

-- the entry with these words, where d gives the term of a node
unfoldable pub inequality_of : (ℕ → Term) → List ℤ → List ℕ → Inequality
inequality_of d us vs = record { sum = entries d us vs (count_of vs); const = constant_of us }

-- the first e entries, the top first
unfoldable pub stack_of : (ℕ → Term) → List ℤ → List ℕ → ℕ → List Inequality
stack_of d cs ks zero = []
stack_of d cs ks (suc e) = inequality_of d (window e cs) (window e ks) ∷ stack_of d cs ks e

-- an entry with these words has literals over names, and its numbers are numerals
pub record Standing (t : List ℕ) (us : List ℤ) (vs : List ℕ) : Type 0 where
  pub few : count_of vs ≤ max_literals
  pub literals : Literals t vs (count_of vs)
  pub names : OverNames t vs (count_of vs)
  pub within : Bounded max_numeral us (count_of vs)
  pub constant : Within max_numeral (constant_of us)

-- the arrays have room for the stack, and its first d entries stand in them
pub record Stack (t : List ℕ) (cs : List ℤ) (ks : List ℕ) (d : ℕ) : Type 0 where
  pub few : d ≤ max_stack
  pub coefficients : stack_words ≤ length cs
  pub keys : stack_words ≤ length ks
  pub each : (e : ℕ) → e < d → Standing t (window e cs) (window e ks)

-- ---- what the functions answer
-- entry d is the n entries with their coefficients at one place and their keys at one, and the constant c; what stands below it is as it was
pub record Stored (cs : List ℤ) (ks : List ℕ) (from at n : ℕ) (c : ℤ) (d : ℕ) (ds : List ℤ) (ls : List ℕ) : Type 0 where
  pub long : length ds ≡ length cs
  pub same : length ls ≡ length ks
  pub below : (j : ℕ) → j < base_of d → get_or ds j (pos 0) ≡ get_or cs j (pos 0)
  pub under : (j : ℕ) → j < base_of d → get_or ls j 0 ≡ get_or ks j 0
  pub coefficients : (i : ℕ) → i < n → get_or ds (base_of d + i) (pos 0) ≡ get_or cs (from + i) (pos 0)
  pub keys : (i : ℕ) → i < n → get_or ls (base_of d + i) 0 ≡ get_or ks (at + i) 0
  pub constant : get_or ds (base_of d + max_literals) (pos 0) ≡ c
  pub count : get_or ls (base_of d + max_literals) 0 ≡ n

-- the r entries at a place, with words us and vs there, are those of the entry with the words os and ps, and its keys can be looked up
pub record Loaded (t : List ℕ) (os : List ℤ) (ps : List ℕ) (us : List ℤ) (vs sl : List ℕ) (r : ℕ) : Type 0 where
  pub count : r ≡ count_of ps
  pub coefficients : (i : ℕ) → i < r → get_or us i (pos 0) ≡ get_or os i (pos 0)
  pub keys : (i : ℕ) → i < r → get_or vs i 0 ≡ get_or ps i 0
  pub fine : Fine t vs sl r

abbrev pub LoadedAt : (t : List ℕ) (e at : ℕ) (cs : List ℤ) (ks sl : List ℕ) (ds : List ℤ) (ls tl : List ℕ) (r : ℕ) → Type 0
LoadedAt t e at cs ks sl ds ls tl r = Loaded t (window e cs) (window e ks) (placed at ds) (placed at ls) (slotted at tl) r × Elsewhere at cs ks sl ds ls tl

-- whether the n coefficients are all in range: whatever their keys
abbrev pub RangeIs : (cs : List ℤ) (n : ℕ) → Bool → Type 0
RangeIs cs n r = (d : ℕ → Term) (ks : List ℕ) → r ≡ all (λ e. in_range e.coefficient) (entries d cs ks n)

-- whether the n entries at a place, with the constant c, are no entry too large: whatever their keys
abbrev pub FitsIs : (cs : List ℤ) (n : ℕ) (c : ℤ) → Bool → Type 0
FitsIs cs n c r = (d : ℕ → Term) (ks : List ℕ) → r ≡ fits_entry (record { sum = entries d cs ks n; const = c })

-- the n entries at two places, with the constant c, became entry d, or they are too large an entry: 53
pub record KeptIs (cs : List ℤ) (ks : List ℕ) (from at n : ℕ) (c : ℤ) (d : ℕ) (ds : List ℤ) (ls : List ℕ) (r : ℕ) : Type 0 where
  pub number : (f : ℕ → Term) (ms : List ℕ) → r ≡ cond (fits_entry (record { sum = entries f (placed from cs) ms n; const = c })) 0 53
  pub stored : r ≡ 0 → Stored cs ks from at n c d ds ls

-- the variables of the first d entries stand before m
abbrev pub StackUnder : ℕ → List ℕ → ℕ → Type 0
StackUnder m ks d = (e : ℕ) → e < d → Under m (window e ks) (count_of (window e ks))

-- the two top entries of d, added and reduced, are the entries of the keys at the first place with the coefficients at the second, and the constant; the stack is as it was
pub record SummedAt (t : List ℕ) (cs : List ℤ) (ks : List ℕ) (d : ℕ) (ds : List ℤ) (ls : List ℕ) (r : Total) : Type 0 where
  pub is : (x : Text t) → StackUnder x.n ks d
      → added (inequality_of (term x) (window (d - 2) cs) (window (d - 2) ks)) (inequality_of (term x) (window (d - 1) cs) (window (d - 1) ks))
      ≡ record { sum = entries (term x) (placed right_at ds) (placed left_at ls) r.count; const = r.constant }
  pub few : r.count ≤ max_entries
  pub literals : Literals t (placed left_at ls) r.count
  pub names : OverNames t (placed left_at ls) r.count
  pub under : (m : ℕ) → StackUnder m ks d → Under m (placed left_at ls) r.count
  pub coefficients : (e : ℕ) → window e ds ≡ window e cs
  pub keys : (e : ℕ) → window e ls ≡ window e ks
  pub long : length ds ≡ length cs
  pub same : length ls ≡ length ks

-- a word that works on the stack of d entries was done, and there are e now; or its number is r
pub record WorkedIs (t : List ℕ) (word : List Inequality → Res (List Inequality)) (cs : List ℤ) (ks : List ℕ) (d : ℕ) (ds : List ℤ) (ls : List ℕ) (e r : ℕ) : Type 0 where
  pub is : (x : Text t) → StackUnder x.n ks d → word (stack_of (term x) cs ks d) ≡ res_of r (stack_of (term x) ds ls e)
  pub stack : r ≡ 0 → Stack t ds ls e
  pub under : r ≡ 0 → (m : ℕ) → StackUnder m ks d → StackUnder m ls e

-- ---- words on the top
-- the arrays hold a stack of d entries over some table
abbrev pub Stacked : List ℤ → List ℕ → ℕ → Type 0
Stacked cs ks d = (t : List ℕ) × Stack t cs ks d

-- each number of entry e, which has n literals, became what f makes of it; what stands below it is as it was
pub record MappedAt (f : ℤ → ℤ) (cs : List ℤ) (e n : ℕ) (ds : List ℤ) : Type 0 where
  pub long : length ds ≡ length cs
  pub below : (j : ℕ) → j < base_of e → get_or ds j (pos 0) ≡ get_or cs j (pos 0)
  pub coefficients : (i : ℕ) → i < n → get_or ds (base_of e + i) (pos 0) ≡ f (get_or cs (base_of e + i) (pos 0))
  pub constant : get_or ds (base_of e + max_literals) (pos 0) ≡ f (get_or cs (base_of e + max_literals) (pos 0))

-- f of each number of an entry, and no check
abbrev pub maps_to : (ℤ → ℤ) → Inequality → Res Inequality
maps_to f q = ok (mapped f q)

-- a word on the top of d entries, over every table that they are over
abbrev pub TopIs : (word : List Inequality → Res (List Inequality)) (cs : List ℤ) (ks : List ℕ) (d : ℕ) (ds : List ℤ) (r : ℕ) → Type 0
TopIs word cs ks d ds r = (t : List ℕ) → Stack t cs ks d → WorkedIs t word cs ks d ds ks d r
