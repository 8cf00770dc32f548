-- What the functions over sums answer (01, section 2), over every text in which the names may lie. ..Is speaks of a sum's lists; AppendedAt, PutAt,
-- ReadAt, InequalityAt and AddAt speak of the lent arrays before and after: the sum at its place is that, and everything elsewhere is as it was.
use Rattle.std.specs.Prelude.{◌≡◌, Bool, Option, Some, None, Result, Ok, Err, List, [], ◌∷◌, map, ℕ, suc, ◌+◌, ◌*◌, ◌≤◌, ◌<◌, ℤ, pos, length, get_or}
use Rattle.integer.specs.Integers.{Within}
use Rattle.calculus.specs.Entries.{Entry, entry}
use Rattle.calculus.specs.Sums.{put, same_lit, summand, lone_constant, unwrap_inequality, keys_in, same_keys, add_sums, reduced_at, slack_at, reduce_sum, max_summands}
use Rattle.calculus.specs.Terms.{listed}
use Rattle.calculus.specs.Words.{Res, ok, bad, max_numeral}
use Rattle.nodes.specs.Nodes.{decode, Below, Node}
use Rattle.matching.specs.Matched.{refusal_number, Text, term, lit_at, variable_of, Variable}
use Rattle.matching.specs.Entries.{entry_at, entries, Under}
use Rattle.matching.specs.Places.{max_entries, placed, Put1}
use Rattle.sums.specs.Lists.{index_of, OverName, OverNames, Bounded, Fine, max_total, max_added}
use Rattle.matching.specs.declared.Refusal.{Refusal}
use Rattle.sums.specs.Places.{slotted, Elsewhere}
use Rattle.sums.specs.declared.Inequality.{Inequality}

-- whether two keys are the same literal
abbrev pub SameIs : List ℕ → ℕ → ℕ → Bool → Type 0
SameIs t k l r = (x : Text t) → variable_of k < x.n → variable_of l < x.n → r ≡ same_lit (lit_at (term x) k) (lit_at (term x) l)

-- where a key stands among the first n, whatever their coefficients are
abbrev pub PlaceIs : (t ks : List ℕ) → ℕ → ℕ → ℕ → Type 0
PlaceIs t ks n k r = (x : Text t) (cs : List ℤ) → Under x.n ks n → variable_of k < x.n → r ≡ index_of (lit_at (term x) k) (entries (term x) cs ks n)

-- and a key over a name that is found is this very key, one that is not found is none of them
pub record FindIs (t ks : List ℕ) (n k r : ℕ) : Type 0 where
  pub is : PlaceIs t ks n k r
  pub most : r ≤ n
  pub here : OverName t k → r < n → get_or ks r 0 ≡ k
  pub fresh : OverName t k → n ≤ r → (i : ℕ) → i < n → get_or ks i 0 ≡ k → ⊥

-- one entry more, behind n, and its place in the key's slot
pub record Appended (cs : List ℤ) (ks sl : List ℕ) (n k : ℕ) (c : ℤ) (ds : List ℤ) (ls tl : List ℕ) (r : ℕ) : Type 0 where
  pub coefficients : Put1 (pos 0) cs n c ds
  pub keys : Put1 0 ks n k ls
  pub slots : Put1 0 sl k n tl
  pub count : r ≡ n + 1

abbrev pub AppendedAt : (at : ℕ) (cs : List ℤ) (ks sl : List ℕ) (n k : ℕ) (c : ℤ) (ds : List ℤ) (ls tl : List ℕ) (r : ℕ) → Type 0
AppendedAt at cs ks sl n k c ds ls tl r = Appended (placed at cs) (placed at ks) (slotted at sl) n k c (placed at ds) (placed at ls) (slotted at tl) r × Elsewhere at cs ks sl ds ls tl

-- one entry more, behind n, and all keys can be looked up
pub record Followed (t : List ℕ) (cs : List ℤ) (ks : List ℕ) (n k : ℕ) (c : ℤ) (ds : List ℤ) (ls tl : List ℕ) (r : ℕ) : Type 0 where
  pub coefficients : Put1 (pos 0) cs n c ds
  pub keys : Put1 0 ks n k ls
  pub fine : Fine t ls tl r
  pub count : r ≡ n + 1

abbrev pub FollowedAt : (t : List ℕ) (at : ℕ) (cs : List ℤ) (ks sl : List ℕ) (n k : ℕ) (c : ℤ) (ds : List ℤ) (ls tl : List ℕ) (r : ℕ) → Type 0
FollowedAt t at cs ks sl n k c ds ls tl r = Followed t (placed at cs) (placed at ks) n k c (placed at ds) (placed at ls) (slotted at tl) r × Elsewhere at cs ks sl ds ls tl

-- c was added to the key k of the n entries cs, ks: the r entries ds, ls
pub record PutIs (t : List ℕ) (cs : List ℤ) (ks : List ℕ) (n k : ℕ) (c : ℤ) (ds : List ℤ) (ls tl : List ℕ) (r : ℕ) : Type 0 where
  pub is : (x : Text t) → Under x.n ks n → variable_of k < x.n → entries (term x) ds ls r ≡ put (lit_at (term x) k) c (entries (term x) cs ks n)
  pub fine : Fine t ls tl r
  pub grows : r ≤ n + 1
  pub under : (m : ℕ) → Under m ks n → variable_of k < m → Under m ls r
  pub names : OverNames t ks n → OverName t k → OverNames t ls r
  pub bounded : (B C : ℕ) → Bounded B cs n → Within C c → Bounded (B + C) ds r

abbrev pub PutAt : (t : List ℕ) (at : ℕ) (cs : List ℤ) (ks sl : List ℕ) (n k : ℕ) (c : ℤ) (ds : List ℤ) (ls tl : List ℕ) (r : ℕ) → Type 0
PutAt t at cs ks sl n k c ds ls tl r = PutIs t (placed at cs) (placed at ks) n k c (placed at ds) (placed at ls) (slotted at tl) r × Elsewhere at cs ks sl ds ls tl

-- ---- what is read, over texts in which the names lie: a key has the first node of a name
pub record SummandAt (t : List ℕ) (i k : ℕ) (c : ℤ) : Type 0 where
  pub is : (x : Text t) → i < x.n → summand (term x i) ≡ ok (entry (lit_at (term x) k) c)
  pub variable : Variable t (variable_of k)
  pub before : variable_of k ≤ i
  pub within : Within max_numeral c

abbrev pub SummandIs : List ℕ → ℕ → Result (ℕ × ℤ) Refusal → Type 0
SummandIs t i (Ok (k, c)) = SummandAt t i k c
SummandIs t i (Err e) = (s : List ℕ) → summand (decode s t i) ≡ bad (refusal_number e)

-- each is a node before m
pub record Nodes (t ts : List ℕ) (m : ℕ) : Type 0 where
  pub node : (i : ℕ) → i < length ts → Node t (get_or ts i 0)
  pub below : Below m ts

-- the numeral of a list of one
abbrev pub LoneIs : List ℕ → List ℕ → Option ℤ → Type 0
LoneIs t ts (Some z) = (s : List ℕ) → lone_constant (listed (map (decode s t) ts)) ≡ ok z
LoneIs t ts None = (s : List ℕ) → lone_constant (listed (map (decode s t) ts)) ≡ bad 0

-- the sum that was read; `want` is the definition's over a text
pub record ReadIs (t : List ℕ) (m : ℕ) (want : List ℕ → Res (List Entry)) (cs : List ℤ) (ks sl : List ℕ) (n : ℕ) : Type 0 where
  pub is : (x : Text t) → m ≤ x.n → want x.text ≡ ok (entries (term x) cs ks n)
  pub fine : Fine t ks sl n
  pub few : n ≤ max_summands
  pub under : Under m ks n
  pub bounded : Bounded max_total cs n

-- at a place of the lent arrays, or the number of what refuses it
abbrev pub ReadAt : (t : List ℕ) (m : ℕ) (want : List ℕ → Res (List Entry)) (at : ℕ) (cs : List ℤ) (ks sl : List ℕ) (ds : List ℤ) (ls tl : List ℕ) → Result ℕ Refusal → Type 0
ReadAt t m want at cs ks sl ds ls tl (Ok n) = ReadIs t m want (placed at ds) (placed at ls) (slotted at tl) n × Elsewhere at cs ks sl ds ls tl
ReadAt t m want at cs ks sl ds ls tl (Err e) = ((x : Text t) → m ≤ x.n → want x.text ≡ bad (refusal_number e)) × Elsewhere at cs ks sl ds ls tl

-- the inequality that was read, and where, or the number
pub record InequalityIs (t : List ℕ) (i : ℕ) (constant : ℤ) (cs : List ℤ) (ks sl : List ℕ) (n : ℕ) : Type 0 where
  pub is : (x : Text t) → i < x.n → unwrap_inequality (term x i) ≡ ok (record { sum = entries (term x) cs ks n; const = constant })
  pub fine : Fine t ks sl n
  pub few : n ≤ max_summands
  pub under : Under (suc i) ks n
  pub bounded : Bounded max_total cs n
  pub within : Within max_numeral constant

abbrev pub InequalityAt : (t : List ℕ) (i at : ℕ) (cs : List ℤ) (ks sl : List ℕ) (ds : List ℤ) (ls tl : List ℕ) → Result Inequality Refusal → Type 0
InequalityAt t i at cs ks sl ds ls tl (Ok r) = InequalityIs t i r.constant (placed at ds) (placed at ls) (slotted at tl) r.count × Elsewhere at cs ks sl ds ls tl
InequalityAt t i at cs ks sl ds ls tl (Err e) = ((x : Text t) → i < x.n → unwrap_inequality (term x i) ≡ bad (refusal_number e)) × Elsewhere at cs ks sl ds ls tl

-- ---- keys
abbrev pub KeptIs : (t : List ℕ) → List ℤ → List ℕ → ℕ → List ℕ → ℕ → Bool → Type 0
KeptIs t cs ks i ls m r = (x : Text t) (ds : List ℤ) → variable_of (get_or ks i 0) < x.n → Under x.n ls m
    → r ≡ keys_in (entry_at (term x) cs ks i ∷ []) (entries (term x) ds ls m)

-- every nonzero key of the n entries is one of the m keys, whatever coefficients those have
abbrev pub SubsetIs : (t : List ℕ) → List ℤ → List ℕ → ℕ → List ℕ → ℕ → Bool → Type 0
SubsetIs t cs ks n ls m r = (x : Text t) (ds : List ℤ) → Under x.n ks n → Under x.n ls m → r ≡ keys_in (entries (term x) cs ks n) (entries (term x) ds ls m)

abbrev pub SameKeysIs : (t : List ℕ) → List ℤ → List ℕ → ℕ → List ℤ → List ℕ → ℕ → Bool → Type 0
SameKeysIs t cs ks n ds ls m r = (x : Text t) → Under x.n ks n → Under x.n ls m → r ≡ same_keys (entries (term x) cs ks n) (entries (term x) ds ls m)

-- ---- adding and reducing
pub record AddIs (t : List ℕ) (cs : List ℤ) (ks : List ℕ) (n : ℕ) (bs : List ℤ) (ls : List ℕ) (m : ℕ) (ds : List ℤ) (ks' sl' : List ℕ) (r : ℕ) : Type 0 where
  pub is : (x : Text t) → Under x.n ks n → Under x.n ls m → entries (term x) ds ks' r ≡ add_sums (entries (term x) cs ks n) (entries (term x) bs ls m)
  pub fine : Fine t ks' sl' r
  pub under : (l : ℕ) → Under l ks n → Under l ls m → Under l ks' r
  pub names : OverNames t ks n → OverNames t ls m → OverNames t ks' r
  pub bounded : Bounded max_added ds r

abbrev pub AddAt : (t : List ℕ) (at : ℕ) (cs : List ℤ) (ks sl : List ℕ) (n at2 m : ℕ) (ds : List ℤ) (ls tl : List ℕ) (r : ℕ) → Type 0
AddAt t at cs ks sl n at2 m ds ls tl r =
    AddIs t (placed at cs) (placed at ks) n (placed at2 cs) (placed at2 ks) m (placed at ds) (placed at ls) (slotted at tl) r × Elsewhere at cs ks sl ds ls tl

-- what entry i keeps, and what it adds to the slack
pub record CancelIs (t : List ℕ) (cs : List ℤ) (ks : List ℕ) (n i : ℕ) (a b : ℤ) : Type 0 where
  pub kept : (x : Text t) → Under x.n ks n → a ≡ reduced_at (entries (term x) cs ks n) (entry_at (term x) cs ks i)
  pub slack : (x : Text t) → Under x.n ks n → b ≡ slack_at (entries (term x) cs ks n) (entry_at (term x) cs ks i)
  pub within : Within max_added b

pub record ReduceIs (t : List ℕ) (cs : List ℤ) (ks : List ℕ) (n : ℕ) (ds : List ℤ) (slack : ℤ) : Type 0 where
  pub is : (x : Text t) → Under x.n ks n → record { sum = entries (term x) ds ks n; slack = slack } ≡ reduce_sum (entries (term x) cs ks n)
  pub within : Within (max_entries * max_added) slack
