-- The end of a pol line (02, No. 2): the one entry of the stack without its zeros and in order, as the first r entries of the lent arrays and then
-- as the words of summands.
use Rattle.std.specs.Prelude.{◌≡◌, false, cond, List, ℕ, ◌+◌, ◌-◌, ◌^◌, ◌≤◌, ◌<◌, ℤ, pos, nat_abs, length, get_or}
use Rattle.std.specs.Int.Signed.{lt_z}
use Rattle.calculus.specs.OpbWriting.{entries_of}
use Rattle.calculus.specs.Pol.{max_literals, nonzeros, placed, ordered, finished}
use Rattle.calculus.specs.Terms.{Term, same_integer}
use Rattle.calculus.specs.Words.{max_numeral}
use Rattle.nodes.specs.Nodes.{decode, first_at, second_at, Named}
use Rattle.matching.specs.Entries.{run, entry_at, entries, Under, Literals}
use Rattle.matching.specs.Matched.{variable_of, negated_of, Variable, Text, term}
use Rattle.opb.specs.Judged.{put_summand}
use Rattle.opb.specs.Summands.{summands_of, SummandsIn}
use Rattle.sums.specs.Lists.{OverName, OverNames, Bounded}
use Rattle.pol.specs.Stack.{stack_words, window, constant_of, count_of, inequality_of, StackUnder}

-- ---- what the functions ask
-- two keys over names that lie in the text s, each by the first node with its name
pub record Spelled (s t : List ℕ) (k l : ℕ) : Type 0 where
  pub n : ℕ
  pub named : Named s t n
  pub left : Variable t (variable_of k)
  pub right : Variable t (variable_of l)
  pub name : OverName t k
  pub other : OverName t l
  pub under : variable_of k < n
  pub below : variable_of l < n

-- the first r entries of the arrays have literals over names, and numerals
pub record Gathered (t : List ℕ) (cs : List ℤ) (ks : List ℕ) (r : ℕ) : Type 0 where
  pub few : r ≤ max_literals
  pub coefficients : stack_words ≤ length cs
  pub keys : stack_words ≤ length ks
  pub literals : Literals t ks r
  pub names : OverNames t ks r
  pub within : Bounded max_numeral cs r

-- the names of the first r keys lie in the text s
pub record InText (s t ks : List ℕ) (r : ℕ) : Type 0 where
  pub n : ℕ
  pub named : Named s t n
  pub under : Under n ks r

-- the places of these names fit words of 32 bits
abbrev pub Near : (t ks : List ℕ) → ℕ → Type 0
Near t ks r = (i : ℕ) → i < r → (first_at t (variable_of (get_or ks i 0)) < 2 ^ 32) × (second_at t (variable_of (get_or ks i 0)) < 2 ^ 32)

-- the names of the stack's one entry lie in the text s
pub record EntryIn (s t ks : List ℕ) : Type 0 where
  pub n : ℕ
  pub named : Named s t n
  pub under : StackUnder n ks 1

-- ---- what they answer
-- entry r of the arrays is the one with this coefficient and this key, unless the coefficient is 0; so there are e
pub record PutIs (cs : List ℤ) (ks : List ℕ) (r : ℕ) (c : ℤ) (k : ℕ) (ds : List ℤ) (ls : List ℕ) (e : ℕ) : Type 0 where
  pub long : length ds ≡ length cs
  pub same : length ls ≡ length ks
  pub coefficients : (j : ℕ) → (j ≡ r → ⊥) → get_or ds j (pos 0) ≡ get_or cs j (pos 0)
  pub keys : (j : ℕ) → (j ≡ r → ⊥) → get_or ls j 0 ≡ get_or ks j 0
  pub count : e ≡ cond (same_integer c (pos 0)) r (r + 1)
  pub coefficient : same_integer c (pos 0) ≡ false → get_or ds r (pos 0) ≡ c
  pub key : same_integer c (pos 0) ≡ false → get_or ls r 0 ≡ k

-- entry j of the arrays is one of the entry with the words os and ps
pub record Picked (os : List ℤ) (ps : List ℕ) (j : ℕ) (ds : List ℤ) (ls : List ℕ) : Type 0 where
  pub i : ℕ
  pub below : i < count_of ps
  pub coefficient : get_or ds j (pos 0) ≡ get_or os i (pos 0)
  pub key : get_or ls j 0 ≡ get_or ps i 0

-- the arrays are as long as they were, and have the words from number a on that they had
pub record Behind (a : ℕ) (cs : List ℤ) (ks : List ℕ) (ds : List ℤ) (ls : List ℕ) : Type 0 where
  pub long : length ds ≡ length cs
  pub same : length ls ≡ length ks
  pub coefficients : (j : ℕ) → a ≤ j → get_or ds j (pos 0) ≡ get_or cs j (pos 0)
  pub keys : (j : ℕ) → a ≤ j → get_or ls j 0 ≡ get_or ks j 0

-- the first r entries of the arrays are those of the entry with the words os and ps whose coefficient is not 0
pub record Nonzeros (os : List ℤ) (ps : List ℕ) (ds : List ℤ) (ls : List ℕ) (r : ℕ) : Type 0 where
  pub is : (d : ℕ → Term) → entries d ds ls r ≡ nonzeros (entries d os ps (count_of ps))
  pub few : r ≤ count_of ps
  pub each : (j : ℕ) → j < r → Picked os ps j ds ls

-- two neighbours have changed places
pub record Swapped {A : Type 0} (z : A) (l m : List A) (j : ℕ) : Type 0 where
  pub long : length m ≡ length l
  pub here : get_or m j z ≡ get_or l (j + 1) z
  pub next : get_or m (j + 1) z ≡ get_or l j z
  pub rest : (i : ℕ) → (i ≡ j → ⊥) → (i ≡ j + 1 → ⊥) → get_or m i z ≡ get_or l i z

-- entry i is in its place among the entries behind it, and those before it are as they were
pub record InPlace (s t : List ℕ) (cs : List ℤ) (ks : List ℕ) (i r : ℕ) (ds : List ℤ) (ls : List ℕ) : Type 0 where
  pub is : run (entry_at (decode s t) ds ls) i (r - i) ≡ placed (entry_at (decode s t) cs ks i) (run (entry_at (decode s t) cs ks) (i + 1) (r - (i + 1)))
  pub coefficients : (j : ℕ) → j < i → get_or ds j (pos 0) ≡ get_or cs j (pos 0)
  pub keys : (j : ℕ) → j < i → get_or ls j 0 ≡ get_or ks j 0
  pub gathered : Gathered t ds ls r
  pub inside : InText s t ls r
  pub behind : Behind r cs ks ds ls

-- the first r entries are in order
pub record Ordered (s t : List ℕ) (cs : List ℤ) (ks : List ℕ) (r : ℕ) (ds : List ℤ) (ls : List ℕ) : Type 0 where
  pub is : entries (decode s t) ds ls r ≡ ordered (entries (decode s t) cs ks r)
  pub gathered : Gathered t ds ls r
  pub inside : InText s t ls r
  pub behind : Behind r cs ks ds ls

-- the five words of summand q, which is entry q, put into a
abbrev pub words_put : (t : List ℕ) (cs : List ℤ) (ks : List ℕ) → ℕ → List ℕ → List ℕ
words_put t cs ks q a =
    put_summand a q (lt_z (get_or cs q (pos 0)) (pos 0)) (nat_abs (get_or cs q (pos 0))) (negated_of (get_or ks q 0)) (first_at t (variable_of (get_or ks q 0))) (second_at t (variable_of (get_or ks q 0)))

-- the words a have the first q entries as summands
pub record Written (t : List ℕ) (cs : List ℤ) (ks : List ℕ) (q : ℕ) (a : List ℕ) : Type 0 where
  pub is : (x : Text t) → Under x.n ks q → entries_of (summands_of x.text a q) ≡ entries (term x) cs ks q
  pub each : (x : Text t) → Under x.n ks q → SummandsIn x.text a q

-- the words a have the stack's one entry, without zeros and in order, as r summands; its constant is as it was
pub record Finished (s t : List ℕ) (cs : List ℤ) (ks : List ℕ) (ds : List ℤ) (a : List ℕ) (r : ℕ) : Type 0 where
  pub few : r ≤ max_literals
  pub is : entries_of (summands_of s a r) ≡ (finished (inequality_of (decode s t) (window 0 cs) (window 0 ks))).sum
  pub each : SummandsIn s a r
  pub constant : constant_of (window 0 ds) ≡ constant_of (window 0 cs)
