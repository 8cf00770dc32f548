-- What the makers of an OPB constraint's nodes promise: the assumption that it becomes, in the node table (02, No. 1).
use Rattle.std.specs.Prelude.{◌≡◌, Bool, true, cond, List, [], ◌∷◌, map, ℕ, ◌+◌, ◌-◌, ◌*◌, ◌≤◌, ◌<◌, eqb, ℤ, neg_ℤ, length, get_or, take}
use Rattle.std.proofs.Math.Seq.{paste}
use Rattle.integer.specs.Integers.{signed}
use Rattle.calculus.specs.OpbWords.{Literal}
use Rattle.calculus.specs.Entries.{lit_term, entry_term, sum_term}
use Rattle.calculus.specs.OpbWriting.{Summand, times, key_of, entry_of, entries_of, inequality, turned}
use Rattle.calculus.specs.Terms.{Term}
use Rattle.calculus.specs.Words.{max_numeral, max_name}
use Rattle.calculus.specs.Limits.{max_nodes}
use Rattle.nodes.specs.Nodes.{capacity, child_base, children_at, decode, Below, Table, put}
use Rattle.opb.specs.Counts.{negations, sum_nodes, inequality_nodes}
use Rattle.opb.specs.Summands.{summand_word, summands_of, SummandsIn}
use Rattle.terms.specs.Names.{Names}
use Rattle.terms.specs.Reading.{Grown}
use Rattle.terms.specs.Spans.{max_joined}

-- ---- signs, turned where asked
unfoldable pub turned_number : Bool → ℤ → ℤ
turned_number d k = cond d (neg_ℤ k) k

unfoldable pub turned_summand : Bool → Summand → Summand
turned_summand d (times k l) = times (turned_number d k) l

unfoldable pub turned_if : Bool → List Summand → List Summand
turned_if d xs = cond d (turned xs) xs

-- a numeral in range, never -0
pub record Numeral (negative : Bool) (magnitude : ℕ) : Type 0 where
  pub size : magnitude ≤ max_numeral
  pub minus : negative ≡ true → 1 ≤ magnitude

-- r is the sign of a numeral turned where asked
pub record SignIs (d negative : Bool) (magnitude : ℕ) (r : Bool) : Type 0 where
  pub number : signed r magnitude ≡ turned_number d (signed negative magnitude)
  pub numeral : Numeral r magnitude

-- ---- the nodes of a part
unfoldable pub literal_nodes : Bool → ℕ
literal_nodes d = cond d 3 1

unfoldable pub summand_nodes : Bool → ℕ
summand_nodes d = cond d 5 3

-- whether the literal of summand i is negated
abbrev pub negated_at : List ℕ → ℕ → Bool
negated_at a i = eqb (summand_word a i 2) 1

-- those of the first q summands
abbrev pub product_nodes : List ℕ → List ℕ → ℕ → ℕ
product_nodes s a q = 3 * q + 2 * negations (summands_of s a q)

-- ---- what a maker asks
-- a name is the bytes from a to b
pub record NameIn (s : List ℕ) (a b : ℕ) : Type 0 where
  pub starts : a < b
  pub ends : b ≤ length s
  pub short : b ≤ a + max_name

-- n nodes and c child words are in use, and there is room for k nodes more
pub record Ready (s t y : List ℕ) (n c k : ℕ) : Type 0 where
  pub text : length s ≤ max_joined
  pub table : Table t n c
  pub names : Names s t y n
  pub room : n + k ≤ capacity t

-- the same, with the words a of q summands and a place for each pending node
pub record Making (s a t v y : List ℕ) (q n c k : ℕ) : Type 0 where
  pub summands : SummandsIn s a q
  pub ready : Ready s t y n c k
  pub stack : max_nodes ≤ length v

-- ---- how the table is written
-- node m is the operator o over the nodes a and b, which are the child words d and d + 1
unfoldable pub binary : (t : List ℕ) (m d o a b : ℕ) → List ℕ
binary t m d o a b = put (paste t (child_base t + d) (a ∷ b ∷ []) 2) m o d 2

-- the term x is the last of the m nodes that are in use now, where n were; each of the new nodes but this one is a child word
pub record TermPut (s t u y : List ℕ) (n c m d : ℕ) (x : Term) : Type 0 where
  pub grown : Grown s t u y n c m d
  pub some : n < m
  pub even : m + c ≡ d + n + 1
  pub decoded : decode s u (m - 1) ≡ x

-- the child words then in use
abbrev pub words_behind : (n c m : ℕ) → ℕ
words_behind n c m = c + (m - n) - 1

-- the terms of a literal and of a summand
unfoldable pub literal_term : Literal → Term
literal_term l = lit_term (key_of l)

unfoldable pub summand_term : Summand → Term
summand_term x = entry_term (entry_of x)

-- the terms of q summands are the pending nodes w, the last of them the last node; each of the new nodes but these is a child word
pub record ProductsPut (s a t u w y : List ℕ) (d : Bool) (q n c m : ℕ) : Type 0 where
  pub size : m ≡ n + product_nodes s a q
  pub grown : Grown s t u y n c m (c + (m - n) - q)
  pub last : 1 ≤ q → get_or w (q - 1) 0 + 1 ≡ m
  pub decoded : map (decode s u) (take q w) ≡ map summand_term (turned_if d (summands_of s a q))
  pub below : Below m (take q w)

-- the sum of q summands is the last node
pub record SumPut (s a t u y : List ℕ) (d : Bool) (q n c m : ℕ) : Type 0 where
  pub size : m ≡ n + sum_nodes q (negations (summands_of s a q))
  pub made : TermPut s t u y n c m (words_behind n c m) (sum_term (entries_of (turned_if d (summands_of s a q))))

-- the inequality of q summands and the constant k is the last node, and this node the last child word
pub record InequalityPut (s a t u y : List ℕ) (d : Bool) (q : ℕ) (k : ℤ) (n c m : ℕ) : Type 0 where
  pub size : m ≡ n + inequality_nodes q (negations (summands_of s a q))
  pub grown : Grown s t u y n c m (c + (m - n))
  pub decoded : map (decode s u) (children_at u (words_behind n c m) 1) ≡ inequality (turned_if d (summands_of s a q)) (turned_number d k) ∷ []
  pub below : Below m (children_at u (words_behind n c m) 1)
