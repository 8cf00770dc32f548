-- The node table: how the terms of a text stand in its words. Node i is the words 3 i, 3 i + 1, 3 i + 2: its kind and two more.
-- Behind the room for the nodes stand the child words, one for each; the children of an application are one part of them.
use Rattle.std.specs.Prelude.{◌≡◌, true, false, cond, List, [], ◌∷◌, ◌++◌, map, ℕ, zero, suc, ◌+◌, ◌-◌, ◌*◌, ◌/◌, ◌≤◌, ◌<◌, ltb, eqb, pos, length, get_or, take, drop, set}
use Rattle.std.proofs.Math.Seq.{slice}
use Rattle.integer.specs.Integers.{signed}
use Rattle.calculus.specs.Equality.{op_of}
use Rattle.calculus.specs.Terms.{Term, num, var, app, listed}
use Rattle.calculus.specs.Words.{max_numeral, max_name}
use Rattle.calculus.specs.Limits.{max_nodes}

-- ---- kinds: below `plus_kind` an operator by its number, then a numeral from 0 on, a numeral below 0,
-- and from `name_kind` on a variable: `name_kind` and its name's number
abbrev pub plus_kind : ℕ
plus_kind = 9

abbrev pub minus_kind : ℕ
minus_kind = 10

abbrev pub name_kind : ℕ
name_kind = 11

-- ---- a table by its length
-- the nodes that it has room for: three words and a child word each
abbrev pub capacity : List ℕ → ℕ
capacity t = length t / 4

-- of any table: node numbers fit words of 16 bits
abbrev pub max_capacity : ℕ
max_capacity = 32768

-- the first child word
abbrev pub child_base : List ℕ → ℕ
child_base t = 3 * capacity t

-- the words of node i
abbrev pub kind_at : List ℕ → ℕ → ℕ
kind_at t i = get_or t (3 * i) 0

abbrev pub first_at : List ℕ → ℕ → ℕ
first_at t i = get_or t (3 * i + 1) 0

abbrev pub second_at : List ℕ → ℕ → ℕ
second_at t i = get_or t (3 * i + 2) 0

-- k child words from number a on
unfoldable pub children_at : List ℕ → ℕ → ℕ → List ℕ
children_at t a k = take k (drop (child_base t + a) t)

-- ---- what a node says
-- a node of this kind with the words a and b, in the text s: an application of xs, which are k children from number a on;
-- a numeral of magnitude a; a variable whose name is the bytes from a to b
unfoldable pub shape : List ℕ → ℕ → ℕ → ℕ → List Term → Term
shape s kind a b xs =
    cond (ltb kind plus_kind) (app (op_of kind) (listed xs))
    (cond (eqb kind plus_kind) (num (signed false a))
    (cond (eqb kind minus_kind) (num (signed true a)) (var (slice a b s))))

-- the term of number j among ts
unfoldable pub child : List Term → ℕ → Term
child ts j = get_or ts j (num (pos 0))

-- node i, where ts are the terms of the nodes before it
unfoldable pub node_term : List ℕ → List ℕ → List Term → ℕ → Term
node_term s t ts i = shape s (kind_at t i) (first_at t i) (second_at t i) (map (child ts) (children_at t (first_at t i) (second_at t i)))

-- the terms of the first nodes
unfoldable pub terms : List ℕ → List ℕ → ℕ → List Term
terms s t zero = []
terms s t (suc n) = terms s t n ++ (node_term s t (terms s t n) n ∷ [])

-- the term of node i of the table t over the text s
unfoldable pub decode : List ℕ → List ℕ → ℕ → Term
decode s t i = node_term s t (terms s t i) i

-- ---- what is published of a table in which n nodes and c child words are in use
-- each number of the list is below m
unfoldable pub Below : ℕ → List ℕ → Type 0
Below m [] = Unit
Below m (x ∷ xs) = (x < m) × Below m xs

-- an application has children, they are child words in use, and they are nodes before it; numerals are in range
pub record Table (t : List ℕ) (n c : ℕ) : Type 0 where
  pub room : max_nodes ≤ capacity t
  pub wide : capacity t ≤ max_capacity
  pub few : n ≤ capacity t
  pub used : c ≤ n
  pub some : (i : ℕ) → i < n → kind_at t i < plus_kind → 1 ≤ second_at t i
  pub inside : (i : ℕ) → i < n → kind_at t i < plus_kind → first_at t i + second_at t i ≤ c
  pub before : (i : ℕ) → i < n → kind_at t i < plus_kind → Below i (children_at t (first_at t i) (second_at t i))
  pub numerals : (i : ℕ) → i < n → plus_kind ≤ kind_at t i → kind_at t i ≤ minus_kind → first_at t i ≤ max_numeral
  pub minus : (i : ℕ) → i < n → kind_at t i ≡ minus_kind → 1 ≤ first_at t i

-- a variable's name
abbrev pub name_at : List ℕ → List ℕ → ℕ → List ℕ
name_at s t i = slice (first_at t i) (second_at t i) s

-- names lie in the text s; two variables have one number exactly where they have one name
pub record Named (s t : List ℕ) (n : ℕ) : Type 0 where
  pub starts : (i : ℕ) → i < n → name_kind ≤ kind_at t i → first_at t i < second_at t i
  pub ends : (i : ℕ) → i < n → name_kind ≤ kind_at t i → second_at t i ≤ length s
  pub short : (i : ℕ) → i < n → name_kind ≤ kind_at t i → second_at t i ≤ first_at t i + max_name
  pub one : (i j : ℕ) → i < n → j < n → name_kind ≤ kind_at t i → kind_at t i ≡ kind_at t j → name_at s t i ≡ name_at s t j
  pub other : (i j : ℕ) → i < n → j < n → name_kind ≤ kind_at t i → name_kind ≤ kind_at t j → name_at s t i ≡ name_at s t j → kind_at t i ≡ kind_at t j

-- a variable's number is a node that has this number too, and none before it has: by `Named` the first node with its name
pub record Firsts (t : List ℕ) (n : ℕ) : Type 0 where
  pub before : (i : ℕ) → i < n → name_kind ≤ kind_at t i → kind_at t i ≤ name_kind + i
  pub same : (i : ℕ) → i < n → name_kind ≤ kind_at t i → kind_at t (kind_at t i - name_kind) ≡ kind_at t i

-- i is a node of the table t, whose variables have the numbers of their first nodes
pub record Node (t : List ℕ) (i : ℕ) : Type 0 where
  pub n : ℕ
  pub c : ℕ
  pub table : Table t n c
  pub firsts : Firsts t n
  pub below : i < n

-- ---- how a table is written
-- node n
unfoldable pub put : List ℕ → ℕ → ℕ → ℕ → ℕ → List ℕ
put t n kind a b = set (set (set t (3 * n) kind) (3 * n + 1) a) (3 * n + 2) b

-- the first n nodes and c child words are the same
pub record Kept (t u : List ℕ) (n c : ℕ) : Type 0 where
  pub long : length u ≡ length t
  pub nodes : (j : ℕ) → j < 3 * n → get_or u j 0 ≡ get_or t j 0
  pub children : (j : ℕ) → j < c → get_or u (child_base t + j) 0 ≡ get_or t (child_base t + j) 0

-- the first n nodes and c child words of the table t stand in the table u, which may have another length
pub record Moved (t u : List ℕ) (n c : ℕ) : Type 0 where
  pub nodes : (j : ℕ) → j < 3 * n → get_or u j 0 ≡ get_or t j 0
  pub children : (j : ℕ) → j < c → get_or u (child_base u + j) 0 ≡ get_or t (child_base t + j) 0
