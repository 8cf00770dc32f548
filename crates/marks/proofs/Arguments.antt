-- A list of nodes, one by one: what is said of each argument of an application, and where they stand.
use mathlib.Core.Path.{◌≡◌, refl, sym, ap, ◌∙◌}
use mathlib.Core.Bool.{Bool, true, false, ◌&&◌}
use mathlib.Core.List.{List, [], ◌∷◌}
use Prim.Native.Nat.{ℕ, zero, suc, ◌+◌, ◌-◌, ◌≤◌, ◌<◌, max}
use native.Mathlib.Numerals.{add-one}
use native.Mathlib.Omega.{arith}
use lib.ListN.{length, get_or, take, drop}
use lib.Seq.{drop-cons, get_or-take, get_or-drop, take-add, drop_at, length-take-le, slice, length-slice}
use Rattle.calculus.specs.Terms.{Term, Terms, nil, cons, listed}
use Rattle.nodes.specs.Nodes.{plus_kind, child_base, kind_at, first_at, second_at, children_at, decode, Below, Node}
use Rattle.nodes.proofs.Tables.{children-length, children-room, below_at}
use Rattle.matching.proofs.Matches.{node-before}
use Rattle.matching.specs.Matched.{AllNodes}
use Rattle.marks.specs.Arguments.{arguments_at}

-- one more than the largest of the list
unfoldable pub end_of : List ℕ → ℕ
end_of [] = 0
end_of (i ∷ l) = max (suc i) (end_of l)

pub end_at : (l : List ℕ) (k : ℕ) → k < length l → get_or l k 0 < end_of l
unfolding end_of
end_at [] k h = let z : ⊥ = omega arith in absurd z
end_at (x ∷ l) zero h = omega arith
end_at (x ∷ l) (suc k) h = omega (arith, end_at l k (omega arith))

end_below : {m : ℕ} (l : List ℕ) → Below m l → end_of l ≤ m
unfolding Below end_of
end_below [] b = omega arith
end_below (x ∷ l) b = omega (arith, b.0, end_below l b.1)

-- ---- a node's children
abbrev pub children : List ℕ → ℕ → List ℕ
children t i = children_at t (first_at t i) (second_at t i)

module _ {t : List ℕ} {i : ℕ} (N : Node t i) (g : kind_at t i < plus_kind) where
  pub children-nodes : AllNodes t (children t i)
  children-nodes k h = node-before N (omega (arith, below_at (children t i) k (N.table.before i N.below g) h))

  pub children-end : end_of (children t i) ≤ i
  children-end = end_below (children t i) (N.table.before i N.below g)

  pub children-count : length (children t i) ≡ second_at t i
  children-count = children-length t (first_at t i) (second_at t i) (omega (arith, children-room N g))

  -- they are the words of the table from b + a on
  module _ {b a m : ℕ} (p : b ≡ child_base t) (q : a ≡ first_at t i) (r : m ≡ second_at t i) where
    pub children-inside : b + a + m ≤ length t
    children-inside = omega (arith, children-room N g)

    pub children-part : slice (b + a) (b + a + m) t ≡ children t i
    unfolding children_at
    children-part =
        rw (take-add (b + a) m t)
        (drop_at (take (b + a) t) (take m (drop (b + a) t)) (b + a) (length-take-le (b + a) t (omega (arith, children-inside)))
        ∙ rw (p, q, r))

-- ---- a test of each, in a loop that leaves at the first that fails
drop_over : (l : List ℕ) (k : ℕ) → length l ≤ k → drop k l ≡ []
drop_over [] zero h = refl
drop_over [] (suc k) h = refl
drop_over (x ∷ l) zero h = let z : ⊥ = omega arith in absurd z
drop_over (x ∷ l) (suc k) h = drop_over l k (omega arith)

-- from k on the answer of the test is that for the whole
pub record Rest (all : Terms → Bool) (t l : List ℕ) (k : ℕ) : Type 0 where
  pub is : (s : List ℕ) → all (arguments_at s t (drop k l)) ≡ all (arguments_at s t l)

-- the same of the words from..to of the table, and that k is not before them
pub record Left (all : Terms → Bool) (t : List ℕ) (from to k : ℕ) : Type 0 where
  pub begun : from ≤ k
  pub rest : Rest all t (slice from to t) (k - from)

-- word k is one of them
module _ {all : Terms → Bool} {t : List ℕ} {from to k : ℕ} (L : Left all t from to k) (room : to ≤ length t) (h : k < to) where
  left-inside : k - from < length (slice from to t)
  left-inside = rw (length-slice from to t room) (omega (arith, L.begun))

  left_at : get_or (slice from to t) (k - from) 0 ≡ get_or t k 0
  left_at =
      let e : from + (k - from) ≡ k = omega (arith, L.begun) in
      get_or-drop from (take to t) (k - from) 0 ∙ rw e (get_or-take to t k 0 h)

  pub left-node : AllNodes t (slice from to t) → Node t (get_or t k 0)
  left-node A = rw left_at at (A (k - from) left-inside)

  pub left_below : get_or t k 0 < end_of (slice from to t)
  left_below = rw left_at at (end_at (slice from to t) (k - from) left-inside)

-- the test `all` asks `one` of each
module _ (one : Term → Bool) (all : Terms → Bool) (none : all nil ≡ true) (more : (x : Term) (xs : Terms) → all (cons x xs) ≡ (one x && all xs)) where
  rest-cons : (t l : List ℕ) (k : ℕ) → k < length l → (s : List ℕ) → all (arguments_at s t (drop k l)) ≡ (one (decode s t (get_or l k 0)) && all (arguments_at s t (drop (k + 1) l)))
  unfolding listed
  rest-cons t l k h s = rw (drop-cons l k 0 h, add-one k) (more (decode s t (get_or l k 0)) (arguments_at s t (drop (suc k) l)))

  module _ {t l : List ℕ} {k : ℕ} (R : Rest all t l k) where
    pub rest_more : k < length l → ((s : List ℕ) → true ≡ one (decode s t (get_or l k 0))) → Rest all t l (k + 1)
    rest_more h e = record { is = λ s. ap (λ (b : Bool). b && all (arguments_at s t (drop (k + 1) l))) (e s) ∙ sym (rest-cons t l k h s) ∙ R.is s }

    pub rest-stop : k < length l → ((s : List ℕ) → false ≡ one (decode s t (get_or l k 0))) → (s : List ℕ) → false ≡ all (arguments_at s t l)
    rest-stop h e s = ap (λ (b : Bool). b && all (arguments_at s t (drop (k + 1) l))) (e s) ∙ sym (rest-cons t l k h s) ∙ R.is s

    pub rest_end : length l ≤ k → (s : List ℕ) → true ≡ all (arguments_at s t l)
    unfolding listed
    rest_end h s = sym none ∙ sym (ap (λ (m : List ℕ). all (arguments_at s t m)) (drop_over l k h)) ∙ R.is s

  module _ {t : List ℕ} {from to k : ℕ} (L : Left all t from to k) (room : to ≤ length t) where
    pub left-more : k < to → ((s : List ℕ) → true ≡ one (decode s t (get_or t k 0))) → Left all t from to (k + 1)
    left-more h e =
        let f : k + 1 - from ≡ k - from + 1 = omega (arith, L.begun) in
        record { begun = omega (arith, L.begun); rest = rw f (rest_more L.rest (left-inside L room h) (rw (left_at L room h) e)) }

    pub left-stop : k < to → ((s : List ℕ) → false ≡ one (decode s t (get_or t k 0))) → (s : List ℕ) → false ≡ all (arguments_at s t (slice from to t))
    left-stop h e = rest-stop L.rest (left-inside L room h) (rw (left_at L room h) e)

    pub left_end : to ≤ k → (s : List ℕ) → true ≡ all (arguments_at s t (slice from to t))
    left_end h = rest_end L.rest (rw (length-slice from to t room) (omega (arith, L.begun)))
