-- The sum of the summands in its three forms, and the assumption.
use mathlib.Core.Path.{◌≡◌, refl, sym, ap, ◌∙◌}
use mathlib.Core.Bool.{Bool, false, cond}
use mathlib.Core.List.{List, [], ◌∷◌, ◌++◌, map}
use Prim.Native.Nat.{ℕ, zero, suc, ◌+◌, ◌-◌, ◌≤◌, ◌<◌}
use native.Mathlib.Omega.{arith}
use lib.ListN.{length, get_or, take, drop}
use lib.Seq.{paste, take-suc}
use Rattle.integer.specs.Integers.{signed}
use Rattle.calculus.specs.Equality.{op_of}
use Rattle.calculus.specs.Entries.{sum_term, inequality_term}
use Rattle.calculus.specs.OpbWriting.{Summand, entries_of, inequality}
use Rattle.calculus.specs.Terms.{num, app, listed}
use Rattle.calculus.specs.Limits.{max_nodes}
use Rattle.nodes.specs.Nodes.{capacity, plus_kind, minus_kind, child_base, decode, Below, put}
use Rattle.opb.specs.Counts.{negations, sum_nodes, inequality_nodes}
use Rattle.opb.specs.Summands.{summand_at, summands_of}
use Rattle.opb_terms.specs.Making.{turned_summand, turned_if, SignIs, product_nodes, Making, binary, TermPut, words_behind, summand_term, ProductsPut, SumPut, InequalityPut}
use Rattle.opb_terms.proofs.Putting.{numeral-put, words-grown, words_are, words-decoded, applied-put, binary-put}
use Rattle.opb_terms.proofs.Turning.{numeral-plus, turned_more, sum-some, sum-products, sum-more-nodes, turned_none, all-long, several}
use Rattle.opb_terms.proofs.Products.{put_as}

-- ---- the three forms of a sum
pub two : (q : ℕ) → (q ≡ 0 → ⊥) → (q ≡ 1 → ⊥) → 2 ≤ q
two zero f g = absurd (f refl)
two (suc zero) f g = absurd (g refl)
two (suc (suc q)) f g = omega arith

module _ {s a t v y : List ℕ} {q n c : ℕ} (M : Making s a t v y q n c (sum_nodes q (negations (summands_of s a q)))) where
  -- there is room for a node
  pub sum_first : n < capacity t
  sum_first = omega (arith, M.ready.room, sum-some q (negations (summands_of s a q)))

  -- and behind several summands too
  pub sum-last : {u w z : List ℕ} {d : Bool} {m : ℕ} → ProductsPut s a t u w z d q n c m → 2 ≤ q → m < capacity u
  sum-last P h = omega (arith, M.ready.room, P.grown.kept.long, P.size, sum-more-nodes q (negations (summands_of s a q)) h)

-- what the loop asks
pub products_making : {s a t v y : List ℕ} {q n c : ℕ} → Making s a t v y q n c (sum_nodes q (negations (summands_of s a q))) → (q ≡ 0 → ⊥) → Making s a t v y q n c (product_nodes s a q)
products_making {s} {a} {q = q} M some = record {
  summands = M.summands;
  ready = record {
    text = M.ready.text;
    table = M.ready.table;
    names = M.ready.names;
    room = omega (arith, M.ready.room, sum-products q (negations (summands_of s a q)) (positive q some));
  };
  stack = M.stack;
}
  where
    positive : (q : ℕ) → (q ≡ 0 → ⊥) → 1 ≤ q
    positive zero f = absurd (f refl)
    positive (suc q) f = omega arith

pub sum-none : {s a t v y u : List ℕ} (d : Bool) (q : ℕ) {n c : ℕ} → Making s a t v y q n c (sum_nodes q (negations (summands_of s a q))) → q ≡ 0 → u ≡ put t n (cond false minus_kind plus_kind) 0 0
    → SumPut s a t u y d q n c (n + 1)
unfolding sum_nodes summands_of sum_term entries_of signed
sum-none {s} {a} d zero {n} {c} M e p = record {
  size = refl;
  made = put_as (numeral-put M.ready.table (omega (arith, M.ready.room)) false 0 (numeral-plus (omega arith)) M.ready.names p) _ _ (omega arith) (rw (turned_none d));
}
sum-none d (suc q) M e p = let z : ⊥ = omega arith in absurd z

module _ {s a t u w y : List ℕ} {d : Bool} {n c m : ℕ} where
  pub sum_one : (q : ℕ) → q ≡ 1 → ProductsPut s a t u w y d q n c m → max_nodes ≤ length w → SumPut s a t u y d q n c m
  unfolding sum_nodes sum_term entries_of summand_term summands_of
  sum_one zero e P long = let z : ⊥ = omega arith in absurd z
  sum_one (suc (suc q)) e P long = let z : ⊥ = omega arith in absurd z
  sum_one (suc zero) e P long =
      let x : Summand = summand_at s a 0 in
      let one : turned_if d (x ∷ []) ≡ turned_summand d x ∷ [] = turned_more d [] x ∙ ap (λ (zs : List Summand). zs ++ (turned_summand d x ∷ [])) (turned_none d) in
      let first : take 1 w ≡ get_or w 0 0 ∷ [] = take-suc w 0 0 (omega arith) in
      let place : m - 1 ≡ get_or w 0 0 = omega (arith, P.last (omega arith)) in
      let all : map (decode s u) (get_or w 0 0 ∷ []) ≡ map summand_term (turned_summand d x ∷ []) = sym (ap (map (decode s u)) first) ∙ P.decoded ∙ ap (map summand_term) one in
      let node : decode s u (get_or w 0 0) ≡ summand_term (turned_summand d x) = cc in
      record {
        size = P.size ∙ omega arith;
        made = record {
          grown = P.grown;
          some = omega (arith, P.size);
          even = omega (arith, P.size);
          decoded = rw (place, one) node;
        };
      }

  pub sum_more : (q : ℕ) → 2 ≤ q → ProductsPut s a t u w y d q n c m → max_nodes ≤ length w → q ≤ max_nodes → c ≤ n → m < capacity u → {v r : List ℕ}
      → v ≡ paste u (child_base u + (c + (m - n) - q)) (drop 0 w) (q - 0) → r ≡ put v m 0 (c + (m - n) - q) q → SumPut s a t r y d q n c (m + 1)
  unfolding op_of
  sum_more q two P long few used small {v} {r} e f =
      let none : q - 0 ≡ q = omega arith in
      let g : v ≡ paste u (child_base u + (c + (m - n) - q)) w q = rw none at e in
      let h : q ≤ length w = omega arith in
      let inside : c + (m - n) - q + q ≤ m = omega (arith, P.size) in
      record {
        size = omega (arith, P.size, sum-more-nodes q (negations (summands_of s a q)) two);
        made = put_as
            (applied-put (c + (m - n) - q) q (words-grown P.grown w q v h inside g)
            (words-decoded P.grown w q v h inside g P.below ∙ P.decoded)
            (rw (words_are P.grown w q v h inside g) P.below)
            (omega (arith, (words-grown P.grown w q v h inside g).kept.long, P.grown.kept.long)) (omega arith) (omega (arith, P.size)) 0 (omega arith) r f)
            _ _ (omega (arith, P.size)) (several (turned_if d (summands_of s a q)) (rw (all-long d s a q) two));
      }

-- ---- the inequality
-- what the sum asks
pub sum-making : {s a t v y : List ℕ} {q n c : ℕ} → Making s a t v y q n c (inequality_nodes q (negations (summands_of s a q))) → Making s a t v y q n c (sum_nodes q (negations (summands_of s a q)))
unfolding inequality_nodes
sum-making M = record {
  summands = M.summands;
  ready = record { text = M.ready.text; table = M.ready.table; names = M.ready.names; room = omega (arith, M.ready.room) };
  stack = M.stack;
}

module _ {s a t v y z : List ℕ} {q n c : ℕ} {d : Bool} (M : Making s a t v y q n c (inequality_nodes q (negations (summands_of s a q)))) {u : List ℕ} {m : ℕ} (S : SumPut s a t u z d q n c m) where
  -- there is room for two nodes more
  pub inequality-room : (n < m) × (m + 2 ≤ capacity u)
  unfolding inequality_nodes
  inequality-room = (S.made.some, omega (arith, M.ready.room, S.size, S.made.grown.kept.long))

  pub inequality-put : {negative minus : Bool} {magnitude : ℕ} → SignIs d negative magnitude minus → {u₁ u₂ u₃ : List ℕ}
      → u₁ ≡ put u m (cond minus minus_kind plus_kind) magnitude 0
      → u₂ ≡ binary u₁ (m + 1) (c + (m - n) - 1) 3 (m - 1) m
      → u₃ ≡ paste u₂ (child_base u₂ + (c + (m - n) - 1 + 2)) ((m + 1) ∷ []) 1
      → InequalityPut s a t u₃ z d q (signed negative magnitude) n c (m + 2)
  unfolding inequality_nodes inequality inequality_term op_of listed Below
  inequality-put {negative} {minus} {magnitude} G {u₁} {u₂} {u₃} e f g =
      let small : m + 2 ≤ capacity u = inequality-room.1 in
      let more : n < m = S.made.some in
      let two : m + 1 + 1 ≡ m + 2 = omega arith in
      let N : TermPut s u u₁ z m (words_behind n c m) (m + 1) (words_behind n c m) (num (signed minus magnitude)) =
      numeral-put S.made.grown.table (omega arith) minus magnitude G.numeral S.made.grown.names e in
      let B : TermPut s t u₂ z n c (m + 2) (words_behind n c m + 2) (app (op_of 3) (listed (sum_term (entries_of (turned_if d (summands_of s a q))) ∷ num (signed minus magnitude) ∷ []))) =
      rw two at (binary-put S.made N M.ready.table.used 3 (m - 1) m u₂ (omega arith) (omega arith) refl (omega (arith, N.grown.kept.long)) f) in
      let b : words_behind n c (m + 2) ≡ words_behind n c m + 2 = omega arith in
      let w : c + (m + 2 - n) ≡ words_behind n c m + 2 + 1 = omega arith in
      let inside : words_behind n c m + 2 + 1 ≤ m + 2 = omega (arith, M.ready.table.used) in
      let back : m + 1 ≡ m + 2 - 1 = omega arith in
      let L : Below (m + 2) ((m + 1) ∷ []) = (omega arith, tt) in
      record {
        size = omega (arith, S.size);
        grown = rw w (words-grown B.grown ((m + 1) ∷ []) 1 u₃ (omega arith) inside g);
        decoded = rw (b, words-decoded B.grown ((m + 1) ∷ []) 1 u₃ (omega arith) inside g L, back, B.decoded, G.number);
        below = rw (b, words_are B.grown ((m + 1) ∷ []) 1 u₃ (omega arith) inside g) L;
      }
