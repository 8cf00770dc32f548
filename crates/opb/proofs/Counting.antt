-- The assumptions that a constraint becomes and their nodes, counted from its summands: what a reader can know before it makes one.
use mathlib.Core.Path.{◌≡◌, refl, ap, ◌∙◌}
use mathlib.Core.Bool.{Bool, true, false}
use mathlib.Core.List.{List, [], ◌∷◌}
use Prim.Native.Nat.{ℕ, zero, suc, ◌+◌, ◌*◌}
use native.Mathlib.Omega.{arith}
use lib.IntN.{ℤ, neg_ℤ}
use lib.ListN.{length}
use Rattle.calculus.specs.Limits.{nodes, nodes_in, command_nodes, all_nodes}
use Rattle.calculus.specs.OpbWords.{plain, negated, Relation, at_least, equal}
use Rattle.calculus.specs.Entries.{lit_term, entry_term, entry_terms, sum_term, inequality_term}
use Rattle.calculus.specs.OpbWriting.{Summand, times, compare, key_of, entry_of, entries_of, inequality, turned, assumptions_of}
use Rattle.opb.specs.Counts.{resulting, negations, sum_nodes, inequality_nodes}
use Rattle.opb.specs.Tokens.{relation_of}

-- ---- summands
pub summands-nodes : (xs : List Summand) → nodes_in (entry_terms (entries_of xs)) ≡ 3 * length xs + 2 * negations xs
unfolding nodes entry_terms entries_of entry_term entry_of lit_term key_of negations
summands-nodes [] = refl
summands-nodes (times k (plain x) ∷ xs) = omega (arith, summands-nodes xs)
summands-nodes (times k (negated x) ∷ xs) = omega (arith, summands-nodes xs)

pub sum-nodes : (xs : List Summand) → nodes (sum_term (entries_of xs)) ≡ sum_nodes (length xs) (negations xs)
unfolding nodes sum_term entry_terms entries_of sum_nodes
sum-nodes [] = refl
sum-nodes (x ∷ []) = omega (arith, summands-nodes (x ∷ []))
sum-nodes (x ∷ (y ∷ xs)) = ap suc (summands-nodes (x ∷ (y ∷ xs)))

pub turned-length : (xs : List Summand) → length (turned xs) ≡ length xs
unfolding turned
turned-length [] = refl
turned-length (times k l ∷ xs) = ap suc (turned-length xs)

pub turned-negations : (xs : List Summand) → negations (turned xs) ≡ negations xs
unfolding turned negations
turned-negations [] = refl
turned-negations (times k (plain x) ∷ xs) = turned-negations xs
turned-negations (times k (negated x) ∷ xs) = ap suc (turned-negations xs)

-- ---- inequalities
pub inequality-nodes : (xs : List Summand) (k : ℤ) → nodes (inequality xs k) ≡ inequality_nodes (length xs) (negations xs)
unfolding nodes inequality inequality_term inequality_nodes
inequality-nodes xs k = omega (arith, sum-nodes xs)

pub turned-nodes : (xs : List Summand) (k : ℤ) → nodes (inequality (turned xs) k) ≡ inequality_nodes (length xs) (negations xs)
turned-nodes xs k = inequality-nodes (turned xs) k ∙ rw (turned-length xs, turned-negations xs)

-- ---- assumptions
pub assumption-nodes : (n : ℕ) (xs : List Summand) (r : Relation) (k : ℤ) → all_nodes (assumptions_of n (compare xs r k)) ≡ resulting r * inequality_nodes (length xs) (negations xs)
unfolding assumptions_of all_nodes command_nodes resulting
assumption-nodes n xs at_least k = omega (arith, inequality-nodes xs k)
assumption-nodes n xs equal k = omega (arith, inequality-nodes xs k, turned-nodes xs (neg_ℤ k))

pub assumption-count : (n : ℕ) (xs : List Summand) (r : Relation) (k : ℤ) → length (assumptions_of n (compare xs r k)) ≡ resulting r
unfolding assumptions_of resulting
assumption-count n xs at_least k = refl
assumption-count n xs equal k = refl

-- ---- as the code counts
module _ (q g : ℕ) where
  pub sum-none : q ≡ 0 → 1 ≡ sum_nodes q g
  unfolding sum_nodes
  sum-none e = rw e

  pub sum_one : q ≡ 1 → 3 + 2 * g ≡ sum_nodes q g
  unfolding sum_nodes
  sum_one e = rw e

  pub sum_more : (q ≡ 0 → ⊥) → (q ≡ 1 → ⊥) → 1 + (3 * q + 2 * g) ≡ sum_nodes q g
  unfolding sum_nodes
  sum_more = go q
    where
      go : (q : ℕ) → (q ≡ 0 → ⊥) → (q ≡ 1 → ⊥) → 1 + (3 * q + 2 * g) ≡ sum_nodes q g
      go zero h k = absurd (h refl)
      go (suc zero) h k = absurd (k refl)
      go (suc (suc q)) h k = omega arith

pub needed-two : (e : Bool) (q g n : ℕ) → e ≡ true → n ≡ sum_nodes q g → 2 * (2 + n) ≡ resulting (relation_of e) * inequality_nodes q g
unfolding relation_of resulting inequality_nodes
needed-two e q g n h k = rw (h, k)

pub needed-one : (e : Bool) (q g n : ℕ) → e ≡ false → n ≡ sum_nodes q g → 2 + n ≡ resulting (relation_of e) * inequality_nodes q g
unfolding relation_of resulting inequality_nodes
needed-one e q g n h k = rw (h, k) (omega arith)
