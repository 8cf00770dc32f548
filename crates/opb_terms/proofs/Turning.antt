-- Signs turned where asked, and the nodes of summands, one summand after the other.
use mathlib.Core.Path.{◌≡◌, refl, sym, ap, subst, ◌∙◌}
use mathlib.Core.Bool.{Bool, true, false, not}
use mathlib.Core.List.{List, [], ◌∷◌, ◌++◌, map}
use Prim.Native.Nat.{ℕ, zero, suc, ◌+◌, ◌*◌, ◌≤◌, ◌<◌}
use native.Mathlib.Decide.{dec_lt}
use native.Mathlib.Omega.{arith}
use borrow.Author.Tests.{ne_eqb}
use lib.Dec.{T, eqb}
use lib.IntN.{ℤ, pos, neg_ℤ}
use lib.ListN.{length, length-append}
use lib.Seq.{slice}
use Rattle.integer.specs.Integers.{signed}
use Rattle.calculus.specs.OpbWords.{plain, negated}
use Rattle.calculus.specs.Entries.{entry_terms, sum_term}
use Rattle.calculus.specs.OpbWriting.{Summand, times, entries_of, turned}
use Rattle.calculus.specs.Terms.{app, add, listed}
use Rattle.calculus.specs.Words.{max_numeral}
use Rattle.opb.specs.Counts.{negations, sum_nodes}
use Rattle.opb.specs.Summands.{summand_word, literal_over, summand_at, summands_of}
use Rattle.opb_terms.specs.Making.{turned_number, turned_summand, turned_if, Numeral, SignIs, summand_nodes, negated_at, product_nodes, summand_term}

-- ---- the sign of a numeral
-- a numeral that is not below 0
pub numeral-plus : {magnitude : ℕ} → magnitude ≤ max_numeral → Numeral false magnitude
numeral-plus h = record { size = h; minus = λ e. absurd (subst T (sym e) tt) }

module _ {d negative : Bool} (magnitude : ℕ) (N : Numeral negative magnitude) where
  pub sign-plain : d ≡ false → SignIs d negative magnitude negative
  unfolding turned_number
  sign-plain e = rw e record { number = refl; numeral = N }

  pub sign-minus : d ≡ true → negative ≡ true → SignIs d negative magnitude false
  unfolding turned_number signed
  sign-minus e f = rw (e, f) record { number = go magnitude; numeral = numeral-plus N.size }
    where
      go : (k : ℕ) → pos k ≡ neg_ℤ (neg_ℤ (pos k))
      go zero = refl
      go (suc k) = refl

  pub sign_plus : d ≡ true → negative ≡ false → SignIs d negative magnitude (not (eqb magnitude 0))
  unfolding turned_number signed
  sign_plus e f = rw (e, f) (go magnitude N.size)
    where
      go : (k : ℕ) → k ≤ max_numeral → SignIs true false k (not (eqb k 0))
      go zero h = record { number = refl; numeral = numeral-plus h }
      go (suc k) h = rw (ne_eqb (suc k) 0 (λ e. omega arith)) record { number = refl; numeral = record { size = h; minus = λ e. omega arith } }

-- ---- one summand more
turned-snoc : (xs : List Summand) (x : Summand) → turned (xs ++ (x ∷ [])) ≡ turned xs ++ (turned_summand true x ∷ [])
unfolding turned turned_summand turned_number
turned-snoc [] (times k l) = refl
turned-snoc (times j m ∷ xs) x = ap (λ (ys : List Summand). times (neg_ℤ j) m ∷ ys) (turned-snoc xs x)

same-summand : (x : Summand) → x ≡ turned_summand false x
unfolding turned_summand turned_number
same-summand (times k l) = refl

pub turned_more : (d : Bool) (xs : List Summand) (x : Summand) → turned_if d (xs ++ (x ∷ [])) ≡ turned_if d xs ++ (turned_summand d x ∷ [])
unfolding turned_if
turned_more true xs x = turned-snoc xs x
turned_more false xs x = ap (λ (y : Summand). xs ++ (y ∷ [])) (same-summand x)

negations-snoc : (xs : List Summand) (x : Summand) → negations (xs ++ (x ∷ [])) ≡ negations xs + negations (x ∷ [])
unfolding negations
negations-snoc [] x = omega arith
negations-snoc (times k (plain y) ∷ xs) x = negations-snoc xs x
negations-snoc (times k (negated y) ∷ xs) x = rw (negations-snoc xs x) (omega arith)

negations-one : (k : ℤ) (d : Bool) (x : List ℕ) → 3 + 2 * negations (times k (literal_over d x) ∷ []) ≡ summand_nodes d
unfolding negations literal_over summand_nodes
negations-one k true x = refl
negations-one k false x = refl

negations-at : (s a : List ℕ) (i : ℕ) → 3 + 2 * negations (summand_at s a i ∷ []) ≡ summand_nodes (negated_at a i)
unfolding summand_at
negations-at s a i = negations-one (signed (eqb (summand_word a i 0) 1) (summand_word a i 1)) (negated_at a i) (slice (summand_word a i 3) (summand_word a i 4) s)

-- ---- their nodes
pub products-more : (s a : List ℕ) (i : ℕ) → product_nodes s a (i + 1) ≡ product_nodes s a i + summand_nodes (negated_at a i)
unfolding summands_of
products-more s a i =
    let e : i + 1 ≡ suc i = omega arith in
    rw e (omega (arith, negations-snoc (summands_of s a i) (summand_at s a i), negations-at s a i))

-- the first summands take no more than all
pub products-few : (s a : List ℕ) (i q : ℕ) → i ≤ q → product_nodes s a i ≤ product_nodes s a q
products-few s a i zero h = let e : i ≡ 0 = omega arith in rw e (omega arith)
products-few s a i (suc q) h = go (products-few s a i q) (dec_lt i (suc q))
  where
    go : (i ≤ q → product_nodes s a i ≤ product_nodes s a q) → Dec (i < suc q) → product_nodes s a i ≤ product_nodes s a (suc q)
    go ih (yes l) =
        let e : q + 1 ≡ suc q = omega arith in
        rw (← e) (omega (arith, ih (omega arith), products-more s a q))
    go ih (no l) = let e : i ≡ suc q = omega arith in rw e (omega arith)

pub products-room : (s a : List ℕ) (i q : ℕ) → i < q → product_nodes s a i + summand_nodes (negated_at a i) ≤ product_nodes s a q
products-room s a i q h = omega (arith, products-more s a i, products-few s a (i + 1) q (omega arith))

-- a sum's nodes are at least one, and those of its summands
pub sum-some : (q g : ℕ) → 1 ≤ sum_nodes q g
unfolding sum_nodes
sum-some zero g = omega arith
sum-some (suc zero) g = omega arith
sum-some (suc (suc q)) g = omega arith

pub sum-products : (q g : ℕ) → 1 ≤ q → 3 * q + 2 * g ≤ sum_nodes q g
unfolding sum_nodes
sum-products zero g h = let z : ⊥ = omega arith in absurd z
sum-products (suc zero) g h = omega arith
sum-products (suc (suc q)) g h = omega arith

-- of several one more
pub sum-more-nodes : (q g : ℕ) → 2 ≤ q → sum_nodes q g ≡ 3 * q + 2 * g + 1
unfolding sum_nodes
sum-more-nodes zero g h = let z : ⊥ = omega arith in absurd z
sum-more-nodes (suc zero) g h = let z : ⊥ = omega arith in absurd z
sum-more-nodes (suc (suc q)) g h = omega arith

-- ---- the term of a sum
pub turned_none : (d : Bool) → turned_if d [] ≡ []
unfolding turned_if turned
turned_none true = refl
turned_none false = refl

turned-long : (xs : List Summand) → length (turned xs) ≡ length xs
unfolding turned
turned-long [] = refl
turned-long (times k l ∷ xs) = ap suc (turned-long xs)

pub summands-long : (s a : List ℕ) (q : ℕ) → length (summands_of s a q) ≡ q
unfolding summands_of
summands-long s a zero = refl
summands-long s a (suc q) = rw (length-append, summands-long s a q) (omega arith)

pub all-long : (d : Bool) (s a : List ℕ) (q : ℕ) → length (turned_if d (summands_of s a q)) ≡ q
unfolding turned_if
all-long true s a q = turned-long (summands_of s a q) ∙ summands-long s a q
all-long false s a q = summands-long s a q

-- as a list
terms-listed : (xs : List Summand) → listed (map summand_term xs) ≡ entry_terms (entries_of xs)
unfolding listed summand_term entry_terms entries_of
terms-listed [] = refl
terms-listed (x ∷ xs) = rw (terms-listed xs)

-- of several summands
pub several : (xs : List Summand) → 2 ≤ length xs → app add (listed (map summand_term xs)) ≡ sum_term (entries_of xs)
unfolding sum_term entries_of
several [] h = let z : ⊥ = omega arith in absurd z
several (x ∷ []) h = let z : ⊥ = omega arith in absurd z
several (x ∷ (y ∷ xs)) h = ap (app add) (terms-listed (x ∷ (y ∷ xs)))
