-- An assignment solves OPB constraints exactly when it satisfies the assumptions that they become.
use mathlib.Core.Path.{◌≡◌, refl, sym, ap, ap₂, subst, ◌∙◌}
use mathlib.Core.Bool.{true}
use mathlib.Core.List.{List, [], ◌∷◌, ◌++◌, map}
use mathlib.Core.Logic.{◌↔◌}
use Prim.Native.Nat.{ℕ, ◌+◌}
use lib.Dec.{T}
use lib.IntN.{ℤ, pos, neg_ℤ, ◌+ℤ◌, ◌*ℤ◌}
use lib.ListN.{length}
use lib.Signed.{le_z, ◌≤ℤ◌}
use Rattle.integer.proofs.Parts.{int, link, ‹◌›, lit, ◌⊕◌, ◌⊖◌, ◌⊗◌, neg}
use Rattle.calculus.specs.Terms.{Command, assume, step, pol}
use Rattle.calculus.specs.Truth.{Assignment, bit, sum_z, prod_z, less_z, val_op, val, vals, arithmetic_op, is_arithmetic, are_arithmetic, two, statement_op, is_statement, pair_of, truth_op, truth, clause_of, Satisfies, Models}
use Rattle.calculus.specs.OpbWords.{Literal, plain, negated, at_least, equal}
use Rattle.calculus.specs.OpbWriting.{Summand, times, Constraint, compare, key_of, entry_of, entries_of, inequality, turned, assumptions_of, assumptions_behind, assumptions}
use Rattle.calculus.specs.Entries.{lit_term, entry_term, entry_terms, sum_term, inequality_term}
use Rattle.calculus.specs.OpbTruth.{literal_value, sum_value, MakesTrue, Solves}
use Rattle.calculus.proofs.Booleans.{and_mk}
use Rattle.theorems.proofs.RulesSound.{AllSat}

-- ---- values
literal-value : (σ : Assignment) (l : Literal) → val σ (lit_term (key_of l)) ≡ literal_value σ l
unfolding val val_op less_z sum_z lit_term key_of literal_value
literal-value σ (plain x) = refl
literal-value σ (negated x) = omega (int, link (lit 1 ⊖ (‹ bit (σ x) › ⊕ lit 0)), link (lit 1 ⊖ ‹ bit (σ x) ›))

times-one : (k v w : ℤ) → v ≡ w → (k *ℤ (v *ℤ pos 1)) ≡ k *ℤ w
times-one k v w e = ap (λ (z : ℤ). k *ℤ (z *ℤ pos 1)) e ∙ omega (int, link (‹ k › ⊗ (‹ w › ⊗ lit 1)), link (‹ k › ⊗ ‹ w ›))

summand-value : (σ : Assignment) (k : ℤ) (l : Literal) → val σ (entry_term (entry_of (times k l))) ≡ k *ℤ literal_value σ l
unfolding val val_op prod_z entry_term entry_of
summand-value σ k l = times-one k (val σ (lit_term (key_of l))) (literal_value σ l) (literal-value σ l)

summands-value : (σ : Assignment) (xs : List Summand) → sum_z (vals σ (entry_terms (entries_of xs))) ≡ sum_value σ xs
unfolding val sum_z entry_terms entries_of sum_value
summands-value σ [] = refl
summands-value σ (times k l ∷ xs) = ap₂ ◌+ℤ◌ (summand-value σ k l) (summands-value σ xs)

-- the value of the term is that of the sum
sum-value : (σ : Assignment) (xs : List Summand) → val σ (sum_term (entries_of xs)) ≡ sum_value σ xs
unfolding val val_op sum_term entries_of sum_value
sum-value σ [] = refl
sum-value σ (times k l ∷ []) = summand-value σ k l ∙ omega (int, link (‹ k *ℤ literal_value σ l › ⊕ lit 0))
sum-value σ (x ∷ (y ∷ xs)) = summands-value σ (x ∷ (y ∷ xs))

-- all signs turned
turned-value : (σ : Assignment) (xs : List Summand) → sum_value σ (turned xs) ≡ neg_ℤ (sum_value σ xs)
unfolding turned sum_value
turned-value σ [] = refl
turned-value σ (times k l ∷ xs) =
    let v = literal_value σ l in
    let w = sum_value σ xs in
    ap (λ (z : ℤ). (neg_ℤ k *ℤ v) +ℤ z) (turned-value σ xs)
    ∙ omega (int, link (neg ‹ k › ⊗ ‹ v › ⊕ neg ‹ w ›), link (neg (‹ k › ⊗ ‹ v › ⊕ ‹ w ›)))

-- ---- statements
literal_arithmetic : (l : Literal) → T (is_arithmetic (lit_term (key_of l)))
unfolding is_arithmetic arithmetic_op lit_term key_of
literal_arithmetic (plain x) = tt
literal_arithmetic (negated x) = tt

summand-arithmetic : (x : Summand) → T (is_arithmetic (entry_term (entry_of x)))
unfolding is_arithmetic arithmetic_op entry_term entry_of
summand-arithmetic (times k l) = and_mk (is_arithmetic (lit_term (key_of l))) true (literal_arithmetic l) tt

summands-arithmetic : (xs : List Summand) → T (are_arithmetic (entry_terms (entries_of xs)))
unfolding is_arithmetic entry_terms entries_of
summands-arithmetic [] = tt
summands-arithmetic (x ∷ xs) = and_mk (is_arithmetic (entry_term (entry_of x))) _ (summand-arithmetic x) (summands-arithmetic xs)

sum-arithmetic : (xs : List Summand) → T (is_arithmetic (sum_term (entries_of xs)))
unfolding is_arithmetic arithmetic_op sum_term entries_of
sum-arithmetic [] = tt
sum-arithmetic (x ∷ []) = summand-arithmetic x
sum-arithmetic (x ∷ (y ∷ xs)) = summands-arithmetic (x ∷ (y ∷ xs))

inequality-statement : (xs : List Summand) (k : ℤ) → T (is_statement (inequality xs k))
unfolding is_statement statement_op is_arithmetic two inequality inequality_term
inequality-statement xs k = and_mk (is_arithmetic (sum_term (entries_of xs))) true (sum-arithmetic xs) tt

inequality-truth : (σ : Assignment) (xs : List Summand) (k : ℤ) → truth σ (inequality xs k) ≡ le_z k (sum_value σ xs)
unfolding truth truth_op pair_of val inequality inequality_term
inequality-truth σ xs k = ap (le_z k) (sum-value σ xs)

-- an inequality is satisfied where its constant is at most its sum
inequality-exact : (σ : Assignment) (xs : List Summand) (k : ℤ) → Satisfies σ (inequality xs k ∷ []) ↔ k ≤ℤ sum_value σ xs
unfolding Satisfies
inequality-exact σ xs k = (
  λ (s, t). record { le = subst T (inequality-truth σ xs k) t },
  λ h. (inequality-statement xs k, subst T (sym (inequality-truth σ xs k)) h.le),
)

-- ---- constraints
equal_exact : (σ : Assignment) (xs : List Summand) (k : ℤ) → (sum_value σ xs ≡ k) ↔ ((k ≤ℤ sum_value σ xs) × (neg_ℤ k ≤ℤ sum_value σ (turned xs)))
equal_exact σ xs k =
    let v = sum_value σ xs in
    let e = turned-value σ xs in (
      λ h. (omega int, subst (λ (z : ℤ). neg_ℤ k ≤ℤ z) (sym e) (omega (int, link (neg ‹ v ›), link (neg ‹ k ›)))),
      λ (h, j). let i : neg_ℤ k ≤ℤ neg_ℤ v = subst (λ (z : ℤ). neg_ℤ k ≤ℤ z) e j in omega (int, link (neg ‹ v ›), link (neg ‹ k ›)),
    )

constraint_exact : (σ : Assignment) (n : ℕ) (k : Constraint) → MakesTrue σ k ↔ AllSat σ (map clause_of (assumptions_of n k))
unfolding MakesTrue AllSat clause_of assumptions_of
constraint_exact σ n (compare xs at_least k) = (λ h. ((inequality-exact σ xs k).1 h, tt), λ (h, z). (inequality-exact σ xs k).0 h)
constraint_exact σ n (compare xs equal k) = (
  λ h. let (a, b) = (equal_exact σ xs k).0 h in ((inequality-exact σ xs k).1 a, ((inequality-exact σ (turned xs) (neg_ℤ k)).1 b, tt)),
  λ (h, (j, z)). (equal_exact σ xs k).1 ((inequality-exact σ xs k).0 h, (inequality-exact σ (turned xs) (neg_ℤ k)).0 j),
)

all_append : (σ : Assignment) (cs ds : List Command) → AllSat σ (map clause_of cs) → AllSat σ (map clause_of ds) → AllSat σ (map clause_of (cs ++ ds))
unfolding AllSat
all_append σ [] ds h k = k
all_append σ (c ∷ cs) ds (h, i) k = (h, all_append σ cs ds i k)

all_split : (σ : Assignment) (cs ds : List Command) → AllSat σ (map clause_of (cs ++ ds)) → AllSat σ (map clause_of cs) × AllSat σ (map clause_of ds)
unfolding AllSat
all_split σ [] ds h = (tt, h)
all_split σ (c ∷ cs) ds (h, k) = let (a, b) = all_split σ cs ds k in ((h, a), b)

behind-exact : (σ : Assignment) (n : ℕ) (ks : List Constraint) → Solves σ ks ↔ AllSat σ (map clause_of (assumptions_behind n ks))
unfolding Solves AllSat assumptions_behind
behind-exact σ n [] = (λ h. tt, λ h. tt)
behind-exact σ n (k ∷ ks) =
    let cs = assumptions_of n k in
    let ds = assumptions_behind (n + length cs) ks in
    let i = constraint_exact σ n k in
    let j = behind-exact σ (n + length cs) ks in (
      λ (h, l). all_append σ cs ds (i.0 h) (j.0 l),
      λ h. let (a, b) = all_split σ cs ds h in (i.1 a, j.1 b),
    )

-- the theorem: an assignment solves the constraints exactly when it satisfies each assumption that they become
pub solves_exactly : (σ : Assignment) (ks : List Constraint) → Solves σ ks ↔ AllSat σ (map clause_of (assumptions ks))
unfolding assumptions
solves_exactly σ ks = behind-exact σ 0 ks

-- ---- as the claim counts assumptions: those that are statements, and each of these is one
-- commands that are assumptions and statements
unfoldable pub Statements : List Command → Type 0
Statements [] = Unit {0}
Statements (assume d t ∷ cs) = T (is_statement t) × Statements cs
Statements (step d c r ds xs ∷ cs) = ⊥
Statements (pol d ws ∷ cs) = ⊥

satisfied_models : (σ : Assignment) (cs : List Command) → AllSat σ (map clause_of cs) → Models σ cs
unfolding AllSat clause_of Models Satisfies
satisfied_models σ [] h = tt
satisfied_models σ (assume d t ∷ cs) (h, k) = (λ s. h.1, satisfied_models σ cs k)
satisfied_models σ (step d c r ds xs ∷ cs) (h, k) = satisfied_models σ cs k
satisfied_models σ (pol d ws ∷ cs) (h, k) = satisfied_models σ cs k

models_satisfied : (σ : Assignment) (cs : List Command) → Statements cs → Models σ cs → AllSat σ (map clause_of cs)
unfolding AllSat clause_of Models Satisfies Statements
models_satisfied σ [] s h = tt
models_satisfied σ (assume d t ∷ cs) (s, z) (h, k) = ((s, h s), models_satisfied σ cs z k)
models_satisfied σ (step d c r ds xs ∷ cs) s h = absurd s
models_satisfied σ (pol d ws ∷ cs) s h = absurd s

statements_append : (cs ds : List Command) → Statements cs → Statements ds → Statements (cs ++ ds)
unfolding Statements
statements_append [] ds h k = k
statements_append (assume d t ∷ cs) ds (h, i) k = (h, statements_append cs ds i k)
statements_append (step d c r is xs ∷ cs) ds h k = absurd h
statements_append (pol d ws ∷ cs) ds h k = absurd h

statements_of : (n : ℕ) (k : Constraint) → Statements (assumptions_of n k)
unfolding Statements assumptions_of
statements_of n (compare xs at_least k) = (inequality-statement xs k, tt)
statements_of n (compare xs equal k) = (inequality-statement xs k, (inequality-statement (turned xs) (neg_ℤ k), tt))

statements-behind : (n : ℕ) (ks : List Constraint) → Statements (assumptions_behind n ks)
unfolding Statements assumptions_behind
statements-behind n [] = tt
statements-behind n (k ∷ ks) = statements_append (assumptions_of n k) _ (statements_of n k) (statements-behind (n + length (assumptions_of n k)) ks)

pub assumptions-statements : (ks : List Constraint) → Statements (assumptions ks)
unfolding assumptions
assumptions-statements ks = statements-behind 0 ks

pub solves_models : (σ : Assignment) (ks : List Constraint) → Solves σ ks ↔ Models σ (assumptions ks)
solves_models σ ks = (
  λ h. satisfied_models σ (assumptions ks) ((solves_exactly σ ks).0 h),
  λ h. (solves_exactly σ ks).1 (models_satisfied σ (assumptions ks) (assumptions-statements ks) h),
)

pub models_append : (σ : Assignment) (cs ds : List Command) → Models σ cs → Models σ ds → Models σ (cs ++ ds)
unfolding Models
models_append σ [] ds h k = k
models_append σ (assume d t ∷ cs) ds (h, i) k = (h, models_append σ cs ds i k)
models_append σ (step d c r is xs ∷ cs) ds h k = models_append σ cs ds h k
models_append σ (pol d ws ∷ cs) ds h k = models_append σ cs ds h k
