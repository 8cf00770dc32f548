-- The assumptions that constraints become have the ids c1, c2, .. and keep the limits of a file, so both texts together are one list of commands within them.
use mathlib.Core.Path.{◌≡◌, refl, sym, ap, ap₂, subst, ◌∙◌}
use mathlib.Core.Bool.{Bool, true, false, not, ◌||◌}
use mathlib.Core.List.{List, [], ◌∷◌, ◌++◌, map, append_assoc, append-nil, map-append}
use mathlib.Core.Logic.{◌↔◌}
use Prim.Native.Nat.{ℕ, zero, suc, ◌+◌, ◌≤◌, ◌<◌}
use native.Mathlib.Omega.{arith}
use lib.Dec.{T, not_T, ltb, ltb→lt, nltb→le}
use lib.IntN.{ℤ, neg_ℤ}
use lib.ListN.{length, length-append}
use Rattle.calculus.specs.Terms.{Command, assume, step, pol, id_of, same_name}
use Rattle.calculus.specs.Words.{decimal, magnitude, max_numeral}
use Rattle.calculus.specs.Limits.{known, pol_lines, max_pols, fits, fit_all, some, allowed, allowed_behind, Limits}
use Rattle.calculus.specs.Writing.{IsReadBehind}
use Rattle.calculus.specs.OpbWords.{Literal, plain, negated, at_least, equal}
use Rattle.calculus.specs.OpbWriting.{Summand, times, Constraint, compare, inequality, turned, constraint_id, assumptions_of, assumptions_behind, assumptions, IsOpb, key_of, entry_of, entries_of}
use Rattle.calculus.specs.Entries.{lit_term, entry_term, entry_terms, sum_term, inequality_term}
use Rattle.calculus.proofs.Booleans.{and_l, and_r, and_mk, or_elim, or_l, or_r}
use Rattle.theorems.proofs.Decimal.{decimal-magnitude}
use Rattle.theorems.proofs.Reading.{ok-inj}
use Rattle.calculus.proofs.TermLaws.{same_name_eq, same_name_refl}

-- ---- the ids
-- m ids behind n others
unfoldable pub ids_behind : ℕ → ℕ → List (List ℕ)
ids_behind n zero = []
ids_behind n (suc m) = constraint_id (suc n) ∷ ids_behind (suc n) m

ids-append : (n a b : ℕ) → ids_behind n (a + b) ≡ ids_behind n a ++ ids_behind (n + a) b
unfolding ids_behind
ids-append n zero b =
    let e : n ≡ n + 0 = omega arith in
    let g : 0 + b ≡ b = omega arith in
    ap₂ ids_behind e g
ids-append n (suc a) b =
    let e : suc a + b ≡ suc (a + b) = omega arith in
    let g : suc n + a ≡ n + suc a = omega arith in
    ap (ids_behind n) e
    ∙ ap (λ (ds : List (List ℕ)). constraint_id (suc n) ∷ ds) (ids-append (suc n) a b ∙ ap (λ (i : ℕ). ids_behind (suc n) a ++ ids_behind i b) g)

ids-of : (n : ℕ) (k : Constraint) → map id_of (assumptions_of n k) ≡ ids_behind n (length (assumptions_of n k))
unfolding assumptions_of id_of ids_behind
ids-of n (compare xs at_least k) = refl
ids-of n (compare xs equal k) = refl

-- the ids of the commands before and of a constraint's assumptions behind them
ids_more : (before : List Command) (n : ℕ) (k : Constraint) → map id_of before ≡ ids_behind 0 n → map id_of (before ++ assumptions_of n k) ≡ ids_behind 0 (n + length (assumptions_of n k))
ids_more before n k e =
    let g : 0 + n ≡ n = omega arith in
    map-append id_of before (assumptions_of n k)
    ∙ ap₂ (λ (a b : List (List ℕ)). a ++ b) e (ids-of n k)
    ∙ sym (ids-append 0 n (length (assumptions_of n k)) ∙ ap (λ (i : ℕ). ids_behind 0 n ++ ids_behind i (length (assumptions_of n k))) g)

ids_all : (n : ℕ) (ks : List Constraint) → map id_of (assumptions_behind n ks) ≡ ids_behind n (length (assumptions_behind n ks))
unfolding assumptions_behind ids_behind
ids_all n [] = refl
ids_all n (k ∷ ks) =
    let cs : List Command = assumptions_of n k in
    let ds : List Command = assumptions_behind (n + length cs) ks in
    map-append id_of cs ds
    ∙ ap₂ (λ (a b : List (List ℕ)). a ++ b) (ids-of n k) (ids_all (n + length cs) ks)
    ∙ sym (ap (ids_behind n) (length-append cs ds) ∙ ids-append n (length cs) (length ds))

-- the assumptions of a text have the ids c1, c2, ..
pub assumption-ids : (ks : List Constraint) → map id_of (assumptions ks) ≡ ids_behind 0 (length (assumptions ks))
unfolding assumptions
assumption-ids ks = ids_all 0 ks

-- ---- which ids are known
known_in : List (List ℕ) → List ℕ → Bool
known_in [] d = false
known_in (e ∷ es) d = same_name e d || known_in es d

known-in : (cs : List Command) (d : List ℕ) → known cs d ≡ known_in (map id_of cs) d
unfolding known known_in
known-in [] d = refl
known-in (c ∷ cs) d = ap (λ (b : Bool). same_name (id_of c) d || b) (known-in cs d)

in-number : (n m : ℕ) (d : List ℕ) → T (known_in (ids_behind n m) d) → (i : ℕ) × (n < i) × (i ≤ n + m) × (d ≡ constraint_id i)
unfolding known_in ids_behind
in-number n zero d t = absurd t
in-number n (suc m) d t = or_elim (same_name (constraint_id (suc n)) d) (known_in (ids_behind (suc n) m) d)
    (λ h. (suc n, omega arith, omega arith, sym (same_name_eq (constraint_id (suc n)) d h)))
    (λ h. let (i, a, b, e) = in-number (suc n) m d h in (i, omega arith, omega arith, e)) t

number_in : (n m i : ℕ) → n < i → i ≤ n + m → T (known_in (ids_behind n m) (constraint_id i))
unfolding known_in ids_behind
number_in n zero i a b = let v : ⊥ = omega arith in absurd v
number_in n (suc m) i a b = go (ltb (suc n) i) (ltb→lt (suc n) i) (nltb→le (suc n) i) (λ c. number_in (suc n) m i c (omega arith))
  where
    go : (c : Bool) → (T c → suc n < i) → (T (not c) → i ≤ suc n) → (suc n < i → T (known_in (ids_behind (suc n) m) (constraint_id i))) → T (same_name (constraint_id (suc n)) (constraint_id i) || known_in (ids_behind (suc n) m) (constraint_id i))
    go true f g h = or_r (same_name (constraint_id (suc n)) (constraint_id i)) _ (h (f tt))
    go false f g h =
        let e : suc n ≡ i = omega (arith, g tt) in
        or_l (same_name (constraint_id (suc n)) (constraint_id i)) _ (subst (λ (j : ℕ). T (same_name (constraint_id (suc n)) (constraint_id j))) e (same_name_refl (constraint_id (suc n))))

-- an id is that of an assumption exactly when it is `c` and a number from 1 to their count
pub known-assumption : (ks : List Constraint) (d : List ℕ) → T (known (assumptions ks) d) ↔ ((i : ℕ) × (0 < i) × (i ≤ length (assumptions ks)) × (d ≡ constraint_id i))
known-assumption ks d =
    let m = length (assumptions ks) in
    let e : known (assumptions ks) d ≡ known_in (ids_behind 0 m) d = known-in (assumptions ks) d ∙ ap (λ (es : List (List ℕ)). known_in es d) (assumption-ids ks) in (
      λ t. let (i, a, b, g) = in-number 0 m d (subst T e t) in (i, a, omega arith, g),
      λ (i, a, b, g). subst T (sym e) (subst (λ (x : List ℕ). T (known_in (ids_behind 0 m) x)) (sym g) (number_in 0 m i a (omega arith))),
    )

-- two numbers have two ids
pub id-once : (i j : ℕ) → i ≤ max_numeral → j ≤ max_numeral → constraint_id i ≡ constraint_id j → i ≡ j
unfolding constraint_id
id-once i j a b e =
    let g : decimal i ≡ decimal j = cc in
    ok-inj (sym (decimal-magnitude i a) ∙ ap magnitude g ∙ decimal-magnitude j b)

id-new : (before : List Command) (n : ℕ) → map id_of before ≡ ids_behind 0 n → suc n ≤ max_numeral → T (not (known before (constraint_id (suc n))))
id-new before n e l = not_T (known before (constraint_id (suc n))) (λ t.
    let h : T (known_in (ids_behind 0 n) (constraint_id (suc n))) = subst T (known-in before (constraint_id (suc n)) ∙ ap (λ (es : List (List ℕ)). known_in es (constraint_id (suc n))) e) t in
    let (i, a, b, g) = in-number 0 n (constraint_id (suc n)) h in
    let j : suc n ≡ i = id-once (suc n) i l (omega arith) g in
    omega arith)

-- ---- the limits
-- a summand fits where it stands alone and where it stands in a sum
summand-fits : (k : ℤ) (l : Literal) → T (fits 2 (entry_term (entry_of (times k l)))) × T (fits 3 (entry_term (entry_of (times k l))))
unfolding fits some entry_term lit_term entry_of key_of
summand-fits k (plain x) = (tt, tt)
summand-fits k (negated x) = (tt, tt)

summands-fit : (xs : List Summand) → T (fit_all 3 (entry_terms (entries_of xs)))
unfolding fits entry_terms entries_of
summands-fit [] = tt
summands-fit (times k l ∷ xs) = and_mk (fits 3 (entry_term (entry_of (times k l)))) _ (summand-fits k l).1 (summands-fit xs)

sum_fits : (xs : List Summand) → T (fits 2 (sum_term (entries_of xs)))
unfolding fits some sum_term entry_terms entries_of
sum_fits [] = tt
sum_fits (times k l ∷ []) = (summand-fits k l).0
sum_fits (x ∷ (y ∷ xs)) = summands-fit (x ∷ (y ∷ xs))

inequality-fits : (xs : List Summand) (k : ℤ) → T (fits 1 (inequality xs k))
unfolding fits some inequality inequality_term
inequality-fits xs k = and_mk (fits 2 (sum_term (entries_of xs))) true (sum_fits xs) tt

allowed-append : (before cs ds : List Command) → T (allowed_behind before cs) → T (allowed_behind (before ++ cs) ds) → T (allowed_behind before (cs ++ ds))
unfolding allowed_behind
allowed-append before [] ds h k = subst (λ (z : List Command). T (allowed_behind z ds)) (append-nil before) k
allowed-append before (c ∷ cs) ds h k =
    and_mk (allowed before c) _ (and_l (allowed before c) _ h)
    (allowed-append (before ++ (c ∷ [])) cs ds (and_r (allowed before c) _ h) (subst (λ (z : List Command). T (allowed_behind z ds)) (sym (append_assoc before (c ∷ []) cs)) k))

one-allowed : (before : List Command) (n : ℕ) (xs : List Summand) (k : ℤ) → map id_of before ≡ ids_behind 0 n → suc n ≤ max_numeral → T (allowed before (assume (constraint_id (suc n)) (inequality xs k)))
unfolding allowed
one-allowed before n xs k e l = and_mk (not (known before (constraint_id (suc n)))) _ (id-new before n e l) (inequality-fits xs k)

of-allowed : (before : List Command) (n : ℕ) (k : Constraint) → map id_of before ≡ ids_behind 0 n → n + length (assumptions_of n k) ≤ max_numeral → T (allowed_behind before (assumptions_of n k))
unfolding allowed_behind assumptions_of
of-allowed before n (compare xs at_least k) e l = and_mk (allowed before _) true (one-allowed before n xs k e (omega arith)) tt
of-allowed before n (compare xs equal k) e l =
    and_mk (allowed before _) _ (one-allowed before n xs k e (omega arith))
    (and_mk (allowed (before ++ _) _) true (one-allowed _ (suc n) (turned xs) (neg_ℤ k) (first n xs k e) (omega arith)) tt)
  where
    first : (n : ℕ) (xs : List Summand) (k : ℤ) → map id_of before ≡ ids_behind 0 n → map id_of (before ++ (assume (constraint_id (suc n)) (inequality xs k) ∷ [])) ≡ ids_behind 0 (suc n)
    first n xs k e = ids_more before n (compare xs at_least k) e ∙ ap (ids_behind 0) (omega arith)

all-allowed : (before : List Command) (n : ℕ) (ks : List Constraint) → map id_of before ≡ ids_behind 0 n → n + length (assumptions_behind n ks) ≤ max_numeral → T (allowed_behind before (assumptions_behind n ks))
unfolding assumptions_behind allowed_behind
all-allowed before n [] e l = tt
all-allowed before n (k ∷ ks) e l =
    let cs : List Command = assumptions_of n k in
    let ds : List Command = assumptions_behind (n + length cs) ks in
    let a : length (cs ++ ds) ≡ length cs + length ds = length-append cs ds in
    allowed-append before cs ds (of-allowed before n k e (omega arith)) (all-allowed (before ++ cs) (n + length cs) ks (ids_more before n k e) (omega arith))

-- the assumptions of an OPB text are commands within the limits
pub assumptions-limits : (o : List ℕ) (ks : List Constraint) → IsOpb o ks → Limits (assumptions ks)
unfolding assumptions ids_behind
assumptions-limits o ks p = record { allowed = all-allowed [] 0 ks refl (omega (arith, p.commands)); nodes = p.nodes; commands = p.commands }

-- and so are those of both texts together
pub both-limits : (o s : List ℕ) (ks : List Constraint) (cs : List Command) → IsOpb o ks → IsReadBehind (assumptions ks) s cs → Limits (assumptions ks ++ cs)
both-limits o s ks cs p r = record {
  allowed = allowed-append [] (assumptions ks) cs (assumptions-limits o ks p).allowed r.limits.allowed;
  nodes = r.limits.nodes;
  commands = r.limits.commands;
}

-- ---- pol lines: an OPB text has none, so the 64 are the proof text's own
pols-append : (cs ds : List Command) → pol_lines (cs ++ ds) ≡ pol_lines cs + pol_lines ds
unfolding pol_lines
pols-append [] ds = omega arith
pols-append (assume d x ∷ cs) ds = pols-append cs ds
pols-append (step d c r is xs ∷ cs) ds = pols-append cs ds
pols-append (pol d ws ∷ cs) ds = omega (arith, pols-append cs ds)

pols-of : (n : ℕ) (k : Constraint) → pol_lines (assumptions_of n k) ≡ 0
unfolding pol_lines assumptions_of
pols-of n (compare xs at_least k) = refl
pols-of n (compare xs equal k) = refl

pols-all : (n : ℕ) (ks : List Constraint) → pol_lines (assumptions_behind n ks) ≡ 0
unfolding pol_lines assumptions_behind
pols-all n [] = refl
pols-all n (k ∷ ks) = omega (arith, pols-append (assumptions_of n k) (assumptions_behind (n + length (assumptions_of n k)) ks), pols-of n k, pols-all (n + length (assumptions_of n k)) ks)

-- behind the assumptions of an OPB text only the proof text's own pol lines count
pub pols-behind : (ks : List Constraint) (cs : List Command) → pol_lines (assumptions ks ++ cs) ≡ pol_lines cs
unfolding assumptions
pols-behind ks cs = omega (arith, pols-append (assumptions ks) cs, pols-all 0 ks)

one_more : (cs : List Command) (c : Command) → pol_lines cs ≤ max_pols → T (allowed cs c) → pol_lines (cs ++ (c ∷ [])) ≤ max_pols
unfolding allowed pol_lines
one_more cs (assume d x) h t = omega (arith, pols-append cs (assume d x ∷ []))
one_more cs (step d c r is xs) h t = omega (arith, pols-append cs (step d c r is xs ∷ []))
one_more cs (pol d ws) h t =
    let l : pol_lines cs < max_pols = ltb→lt (pol_lines cs) max_pols (and_l (ltb (pol_lines cs) max_pols) _ (and_r (not (known cs d)) _ t)) in
    omega (arith, pols-append cs (pol d ws ∷ []))

pols-allowed : (cs ds : List Command) → pol_lines cs ≤ max_pols → T (allowed_behind cs ds) → pol_lines (cs ++ ds) ≤ max_pols
unfolding allowed_behind
pols-allowed cs [] h t = subst (λ (z : List Command). pol_lines z ≤ max_pols) (sym (append-nil cs)) h
pols-allowed cs (c ∷ ds) h t =
    subst (λ (z : List Command). pol_lines z ≤ max_pols) (append_assoc cs (c ∷ []) ds)
    (pols-allowed (cs ++ (c ∷ [])) ds (one_more cs c h (and_l (allowed cs c) _ t)) (and_r (allowed cs c) _ t))

-- a proof text that is read behind an OPB text has at most 64
pub pols-limit : (o s : List ℕ) (ks : List Constraint) (cs : List Command) → IsOpb o ks → IsReadBehind (assumptions ks) s cs → pol_lines cs ≤ max_pols
unfolding pol_lines
pols-limit o s ks cs p r =
    let h : pol_lines ([] ++ (assumptions ks ++ cs)) ≤ max_pols = pols-allowed [] (assumptions ks ++ cs) (omega arith) (both-limits o s ks cs p r).allowed in
    omega (arith, pols-behind ks cs)
