-- Entries of pol lines: their shape, and the clause that a line leaves, which section 2 reads as exactly its entries and its constant.
use mathlib.Core.Path.{◌≡◌, refl, sym, ap, subst, ◌∙◌}
use mathlib.Core.Bool.{Bool, true, false, not, cond}
use mathlib.Core.List.{List, [], ◌∷◌, ◌++◌, append_assoc, append-nil}
use Prim.Native.Nat.{suc, ◌≤◌}
use native.Mathlib.Omega.{arith}
use lib.Dec.{T, leb, le→leb}
use lib.IntN.{ℤ, pos, ◌+ℤ◌, +ℤ_idl}
use lib.ListN.{length}
use Rattle.integer.proofs.Parts.{add_parts, int}
use Rattle.calculus.specs.Matching.{or_bad, as_constant, is_name, neg_of, binary, arguments_of, pair}
use Rattle.calculus.specs.Pol.{max_literals, nonzeros, lit_before, placed, ordered, finished}
use Rattle.calculus.specs.Entries.{lit_term, entry_term, entry_terms, sum_term, inequality_term, Entry, Inequality, Lit, entry}
use Rattle.calculus.specs.Sums.{all, all_names, children_or, count, has, lit_if, lit_of, lone_constant, max_summands, pb_sum, put, same_lit, split_summation, summand, summands, sum_or, unwrap_inequality}
use Rattle.calculus.specs.Terms.{Term, app, num, same_integer, var}
use Rattle.calculus.specs.Words.{Res, bind, ensure, ok}
use Rattle.calculus.proofs.Booleans.{and_l, and_r, and_mk}
use Rattle.theorems.proofs.Decimal.{ensure-yes}
use Rattle.theorems.proofs.SumLaws.{Distinct, Same, same, same?, same_lit-eq, same_lit-refl, scale, scale_zero, total}
use Rattle.calculus.proofs.TermLaws.{same_integer-eq}

-- ---- an entry into its place
has-placed : (k : Lit) (e : Entry) (E : List Entry) → has k (placed e E) ≡ has k (e ∷ E)
unfolding has placed
has-placed k e [] = refl
has-placed k e (f ∷ E) = go (lit_before e.lit f.lit) (has-placed k e E)
  where
    swap : (a b c : Bool) → cond a true (cond b true c) ≡ cond b true (cond a true c)
    swap true true c = refl
    swap true false c = refl
    swap false true c = refl
    swap false false c = refl

    go : (c : Bool) → has k (placed e E) ≡ cond (same_lit k e.lit) true (has k E) → has k (cond c (e ∷ (f ∷ E)) (f ∷ placed e E)) ≡ cond (same_lit k e.lit) true (cond (same_lit k f.lit) true (has k E))
    go true h = refl
    go false h = ap (cond (same_lit k f.lit) true) h ∙ swap (same_lit k f.lit) (same_lit k e.lit) (has k E)

-- what is no key of a list is none that its keys are
not_same : (e f : Entry) (E : List Entry) → T (not (has e.lit (f ∷ E))) → T (not (same_lit f.lit e.lit))
unfolding has
not_same e f E h = go (same_lit f.lit e.lit) (same_lit-eq f.lit e.lit) (same_lit e.lit f.lit) (λ p. subst (λ (l : Lit). T (same_lit e.lit l)) (sym p) (same_lit-refl e.lit)) h
  where
    go : (c : Bool) → (T c → f.lit ≡ e.lit) → (d : Bool) → (f.lit ≡ e.lit → T d) → T (not (cond d true (has e.lit E))) → T (not c)
    go true p true q h = absurd h
    go true p false q h = absurd (q (p tt))
    go false p d q h = tt

pub not_tail : (e f : Entry) (E : List Entry) → T (not (has e.lit (f ∷ E))) → T (not (has e.lit E))
unfolding has
not_tail e f E h = go (same_lit e.lit f.lit) h
  where
    go : (c : Bool) → T (not (cond c true (has e.lit E))) → T (not (has e.lit E))
    go true h = absurd h
    go false h = h

not-cons : (k : Lit) (e : Entry) (E : List Entry) → T (not (same_lit k e.lit)) → T (not (has k E)) → T (not (has k (e ∷ E)))
unfolding has
not-cons k e E a b = go (same_lit k e.lit) a
  where
    go : (c : Bool) → T (not c) → T (not (cond c true (has k E)))
    go true a = absurd a
    go false a = b

distinct-placed : (e : Entry) (E : List Entry) → T (not (has e.lit E)) → Distinct E → Distinct (placed e E)
unfolding Distinct placed
distinct-placed e [] h d = (h, d)
distinct-placed e (f ∷ E) h d = go (lit_before e.lit f.lit) (distinct-placed e E (not_tail e f E h) d.1)
  where
    go : (c : Bool) → Distinct (placed e E) → Distinct (cond c (e ∷ (f ∷ E)) (f ∷ placed e E))
    go true ih = (h, d)
    go false ih = (subst (λ (b : Bool). T (not b)) (sym (has-placed f.lit e E)) (not-cons f.lit e E (not_same e f E h) d.0), ih)

pub has-ordered : (k : Lit) (E : List Entry) → has k (ordered E) ≡ has k E
unfolding ordered has
has-ordered k [] = refl
has-ordered k (e ∷ E) = has-placed k e (ordered E) ∙ ap (cond (same_lit k e.lit) true) (has-ordered k E)

distinct-ordered : (E : List Entry) → Distinct E → Distinct (ordered E)
unfolding Distinct ordered
distinct-ordered [] d = tt
distinct-ordered (e ∷ E) d = distinct-placed e (ordered E) (subst (λ (b : Bool). T (not b)) (sym (has-ordered e.lit E)) d.0) (distinct-ordered E d.1)

-- a test that every entry passes
module _ (p : Entry → Bool) where
  all_placed : (e : Entry) (E : List Entry) → T (p e) → T (all p E) → T (all p (placed e E))
  unfolding all placed
  all_placed e [] x h = and_mk (p e) true x tt
  all_placed e (f ∷ E) x h = go (lit_before e.lit f.lit) (all_placed e E x (and_r (p f) _ h))
    where
      go : (c : Bool) → T (all p (placed e E)) → T (all p (cond c (e ∷ (f ∷ E)) (f ∷ placed e E)))
      go true ih = and_mk (p e) _ x h
      go false ih = and_mk (p f) _ (and_l (p f) _ h) ih

  pub all-ordered : (E : List Entry) → T (all p E) → T (all p (ordered E))
  unfolding ordered all
  all-ordered [] h = tt
  all-ordered (e ∷ E) h = all_placed e (ordered E) (and_l (p e) _ h) (all-ordered E (and_r (p e) _ h))

  pub all-nonzeros : (E : List Entry) → T (all p E) → T (all p (nonzeros E))
  unfolding all nonzeros
  all-nonzeros [] h = tt
  all-nonzeros (e ∷ E) h = go (same_integer e.coefficient (pos 0)) (all-nonzeros E (and_r (p e) _ h))
    where
      go : (c : Bool) → T (all p (nonzeros E)) → T (all p (cond c (nonzeros E) (e ∷ nonzeros E)))
      go true ih = ih
      go false ih = and_mk (p e) _ (and_l (p e) _ h) ih

length-placed : (e : Entry) (E : List Entry) → length (placed e E) ≡ suc (length E)
unfolding placed
length-placed e [] = refl
length-placed e (f ∷ E) = go (lit_before e.lit f.lit) (length-placed e E)
  where
    go : (c : Bool) → length (placed e E) ≡ suc (length E) → length (cond c (e ∷ (f ∷ E)) (f ∷ placed e E)) ≡ suc (suc (length E))
    go true ih = refl
    go false ih = ap suc ih

length-ordered : (E : List Entry) → length (ordered E) ≡ length E
unfolding ordered
length-ordered [] = refl
length-ordered (e ∷ E) = length-placed e (ordered E) ∙ ap suc (length-ordered E)

module _ (ν : Lit → Bool) where
  total-placed : (e : Entry) (E : List Entry) → total ν (placed e E) ≡ scale (ν e.lit) e.coefficient +ℤ total ν E
  unfolding total placed
  total-placed e [] = refl
  total-placed e (f ∷ E) = go (lit_before e.lit f.lit) (total-placed e E)
    where
      go : (c : Bool) → total ν (placed e E) ≡ scale (ν e.lit) e.coefficient +ℤ total ν E → total ν (cond c (e ∷ (f ∷ E)) (f ∷ placed e E)) ≡ scale (ν e.lit) e.coefficient +ℤ (scale (ν f.lit) f.coefficient +ℤ total ν E)
      go true ih = refl
      go false ih =
          let x = scale (ν e.lit) e.coefficient in
          let y = scale (ν f.lit) f.coefficient in
          let t = total ν E in
          rw ih (omega (int, add_parts x t, add_parts y (x +ℤ t), add_parts y t, add_parts x (y +ℤ t)))

  total-ordered : (E : List Entry) → total ν (ordered E) ≡ total ν E
  unfolding ordered total
  total-ordered [] = refl
  total-ordered (e ∷ E) = total-placed e (ordered E) ∙ ap (λ (z : ℤ). scale (ν e.lit) e.coefficient +ℤ z) (total-ordered E)

  -- zeros add nothing
  total-nonzeros : (E : List Entry) → total ν (nonzeros E) ≡ total ν E
  unfolding nonzeros total
  total-nonzeros [] = refl
  total-nonzeros (e ∷ E) = go (same_integer e.coefficient (pos 0)) (same_integer-eq e.coefficient (pos 0)) (total-nonzeros E)
    where
      go : (c : Bool) → (T c → e.coefficient ≡ pos 0) → total ν (nonzeros E) ≡ total ν E → total ν (cond c (nonzeros E) (e ∷ nonzeros E)) ≡ scale (ν e.lit) e.coefficient +ℤ total ν E
      go true f ih = ih ∙ sym (ap (λ (z : ℤ). scale (ν e.lit) z +ℤ total ν E) (f tt) ∙ ap (λ (z : ℤ). z +ℤ total ν E) (scale_zero (ν e.lit)) ∙ +ℤ_idl (total ν E))
      go false f ih = ap (λ (z : ℤ). scale (ν e.lit) e.coefficient +ℤ z) ih

-- ---- zeros left out
not-nonzeros : (k : Lit) (E : List Entry) → T (not (has k E)) → T (not (has k (nonzeros E)))
unfolding has nonzeros
not-nonzeros k [] h = tt
not-nonzeros k (e ∷ E) h = go (same_integer e.coefficient (pos 0)) (same_lit k e.lit) refl (not-nonzeros k E) h
  where
    go : (c d : Bool) → same_lit k e.lit ≡ d → (T (not (has k E)) → T (not (has k (nonzeros E)))) → T (not (cond d true (has k E))) → T (not (has k (cond c (nonzeros E) (e ∷ nonzeros E))))
    go c true q ih h = absurd h
    go true false q ih h = ih h
    go false false q ih h = rw q (ih h)

pub distinct-nonzeros : (E : List Entry) → Distinct E → Distinct (nonzeros E)
unfolding Distinct nonzeros
distinct-nonzeros [] d = tt
distinct-nonzeros (e ∷ E) d = go (same_integer e.coefficient (pos 0)) (distinct-nonzeros E d.1)
  where
    go : (c : Bool) → Distinct (nonzeros E) → Distinct (cond c (nonzeros E) (e ∷ nonzeros E))
    go true ih = ih
    go false ih = (not-nonzeros e.lit E d.0, ih)

pub names-nonzeros : (E : List Entry) → T (all_names E) → T (all_names (nonzeros E))
unfolding all_names
names-nonzeros E h = all-nonzeros (λ e. is_name e.lit.variable) E h

pub names-finished : (q : Inequality) → T (all_names q.sum) → T (all_names (finished q).sum)
unfolding all_names finished
names-finished q h = all-ordered (λ e. is_name e.lit.variable) (nonzeros q.sum) (names-nonzeros q.sum h)

pub distinct-finished : (q : Inequality) → Distinct q.sum → Distinct (finished q).sum
unfolding finished
distinct-finished q d = distinct-ordered (nonzeros q.sum) (distinct-nonzeros q.sum d)

length-nonzeros : (E : List Entry) → length (nonzeros E) ≤ length E
unfolding nonzeros
length-nonzeros [] = omega arith
length-nonzeros (e ∷ E) = go (same_integer e.coefficient (pos 0)) (length-nonzeros E)
  where
    go : (c : Bool) → length (nonzeros E) ≤ length E → length (cond c (nonzeros E) (e ∷ nonzeros E)) ≤ suc (length E)
    go true ih = omega arith
    go false ih = omega arith

pub length-finished : (q : Inequality) → length (finished q).sum ≤ length q.sum
unfolding finished
length-finished q = omega (arith, length-ordered (nonzeros q.sum), length-nonzeros q.sum)

pub total-finished : (ν : Lit → Bool) (q : Inequality) → total ν (finished q).sum ≡ total ν q.sum
unfolding finished
total-finished ν q = total-ordered ν (nonzeros q.sum) ∙ total-nonzeros ν q.sum

-- ---- the clause is read back
lit-back : (v : Term) (b : Bool) → T (is_name v) → lit_of (lit_term (record { variable = v; negated = b })) ≡ record { variable = v; negated = b }
unfolding lit_term lit_of lit_if neg_of binary arguments_of pair as_constant ensure bind same_integer is_name
lit-back (num z) b t = absurd t
lit-back (var x) true t = refl
lit-back (var x) false t = refl
lit-back (app o ts) b t = absurd t

pub entry-back : (e : Entry) → T (is_name e.lit.variable) → summand (entry_term e) ≡ ok e
unfolding entry_term summand binary arguments_of pair as_constant ensure bind or_bad
entry-back e t = ap (λ (l : Lit). ok (entry l e.coefficient)) (lit-back e.lit.variable e.lit.negated t)

put-new : (k : Lit) (a : ℤ) (E : List Entry) → T (not (has k E)) → put k a E ≡ E ++ (entry k a ∷ [])
unfolding put has
put-new k a [] h = refl
put-new k a (e ∷ E) h = go (same_lit k e.lit) (put-new k a E) h
  where
    go : (c : Bool) → (T (not (has k E)) → put k a E ≡ E ++ (entry k a ∷ [])) → T (not (cond c true (has k E))) → cond c (entry e.lit (e.coefficient +ℤ a) ∷ E) (e ∷ put k a E) ≡ e ∷ (E ++ (entry k a ∷ []))
    go true ih h = absurd h
    go false ih h = ap (λ (F : List Entry). e ∷ F) (ih h)

-- a key behind a list of distinct keys is none before it
has-behind : (k : Lit) (A : List Entry) (e : Entry) (E : List Entry) → T (not (has k (A ++ (e ∷ E)))) → T (not (same_lit k e.lit))
unfolding has
has-behind k [] e E h = go (same_lit k e.lit) h
  where
    go : (c : Bool) → T (not (cond c true (has k E))) → T (not c)
    go true h = absurd h
    go false h = tt
has-behind k (f ∷ A) e E h = has-behind k A e E (go (same_lit k f.lit) h)
  where
    go : (c : Bool) → T (not (cond c true (has k (A ++ (e ∷ E))))) → T (not (has k (A ++ (e ∷ E))))
    go true h = absurd h
    go false h = h

distinct_mid : (A : List Entry) (e : Entry) (E : List Entry) → Distinct (A ++ (e ∷ E)) → T (not (has e.lit A))
unfolding Distinct has
distinct_mid [] e E d = tt
distinct_mid (f ∷ A) e E d = go (same_lit e.lit f.lit) (same? e.lit f.lit) (distinct_mid A e E d.1)
  where
    go : (c : Bool) → Same e.lit f.lit c → T (not (has e.lit A)) → T (not (cond c true (has e.lit A)))
    go true (same p) ih = absurd (no (same_lit f.lit e.lit) (subst (λ (l : Lit). T (same_lit f.lit l)) (sym p) (same_lit-refl f.lit)) (has-behind f.lit A e E d.0))
      where
        no : (c : Bool) → T c → T (not c) → ⊥
        no true t n = n
        no false t n = t
    go false s ih = ih

summands-back : (E A : List Entry) → T (all_names E) → Distinct (A ++ E) → summands (entry_terms E) A ≡ ok (A ++ E)
unfolding summands entry_terms all_names all bind
summands-back [] A n d = ap ok (sym (append-nil A))
summands-back (e ∷ E) A n d =
    let x : T (is_name e.lit.variable) = and_l (is_name e.lit.variable) _ n in
    let p : put e.lit e.coefficient A ≡ A ++ (e ∷ []) = put-new e.lit e.coefficient A (distinct_mid A e E d) in
    let a : (A ++ (e ∷ [])) ++ E ≡ A ++ (e ∷ E) = append_assoc A (e ∷ []) E in
    ap (λ (r : Res Entry). bind r (λ f. summands (entry_terms E) (put f.lit f.coefficient A))) (entry-back e x)
    ∙ ap (summands (entry_terms E)) p
    ∙ summands-back E (A ++ (e ∷ [])) (and_r (is_name e.lit.variable) _ n) (subst Distinct (sym a) d)
    ∙ ap ok a

count-terms : (E : List Entry) → count (entry_terms E) ≡ length E
unfolding count entry_terms
count-terms [] = refl
count-terms (e ∷ E) = ap suc (count-terms E)

-- the sum of distinct entries over names, at most 64, is read as these entries
sum_back : (E : List Entry) → T (all_names E) → Distinct E → length E ≤ max_literals → pb_sum (sum_term E) ≡ ok E
unfolding pb_sum sum_term entry_term entry_terms split_summation children_or arguments_of sum_or lone_constant as_constant ensure same_integer count
sum_back [] n d h = refl
sum_back (e ∷ []) n d h = summands-back (e ∷ []) [] n d
sum_back (e ∷ (f ∷ E)) n d h =
    ensure-yes (leb (count (entry_terms (e ∷ (f ∷ E)))) max_summands) 40 (sum_or (entry_terms (e ∷ (f ∷ E))) (lone_constant (entry_terms (e ∷ (f ∷ E)))))
    (le→leb (count (entry_terms (e ∷ (f ∷ E)))) max_summands (omega (arith, count-terms (e ∷ (f ∷ E)))))
    ∙ summands-back (e ∷ (f ∷ E)) [] n d

-- so is the inequality
pub inequality-back : (q : Inequality) → T (all_names q.sum) → Distinct q.sum → length q.sum ≤ max_literals → unwrap_inequality (inequality_term q) ≡ ok q
unfolding unwrap_inequality inequality_term binary arguments_of pair as_constant ensure bind or_bad
inequality-back q n d h = ap (λ (r : Res (List Entry)). bind r (λ E. ok (record { sum = E; const = q.const }))) (sum_back q.sum n d h)
