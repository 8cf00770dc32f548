-- Each rule over sums, and each link, is sound.
use mathlib.Core.Path.{◌≡◌, refl, sym, ap, ap₂, subst, ◌∙◌}
use mathlib.Core.Bool.{Bool, true, false, not, cond, ◌&&◌, ◌||◌, beq}
use mathlib.Core.List.{List, [], ◌∷◌}
use mathlib.Core.Logic.{◌⊎◌, inl, inr}
use Prim.Native.Nat.{ℕ, zero, suc}
use lib.Dec.{T}
use lib.IntN.{ℤ, pos, negsuc, ◌+ℤ◌, +ℤ_idr}
use lib.Signed.{le_z, ◌≤ℤ◌, le_z_yes, ≤ℤ_refl}
use Rattle.integer.specs.Integers.{div_up, min_z}
use Rattle.integer.proofs.Parts.{add_parts, int}
use Rattle.calculus.specs.Equality.{same_term}
use Rattle.calculus.specs.Links.{cp_part, cp_transfer, index, nth}
use Rattle.calculus.specs.Matching.{or_bad, as_constant, binary, is_name, neg_of, arguments_of}
use Rattle.calculus.specs.Rules.{add_check, both, by_check, coefficients_are, cp_addition, cp_division, cp_literal, cp_multiplication, cp_saturation, ge0, lit_plain, lit_plain_if, lit_prod, none, one, sat_check, single, times_z, zeros_face_zeros}
use Rattle.calculus.specs.Entries.{Entry, Inequality, Lit, entry}
use Rattle.calculus.specs.Sums.{Reduced, all, coefficients_by, get, has, lit_if, lit_of, add_sums, all_names, put, unwrap_inequality, reduce_sum, same_keys, same_lit, keys_in}
use Rattle.calculus.specs.Terms.{Term, Terms, add, app, conj, cons, eq, same_integer, ge, gt, le, lt, mul, nil, num, sub, var}
use Rattle.calculus.specs.Truth.{Assignment, Satisfies, all_b, are_arithmetic, are_statements, arithmetic_op, bit, is_arithmetic, is_statement, pair_of, statement_op, truth, truth_op, truths, two, val, vals}
use Rattle.calculus.specs.Words.{Res, bad, ensure, ok}
use Rattle.calculus.proofs.Booleans.{and_l, and_r, or-first, or_cases, yes-no, not_not}
use Rattle.theorems.proofs.Reading.{IneqRead, IsLit, as_constant-ok, binary-ok, bind_ok, ensure-ok, ge_sat, ineq_distinct, ineq-ok, lit-ok, lit_val, lit_val-opp, ok-bad, ok-inj, or_bad-ok, term-read, arguments_of-ok}
use Rattle.theorems.proofs.Reduction.{distinct_reduce, total-reduce}
use Rattle.theorems.proofs.SubAdditive.{Any, SubAdd, div_sub, min_sub, times-sub}
use Rattle.theorems.proofs.SumLaws.{scale, Distinct, Same, distinct-put, get-missing, same, same?, total, total_ext, total-put, recoef, get-recoef, distinct_recoef}
use Rattle.calculus.proofs.TermLaws.{same_integer-eq, same_integer-no, same_term-eq}

pub all-at : (p : Entry → Bool) (k : Lit) (E : List Entry) → T (all p E) → T (has k E) → T (p (entry k (get k E)))
unfolding all has get
all-at p k [] t h = absurd h
all-at p k (e ∷ E) t h = go (same_lit k e.lit) (same? k e.lit) h (all-at p k E (and_r (p e) _ t))
  where
    go : (c : Bool) → Same k e.lit c → T (cond c true (has k E)) → (T (has k E) → T (p (entry k (get k E)))) → T (p (entry k (cond c e.coefficient (get k E))))
    go true (same q) h ih = rw q (and_l (p e) _ t)
    go false s h ih = ih h

-- a nonzero key of A is one of B
sub_point : (A B : List Entry) (k : Lit) → T (keys_in A B) → T (not (has k B)) → get k A ≡ pos 0
unfolding keys_in
sub_point A B k t n = go (yes-no (has k A))
  where
    go : T (has k A) ⊎ T (not (has k A)) → get k A ≡ pos 0
    go (inl h) = same_integer-eq (get k A) (pos 0) (or-first (same_integer (get k A) (pos 0)) (has k B) (all-at (λ e. same_integer e.coefficient (pos 0) || has e.lit B) k A t h) n)
    go (inr h) = get-missing k A h

by_point : (f : ℤ → ℤ) → f (pos 0) ≡ pos 0 → (A C : List Entry) → T (same_keys A C) → T (coefficients_by f A C) → (k : Lit) → f (get k A) ≡ get k C
unfolding same_keys coefficients_by
by_point f z A C s t k = go (yes-no (has k A)) (yes-no (has k C))
  where
    u : T (keys_in A C)
    u = and_l (keys_in A C) _ s

    v : T (keys_in C A)
    v = and_r (keys_in A C) _ s

    go : T (has k A) ⊎ T (not (has k A)) → T (has k C) ⊎ T (not (has k C)) → f (get k A) ≡ get k C
    go (inl h) (inl i) = same_integer-eq (f (get k A)) (get k C) (or-second (not (has k C)) (same_integer (f (get k A)) (get k C)) (all-at (λ e. not (has e.lit C) || same_integer (f e.coefficient) (get e.lit C)) k A t h) (not_not (has k C) i))
      where
        or-second : (a b : Bool) → T (a || b) → T (not a) → T b
        or-second true b t n = absurd n
        or-second false b t n = t
    go (inr h) i = ap f (get-missing k A h) ∙ z ∙ sym (sub_point C A k v h)
    go (inl h) (inr i) = ap f (sub_point A C k u i) ∙ z ∙ sym (get-missing k C i)

add-point : (D C : List Entry) → T (same_keys D C) → T (coefficients_are D C) → T (zeros_face_zeros D C) → (k : Lit) → get k D ≡ get k C
unfolding same_keys coefficients_are zeros_face_zeros
add-point D C s t z k = go (yes-no (has k C))
  where
    u : T (keys_in D C)
    u = and_l (keys_in D C) _ s

    zero_case : T (same_integer (get k C) (pos 0)) → T (not (same_integer (get k C) (pos 0)) || same_integer (get k D) (pos 0)) → get k D ≡ get k C
    zero_case a b = same_integer-eq (get k D) (pos 0) (second (same_integer (get k C) (pos 0)) (same_integer (get k D) (pos 0)) a b) ∙ sym (same_integer-eq (get k C) (pos 0) a)
      where
        second : (a b : Bool) → T a → T (not a || b) → T b
        second true b x y = y
        second false b x y = absurd x

    go : T (has k C) ⊎ T (not (has k C)) → get k D ≡ get k C
    go (inl h) = pick (or_cases (same_integer (get k C) (pos 0)) (same_integer (get k D) (get k C)) (all-at (λ e. same_integer e.coefficient (pos 0) || same_integer (get e.lit D) e.coefficient) k C t h))
      where
        pick : T (same_integer (get k C) (pos 0)) ⊎ T (same_integer (get k D) (get k C)) → get k D ≡ get k C
        pick (inl a) = zero_case a (all-at (λ e. not (same_integer e.coefficient (pos 0)) || same_integer (get e.lit D) (pos 0)) k C z h)
        pick (inr b) = same_integer-eq (get k D) (get k C) b
    go (inr h) = sub_point D C k u h ∙ sym (get-missing k C h)

-- every coefficient of a sum through f
unfoldable pub mapc : (ℤ → ℤ) → List Entry → List Entry
mapc f E = recoef (λ e. f e.coefficient) E

get-mapc : (f : ℤ → ℤ) → f (pos 0) ≡ pos 0 → (k : Lit) (E : List Entry) → get k (mapc f E) ≡ f (get k E)
unfolding mapc
get-mapc f z k E = get-recoef (λ e. f e.coefficient) k E ∙ go (has k E) (get-missing k E)
  where
    go : (c : Bool) → (T (not c) → get k E ≡ pos 0) → cond c (f (get k E)) (pos 0) ≡ f (get k E)
    go true h = refl
    go false h = sym (ap f (h tt) ∙ z)

unfoldable pub AllQ : (ℤ → Type 0) → List Entry → Type 0
AllQ Q [] = Unit {0}
AllQ Q (e ∷ E) = Q e.coefficient × AllQ Q E

module _ (ν : Lit → Bool) (Q : ℤ → Type 0) (f : ℤ → ℤ) (S : SubAdd Q f) where
  q-scale : (b : Bool) (c : ℤ) → Q c → Q (scale b c)
  unfolding scale
  q-scale true c q = q
  q-scale false c q = S.q-zero

  f_scale : (b : Bool) (c : ℤ) → f (scale b c) ≡ scale b (f c)
  unfolding scale
  f_scale true c = refl
  f_scale false c = S.f_zero

  q-total : (E : List Entry) → AllQ Q E → Q (total ν E)
  unfolding AllQ total
  q-total [] q = S.q-zero
  q-total (e ∷ E) q = S.q_add _ _ (q-scale (ν e.lit) e.coefficient q.0) (q-total E q.1)

  pub sub-total : (E : List Entry) → AllQ Q E → f (total ν E) ≤ℤ total ν (mapc f E)
  unfolding AllQ total mapc recoef
  sub-total [] q = rw S.f_zero (≤ℤ_refl (pos 0))
  sub-total (e ∷ E) q =
      let x = scale (ν e.lit) e.coefficient in
      let y = total ν E in
      let u : f (x +ℤ y) ≤ℤ (f x +ℤ f y) = S.under x y (q-scale (ν e.lit) e.coefficient q.0) (q-total E q.1) in
      let g : f x ≡ scale (ν e.lit) (f e.coefficient) = f_scale (ν e.lit) e.coefficient in
      let ih : f y ≤ℤ total ν (mapc f E) = sub-total E q.1 in
      omega (int, add_parts (f x) (f y), add_parts (scale (ν e.lit) (f e.coefficient)) (total ν (mapc f E)))

  by_sound : (A C : List Entry) → Distinct A → Distinct C → AllQ Q A → T (same_keys A C) → T (coefficients_by f A C) → (K : ℤ) → K ≤ℤ total ν A → f K ≤ℤ total ν C
  unfolding mapc
  by_sound A C da dc q s t K h =
      let e : total ν (mapc f A) ≡ total ν C = total_ext ν (mapc f A) C (distinct_recoef (λ e. f e.coefficient) A da) dc (λ k. get-mapc f S.f_zero k A ∙ by_point f S.f_zero A C s t k) in
      let u : f K ≤ℤ f (total ν A) = S.mono K (total ν A) h in
      let v : f (total ν A) ≤ℤ total ν (mapc f A) = sub-total A q in
      omega int

unfoldable pub AllSat : Assignment → List (List Term) → Type 0
AllSat σ [] = Unit {0}
AllSat σ (c ∷ cs) = Satisfies σ c × AllSat σ cs

pub single-ok : (c : List Term) (t : Term) → single c ≡ ok t → c ≡ t ∷ []
unfolding single
single-ok [] t e = absurd (ok-bad e)
single-ok (u ∷ []) t e = ap (λ (x : Term). x ∷ []) (ok-inj e)
single-ok (u ∷ (v ∷ r)) t e = absurd (ok-bad e)

pub one_ok : {A : Type 0} (n : ℕ) (l : List A) (a : A) → one n l ≡ ok a → l ≡ a ∷ []
unfolding one
one_ok n [] a e = absurd (ok-bad e)
one_ok {A} n (u ∷ []) a e = ap (λ (x : A). x ∷ []) (ok-inj e)
one_ok n (u ∷ (v ∷ r)) a e = absurd (ok-bad e)

pub both_ok : (l : List (List Term)) (p : List Term × List Term) → both l ≡ ok p → l ≡ p.0 ∷ (p.1 ∷ [])
unfolding both
both_ok [] p e = absurd (ok-bad e)
both_ok (a ∷ []) p e = absurd (ok-bad e)
both_ok (a ∷ (b ∷ [])) p e = ap (λ (q : List Term × List Term). q.0 ∷ (q.1 ∷ [])) (ok-inj e)
both_ok (a ∷ (b ∷ (c ∷ r))) p e = absurd (ok-bad e)

sat-one : (σ : Assignment) (ps : List (List Term)) (p : List Term) (t : Term) → AllSat σ ps → ps ≡ p ∷ [] → p ≡ t ∷ [] → Satisfies σ (t ∷ [])
unfolding AllSat
sat-one σ ps p t s e f = subst (Satisfies σ) f (subst (AllSat σ) e s).0

sat-two : (σ : Assignment) (ps : List (List Term)) (p q : List Term) → AllSat σ ps → ps ≡ p ∷ (q ∷ []) → Satisfies σ p × Satisfies σ q
unfolding AllSat
sat-two σ ps p q s e = let w = subst (AllSat σ) e s in (w.0, w.1.0)

pub total-merge : (ν : Lit → Bool) (A B : List Entry) → total ν (add_sums A B) ≡ total ν A +ℤ total ν B
unfolding add_sums total
total-merge ν A [] = sym (+ℤ_idr (total ν A))
total-merge ν A (e ∷ B) =
    let x = scale (ν e.lit) e.coefficient in
    let a = total ν A in
    let b = total ν B in
    total-merge ν (put e.lit e.coefficient A) B ∙ rw total-put (omega (int, add_parts x a, add_parts (x +ℤ a) b, add_parts x b, add_parts a (x +ℤ b)))

pub distinct_merge : (A B : List Entry) → Distinct A → Distinct (add_sums A B)
unfolding add_sums
distinct_merge A [] d = d
distinct_merge A (e ∷ B) d = distinct_merge (put e.lit e.coefficient A) B (distinct-put e.lit e.coefficient A d)

add-arith : (σ : Assignment) (L R C : Inequality) → Distinct L.sum → Distinct C.sum → add_check L R C (reduce_sum (add_sums L.sum R.sum)) ≡ ok true →
    L.const ≤ℤ total (lit_val σ) L.sum → R.const ≤ℤ total (lit_val σ) R.sum → C.const ≤ℤ total (lit_val σ) C.sum
unfolding add_check
add-arith σ L R C dl dc e hl hr =
    let ν = lit_val σ in
    let D = reduce_sum (add_sums L.sum R.sum) in
    let (c₁, e₁) = ensure-ok _ 29 _ true e in
    let (c₂, e₂) = ensure-ok _ 30 _ true e₁ in
    let (c₃, e₃) = ensure-ok _ 31 _ true e₂ in
    let n : T ((all_names L.sum && all_names R.sum) && (all_names C.sum && zeros_face_zeros D.sum C.sum)) = subst T (sym (ok-inj e₃)) tt in
    let z : T (zeros_face_zeros D.sum C.sum) = and_r (all_names C.sum) _ (and_r (all_names L.sum && all_names R.sum) _ n) in
    let k : (L.const +ℤ R.const) ≡ (C.const +ℤ D.slack) = same_integer-eq _ _ c₁ in
    let t₁ : total ν D.sum ≡ total ν C.sum = total_ext ν D.sum C.sum (distinct_reduce _ (distinct_merge L.sum R.sum dl)) dc (add-point D.sum C.sum c₂ c₃ z) in
    let t₂ : total ν D.sum +ℤ D.slack ≡ total ν (add_sums L.sum R.sum) = total-reduce ν (lit_val-opp σ) (add_sums L.sum R.sum) (distinct_merge L.sum R.sum dl) in
    let t₃ : total ν (add_sums L.sum R.sum) ≡ total ν L.sum +ℤ total ν R.sum = total-merge ν L.sum R.sum in
    omega (int, add_parts L.const R.const, add_parts C.const D.slack, add_parts (total ν D.sum) D.slack, add_parts (total ν L.sum) (total ν R.sum))

add-names : (L R C : Inequality) (D : Reduced) → add_check L R C D ≡ ok true → T (all_names L.sum) × T (all_names R.sum) × T (all_names C.sum)
unfolding add_check
add-names L R C D e =
    let (c₁, e₁) = ensure-ok _ 29 _ true e in
    let (c₂, e₂) = ensure-ok _ 30 _ true e₁ in
    let (c₃, e₃) = ensure-ok _ 31 _ true e₂ in
    let n : T ((all_names L.sum && all_names R.sum) && (all_names C.sum && zeros_face_zeros D.sum C.sum)) = subst T (sym (ok-inj e₃)) tt in
    let m = and_l (all_names L.sum && all_names R.sum) _ n in
    (and_l (all_names L.sum) _ m, and_r (all_names L.sum) _ m, and_l (all_names C.sum) _ (and_r (all_names L.sum && all_names R.sum) _ n))

pub addition-sound : (σ : Assignment) (ps : List (List Term)) (xs c : List Term) → cp_addition ps xs c ≡ ok true → AllSat σ ps → Satisfies σ c
unfolding cp_addition
addition-sound σ ps xs c e s =
    let (p, h₁, e₁) = bind_ok (both ps) _ true e in
    let (l, h₂, e₂) = bind_ok (single p.0) _ true e₁ in
    let (r, h₃, e₃) = bind_ok (single p.1) _ true e₂ in
    let (h₄, e₄) = ensure-ok (none xs) 22 _ true e₃ in
    let (t, h₅, e₅) = bind_ok (single c) _ true e₄ in
    let (L, h₆, e₆) = bind_ok (unwrap_inequality l) _ true e₅ in
    let (R, h₇, e₇) = bind_ok (unwrap_inequality r) _ true e₆ in
    let (C, h₈, e₈) = bind_ok (unwrap_inequality t) _ true e₇ in
    let (nl, nr, nc) = add-names L R C _ e₈ in
    let (sl, sr) = sat-two σ ps p.0 p.1 s (both_ok ps p h₁) in
    let il : IneqRead σ l L = ineq-ok σ l L h₆ nl in
    let ir : IneqRead σ r R = ineq-ok σ r R h₇ nr in
    let ic : IneqRead σ t C = ineq-ok σ t C h₈ nc in
    subst (Satisfies σ) (sym (single-ok c t h₅))
    (ic.of_true (add-arith σ L R C (ineq_distinct l L h₆) (ineq_distinct t C h₈) e₈
    (il.true_of (subst (Satisfies σ) (single-ok p.0 l h₂) sl)) (ir.true_of (subst (Satisfies σ) (single-ok p.1 r h₃) sr))))

by_names : (f : ℤ → ℤ) (A C : Inequality) → by_check f A C ≡ ok true → T (all_names A.sum) × T (all_names C.sum)
unfolding by_check
by_names f A C e =
    let (c₁, e₁) = ensure-ok _ 29 _ true e in
    let (c₂, e₂) = ensure-ok _ 30 _ true e₁ in
    let (c₃, e₃) = ensure-ok _ 31 _ true e₂ in
    let n : T (all_names A.sum && all_names C.sum) = subst T (sym (ok-inj e₃)) tt in
    (and_l (all_names A.sum) _ n, and_r (all_names A.sum) _ n)

pub any-all : (E : List Entry) → AllQ Any E
unfolding AllQ
any-all [] = tt
any-all (e ∷ E) = (tt, any-all E)

by_arith : (σ : Assignment) (f : ℤ → ℤ) (S : SubAdd Any f) (A C : Inequality) → Distinct A.sum → Distinct C.sum → by_check f A C ≡ ok true →
    A.const ≤ℤ total (lit_val σ) A.sum → C.const ≤ℤ total (lit_val σ) C.sum
unfolding by_check
by_arith σ f S A C da dc e h =
    let (c₁, e₁) = ensure-ok _ 29 _ true e in
    let (c₂, e₂) = ensure-ok _ 30 _ true e₁ in
    let (c₃, e₃) = ensure-ok _ 31 _ true e₂ in
    rw (same_integer-eq (f A.const) C.const c₁) at (by_sound (lit_val σ) Any f S A.sum C.sum da dc (any-all A.sum) c₂ c₃ A.const h)

by-step : (σ : Assignment) (f : ℤ → ℤ) (S : SubAdd Any f) (a t : Term) (A C : Inequality) → unwrap_inequality a ≡ ok A → unwrap_inequality t ≡ ok C → by_check f A C ≡ ok true → Satisfies σ (a ∷ []) → Satisfies σ (t ∷ [])
by-step σ f S a t A C ha ht e s =
    let (na, nc) = by_names f A C e in
    (ineq-ok σ t C ht nc).of_true (by_arith σ f S A C (ineq_distinct a A ha) (ineq_distinct t C ht) e ((ineq-ok σ a A ha na).true_of s))

pub times-any : (m : ℤ) → T (le_z (pos 0) m) → SubAdd Any (times_z m)
times-any (pos n) t = times-sub n
times-any (negsuc n) t = absurd t

pub div_any : (d : ℤ) → T (le_z (pos 0) d) → T (not (same_integer d (pos 0))) → SubAdd Any (div_up d)
div_any (pos zero) t n = absurd (same_integer-no (pos 0) (pos 0) n refl)
div_any (pos (suc d)) t n = div_sub d
div_any (negsuc d) t n = absurd t

pub multiplication_sound : (σ : Assignment) (ps : List (List Term)) (xs c : List Term) → cp_multiplication ps xs c ≡ ok true → AllSat σ ps → Satisfies σ c
unfolding cp_multiplication
multiplication_sound σ ps xs c e s =
    let (p, h₁, e₁) = bind_ok (one 20 ps) _ true e in
    let (a, h₂, e₂) = bind_ok (single p) _ true e₁ in
    let (x, h₃, e₃) = bind_ok (one 22 xs) _ true e₂ in
    let (m, h₄, e₄) = bind_ok (or_bad 24 (as_constant x)) _ true e₃ in
    let (h₅, e₅) = ensure-ok (le_z (pos 0) m) 27 _ true e₄ in
    let (t, h₆, e₆) = bind_ok (single c) _ true e₅ in
    let (A, h₇, e₇) = bind_ok (unwrap_inequality a) _ true e₆ in
    let (C, h₈, e₈) = bind_ok (unwrap_inequality t) _ true e₇ in
    subst (Satisfies σ) (sym (single-ok c t h₆))
    (by-step σ (times_z m) (times-any m h₅) a t A C h₇ h₈ e₈ (sat-one σ ps p a s (one_ok 20 ps p h₁) (single-ok p a h₂)))

pub division_sound : (σ : Assignment) (ps : List (List Term)) (xs c : List Term) → cp_division ps xs c ≡ ok true → AllSat σ ps → Satisfies σ c
unfolding cp_division
division_sound σ ps xs c e s =
    let (p, h₁, e₁) = bind_ok (one 20 ps) _ true e in
    let (a, h₂, e₂) = bind_ok (single p) _ true e₁ in
    let (x, h₃, e₃) = bind_ok (one 22 xs) _ true e₂ in
    let (d, h₄, e₄) = bind_ok (or_bad 24 (as_constant x)) _ true e₃ in
    let (h₅, e₅) = ensure-ok (le_z (pos 0) d) 27 _ true e₄ in
    let (n₅, f₅) = ensure-ok (not (same_integer d (pos 0))) 28 _ true e₅ in
    let (t, h₆, e₆) = bind_ok (single c) _ true f₅ in
    let (A, h₇, e₇) = bind_ok (unwrap_inequality a) _ true e₆ in
    let (C, h₈, e₈) = bind_ok (unwrap_inequality t) _ true e₇ in
    subst (Satisfies σ) (sym (single-ok c t h₆))
    (by-step σ (div_up d) (div_any d h₅ n₅) a t A C h₇ h₈ e₈ (sat-one σ ps p a s (one_ok 20 ps p h₁) (single-ok p a h₂)))

pub nonneg-all : (E : List Entry) → T (all (λ e. le_z (pos 0) e.coefficient) E) → AllQ (λ z. pos 0 ≤ℤ z) E
unfolding all AllQ
nonneg-all [] t = tt
nonneg-all (e ∷ E) t = (le_z_yes (and_l (le_z (pos 0) e.coefficient) _ t), nonneg-all E (and_r (le_z (pos 0) e.coefficient) _ t))

min_self : (x : ℤ) → min_z x x ≡ x
unfolding min_z
min_self x = go (le_z x x)
  where
    go : (c : Bool) → cond c x x ≡ x
    go true = refl
    go false = refl

sat-step : (σ : Assignment) (a t : Term) (A C : Inequality) → unwrap_inequality a ≡ ok A → unwrap_inequality t ≡ ok C → sat_check A C ≡ ok true → Satisfies σ (a ∷ []) → Satisfies σ (t ∷ [])
unfolding sat_check
sat-step σ a t A C ha ht e s =
    let (c₀, e₀) = ensure-ok _ 32 _ true e in
    let (c₉, e₉) = ensure-ok _ 32 _ true e₀ in
    let (c₁, e₁) = ensure-ok _ 29 _ true e₉ in
    let (c₂, e₂) = ensure-ok _ 30 _ true e₁ in
    let (c₃, e₃) = ensure-ok _ 31 _ true e₂ in
    let n : T (all_names A.sum && all_names C.sum) = subst T (sym (ok-inj e₃)) tt in
    let na = and_l (all_names A.sum) _ n in
    let nc = and_r (all_names A.sum) _ n in
    let K = A.const in
    let h : K ≤ℤ total (lit_val σ) A.sum = (ineq-ok σ a A ha na).true_of s in
    let r : min_z K K ≤ℤ total (lit_val σ) C.sum = by_sound (lit_val σ) (λ z. pos 0 ≤ℤ z) (min_z K) (min_sub K (le_z_yes c₀)) A.sum C.sum (ineq_distinct a A ha) (ineq_distinct t C ht) (nonneg-all A.sum c₉) c₂ c₃ K h in
    (ineq-ok σ t C ht nc).of_true (subst (λ (z : ℤ). z ≤ℤ total (lit_val σ) C.sum) (min_self K ∙ same_integer-eq K C.const c₁) r)

pub saturation_sound : (σ : Assignment) (ps : List (List Term)) (xs c : List Term) → cp_saturation ps xs c ≡ ok true → AllSat σ ps → Satisfies σ c
unfolding cp_saturation
saturation_sound σ ps xs c e s =
    let (p, h₁, e₁) = bind_ok (one 20 ps) _ true e in
    let (h₃, e₃) = ensure-ok (none xs) 22 _ true e₁ in
    let (a, h₂, e₂) = bind_ok (single p) _ true e₃ in
    let (t, h₆, e₆) = bind_ok (single c) _ true e₂ in
    let (A, h₇, e₇) = bind_ok (unwrap_inequality a) _ true e₆ in
    let (C, h₈, e₈) = bind_ok (unwrap_inequality t) _ true e₇ in
    subst (Satisfies σ) (sym (single-ok c t h₆))
    (sat-step σ a t A C h₇ h₈ e₈ (sat-one σ ps p a s (one_ok 20 ps p h₁) (single-ok p a h₂)))

lit-nonneg : (b : Bool) → pos 0 ≤ℤ bit b
lit-nonneg true = le_z_yes tt
lit-nonneg false = le_z_yes tt

-- the argument is a literal over a name
arg-lit : (σ : Assignment) (a : Term) → T (is_name (lit_plain a)) → IsLit σ a
unfolding lit_plain lit_if lit_plain_if lit_of
arg-lit σ a t = lit-ok σ a (go (neg_of a) t)
  where
    go : (r : Res Term) → T (is_name (lit_plain_if r a)) → T (is_name (lit_if a r).variable)
    go (ok v) t = t
    go (bad n) t = t

ge0-ok : (t s : Term) → ge0 t ≡ ok s → t ≡ app ge (cons s (cons (num (pos 0)) nil))
unfolding ge0
ge0-ok t s e =
    let (p, h, k) = bind_ok (binary ge t) _ s e in
    let (z, h₂, k₂) = bind_ok (as_constant p.1) _ s k in
    let (h₃, k₃) = ensure-ok (same_integer z (pos 0)) 0 (ok p.0) s k₂ in
    binary-ok ge t p h ∙ ap₂ (λ (x y : Term). app ge (cons x (cons y nil))) (ok-inj k₃) (as_constant-ok p.1 z h₂ ∙ ap num (same_integer-eq z (pos 0) h₃))

one-scale : (b : Bool) → pos 0 ≤ℤ scale b (pos 1)
unfolding scale
one-scale true = le_z_yes tt
one-scale false = le_z_yes tt

lit-sum : (σ : Assignment) (a s : Term) → T (is_name (lit_plain a)) → (r : Res (Term × Term)) → binary mul s ≡ r → lit_prod a r (ensure (same_term s a) 35 (ok true)) ≡ ok true → T (is_arithmetic s) × (pos 0 ≤ℤ val σ s)
unfolding lit_prod
lit-sum σ a s n (ok p) q e =
    let (c, h₁, e₁) = bind_ok (or_bad 24 (as_constant p.0)) _ true e in
    let (h₂, e₂) = ensure-ok (same_integer c (pos 1)) 34 _ true e₁ in
    let (h₃, e₃) = ensure-ok (same_term p.1 a) 35 _ true e₂ in
    let d : s ≡ app mul (cons (num (pos 1)) (cons a nil)) = binary-ok mul s p q ∙ ap₂ (λ (x y : Term). app mul (cons x (cons y nil))) (as_constant-ok p.0 c (or_bad-ok 24 (as_constant p.0) c h₁) ∙ ap num (same_integer-eq c (pos 1) h₂)) (same_term-eq p.1 a h₃) in
    let l : IsLit σ a = arg-lit σ a n in
    let r = term-read σ (pos 1) a l in
    (subst (λ (x : Term). T (is_arithmetic x)) (sym d) r.arith, subst (λ (x : Term). pos 0 ≤ℤ val σ x) (sym d) (rw r.value (one-scale (lit_val σ (lit_of a)))))
lit-sum σ a s n (bad m) q e =
    let (h₃, e₃) = ensure-ok (same_term s a) 35 _ true e in
    let d : s ≡ a = same_term-eq s a h₃ in
    let l : IsLit σ a = arg-lit σ a n in
    (subst (λ (x : Term). T (is_arithmetic x)) (sym d) l.arith, subst (λ (x : Term). pos 0 ≤ℤ val σ x) (sym d) (rw l.value (lit-nonneg (lit_val σ (lit_of a)))))

pub literal_sound : (σ : Assignment) (ps : List (List Term)) (xs c : List Term) → cp_literal ps xs c ≡ ok true → AllSat σ ps → Satisfies σ c
unfolding cp_literal
literal_sound σ ps xs c e s =
    let (t, h₁, e₁) = bind_ok (single c) _ true e in
    let (a, h₂, e₂) = bind_ok (one 22 xs) _ true e₁ in
    let (n, e₃) = ensure-ok (is_name (lit_plain a)) 33 _ true e₂ in
    let (u, h₄, e₄) = bind_ok (or_bad 36 (ge0 t)) _ true e₃ in
    let (k, v) = lit-sum σ a u n (binary mul u) refl e₄ in
    subst (Satisfies σ) (sym (single-ok c t h₁)) (subst (λ (x : Term). Satisfies σ (x ∷ [])) (sym (ge0-ok t u (or_bad-ok 36 (ge0 t) u h₄))) (ge_sat σ u (pos 0) (val σ u) k refl v))

pub arith_not_stmt : (t : Term) → T (is_arithmetic t) → T (is_statement t) → ⊥
unfolding is_arithmetic is_statement arithmetic_op statement_op
arith_not_stmt (num z) a s = s
arith_not_stmt (var x) a s = s
arith_not_stmt (app add ts) a s = s
arith_not_stmt (app sub ts) a s = s
arith_not_stmt (app mul ts) a s = s
arith_not_stmt (app ge ts) a s = a
arith_not_stmt (app gt ts) a s = a
arith_not_stmt (app le ts) a s = a
arith_not_stmt (app lt ts) a s = a
arith_not_stmt (app eq ts) a s = a
arith_not_stmt (app conj ts) a s = a

-- an equation whose left side is a true statement
eq_true : (σ : Assignment) (r n : Term) → Satisfies σ (r ∷ []) → Satisfies σ (app eq (cons r (cons n nil)) ∷ []) → Satisfies σ (n ∷ [])
unfolding Satisfies is_statement are_statements statement_op two truth truths truth_op pair_of are_arithmetic
eq_true σ r n s e = go (is_arithmetic r) (is_arithmetic n) (is_statement r) (is_statement n) (truth σ r) (truth σ n) (arith_not_stmt r) s.0 s.1 e.0 e.1
  where
    go : (a b u v x y : Bool) → (T a → T u → ⊥) → T u → T x → T ((a && (b && true)) || (u && (v && true))) → T (cond (a && (b && true)) (pair_of same_integer (vals σ (cons r (cons n nil)))) (beq x y)) → T v × T y
    go true b u v x y f hu hx p q = absurd (f tt hu)
    go false b true true true true f hu hx p q = (tt, tt)
    go false b true true true false f hu hx p q = absurd q
    go false b true true false y f hu hx p q = absurd hx
    go false b true false x y f hu hx p q = absurd p
    go false b false v x y f hu hx p q = absurd hu

pub transfer_sound : (σ : Assignment) (ps : List (List Term)) (xs c : List Term) → cp_transfer ps xs c ≡ ok true → AllSat σ ps → Satisfies σ c
unfolding cp_transfer
transfer_sound σ ps xs c e s =
    let (p, h₁, e₁) = bind_ok (both ps) _ true e in
    let (r, h₂, e₂) = bind_ok (single p.0) _ true e₁ in
    let (w, h₃, e₃) = bind_ok (single p.1) _ true e₂ in
    let (h₄, e₄) = ensure-ok (none xs) 22 _ true e₃ in
    let (n, h₅, e₅) = bind_ok (single c) _ true e₄ in
    let (q, h₆, e₆) = bind_ok (or_bad 41 (binary eq w)) _ true e₅ in
    let (h₇, e₇) = ensure-ok (same_term r q.0) 41 _ true e₆ in
    let (h₈, e₈) = ensure-ok (same_term n q.1) 41 _ true e₇ in
    let (sr, sw) = sat-two σ ps p.0 p.1 s (both_ok ps p h₁) in
    let sr' : Satisfies σ (q.0 ∷ []) = subst (Satisfies σ) (single-ok p.0 r h₂ ∙ ap (λ (x : Term). x ∷ []) (same_term-eq r q.0 h₇)) sr in
    let sw' : Satisfies σ (app eq (cons q.0 (cons q.1 nil)) ∷ []) = subst (Satisfies σ) (single-ok p.1 w h₃ ∙ ap (λ (x : Term). x ∷ []) (binary-ok eq w q (or_bad-ok 41 (binary eq w) q h₆))) sw in
    subst (Satisfies σ) (sym (single-ok c n h₅ ∙ ap (λ (x : Term). x ∷ []) (same_term-eq n q.1 h₈))) (eq_true σ q.0 q.1 sr' sw')

nth-sat : (σ : Assignment) (ts : Terms) (i : ℕ) (u : Term) → nth ts i ≡ ok u → T (are_statements ts) → T (all_b (truths σ ts)) → Satisfies σ (u ∷ [])
unfolding nth are_statements truths all_b Satisfies
nth-sat σ nil i u e a b = absurd (ok-bad e)
nth-sat σ (cons t ts) zero u e a b = rw (← ok-inj e) (and_l (is_statement t) _ a, and_l (truth σ t) _ b)
nth-sat σ (cons t ts) (suc i) u e a b = nth-sat σ ts i u e (and_r (is_statement t) _ a) (and_r (truth σ t) _ b)

conj_sat : (σ : Assignment) (ts : Terms) → Satisfies σ (app conj ts ∷ []) → T (are_statements ts) × T (all_b (truths σ ts))
unfolding Satisfies is_statement statement_op truth truth_op
conj_sat σ ts s = s

pub part_sound : (σ : Assignment) (ps : List (List Term)) (xs c : List Term) → cp_part ps xs c ≡ ok true → AllSat σ ps → Satisfies σ c
unfolding cp_part
part_sound σ ps xs c e s =
    let (p, h₁, e₁) = bind_ok (one 20 ps) _ true e in
    let (a, h₂, e₂) = bind_ok (single p) _ true e₁ in
    let (x, h₃, e₃) = bind_ok (one 22 xs) _ true e₂ in
    let (n, h₄, e₄) = bind_ok (single c) _ true e₃ in
    let (ts, h₅, e₅) = bind_ok (or_bad 41 (arguments_of conj a)) _ true e₄ in
    let (z, h₆, e₆) = bind_ok (or_bad 41 (as_constant x)) _ true e₅ in
    let (i, h₇, e₇) = bind_ok (index z) _ true e₆ in
    let (u, h₈, e₈) = bind_ok (nth ts i) _ true e₇ in
    let (h₉, e₉) = ensure-ok (same_term n u) 41 _ true e₈ in
    let sa : Satisfies σ (app conj ts ∷ []) = subst (λ (y : Term). Satisfies σ (y ∷ [])) (arguments_of-ok conj a ts (or_bad-ok 41 (arguments_of conj a) ts h₅)) (sat-one σ ps p a s (one_ok 20 ps p h₁) (single-ok p a h₂)) in
    let (v, w) = conj_sat σ ts sa in
    subst (Satisfies σ) (sym (single-ok c n h₄ ∙ ap (λ (y : Term). y ∷ []) (same_term-eq n u h₉))) (nth-sat σ ts i u h₈ v w)
