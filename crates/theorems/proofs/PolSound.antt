-- Pol lines are sound: each word keeps what stands on the stack implied, and so the clause that a line leaves is implied too.
use mathlib.Core.Path.{◌≡◌, refl, sym, ap, subst, ◌∙◌}
use mathlib.Core.Bool.{Bool, true, false, not, cond}
use mathlib.Core.List.{List, [], ◌∷◌}
use Prim.Native.Nat.{ℕ, ◌≤◌}
use native.Mathlib.Omega.{arith}
use lib.Dec.{T, leb, leb→le, ltb}
use lib.IntN.{ℤ, pos, ◌+ℤ◌, ◌-ℤ◌, ◌*ℤ◌}
use lib.ListN.{length}
use lib.Signed.{le_z, ◌≤ℤ◌, le_z_yes}
use Rattle.integer.specs.Integers.{div_up, min_z}
use Rattle.integer.proofs.Laws.{≤_trans}
use Rattle.integer.proofs.Parts.{int, link, ‹◌›, ◌⊕◌, ◌⊖◌}
use Rattle.calculus.specs.Marks.{plain_of}
use Rattle.calculus.specs.Matching.{is_name, or_bad}
use Rattle.calculus.specs.Pol.{max_literals, max_stack, line_inequality, axiom_of, less_slack, added, each_by, mapped, multiplied, divided, saturated, fits_entry, stacked, push, on_top, on_two, pol_step, pol_steps, last_entry, pol_result, finished, given_clause, given_answer, pushed_ids}
use Rattle.calculus.specs.Entries.{inequality_term, Entry, Inequality, Lit, entry}
use Rattle.calculus.specs.Rules.{times_z}
use Rattle.calculus.specs.Sums.{add_sums, all, all_names, has, put, reduce_by, reduce_sum, same_lit, unwrap_inequality}
use Rattle.calculus.specs.Terms.{Term, PolWord, line_word, plain_word, negated_word, plus-word, saturate-word, times-word, over_word, same_integer, var}
use Rattle.calculus.specs.Truth.{Assignment, Satisfies}
use Rattle.calculus.specs.Words.{Res, bad, bind, ensure, ok}
use Rattle.calculus.proofs.Booleans.{and_l, and_r, and_mk}
use Rattle.theorems.proofs.Decimal.{ensure-yes}
use Rattle.theorems.proofs.PolLaws.{distinct-finished, inequality-back, length-finished, names-finished, total-finished}
use Rattle.theorems.proofs.Reading.{bind_ok, ensure-ok, ineq_distinct, ineq-ok, lit_val, lit_val-opp, ok-bad, ok-inj, or_bad-ok}
use Rattle.theorems.proofs.Reduction.{distinct_reduce, total-reduce}
use Rattle.theorems.proofs.RulesSound.{AllQ, any-all, distinct_merge, div_any, mapc, nonneg-all, sub-total, times-any, total-merge}
use Rattle.theorems.proofs.SubAdditive.{Any, SubAdd, min_sub}
use Rattle.theorems.proofs.SumLaws.{Distinct, distinct_recoef, recoef, scale, total}

-- ---- the shape of entries, whatever they are worth
pub record Shaped (q : Inequality) : Type 0 where
  pub names : T (all_names q.sum)
  pub distinct : Distinct q.sum

names-put : (k : Lit) (a : ℤ) (E : List Entry) → T (is_name k.variable) → T (all_names E) → T (all_names (put k a E))
unfolding all_names all put
names-put k a [] x n = and_mk (is_name k.variable) true x tt
names-put k a (e ∷ E) x n = go (same_lit k e.lit) (names-put k a E x (and_r (is_name e.lit.variable) _ n))
  where
    go : (c : Bool) → T (all_names (put k a E)) → T (all_names (cond c (entry e.lit (e.coefficient +ℤ a) ∷ E) (e ∷ put k a E)))
    go true ih = n
    go false ih = and_mk (is_name e.lit.variable) _ (and_l (is_name e.lit.variable) _ n) ih

names-added : (A B : List Entry) → T (all_names A) → T (all_names B) → T (all_names (add_sums A B))
unfolding add_sums all_names all
names-added A [] n m = n
names-added A (e ∷ B) n m = names-added (put e.lit e.coefficient A) B (names-put e.lit e.coefficient A (and_l (is_name e.lit.variable) _ m) n) (and_r (is_name e.lit.variable) _ m)

names-reduced : (E F : List Entry) → T (all_names F) → T (all_names (reduce_by E F))
unfolding reduce_by all_names all
names-reduced E [] n = tt
names-reduced E (e ∷ F) n = and_mk (is_name e.lit.variable) _ (and_l (is_name e.lit.variable) _ n) (names-reduced E F (and_r (is_name e.lit.variable) _ n))

each-mapc : (f : ℤ → ℤ) (E : List Entry) → each_by f E ≡ mapc f E
unfolding each_by mapc recoef
each-mapc f [] = refl
each-mapc f (e ∷ E) = ap (λ (F : List Entry). entry e.lit (f e.coefficient) ∷ F) (each-mapc f E)

names-each : (f : ℤ → ℤ) (E : List Entry) → T (all_names E) → T (all_names (each_by f E))
unfolding each_by all_names all
names-each f [] n = tt
names-each f (e ∷ E) n = and_mk (is_name e.lit.variable) _ (and_l (is_name e.lit.variable) _ n) (names-each f E (and_r (is_name e.lit.variable) _ n))

line_shaped : (c : List Term) (q : Inequality) → line_inequality c ≡ ok q → (t : Term) × (c ≡ t ∷ []) × (unwrap_inequality t ≡ ok q) × Shaped q
unfolding line_inequality
line_shaped [] q e = absurd (ok-bad e)
line_shaped (t ∷ []) q e =
    let (p, h, e₁) = bind_ok (or_bad 54 (unwrap_inequality t)) _ q e in
    let (n, e₂) = ensure-ok (all_names p.sum) 54 (ok p) q e₁ in
    let r : p ≡ q = ok-inj e₂ in
    let u : unwrap_inequality t ≡ ok p = or_bad-ok 54 (unwrap_inequality t) p h in
    (t, refl, u ∙ ap ok r, record { names = subst (λ (z : Inequality). T (all_names z.sum)) r n; distinct = subst (λ (z : Inequality). Distinct z.sum) r (ineq_distinct t p u) })
line_shaped (t ∷ (u ∷ c)) q e = absurd (ok-bad e)

axiom_shaped : (x : List ℕ) (b : Bool) → Shaped (axiom_of x b)
unfolding axiom_of all_names all is_name
axiom_shaped x b = record { names = tt; distinct = unfold Distinct has in (tt, tt) }

added-shaped : (L R : Inequality) → Shaped L → Shaped R → Shaped (added L R)
unfolding added less_slack
added-shaped L R l r = record {
  names = unfold reduce_sum in names-reduced _ _ (names-added L.sum R.sum l.names r.names);
  distinct = distinct_reduce _ (distinct_merge L.sum R.sum l.distinct);
}

mapped-shaped : (f : ℤ → ℤ) (q : Inequality) → Shaped q → Shaped (mapped f q)
unfolding mapped mapc
mapped-shaped f q h = record { names = names-each f q.sum h.names; distinct = subst Distinct (sym (each-mapc f q.sum)) (distinct_recoef (λ e. f e.coefficient) q.sum h.distinct) }

-- ---- what an entry says under an assignment
pub record Good (σ : Assignment) (q : Inequality) : Type 0 where
  pub shaped : Shaped q
  pub implied : q.const ≤ℤ total (lit_val σ) q.sum

line-good : (σ : Assignment) (c : List Term) (q : Inequality) → line_inequality c ≡ ok q → Satisfies σ c → Good σ q
line-good σ c q e s =
    let (t, h, u, w) = line_shaped c q e in
    record { shaped = w; implied = (ineq-ok σ t q u w.names).true_of (subst (Satisfies σ) h s) }

axiom-good : (σ : Assignment) (x : List ℕ) (b : Bool) → Good σ (axiom_of x b)
axiom-good σ x b = record { shaped = axiom_shaped x b; implied = unfold axiom_of total in go (lit_val σ (record { variable = var x; negated = b })) }
  where
    go : (c : Bool) → pos 0 ≤ℤ (scale c (pos 1) +ℤ pos 0)
    go true = unfold scale in le_z_yes tt
    go false = unfold scale in le_z_yes tt

added-good : (σ : Assignment) (L R : Inequality) → Good σ L → Good σ R → Good σ (added L R)
added-good σ L R l r = record { shaped = added-shaped L R l.shaped r.shaped; implied = unfold added less_slack in arithmetic }
  where
    arithmetic : ((L.const +ℤ R.const) -ℤ (reduce_sum (add_sums L.sum R.sum)).slack) ≤ℤ total (lit_val σ) (reduce_sum (add_sums L.sum R.sum)).sum
    arithmetic =
        let ν = lit_val σ in
        let E = add_sums L.sum R.sum in
        let s = (reduce_sum E).slack in
        let t = total ν (reduce_sum E).sum in
        let a : t +ℤ s ≡ total ν E = total-reduce ν (lit_val-opp σ) E (distinct_merge L.sum R.sum l.shaped.distinct) in
        let b : total ν E ≡ total ν L.sum +ℤ total ν R.sum = total-merge ν L.sum R.sum in
        let h : L.const ≤ℤ total ν L.sum = l.implied in
        let k : R.const ≤ℤ total ν R.sum = r.implied in
        omega (int, link (‹ L.const › ⊕ ‹ R.const › ⊖ ‹ s ›), link (‹ t › ⊕ ‹ s ›), link (‹ total ν L.sum › ⊕ ‹ total ν R.sum ›))

-- f is subadditive and monotone on the coefficients
mapped-good : (σ : Assignment) (Q : ℤ → Type 0) (f : ℤ → ℤ) → SubAdd Q f → (q : Inequality) → AllQ Q q.sum → Good σ q → Good σ (mapped f q)
mapped-good σ Q f S q c g = record {
  shaped = mapped-shaped f q g.shaped;
  implied = unfold mapped in ≤_trans (S.mono q.const (total (lit_val σ) q.sum) g.implied) (subst (λ (E : List Entry). f (total (lit_val σ) q.sum) ≤ℤ total (lit_val σ) E) (sym (each-mapc f q.sum)) (sub-total (lit_val σ) Q f S q.sum c));
}

multiplied-good : (σ : Assignment) (m : ℤ) (q r : Inequality) → multiplied m q ≡ ok r → Good σ q → Good σ r
unfolding multiplied times_z
multiplied-good σ m q r e g =
    let (h, e₁) = ensure-ok (le_z (pos 0) m) 54 _ r e in
    subst (Good σ) (ok-inj e₁) (mapped-good σ Any (times_z m) (times-any m h) q (any-all q.sum) g)

divided-good : (σ : Assignment) (d : ℤ) (q r : Inequality) → divided d q ≡ ok r → Good σ q → Good σ r
unfolding divided
divided-good σ d q r e g =
    let (h, e₁) = ensure-ok (le_z (pos 0) d) 54 _ r e in
    let (n, e₂) = ensure-ok (not (same_integer d (pos 0))) 54 _ r e₁ in
    subst (Good σ) (ok-inj e₂) (mapped-good σ Any (div_up d) (div_any d h n) q (any-all q.sum) g)

saturated-good : (σ : Assignment) (q r : Inequality) → saturated q ≡ ok r → Good σ q → Good σ r
unfolding saturated
saturated-good σ q r e g =
    let (h, e₁) = ensure-ok (le_z (pos 0) q.const) 54 _ r e in
    let (n, e₂) = ensure-ok (all (λ e. le_z (pos 0) e.coefficient) q.sum) 54 _ r e₁ in
    subst (Good σ) (ok-inj e₂) (mapped-good σ (λ z. pos 0 ≤ℤ z) (min_z q.const) (min_sub q.const (le_z_yes h)) q (nonneg-all q.sum n) g)

-- ---- the stack
unfoldable pub Stack : (Inequality → Type 0) → List Inequality → Type 0
Stack P [] = Unit {0}
Stack P (q ∷ S) = (P q × T (fits_entry q)) × Stack P S

-- what each kind of entry keeps
pub record Keeps (P : Inequality → Type 0) : Type 0 where
  pub of_axiom : (x : List ℕ) (b : Bool) → P (axiom_of x b)
  pub of-sum : (l r : Inequality) → P l → P r → P (added l r)
  pub of-times : (m : ℤ) (q r : Inequality) → multiplied m q ≡ ok r → P q → P r
  pub of_over : (d : ℤ) (q r : Inequality) → divided d q ≡ ok r → P q → P r
  pub of_saturation : (q r : Inequality) → saturated q ≡ ok r → P q → P r

module _ (P : Inequality → Type 0) (K : Keeps P) (at : List ℕ → List Term) where
  stacked-keeps : (S : List Inequality) (q : Inequality) (R : List Inequality) → stacked S q ≡ ok R → P q → Stack P S → Stack P R
  unfolding stacked Stack
  stacked-keeps S q R e p s = let (h, e₁) = ensure-ok (fits_entry q) 53 (ok (q ∷ S)) R e in subst (Stack P) (ok-inj e₁) ((p, h), s)

  push-keeps : (S : List Inequality) (r : Res Inequality) (R : List Inequality) → push S r ≡ ok R → ((q : Inequality) → r ≡ ok q → P q) → Stack P S → Stack P R
  unfolding push
  push-keeps S r R e p s =
      let (h, e₁) = ensure-ok (ltb (length S) max_stack) 52 _ R e in
      let (q, h₂, e₂) = bind_ok r (stacked S) R e₁ in
      stacked-keeps S q R e₂ (p q h₂) s

  top_keeps : (f : Inequality → Res Inequality) → ((q r : Inequality) → f q ≡ ok r → P q → P r) → (S R : List Inequality) → on_top f S ≡ ok R → Stack P S → Stack P R
  unfolding on_top Stack
  top_keeps f k [] R e s = absurd (ok-bad e)
  top_keeps f k (q ∷ S) R e s = let (r, h, e₁) = bind_ok (f q) (stacked S) R e in stacked-keeps S r R e₁ (k q r h s.0.0) s.1

  two-keeps : (S R : List Inequality) → on_two S ≡ ok R → Stack P S → Stack P R
  unfolding on_two Stack
  two-keeps [] R e s = absurd (ok-bad e)
  two-keeps (r ∷ []) R e s = absurd (ok-bad e)
  two-keeps (r ∷ (l ∷ S)) R e s = stacked-keeps S (added l r) R e (K.of-sum l r s.1.0.0 s.0.0) s.1.1

  axiom-ok : (x : List ℕ) (b : Bool) (q : Inequality) → ok (axiom_of x b) ≡ ok q → P q
  axiom-ok x b q e = subst P (ok-inj e) (K.of_axiom x b)

  -- the ids that the words push are of the kind too
  unfoldable pub Lines : List (List ℕ) → Type 0
  Lines [] = Unit {0}
  Lines (d ∷ ds) = ((q : Inequality) → line_inequality (at d) ≡ ok q → P q) × Lines ds

  -- each word keeps the stack
  pub steps-keep : (ws : List PolWord) (S R : List Inequality) → pol_steps at ws S ≡ ok R → Lines (pushed_ids ws) → Stack P S → Stack P R
  unfolding pol_steps pol_step pushed_ids Lines
  steps-keep [] S R e l s = subst (Stack P) (ok-inj e) s
  steps-keep (line_word d ∷ ws) S R e l s = let (M, h, e₁) = bind_ok (push S (line_inequality (at d))) (pol_steps at ws) R e in steps-keep ws M R e₁ l.1 (push-keeps S (line_inequality (at d)) M h l.0 s)
  steps-keep (plain_word x ∷ ws) S R e l s = let (M, h, e₁) = bind_ok (push S (ok (axiom_of x false))) (pol_steps at ws) R e in steps-keep ws M R e₁ l (push-keeps S (ok (axiom_of x false)) M h (axiom-ok x false) s)
  steps-keep (negated_word x ∷ ws) S R e l s = let (M, h, e₁) = bind_ok (push S (ok (axiom_of x true))) (pol_steps at ws) R e in steps-keep ws M R e₁ l (push-keeps S (ok (axiom_of x true)) M h (axiom-ok x true) s)
  steps-keep (plus-word ∷ ws) S R e l s = let (M, h, e₁) = bind_ok (on_two S) (pol_steps at ws) R e in steps-keep ws M R e₁ l (two-keeps S M h s)
  steps-keep (saturate-word ∷ ws) S R e l s = let (M, h, e₁) = bind_ok (on_top saturated S) (pol_steps at ws) R e in steps-keep ws M R e₁ l (top_keeps saturated K.of_saturation S M h s)
  steps-keep (times-word m ∷ ws) S R e l s = let (M, h, e₁) = bind_ok (on_top (multiplied m) S) (pol_steps at ws) R e in steps-keep ws M R e₁ l (top_keeps (multiplied m) (K.of-times m) S M h s)
  steps-keep (over_word d ∷ ws) S R e l s = let (M, h, e₁) = bind_ok (on_top (divided d) S) (pol_steps at ws) R e in steps-keep ws M R e₁ l (top_keeps (divided d) (K.of_over d) S M h s)

  last-keeps : (S : List Inequality) (q : Inequality) → last_entry S ≡ ok q → Stack P S → P q × T (fits_entry q)
  unfolding last_entry Stack
  last-keeps [] q e s = absurd (ok-bad e)
  last-keeps (r ∷ []) q e s = subst (λ (z : Inequality). P z × T (fits_entry z)) (ok-inj e) s.0
  last-keeps (r ∷ (p ∷ S)) q e s = absurd (ok-bad e)

  pub result_keeps : (ws : List PolWord) (q : Inequality) → pol_result at ws ≡ ok q → Lines (pushed_ids ws) → P q × T (fits_entry q)
  unfolding pol_result Stack
  result_keeps ws q e l =
      let (S, h, e₁) = bind_ok (pol_steps at ws []) last_entry q e in
      last-keeps S q e₁ (steps-keep ws [] S h l tt)

-- ---- every entry has its shape
shape_of : (f : ℤ → ℤ) (q r : Inequality) → ok (mapped f q) ≡ ok r → Shaped q → Shaped r
shape_of f q r e h = subst Shaped (ok-inj e) (mapped-shaped f q h)

pub keeps-shape : Keeps Shaped
keeps-shape = record {
  of_axiom = axiom_shaped;
  of-sum = added-shaped;
  of-times = λ m q r e h. unfold multiplied in shape_of (λ a. m *ℤ a) q r (ensure-ok (le_z (pos 0) m) 54 _ r e).1 h;
  of_over = λ d q r e h. unfold divided in shape_of (div_up d) q r (ensure-ok (not (same_integer d (pos 0))) 54 _ r (ensure-ok (le_z (pos 0) d) 54 _ r e).1).1 h;
  of_saturation = λ q r e h. unfold saturated in shape_of (min_z q.const) q r (ensure-ok (all (λ e. le_z (pos 0) e.coefficient) q.sum) 54 _ r (ensure-ok (le_z (pos 0) q.const) 54 _ r e).1).1 h;
}

pub lines-shaped : (at : List ℕ → List Term) (ds : List (List ℕ)) → Lines Shaped keeps-shape at ds
unfolding Lines
lines-shaped at [] = tt
lines-shaped at (d ∷ ds) = (λ q e. (line_shaped (at d) q e).3, lines-shaped at ds)

pub fits-short : (q : Inequality) → T (fits_entry q) → length q.sum ≤ max_literals
unfolding fits_entry
fits-short q h = leb→le (length q.sum) max_literals (and_l (leb (length q.sum) max_literals) _ h)

-- the clause of a pol line is read by section 2 as exactly the entries and the constant that it was made of
pub finished-back : (q : Inequality) → Shaped q → T (fits_entry q) → unwrap_inequality (inequality_term (finished q)) ≡ ok (finished q)
finished-back q h f = inequality-back (finished q) (names-finished q h.names) (distinct-finished q h.distinct) (omega (arith, length-finished q, fits-short q f))

pub read_back : (at : List ℕ → List Term) (ws : List PolWord) (q : Inequality) → pol_result at ws ≡ ok q → unwrap_inequality (inequality_term (finished q)) ≡ ok (finished q)
read_back at ws q e = let (h, f) = result_keeps Shaped keeps-shape at ws q e (lines-shaped at (pushed_ids ws)) in finished-back q h f

-- so a line that pushes it pushes exactly these
pub push-back : (at : List ℕ → List Term) (ws : List PolWord) (q : Inequality) → pol_result at ws ≡ ok q → line_inequality (given_clause (ok q)) ≡ ok (finished q)
unfolding line_inequality given_clause
push-back at ws q e =
    let (h, f) = result_keeps Shaped keeps-shape at ws q e (lines-shaped at (pushed_ids ws)) in
    ap (λ (r : Res Inequality). bind (or_bad 54 r) (λ q. ensure (all_names q.sum) 54 (ok q))) (finished-back q h f)
    ∙ unfold bind or_bad in ensure-yes (all_names (finished q).sum) 54 (ok (finished q)) (names-finished q h.names)

-- ---- every entry is implied
keeps-good : (σ : Assignment) → Keeps (Good σ)
keeps-good σ = record { of_axiom = axiom-good σ; of-sum = added-good σ; of-times = multiplied-good σ; of_over = divided-good σ; of_saturation = saturated-good σ }

-- the clauses of the ids ds are satisfied
unfoldable pub AllGiven : Assignment → (List ℕ → List Term) → List (List ℕ) → Type 0
AllGiven σ at [] = Unit {0}
AllGiven σ at (d ∷ ds) = Satisfies σ (at d) × AllGiven σ at ds

lines-good : (σ : Assignment) (at : List ℕ → List Term) (ds : List (List ℕ)) → AllGiven σ at ds → Lines (Good σ) (keeps-good σ) at ds
unfolding Lines AllGiven
lines-good σ at [] g = tt
lines-good σ at (d ∷ ds) g = (λ q e. line-good σ (at d) q e g.0, lines-good σ at ds g.1)

-- each word keeps every entry of the stack implied
pub word_sound : (σ : Assignment) (at : List ℕ → List Term) (w : PolWord) (S R : List Inequality) → pol_step at w S ≡ ok R → AllGiven σ at (pushed_ids (w ∷ [])) → Stack (Good σ) S → Stack (Good σ) R
word_sound σ at w S R e g s = steps-keep (Good σ) (keeps-good σ) at (w ∷ []) S R (unfold pol_steps in ap (λ (r : Res (List Inequality)). bind r ok) e ∙ unfold bind in refl) (lines-good σ at (pushed_ids (w ∷ [])) g) s

finished-good : (σ : Assignment) (q : Inequality) → Good σ q → T (fits_entry q) → Satisfies σ (inequality_term (finished q) ∷ [])
finished-good σ q g f =
    (ineq-ok σ (inequality_term (finished q)) (finished q) (finished-back q g.shaped f) (names-finished q g.shaped.names)).of_true
    (subst (λ (z : ℤ). (finished q).const ≤ℤ z) (sym (total-finished (lit_val σ) q)) (unfold finished in g.implied))

-- a pol line that succeeds is satisfied by an assignment that satisfies each id that it pushed
pub pol-sound : (σ : Assignment) (at : List ℕ → List Term) (ws : List PolWord) → T (plain_of (given_answer (pol_result at ws))) → AllGiven σ at (pushed_ids ws) → Satisfies σ (given_clause (pol_result at ws))
unfolding plain_of given_answer given_clause
pol-sound σ at ws t g = go (pol_result at ws) refl t
  where
    go : (r : Res Inequality) → pol_result at ws ≡ r → T (plain_of (given_answer r)) → Satisfies σ (given_clause r)
    go (ok q) e t = let (h, f) = result_keeps (Good σ) (keeps-good σ) at ws q e (lines-good σ at (pushed_ids ws) g) in finished-good σ q h f
    go (bad n) e t = absurd t
