-- A literal that is on the stack of a pol line stays on it, whatever word succeeds: coefficients become 0, keys do not go.
use mathlib.Core.Path.{◌≡◌, refl, sym, ap, subst}
use mathlib.Core.Bool.{Bool, true, false, cond, not, ◌||◌}
use mathlib.Core.List.{List, [], ◌∷◌}
use Prim.Native.Nat.{ℕ}
use lib.Dec.{T, ltb}
use lib.IntN.{ℤ, pos, ◌+ℤ◌}
use lib.ListN.{length}
use lib.Signed.{le_z}
use Rattle.integer.specs.Integers.{min_z, div_up}
use Rattle.calculus.specs.Entries.{Lit, Entry, entry, Inequality}
use Rattle.calculus.specs.Pol.{max_stack, fits_entry, less_slack, added, each_by, mapped, multiplied, divided, saturated, axiom_of, stacked, push, on_top, on_two}
use Rattle.calculus.specs.Sums.{same_lit, has, put, all, add_sums, reduce_by, reduce_sum}
use Rattle.calculus.specs.Terms.{var, same_integer}
use Rattle.calculus.specs.Words.{Res, ok, bad, bind, ensure}
use Rattle.lines.specs.Running.{held_in}
use Rattle.theorems.proofs.SumLaws.{same_lit-eq, same_lit-refl}

-- ---- sums keep their keys
put_keeps : (j k : Lit) (a : ℤ) (E : List Entry) → T (has j E) → T (has j (put k a E))
unfolding has put
put_keeps j k a [] h = absurd h
put_keeps j k a (e ∷ E) h = go (same_lit k e.lit) (same_lit j e.lit) refl (put_keeps j k a E) h
  where
    go : (c d : Bool) → same_lit j e.lit ≡ d → (T (has j E) → T (has j (put k a E))) → T (cond d true (has j E)) → T (has j (cond c (entry e.lit (e.coefficient +ℤ a) ∷ E) (e ∷ put k a E)))
    go true d q ih h = rw q h
    go false true q ih h = rw q tt
    go false false q ih h = rw q (ih h)

put_has : (k : Lit) (a : ℤ) (E : List Entry) → T (has k (put k a E))
unfolding has put
put_has k a [] = go (same_lit k k) (same_lit-refl k)
  where
    go : (c : Bool) → T c → T (cond c true false)
    go true h = tt
    go false h = h
put_has k a (e ∷ E) = go (same_lit k e.lit) refl (put_has k a E)
  where
    go : (c : Bool) → same_lit k e.lit ≡ c → T (has k (put k a E)) → T (has k (cond c (entry e.lit (e.coefficient +ℤ a) ∷ E) (e ∷ put k a E)))
    go true q ih = rw q tt
    go false q ih = rw q ih

add_left : (k : Lit) (A B : List Entry) → T (has k A) → T (has k (add_sums A B))
unfolding add_sums
add_left k A [] h = h
add_left k A (e ∷ B) h = add_left k (put e.lit e.coefficient A) B (put_keeps k e.lit e.coefficient A h)

add_right : (k : Lit) (A B : List Entry) → T (has k B) → T (has k (add_sums A B))
unfolding add_sums has
add_right k A [] h = absurd h
add_right k A (e ∷ B) h = go (same_lit k e.lit) (same_lit-eq k e.lit) (add_right k (put e.lit e.coefficient A) B) h
  where
    go : (c : Bool) → (T c → k ≡ e.lit) → (T (has k B) → T (has k (add_sums (put e.lit e.coefficient A) B))) → T (cond c true (has k B)) → T (has k (add_sums (put e.lit e.coefficient A) B))
    go true f ih h = add_left k (put e.lit e.coefficient A) B (rw (f tt) (put_has e.lit e.coefficient A))
    go false f ih h = ih h

reduce-has : (k : Lit) (E F : List Entry) → has k (reduce_by E F) ≡ has k F
unfolding reduce_by has
reduce-has k E [] = refl
reduce-has k E (e ∷ F) = ap (cond (same_lit k e.lit) true) (reduce-has k E F)

each-has : (k : Lit) (f : ℤ → ℤ) (E : List Entry) → has k (each_by f E) ≡ has k E
unfolding each_by has
each-has k f [] = refl
each-has k f (e ∷ E) = ap (cond (same_lit k e.lit) true) (each-has k f E)

-- ---- words
or_left : (a b : Bool) → T a → T (a || b)
or_left true b h = tt
or_left false b h = absurd h

pub or_right : (a b : Bool) → T b → T (a || b)
or_right true b h = tt
or_right false b h = h

or_either : (a b : Bool) {A : Type 0} → T (a || b) → (T a → A) → (T b → A) → A
or_either true b h f g = f tt
or_either false b h f g = g h

-- an entry that was stacked
stacked-is : (S : List Inequality) (q : Inequality) {R : List Inequality} → stacked S q ≡ ok R → R ≡ q ∷ S
unfolding stacked ensure
stacked-is S q {R} e = go (fits_entry q) e
  where
    take : Res (List Inequality) → List Inequality
    take (ok r) = r
    take (bad n) = []

    none : Res (List Inequality) → Type 0
    none (ok r) = ⊥
    none (bad n) = Unit

    go : (b : Bool) → ensure b 53 (ok (q ∷ S)) ≡ ok R → R ≡ q ∷ S
    go true e = sym (ap take e)
    go false e = absurd (subst none e tt)

-- what succeeds behind a check, or behind a result
bind-got : {A : Type 0} (r : Res A) (f : A → Res (List Inequality)) {R : List Inequality} → bind r f ≡ ok R → (a : A) × (r ≡ ok a) × (f a ≡ ok R)
unfolding bind
bind-got (ok a) f e = (a, refl, e)
bind-got (bad n) f {R} e = absurd (subst none e tt)
  where
    none : Res (List Inequality) → Type 0
    none (ok r) = ⊥
    none (bad n) = Unit

ensure-got : {A : Type 0} (b : Bool) (n : ℕ) (r : Res A) {a : A} → ensure b n r ≡ ok a → r ≡ ok a
unfolding ensure
ensure-got true n r e = e
ensure-got {A} false n r e = absurd (subst none e tt)
  where
    none : Res A → Type 0
    none (ok r) = ⊥
    none (bad n) = Unit

module _ (k : Lit) where
  pub push-holds : (S : List Inequality) (r : Res Inequality) {R : List Inequality} → push S r ≡ ok R → T (held_in k S) → T (held_in k R)
  unfolding push held_in
  push-holds S r e h =
      let g = bind-got r (stacked S) (ensure-got (ltb (length S) max_stack) 52 (bind r (stacked S)) e) in
      rw (stacked-is S g.0 g.2) (or_right (has k g.0.sum) (held_in k S) h)

  -- a word on the top that only maps its numbers
  top-holds : (f : Inequality → Res Inequality) → ((q p : Inequality) → f q ≡ ok p → has k p.sum ≡ has k q.sum) → (S : List Inequality) {R : List Inequality} → on_top f S ≡ ok R → T (held_in k S) → T (held_in k R)
  unfolding on_top held_in
  top-holds f keeps [] e h = absurd h
  top-holds f keeps (q ∷ S) e h =
      let g = bind-got (f q) (stacked S) e in
      rw (stacked-is S g.0 g.2, keeps q g.0 g.1) h

  got-is : {p q : Inequality} → ◌≡◌ {A = Res Inequality} (ok q) (ok p) → p ≡ q
  got-is {p} {q} e = sym (ap take e)
    where
      take : Res Inequality → Inequality
      take (ok r) = r
      take (bad n) = q

  times-keeps : (m : ℤ) (q p : Inequality) → multiplied m q ≡ ok p → has k p.sum ≡ has k q.sum
  unfolding multiplied mapped
  times-keeps m q p e = rw (got-is (ensure-got (le_z (pos 0) m) 54 _ e)) (each-has k _ q.sum)

  over_keeps : (m : ℤ) (q p : Inequality) → divided m q ≡ ok p → has k p.sum ≡ has k q.sum
  unfolding divided mapped
  over_keeps m q p e = rw (got-is (ensure-got (not (same_integer m (pos 0))) 54 _ (ensure-got (le_z (pos 0) m) 54 _ e))) (each-has k (div_up m) q.sum)

  cap_keeps : (q p : Inequality) → saturated q ≡ ok p → has k p.sum ≡ has k q.sum
  unfolding saturated mapped
  cap_keeps q p e =
      rw (got-is (ensure-got (all (λ (e : Entry). le_z (pos 0) e.coefficient) q.sum) 54 _ (ensure-got (le_z (pos 0) q.const) 54 _ e))) (each-has k (min_z q.const) q.sum)

  pub two-holds : (S : List Inequality) {R : List Inequality} → on_two S ≡ ok R → T (held_in k S) → T (held_in k R)
  unfolding on_two held_in added less_slack reduce_sum
  two-holds [] e h = absurd h
  two-holds (r ∷ []) e h = absurd (subst none e tt)
    where
      none : Res (List Inequality) → Type 0
      none (ok r) = ⊥
      none (bad n) = Unit
  two-holds (r ∷ (l ∷ S)) e h =
      rw (stacked-is S (added l r) e, reduce-has k (add_sums l.sum r.sum) (add_sums l.sum r.sum))
      (or_either (has k r.sum) (has k l.sum || held_in k S) h
      (λ a. or_left (has k (add_sums l.sum r.sum)) (held_in k S) (add_right k l.sum r.sum a))
      (λ b. or_either (has k l.sum) (held_in k S) b
      (λ a. or_left (has k (add_sums l.sum r.sum)) (held_in k S) (add_left k l.sum r.sum a))
      (or_right (has k (add_sums l.sum r.sum)) (held_in k S))))

  pub times-holds : (m : ℤ) (S : List Inequality) {R : List Inequality} → on_top (multiplied m) S ≡ ok R → T (held_in k S) → T (held_in k R)
  times-holds m S e h = top-holds (multiplied m) (times-keeps m) S e h

  pub over-holds : (m : ℤ) (S : List Inequality) {R : List Inequality} → on_top (divided m) S ≡ ok R → T (held_in k S) → T (held_in k R)
  over-holds m S e h = top-holds (divided m) (over_keeps m) S e h

  pub cap-holds : (S : List Inequality) {R : List Inequality} → on_top saturated S ≡ ok R → T (held_in k S) → T (held_in k R)
  cap-holds S e h = top-holds saturated cap_keeps S e h

  -- the axiom of a literal has it
  pub axiom-holds : (x : List ℕ) (S : List Inequality) → k.variable ≡ var x → T (held_in k (axiom_of x k.negated ∷ S))
  unfolding held_in axiom_of has
  axiom-holds x S e = or_left (cond (same_lit k (record { variable = var x; negated = k.negated })) true false) (held_in k S) (rw (← e) (go (same_lit k k) (same_lit-refl k)))
    where
      go : (c : Bool) → T c → T (cond c true false)
      go true h = tt
      go false h = h
