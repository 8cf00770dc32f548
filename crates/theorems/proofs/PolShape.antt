-- The clause that a pol line leaves is as the request writes it: names in byte order, plain before negated, each literal once, no zero,
-- every number a numeral, at most 64 literals.
use mathlib.Core.Path.{◌≡◌, refl, sym, subst}
use mathlib.Core.Bool.{Bool, true, false, not, cond, ◌&&◌, ◌||◌}
use mathlib.Core.List.{List, [], ◌∷◌}
use mathlib.Core.Logic.{◌⊎◌, inl, inr}
use Prim.Native.Nat.{ℕ, ◌≤◌}
use native.Mathlib.Omega.{arith}
use lib.Dec.{T, eqb, eqb→eq, eqb_refl, leb, ltb, nltb→le}
use lib.IntN.{pos}
use lib.ListN.{length}
use Rattle.calculus.specs.Matching.{is_name}
use Rattle.calculus.specs.Pol.{max_literals, in_range, fits_entry, nonzeros, name_before, spelling, lit_before, placed, ordered, finished, pol_result, pushed_ids}
use Rattle.calculus.specs.Entries.{Entry, Inequality}
use Rattle.calculus.specs.Sums.{all, all_names, has, same_lit}
use Rattle.calculus.specs.Terms.{Term, num, var, app, same_integer, same_name, PolWord}
use Rattle.calculus.proofs.Booleans.{and_l, and_r, and_mk, or_l, or_r}
use Rattle.theorems.proofs.PolLaws.{all-nonzeros, all-ordered, distinct-finished, distinct-nonzeros, has-ordered, length-finished, names-finished, names-nonzeros, not_tail}
use Rattle.theorems.proofs.Reading.{names-cons}
use Rattle.theorems.proofs.PolSound.{Shaped, fits-short, keeps-shape, lines-shaped, result_keeps}
use Rattle.calculus.specs.Words.{ok}
use Rattle.theorems.proofs.SumLaws.{Distinct, same_lit-refl}
use Rattle.calculus.proofs.TermLaws.{same_name_eq, same_name_refl}

-- each before the next
unfoldable pub Ascending : List Entry → Type 0
Ascending [] = Unit {0}
Ascending (e ∷ []) = Unit {0}
Ascending (e ∷ (f ∷ E)) = T (lit_before e.lit f.lit) × Ascending (f ∷ E)

-- of two names one is before the other, or they are the same
before-total : (x y : List ℕ) → T (name_before x y) ⊎ (T (same_name x y) ⊎ T (name_before y x))
unfolding name_before same_name
before-total [] [] = inr (inl tt)
before-total [] (y ∷ ys) = inl tt
before-total (x ∷ xs) [] = inr (inr tt)
before-total (x ∷ xs) (y ∷ ys) = go (eqb x y) (eqb→eq x y) (λ e. subst (λ (z : ℕ). T (eqb x z)) e (eqb_refl x)) (eqb y x) (eqb→eq y x) (λ e. subst (λ (z : ℕ). T (eqb y z)) e (eqb_refl y)) (ltb x y) (nltb→le x y) (ltb y x) (nltb→le y x) (before-total xs ys)
  where
    go : (c : Bool) → (T c → x ≡ y) → (x ≡ y → T c) → (d : Bool) → (T d → y ≡ x) → (y ≡ x → T d) → (l : Bool) → (T (not l) → y ≤ x) → (m : Bool) → (T (not m) → x ≤ y) → T (name_before xs ys) ⊎ (T (same_name xs ys) ⊎ T (name_before ys xs)) →
        T (cond c (name_before xs ys) l) ⊎ (T (c && same_name xs ys) ⊎ T (cond d (name_before ys xs) m))
    go true f f' true g g' l h m k r = r
    go true f f' false g g' l h m k r = absurd (g' (sym (f tt)))
    go false f f' true g g' l h m k r = absurd (f' (sym (g tt)))
    go false f f' false g g' true h m k r = inl tt
    go false f f' false g g' false h true k r = inr (inr tt)
    go false f f' false g g' false h false k r = let a : y ≤ x = h tt in let b : x ≤ y = k tt in let e : x ≡ y = omega arith in absurd (f' e)

-- of two literals over names that are not the same
lit-total : (v w : Term) (b c : Bool) → T (is_name v) → T (is_name w) → T (not (same_lit (record { variable = v; negated = b }) (record { variable = w; negated = c }))) → T (not (lit_before (record { variable = v; negated = b }) (record { variable = w; negated = c }))) → T (lit_before (record { variable = w; negated = c }) (record { variable = v; negated = b }))
unfolding is_name lit_before spelling
lit-total (num z) w b c n m s l = absurd n
lit-total (var x) (num z) b c n m s l = absurd m
lit-total (var x) (app o ts) b c n m s l = absurd m
lit-total (app o ts) w b c n m s l = absurd n
lit-total (var x) (var y) b c n m s l = go b c (before-total x y) s l
  where
    same : (b : Bool) → T (same_name x y) → T (not (same_lit (record { variable = var x; negated = b }) (record { variable = var y; negated = b }))) → ⊥
    same b t s = no (same_lit (record { variable = var x; negated = b }) (record { variable = var y; negated = b })) (subst (λ (z : List ℕ). T (same_lit (record { variable = var x; negated = b }) (record { variable = var z; negated = b }))) (same_name_eq x y t) (same_lit-refl (record { variable = var x; negated = b }))) s
      where
        no : (c : Bool) → T c → T (not c) → ⊥
        no true t n = n
        no false t n = t

    back : T (same_name x y) → T (same_name y x)
    back t = subst (λ (z : List ℕ). T (same_name z x)) (same_name_eq x y t) (same_name_refl x)

    first : (p q : Bool) → T p → T (not (p || q)) → ⊥
    first true q t n = n
    first false q t n = t

    second : (p q : Bool) → T q → T (not (p || q)) → ⊥
    second true q t n = n
    second false true t n = n
    second false false t n = t

    go : (b c : Bool) → T (name_before x y) ⊎ (T (same_name x y) ⊎ T (name_before y x)) → T (not (same_lit (record { variable = var x; negated = b }) (record { variable = var y; negated = c }))) → T (not (name_before x y || (same_name x y && (not b && c)))) → T (name_before y x || (same_name y x && (not c && b)))
    go b c (inl t) s l = absurd (first (name_before x y) _ t l)
    go true true (inr (inl t)) s l = absurd (same true t s)
    go true false (inr (inl t)) s l = or_r (name_before y x) _ (and_mk (same_name y x) true (back t) tt)
    go false true (inr (inl t)) s l = absurd (second (name_before x y) _ (and_mk (same_name x y) true t tt) l)
    go false false (inr (inl t)) s l = absurd (same false t s)
    go b c (inr (inr t)) s l = or_l (name_before y x) _ t

-- ---- an entry into its place among entries in order
after-placed : (f e : Entry) (E : List Entry) → T (lit_before f.lit e.lit) → Ascending (f ∷ E) → Ascending (placed e E) → Ascending (f ∷ placed e E)
unfolding Ascending placed
after-placed f e [] l a h = (l, tt)
after-placed f e (g ∷ E) l a h = go (lit_before e.lit g.lit) h
  where
    go : (c : Bool) → Ascending (cond c (e ∷ (g ∷ E)) (g ∷ placed e E)) → Ascending (f ∷ cond c (e ∷ (g ∷ E)) (g ∷ placed e E))
    go true h = (l, h)
    go false h = (a.0, h)

ascending_tail : (e : Entry) (E : List Entry) → Ascending (e ∷ E) → Ascending E
unfolding Ascending
ascending_tail e [] a = tt
ascending_tail e (f ∷ E) a = a.1

head-other : (e f : Entry) (E : List Entry) → T (not (has e.lit (f ∷ E))) → T (not (same_lit e.lit f.lit))
unfolding has
head-other e f E h = go (same_lit e.lit f.lit) h
  where
    go : (c : Bool) → T (not (cond c true (has e.lit E))) → T (not c)
    go true h = absurd h
    go false h = tt

placed-ascending : (e : Entry) (E : List Entry) → T (is_name e.lit.variable) → T (all_names E) → T (not (has e.lit E)) → Ascending E → Ascending (placed e E)
unfolding placed all_names all Ascending
placed-ascending e [] x n h a = tt
placed-ascending e (f ∷ E) x n h a =
    go (lit_before e.lit f.lit) (λ t. t) (lit-total e.lit.variable f.lit.variable e.lit.negated f.lit.negated x (and_l (is_name f.lit.variable) _ n) (head-other e f E h))
    (placed-ascending e E x (and_r (is_name f.lit.variable) _ n) (not_tail e f E h) (ascending_tail f E a))
  where
    go : (c : Bool) → (T c → T (lit_before e.lit f.lit)) → (T (not c) → T (lit_before f.lit e.lit)) → Ascending (placed e E) → Ascending (cond c (e ∷ (f ∷ E)) (f ∷ placed e E))
    go true s t ih = (s tt, a)
    go false s t ih = after-placed f e E (t tt) a ih

ordered-ascending : (E : List Entry) → T (all_names E) → Distinct E → Ascending (ordered E)
unfolding ordered Distinct Ascending
ordered-ascending [] n d = tt
ordered-ascending (e ∷ E) n d =
    let (x, m) = names-cons e E n in
    placed-ascending e (ordered E) x (names-ordered E m) (subst (λ (b : Bool). T (not b)) (sym (has-ordered e.lit E)) d.0) (ordered-ascending E m d.1)
  where
    names-ordered : (E : List Entry) → T (all_names E) → T (all_names (ordered E))
    names-ordered E h = unfold all_names in all-ordered (λ e. is_name e.lit.variable) E (unfold all_names in h)

-- ---- zeros are gone
is_nonzero : Entry → Bool
is_nonzero e = not (same_integer e.coefficient (pos 0))

nonzeros-nonzero : (E : List Entry) → T (all is_nonzero (nonzeros E))
unfolding all nonzeros is_nonzero
nonzeros-nonzero [] = tt
nonzeros-nonzero (e ∷ E) = go (same_integer e.coefficient (pos 0)) refl (nonzeros-nonzero E)
  where
    go : (c : Bool) → same_integer e.coefficient (pos 0) ≡ c → T (all is_nonzero (nonzeros E)) → T (all is_nonzero (cond c (nonzeros E) (e ∷ nonzeros E)))
    go true q ih = ih
    go false q ih = and_mk (is_nonzero e) _ (subst (λ (b : Bool). T (not b)) (sym q) tt) ih

-- ---- the theorem
pub record Canonical (q : Inequality) : Type 0 where
  pub ascending : Ascending q.sum
  pub distinct : Distinct q.sum
  pub nonzero : T (all (λ e. not (same_integer e.coefficient (pos 0))) q.sum)
  pub names : T (all_names q.sum)
  pub coefficients : T (all (λ e. in_range e.coefficient) q.sum)
  pub constant : T (in_range q.const)
  pub short : length q.sum ≤ max_literals

finished-canonical : (q : Inequality) → Shaped q → T (fits_entry q) → Canonical (finished q)
unfolding fits_entry is_nonzero finished
finished-canonical q h f =
    let r : T (in_range q.const && all (λ e. in_range e.coefficient) q.sum) = and_r (leb (length q.sum) max_literals) _ f in
    record {
      ascending = ordered-ascending (nonzeros q.sum) (names-nonzeros q.sum h.names) (distinct-nonzeros q.sum h.distinct);
      distinct = distinct-finished q h.distinct;
      nonzero = all-ordered is_nonzero (nonzeros q.sum) (nonzeros-nonzero q.sum);
      names = names-finished q h.names;
      coefficients = all-ordered (λ e. in_range e.coefficient) (nonzeros q.sum) (all-nonzeros (λ e. in_range e.coefficient) q.sum (and_r (in_range q.const) _ r));
      constant = and_l (in_range q.const) _ r;
      short = omega (arith, length-finished q, fits-short q f);
    }

pub pol-canonical : (at : List ℕ → List Term) (ws : List PolWord) (q : Inequality) → pol_result at ws ≡ ok q → Canonical (finished q)
pol-canonical at ws q e = let (h, f) = result_keeps Shaped keeps-shape at ws q e (lines-shaped at (pushed_ids ws)) in finished-canonical q h f
