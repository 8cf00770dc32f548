-- cp_normalize is sound.
use mathlib.Core.Path.{◌≡◌, refl, sym, ap, ap₂, subst, ◌∙◌}
use mathlib.Core.Bool.{Bool, true, false, not, cond, ◌&&◌, ◌||◌, beq}
use mathlib.Core.List.{List, [], ◌∷◌, ◌++◌}
use Prim.Native.Nat.{◌+◌}
use lib.Dec.{T, leb}
use lib.IntN.{ℤ, pos, ◌+ℤ◌, neg_ℤ, ◌-ℤ◌, ◌*ℤ◌, +ℤ_idl, +ℤ_idr, +ℤ_assoc, +ℤ_invr, neg_ℤ-+ℤ}
use lib.Signed.{le_z, lt_z, ◌≤ℤ◌, ◌<ℤ◌, le_z_yes, lt_z_yes, ≤ℤ_refl}
use Rattle.integer.proofs.Parts.{dn, dn_pos, up, up_pos, mul_parts, dn_neg, up_neg, add_parts, int}
use Rattle.calculus.specs.Equality.{same_term}
use Rattle.calculus.specs.Matching.{or_bad, as_constant, binary, is_name, neg_of, pair, arguments_of}
use Rattle.calculus.specs.Normalize.{Ctv, Flat, Rel, agree, agree_all, collect, collect_one, const_of, cp_normalize, ctv_if, ctv_num, entry_of, flat_op, flats, flatten, half_check, join, join_all, leaf_of, less_all, minus, neg_all, neg_entry, neg_is, one_half, pushed_constant, push_entry, push_entries, rel_check, rel_of, relation, term_to_ctv, two_halves}
use Rattle.calculus.specs.Rules.{single}
use Rattle.calculus.specs.Entries.{Entry, Lit, entry}
use Rattle.calculus.specs.Sums.{max_summands, all, count, lit_of, all_names, opp, split_summation}
use Rattle.calculus.specs.Terms.{Op, Term, Terms, add, app, conj, cons, eq, same_integer, ge, gt, le, lt, mul, nil, num, sub, var}
use Rattle.calculus.specs.Truth.{Assignment, Satisfies, all_b, are_arithmetic, are_statements, arithmetic_op, bit, is_arithmetic, is_statement, less_z, pair_of, prod_z, statement_op, sum_z, truth, truth_op, truths, two, val, val_op, vals}
use Rattle.calculus.specs.Words.{Res, bad, bind, ok}
use Rattle.calculus.proofs.Booleans.{or_l, or_not, and_l, and_mk, and_r, beq_eq, is_true}
use Rattle.theorems.proofs.Reading.{IsLit, TermRead, as_constant-ok, binary-ok, bind_ok, ensure-ok, lit-ok, lit_val, lit_val-opp, names-cons, ok-bad, ok-inj, or_bad-ok, pair_ok, split_arith, split-val, term-read}
use Rattle.theorems.proofs.RulesSound.{AllSat, arith_not_stmt, single-ok}
use Rattle.theorems.proofs.SumLaws.{scale, total}
use Rattle.calculus.proofs.TermLaws.{same_integer-eq, same_integer-refl, same_term-eq}

record ConstRead (σ : Assignment) (t : Term) (k : ℤ) : Type 0 where
  value : val σ t ≡ k
  arith : T (is_arithmetic t)

CtvRead : Assignment → Term → Ctv → Type 0
CtvRead σ t (entry_of e) = T (is_name e.lit.variable) → TermRead σ t e
CtvRead σ t (const_of k) = ConstRead σ t k

bit-scale : (b : Bool) → bit b ≡ scale b (pos 1)
unfolding scale
bit-scale true = refl
bit-scale false = refl

lone-read : (σ : Assignment) (t : Term) → T (is_name (lit_of t).variable) → TermRead σ t (entry (lit_of t) (pos 1))
lone-read σ t n = let l : IsLit σ t = lit-ok σ t n in record { value = l.value ∙ bit-scale (lit_val σ (lit_of t)); arith = l.arith }

swap_prod : (c : ℤ) (b : Bool) → prod_z (bit b ∷ (c ∷ [])) ≡ scale b c
unfolding prod_z scale up dn
swap_prod c true = omega (int, mul_parts (pos 1) (c *ℤ pos 1), mul_parts c (pos 1))
swap_prod c false = omega (int, mul_parts (pos 0) (c *ℤ pos 1))

swap-read : (σ : Assignment) (c : ℤ) (v : Term) → IsLit σ v → TermRead σ (app mul (cons v (cons (num c) nil))) (entry (lit_of v) c)
unfolding val vals val_op is_arithmetic are_arithmetic arithmetic_op
swap-read σ c v l = record { value = rw l.value (swap_prod c (lit_val σ (lit_of v))); arith = and_mk (is_arithmetic v) true l.arith tt }

mul-one : (b : ℤ) → b *ℤ pos 1 ≡ b
unfolding up dn
mul-one b = omega (int, mul_parts b (pos 1))

const-read : (σ : Assignment) (a b : ℤ) → ConstRead σ (app mul (cons (num a) (cons (num b) nil))) (a *ℤ b)
unfolding val vals val_op is_arithmetic are_arithmetic arithmetic_op prod_z
const-read σ a b = record { value = ap (λ (z : ℤ). a *ℤ z) (mul-one b); arith = tt }

ctv-num : (σ : Assignment) (t l r : Term) → t ≡ app mul (cons l (cons r nil)) → (x y : Res ℤ) → as_constant l ≡ x → as_constant r ≡ y → CtvRead σ t (ctv_num t l r x y)
unfolding CtvRead ctv_num
ctv-num σ t l r d (bad m) (bad n) p q = lone-read σ t
ctv-num σ t l r d (ok a) (ok b) p q = subst (λ (u : Term). ConstRead σ u (a *ℤ b)) (sym (d ∙ ap₂ (λ (x y : Term). app mul (cons x (cons y nil))) (as_constant-ok l a p) (as_constant-ok r b q))) (const-read σ a b)
ctv-num σ t l r d (bad m) (ok b) p q = λ n. subst (λ (u : Term). TermRead σ u (entry (lit_of l) b)) (sym (d ∙ ap (λ (y : Term). app mul (cons l (cons y nil))) (as_constant-ok r b q))) (swap-read σ b l (lit-ok σ l n))
ctv-num σ t l r d (ok a) (bad n) p q = λ n. subst (λ (u : Term). TermRead σ u (entry (lit_of r) a)) (sym (d ∙ ap (λ (x : Term). app mul (cons x (cons r nil))) (as_constant-ok l a p))) (term-read σ a r (lit-ok σ r n))

ctv-read : (σ : Assignment) (t : Term) → CtvRead σ t (term_to_ctv t)
unfolding term_to_ctv ctv_if CtvRead
ctv-read σ t = go (binary mul t) refl
  where
    go : (r : Res (Term × Term)) → binary mul t ≡ r → CtvRead σ t (ctv_if t r)
    go (ok p) q = ctv-num σ t p.0 p.1 (binary-ok mul t p q) (as_constant p.0) (as_constant p.1) refl refl
    go (bad n) q = lone-read σ t

names-append : (A B : List Entry) → T (all_names (A ++ B)) → T (all_names A) × T (all_names B)
unfolding all_names all
names-append [] B t = (tt, t)
names-append (e ∷ A) B t =
    let (x, y) = names-append A B (and_r (is_name e.lit.variable) _ t) in
    (and_mk (is_name e.lit.variable) _ (and_l (is_name e.lit.variable) _ t) x, y)

names-neg : (E : List Entry) → T (all_names (neg_all E)) → T (all_names E)
unfolding all_names all neg_all neg_entry
names-neg [] t = tt
names-neg (e ∷ E) t = and_mk (is_name e.lit.variable) _ (and_l (is_name e.lit.variable) _ t) (names-neg E (and_r (is_name e.lit.variable) _ t))

names-push : (E : List Entry) → T (all_names E) → T (all_names (push_entries E))
unfolding all_names all push_entries push_entry
names-push [] t = tt
names-push (e ∷ E) t = go (le_z (pos 0) e.coefficient) (names-push E (and_r (is_name e.lit.variable) _ t))
  where
    go : (c : Bool) → T (all_names (push_entries E)) → T (all_names (cond c e (entry (opp e.lit) (neg_ℤ e.coefficient)) ∷ push_entries E))
    go true ih = and_mk (is_name e.lit.variable) _ (and_l (is_name e.lit.variable) _ t) ih
    go false ih = and_mk (is_name e.lit.variable) _ (and_l (is_name e.lit.variable) _ t) ih

module _ (ν : Lit → Bool) where
  total-append : (A B : List Entry) → total ν (A ++ B) ≡ total ν A +ℤ total ν B
  unfolding total
  total-append [] B = sym (+ℤ_idl (total ν B))
  total-append (e ∷ A) B = ap (λ (z : ℤ). scale (ν e.lit) e.coefficient +ℤ z) (total-append A B) ∙ sym (+ℤ_assoc (scale (ν e.lit) e.coefficient) (total ν A) (total ν B))

  scale_neg : (b : Bool) (c : ℤ) → scale b (neg_ℤ c) ≡ neg_ℤ (scale b c)
  unfolding scale
  scale_neg true c = refl
  scale_neg false c = refl

  total-neg : (E : List Entry) → total ν (neg_all E) ≡ neg_ℤ (total ν E)
  unfolding total neg_all neg_entry
  total-neg [] = refl
  total-neg (e ∷ E) = ap₂ ◌+ℤ◌ (scale_neg (ν e.lit) e.coefficient) (total-neg E) ∙ sym (neg_ℤ-+ℤ (scale (ν e.lit) e.coefficient) (total ν E))

module _ (σ : Assignment) where
  flip_one : (b : Bool) (c : ℤ) → scale (not b) (neg_ℤ c) ≡ scale b c +ℤ neg_ℤ c
  unfolding scale
  flip_one true c = sym (+ℤ_invr c)
  flip_one false c = sym (+ℤ_idl (neg_ℤ c))

  total-push : (E : List Entry) → total (lit_val σ) (push_entries E) ≡ total (lit_val σ) E +ℤ pushed_constant E
  unfolding total push_entries push_entry pushed_constant
  total-push [] = refl
  total-push (e ∷ E) = go (le_z (pos 0) e.coefficient) (total-push E)
    where
      go : (c : Bool) → total (lit_val σ) (push_entries E) ≡ total (lit_val σ) E +ℤ pushed_constant E →
          total (lit_val σ) (cond c e (entry (opp e.lit) (neg_ℤ e.coefficient)) ∷ push_entries E) ≡ (scale (lit_val σ e.lit) e.coefficient +ℤ total (lit_val σ) E) +ℤ (cond c (pos 0) (neg_ℤ e.coefficient) +ℤ pushed_constant E)
      go true ih =
          let x = scale (lit_val σ e.lit) e.coefficient in
          let t = total (lit_val σ) E in
          let k = pushed_constant E in
          rw (ih, +ℤ_idl k) (sym (+ℤ_assoc x t k))
      go false ih =
          let b = lit_val σ e.lit in
          let x = scale b e.coefficient in
          let m = neg_ℤ e.coefficient in
          let y = scale (not b) m in
          let t = total (lit_val σ) E in
          let k = pushed_constant E in
          let h : y ≡ x +ℤ m = flip_one b e.coefficient in
          rw (lit_val-opp σ e.lit, ih) (omega (int, add_parts x m, add_parts t k, add_parts y (t +ℤ k), add_parts x t, add_parts m k, add_parts (x +ℤ t) (m +ℤ k)))

  -- ---- flattening
  record FlatRead (t : Term) (F : Flat) : Type 0 where
    value : val σ t ≡ total (lit_val σ) F.entries +ℤ F.const
    arith : T (is_arithmetic t)

  record FlatsRead (ts : Terms) (F : Flat) : Type 0 where
    value : sum_z (vals σ ts) ≡ total (lit_val σ) F.entries +ℤ F.const
    arith : T (are_arithmetic ts)

  abbrev Good : Flat → Type 0
  Good F = T (all_names F.entries) × T (not F.one_minus)

  leaf-read : (t : Term) (c : Ctv) → CtvRead σ t c → T (all_names (leaf_of c).entries) → FlatRead t (leaf_of c)
  unfolding CtvRead leaf_of all_names all total
  leaf-read t (entry_of e) r n =
      let q : TermRead σ t e = r (and_l (is_name e.lit.variable) _ n) in
      record { value = q.value ∙ sym (+ℤ_idr _ ∙ +ℤ_idr _); arith = q.arith }
  leaf-read t (const_of k) r n = record { value = r.value ∙ sym (+ℤ_idl k); arith = r.arith }

  join-good : (f g : Flat) → Good (join f g) → Good f × Good g
  unfolding join
  join-good f g h =
      let (a, b) = names-append f.entries g.entries h.0 in
      let (c, d) = or_not f.one_minus g.one_minus h.1 in
      ((a, c), (b, d))

  minus-good : (f g : Flat) → Good (minus f g) → Good f × Good g
  unfolding minus
  minus-good f g h =
      let (a, b) = names-append f.entries (neg_all g.entries) h.0 in
      let (c, d) = or_not f.one_minus g.one_minus h.1 in
      ((a, c), (names-neg g.entries b, d))

  join-read : (t : Term) (ts : Terms) (f g : Flat) → FlatRead t f → FlatsRead ts g → FlatsRead (cons t ts) (join f g)
  unfolding join vals sum_z are_arithmetic
  join-read t ts f g p q =
      let a = total (lit_val σ) f.entries in
      let b = total (lit_val σ) g.entries in
      let v = val σ t in
      let w = sum_z (vals σ ts) in
      let hv : v ≡ a +ℤ f.const = p.value in
      let hw : w ≡ b +ℤ g.const = q.value in
      record {
        value = rw total-append (omega (int, add_parts a f.const, add_parts b g.const, add_parts v w, add_parts a b, add_parts f.const g.const, add_parts (a +ℤ b) (f.const +ℤ g.const)));
        arith = and_mk (is_arithmetic t) _ p.arith q.arith;
      }

  sub_val : (t u : Term) (us : Terms) → val σ (app sub (cons t (cons u us))) ≡ val σ t -ℤ sum_z (vals σ (cons u us))
  unfolding val vals val_op less_z
  sub_val t u us = refl

  sub_arith : (t u : Term) (us : Terms) → T (is_arithmetic t) → T (are_arithmetic (cons u us)) → T (is_arithmetic (app sub (cons t (cons u us))))
  unfolding is_arithmetic are_arithmetic arithmetic_op
  sub_arith t u us a b = and_mk (is_arithmetic t) _ a b

  add-val : (ts : Terms) → val σ (app add ts) ≡ sum_z (vals σ ts)
  unfolding val vals val_op
  add-val ts = refl

  add-arith : (ts : Terms) → T (are_arithmetic ts) → T (is_arithmetic (app add ts))
  unfolding is_arithmetic are_arithmetic arithmetic_op
  add-arith ts a = a

  num-read : (z : ℤ) → CtvRead σ (num z) (const_of z)
  unfolding CtvRead val is_arithmetic
  num-read z = record { value = refl; arith = tt }

  nil-read : FlatsRead nil (join_all [])
  unfolding join_all vals sum_z are_arithmetic total
  nil-read = record { value = refl; arith = tt }

  nil-less : Good (less_all []) → ⊥
  unfolding less_all
  nil-less h = h.1

  minus-read : (t u : Term) (us : Terms) (f g : Flat) → FlatRead t f → FlatsRead (cons u us) g → FlatRead (app sub (cons t (cons u us))) (minus f g)
  unfolding minus
  minus-read t u us f g p q =
      let a = total (lit_val σ) f.entries in
      let b = total (lit_val σ) g.entries in
      let v = val σ t in
      let w = sum_z (vals σ (cons u us)) in
      let hv : v ≡ a +ℤ f.const = p.value in
      let hw : w ≡ b +ℤ g.const = q.value in
      record {
        value = sub_val t u us ∙ rw (total-append, total-neg) (omega (int, add_parts a f.const, add_parts b g.const, add_parts v (neg_ℤ w), up_neg w, dn_neg w, add_parts a (neg_ℤ b), up_neg b, dn_neg b, add_parts f.const (neg_ℤ g.const), up_neg g.const, dn_neg g.const, add_parts (a +ℤ neg_ℤ b) (f.const -ℤ g.const)));
        arith = sub_arith t u us p.arith q.arith;
      }

  join-case : (t : Term) (ts : Terms) → (Good (flatten t) → FlatRead t (flatten t)) → (Good (join_all (flats ts)) → FlatsRead ts (join_all (flats ts))) → Good (join (flatten t) (join_all (flats ts))) → FlatsRead (cons t ts) (join (flatten t) (join_all (flats ts)))
  join-case t ts f g h = let (x, y) = join-good (flatten t) (join_all (flats ts)) h in join-read t ts (flatten t) (join_all (flats ts)) (f x) (g y)

  one-read : (t : Term) (c : Ctv) (e : Entry) → CtvRead σ t c → collect_one c ≡ ok e → T (is_name e.lit.variable) → TermRead σ t e
  unfolding CtvRead collect_one
  one-read t (entry_of x) e r q n = subst (TermRead σ t) (ok-inj q) (r (subst (λ (y : Entry). T (is_name y.lit.variable)) (sym (ok-inj q)) n))
  one-read t (const_of k) e r q n = absurd (ok-bad q)

  cons-total : (e : Entry) (E : List Entry) → scale (lit_val σ e.lit) e.coefficient +ℤ total (lit_val σ) E ≡ total (lit_val σ) (e ∷ E)
  unfolding total
  cons-total e E = refl

  -- ---- two entries over names that agree are equal
  neg-name : (t w : Term) → T (is_name t) → T (neg_is (neg_of t) w) → ⊥
  unfolding is_name neg_of binary arguments_of bind neg_is
  neg-name (num z) w n h = n
  neg-name (var x) w n h = h
  neg-name (app o ts) w n h = n

  agree-eq : (g n : Entry) → T (is_name g.lit.variable) → T (is_name n.lit.variable) → T (agree g n) → g ≡ n
  unfolding agree
  agree-eq g n p q t = go (same_term g.lit.variable n.lit.variable) (same_term-eq g.lit.variable n.lit.variable) g.lit.negated refl n.lit.negated refl (and_r (same_integer g.coefficient n.coefficient) _ t)
    where
      k : g.coefficient ≡ n.coefficient
      k = same_integer-eq g.coefficient n.coefficient (and_l (same_integer g.coefficient n.coefficient) _ t)

      go : (c : Bool) → (T c → g.lit.variable ≡ n.lit.variable) → (x : Bool) → g.lit.negated ≡ x → (y : Bool) → n.lit.negated ≡ y →
          T (cond c (beq x y) (cond x (neg_is (neg_of n.lit.variable) g.lit.variable) (cond y (neg_is (neg_of g.lit.variable) n.lit.variable) false))) → g ≡ n
      go true f x gx y ny h =
          let a : g.lit.variable ≡ n.lit.variable = f tt in
          let b : g.lit.negated ≡ n.lit.negated = gx ∙ beq_eq x y h ∙ sym ny in
          λ i. record { lit = record { variable = a i; negated = b i }; coefficient = k i }
      go false f true gx y ny h = absurd (neg-name n.lit.variable g.lit.variable q h)
      go false f false gx true ny h = absurd (neg-name g.lit.variable n.lit.variable p h)
      go false f false gx false ny h = absurd h

  agree-total : (G E : List Entry) → T (all_names G) → T (all_names E) → T (agree_all G E) → total (lit_val σ) G ≡ total (lit_val σ) E
  unfolding agree_all total
  agree-total [] [] p q t = refl
  agree-total [] (n ∷ E) p q t = absurd t
  agree-total (g ∷ G) [] p q t = absurd t
  agree-total (g ∷ G) (n ∷ E) p q t =
      let (a, b) = names-cons g G p in
      let (c, d) = names-cons n E q in
      let e : g ≡ n = agree-eq g n a c (and_l (agree g n) _ t) in
      ap₂ (λ (x : Entry) (y : ℤ). scale (lit_val σ x.lit) x.coefficient +ℤ y) e (agree-total G E b d (and_r (agree g n) _ t))

  less_case : (t : Term) (ts : Terms) → (Good (flatten t) → FlatRead t (flatten t)) → (Good (join_all (flats ts)) → FlatsRead ts (join_all (flats ts))) → Good (less_all (flatten t ∷ flats ts)) → FlatRead (app sub (cons t ts)) (less_all (flatten t ∷ flats ts))
  unfolding less_all flats
  less_case t nil f g h = absurd h.1
  less_case t (cons u us) f g h =
      let (x, y) = minus-good (flatten t) (join_all (flatten u ∷ flats us)) h in
      minus-read t u us (flatten t) (join_all (flatten u ∷ flats us)) (f x) (g y)

  flat-op : (o : Op) (ts : Terms) → (Good (join_all (flats ts)) → FlatsRead ts (join_all (flats ts))) → (Good (less_all (flats ts)) → FlatRead (app sub ts) (less_all (flats ts))) → Good (flat_op o ts (flats ts)) → FlatRead (app o ts) (flat_op o ts (flats ts))
  unfolding flat_op
  flat-op add ts f g h = let r = f h in record { value = add-val ts ∙ r.value; arith = add-arith ts r.arith }
  flat-op sub ts f g h = g h
  flat-op mul ts f g h = leaf-read (app mul ts) (term_to_ctv (app mul ts)) (ctv-read σ (app mul ts)) h.0
  flat-op ge ts f g h = leaf-read (app ge ts) (term_to_ctv (app ge ts)) (ctv-read σ (app ge ts)) h.0
  flat-op gt ts f g h = leaf-read (app gt ts) (term_to_ctv (app gt ts)) (ctv-read σ (app gt ts)) h.0
  flat-op le ts f g h = leaf-read (app le ts) (term_to_ctv (app le ts)) (ctv-read σ (app le ts)) h.0
  flat-op lt ts f g h = leaf-read (app lt ts) (term_to_ctv (app lt ts)) (ctv-read σ (app lt ts)) h.0
  flat-op eq ts f g h = leaf-read (app eq ts) (term_to_ctv (app eq ts)) (ctv-read σ (app eq ts)) h.0
  flat-op conj ts f g h = leaf-read (app conj ts) (term_to_ctv (app conj ts)) (ctv-read σ (app conj ts)) h.0

  mutual
    unfolding flatten flats join_all

    flat_ok : (t : Term) → Good (flatten t) → FlatRead t (flatten t)
    flat_ok (num z) h = leaf-read (num z) (const_of z) (num-read z) h.0
    flat_ok (var x) h = leaf-read (var x) (term_to_ctv (var x)) (ctv-read σ (var x)) h.0
    flat_ok (app o ts) h = flat-op o ts (λ g. flats-ok ts g) (λ g. less-ok ts g) h

    flats-ok : (ts : Terms) → Good (join_all (flats ts)) → FlatsRead ts (join_all (flats ts))
    flats-ok nil h = nil-read
    flats-ok (cons t ts) h = join-case t ts (λ g. flat_ok t g) (λ g. flats-ok ts g) h

    less-ok : (ts : Terms) → Good (less_all (flats ts)) → FlatRead (app sub ts) (less_all (flats ts))
    less-ok nil h = absurd (nil-less h)
    less-ok (cons t ts) h = less_case t ts (λ g. flat_ok t g) (λ g. flats-ok ts g) h

  -- ---- the normalized side
  collect-ok : (ts : Terms) (E : List Entry) → collect ts ≡ ok E → T (all_names E) → (sum_z (vals σ ts) ≡ total (lit_val σ) E) × T (are_arithmetic ts)
  unfolding collect vals sum_z are_arithmetic total
  collect-ok nil E e n = (ap (total (lit_val σ)) (ok-inj e), tt)
  collect-ok (cons t ts) E e n =
      let (x, h₁, e₁) = bind_ok (collect_one (term_to_ctv t)) _ E e in
      let (F, h₂, e₂) = bind_ok (collect ts) _ E e₁ in
      let m : T (all_names (x ∷ F)) = subst (λ (Z : List Entry). T (all_names Z)) (sym (ok-inj e₂)) n in
      let (n₁, n₂) = names-cons x F m in
      let (v, a) = collect-ok ts F h₂ n₂ in
      let r : TermRead σ t x = one-read t (term_to_ctv t) x (ctv-read σ t) h₁ n₁ in
      (ap₂ ◌+ℤ◌ r.value v ∙ cons-total x F ∙ ap (total (lit_val σ)) (ok-inj e₂), and_mk (is_arithmetic t) _ r.arith a)

  -- ---- a half: (>= s k) is a statement, and true exactly when G reaches K
  record HalfRead (G : List Entry) (K : ℤ) (s k : Term) : Type 0 where
    stmt : T (is_statement (app ge (cons s (cons k nil))))
    to : K ≤ℤ total (lit_val σ) G → T (truth σ (app ge (cons s (cons k nil))))
    from : T (truth σ (app ge (cons s (cons k nil)))) → K ≤ℤ total (lit_val σ) G

  ge_stmt : (s : Term) (z : ℤ) → T (is_arithmetic s) → T (is_statement (app ge (cons s (cons (num z) nil))))
  unfolding is_statement statement_op two are_arithmetic is_arithmetic
  ge_stmt s z a = and_mk (is_arithmetic s) true a tt

  ge-truth : (s t : Term) → truth σ (app ge (cons s (cons t nil))) ≡ le_z (val σ t) (val σ s)
  unfolding truth truth_op pair_of vals
  ge-truth s t = refl

  half_mk : (G : List Entry) (K : ℤ) (s : Term) (z : ℤ) → T (is_arithmetic s) → val σ s ≡ total (lit_val σ) G +ℤ pushed_constant G → K +ℤ pushed_constant G ≡ z → HalfRead G K s (num z)
  unfolding val
  half_mk G K s z a v e =
      let t = total (lit_val σ) G in
      let p = pushed_constant G in
      record {
        stmt = ge_stmt s z a;
        to = λ h. rw (ge-truth s (num z)) (go h);
        from = λ h. back (le_z_yes (rw (ge-truth s (num z)) at h));
      }
    where
      go : K ≤ℤ total (lit_val σ) G → T (le_z z (val σ s))
      go h = let r : z ≤ℤ val σ s = omega (int, add_parts K (pushed_constant G), add_parts (total (lit_val σ) G) (pushed_constant G)) in r.le

      back : z ≤ℤ val σ s → K ≤ℤ total (lit_val σ) G
      back h = omega (int, add_parts K (pushed_constant G), add_parts (total (lit_val σ) G) (pushed_constant G))

  half-ok : (G : List Entry) (K : ℤ) (s k : Term) → half_check G K s k ≡ ok true → HalfRead G K s k × T (all_names G)
  unfolding half_check
  half-ok G K s k e =
      let (h₀, e₀) = ensure-ok (leb (count (split_summation s)) max_summands) 40 _ true e in
      let (E, h₁, e₁) = bind_ok (collect (split_summation s)) _ true e₀ in
      let (z, h₂, e₂) = bind_ok (or_bad 24 (as_constant k)) _ true e₁ in
      let (h₃, e₃) = ensure-ok (agree_all (push_entries G) E) 39 _ true e₂ in
      let (h₄, e₄) = ensure-ok (same_integer (K +ℤ pushed_constant G) z) 29 _ true e₃ in
      let n : T (all_names G && all_names E) = subst T (sym (ok-inj e₄)) tt in
      let ng : T (all_names G) = and_l (all_names G) _ n in
      let ne : T (all_names E) = and_r (all_names G) _ n in
      let (v, a) = collect-ok (split_summation s) E h₁ ne in
      let w : val σ s ≡ total (lit_val σ) G +ℤ pushed_constant G = split-val σ s ∙ v ∙ sym (agree-total (push_entries G) E (names-push G ng) ne h₃) ∙ total-push G in
      (subst (HalfRead G K s) (sym (as_constant-ok k z (or_bad-ok 24 (as_constant k) z h₂))) (half_mk G K s z (split_arith s a) w (same_integer-eq _ _ h₄)), ng)

  -- ---- the normalized side: a statement, true exactly when R holds
  record NormRead (R : Type 0) (n : Term) : Type 0 where
    stmt : T (is_statement n)
    to : R → T (truth σ n)
    from : T (truth σ n) → R

  one-half : (G : List Entry) (K : ℤ) (n : Term) → one_half G K n ≡ ok true → NormRead (K ≤ℤ total (lit_val σ) G) n × T (all_names G)
  unfolding one_half
  one-half G K n e =
      let (p, h₁, e₁) = bind_ok (or_bad 23 (binary ge n)) _ true e in
      let (r, g) = half-ok G K p.0 p.1 e₁ in
      (subst (NormRead (K ≤ℤ total (lit_val σ) G)) (sym (binary-ok ge n p (or_bad-ok 23 (binary ge n) p h₁))) (record { stmt = r.stmt; to = r.to; from = r.from }), g)

  and_stmt : (a b : Term) → T (is_statement a) → T (is_statement b) → T (is_statement (app conj (cons a (cons b nil))))
  unfolding is_statement are_statements statement_op
  and_stmt a b p q = and_mk (is_statement a) _ p (and_mk (is_statement b) true q tt)

  and-truth : (a b : Term) → truth σ (app conj (cons a (cons b nil))) ≡ (truth σ a && (truth σ b && true))
  unfolding truth truths truth_op all_b
  and-truth a b = refl

  and_ok : (x y : Bool) → ok (x && y) ≡ ok true → T x × T y
  and_ok x y e = let t : T (x && y) = subst T (sym (ok-inj e)) tt in (and_l x y t, and_r x y t)

  join-halves : (G : List Entry) (K : ℤ) (s k s₂ k₂ : Term) → HalfRead G K s k → HalfRead (neg_all (push_entries G)) (neg_ℤ (K +ℤ pushed_constant G)) s₂ k₂ → NormRead (K ≡ total (lit_val σ) G) (app conj (cons (app ge (cons s (cons k nil))) (cons (app ge (cons s₂ (cons k₂ nil))) nil)))
  join-halves G K s k s₂ k₂ ra rb = record {
    stmt = and_stmt (app ge (cons s (cons k nil))) (app ge (cons s₂ (cons k₂ nil))) ra.stmt rb.stmt;
    to = λ h. rw and-truth (and_mk A _ (ra.to (go₁ h)) (and_mk B true (rb.to (go₂ h)) tt));
    from = λ h. let t : T (A && (B && true)) = rw and-truth at h in back (ra.from (and_l A _ t)) (rb.from (and_l B true (and_r A _ t)));
  }
    where
      A : Bool
      A = truth σ (app ge (cons s (cons k nil)))

      B : Bool
      B = truth σ (app ge (cons s₂ (cons k₂ nil)))

      t : ℤ
      t = total (lit_val σ) G

      p : ℤ
      p = pushed_constant G

      w : total (lit_val σ) (neg_all (push_entries G)) ≡ neg_ℤ (t +ℤ p)
      w = total-neg (lit_val σ) (push_entries G) ∙ ap neg_ℤ (total-push G)

      go₁ : K ≡ t → K ≤ℤ t
      go₁ h = omega int

      go₂ : K ≡ t → neg_ℤ (K +ℤ p) ≤ℤ total (lit_val σ) (neg_all (push_entries G))
      go₂ h = rw (w, h) (≤ℤ_refl (neg_ℤ (t +ℤ p)))

      back : K ≤ℤ t → neg_ℤ (K +ℤ p) ≤ℤ total (lit_val σ) (neg_all (push_entries G)) → K ≡ t
      back h l = let l₂ : neg_ℤ (K +ℤ p) ≤ℤ neg_ℤ (t +ℤ p) = rw w at l in omega (int, add_parts K p, add_parts t p, up_neg (K +ℤ p), dn_neg (K +ℤ p), up_neg (t +ℤ p), dn_neg (t +ℤ p))

  two-halves : (G : List Entry) (K : ℤ) (n : Term) → two_halves G K n ≡ ok true → NormRead (K ≡ total (lit_val σ) G) n × T (all_names G)
  unfolding two_halves
  two-halves G K n e =
      let (q, h₁, e₁) = bind_ok (or_bad 23 (binary conj n)) _ true e in
      let (a, h₂, e₂) = bind_ok (or_bad 23 (binary ge q.0)) _ true e₁ in
      let (b, h₃, e₃) = bind_ok (or_bad 23 (binary ge q.1)) _ true e₂ in
      let (x, h₄, e₄) = bind_ok (half_check G K a.0 a.1) _ true e₃ in
      let (y, h₅, e₅) = bind_ok (half_check (neg_all (push_entries G)) (neg_ℤ (K +ℤ pushed_constant G)) b.0 b.1) _ true e₄ in
      let (tx, ty) = and_ok x y e₅ in
      let (ra, ga) = half-ok G K a.0 a.1 (h₄ ∙ ap ok (is_true x tx)) in
      let (rb, gb) = half-ok (neg_all (push_entries G)) (neg_ℤ (K +ℤ pushed_constant G)) b.0 b.1 (h₅ ∙ ap ok (is_true y ty)) in
      let d : n ≡ app conj (cons (app ge (cons a.0 (cons a.1 nil))) (cons (app ge (cons b.0 (cons b.1 nil))) nil)) =
      binary-ok conj n q (or_bad-ok 23 (binary conj n) q h₁) ∙ ap₂ (λ (u v : Term). app conj (cons u (cons v nil))) (binary-ok ge q.0 a (or_bad-ok 23 (binary ge q.0) a h₂)) (binary-ok ge q.1 b (or_bad-ok 23 (binary ge q.1) b h₃)) in
      (subst (NormRead (K ≡ total (lit_val σ) G)) (sym d) (join-halves G K a.0 a.1 b.0 b.1 ra rb), ga)

  -- ---- the general relation
  eq_sat : (g n : Term) → T (is_statement g) → T (is_statement n) → (T (truth σ g) → T (truth σ n)) → (T (truth σ n) → T (truth σ g)) → Satisfies σ (app eq (cons g (cons n nil)) ∷ [])
  unfolding Satisfies is_statement are_statements statement_op two truth truths truth_op pair_of are_arithmetic
  eq_sat g n sg sn f b = go (is_arithmetic g) (is_arithmetic n) (is_statement g) (is_statement n) (truth σ g) (truth σ n) (arith_not_stmt g) sg sn f b
    where
      go : (a c u v x y : Bool) → (T a → T u → ⊥) → T u → T v → (T x → T y) → (T y → T x) → T ((a && (c && true)) || (u && (v && true))) × T (cond (a && (c && true)) (pair_of same_integer (vals σ (cons g (cons n nil)))) (beq x y))
      go true c u v x y k hu hv f b = absurd (k tt hu)
      go false c true true true true k hu hv f b = (tt, tt)
      go false c true true false false k hu hv f b = (tt, tt)
      go false c true true true false k hu hv f b = absurd (f tt)
      go false c true true false true k hu hv f b = absurd (b tt)
      go false c true false x y k hu hv f b = absurd hv
      go false c false v x y k hu hv f b = absurd hu

  two-stmt : (l r : Term) → T (is_arithmetic l) → T (is_arithmetic r) → T (is_statement (app ge (cons l (cons r nil)))) × T (is_statement (app gt (cons l (cons r nil)))) × T (is_statement (app le (cons l (cons r nil)))) × T (is_statement (app lt (cons l (cons r nil)))) × T (is_statement (app eq (cons l (cons r nil))))
  unfolding is_statement statement_op two are_arithmetic
  two-stmt l r a b =
      let t : T (is_arithmetic l && (is_arithmetic r && true)) = and_mk (is_arithmetic l) _ a (and_mk (is_arithmetic r) true b tt) in
      (t, t, t, t, or_l (is_arithmetic l && (is_arithmetic r && true)) _ t)

  gt-truth : (s t : Term) → truth σ (app gt (cons s (cons t nil))) ≡ lt_z (val σ t) (val σ s)
  unfolding truth truth_op pair_of vals
  gt-truth s t = refl

  le-truth : (s t : Term) → truth σ (app le (cons s (cons t nil))) ≡ le_z (val σ s) (val σ t)
  unfolding truth truth_op pair_of vals
  le-truth s t = refl

  lt-truth : (s t : Term) → truth σ (app lt (cons s (cons t nil))) ≡ lt_z (val σ s) (val σ t)
  unfolding truth truth_op pair_of vals
  lt-truth s t = refl

  eq-truth : (s t : Term) → T (is_arithmetic s) → T (is_arithmetic t) → truth σ (app eq (cons s (cons t nil))) ≡ same_integer (val σ s) (val σ t)
  unfolding truth truth_op pair_of vals are_arithmetic
  eq-truth s t a b = go (is_arithmetic s) (is_arithmetic t) a b
    where
      go : (x y : Bool) → T x → T y → cond (x && (y && true)) (same_integer (val σ s) (val σ t)) (pair_of beq (truths σ (cons s (cons t nil)))) ≡ same_integer (val σ s) (val σ t)
      go true true a b = refl
      go true false a b = absurd b
      go false y a b = absurd a

  module _ (l r n : Term) (al : T (is_arithmetic l)) (ar : T (is_arithmetic r)) (G : List Entry) (K : ℤ) (h : val σ l +ℤ K ≡ val σ r +ℤ total (lit_val σ) G) where
    sat_ge : rel_check ge G K n ≡ ok true → Satisfies σ (app eq (cons (app ge (cons l (cons r nil))) (cons n nil)) ∷ [])
    unfolding rel_check
    sat_ge e =
        let (q, g) = one-half G K n e in
        eq_sat (app ge (cons l (cons r nil))) n (two-stmt l r al ar).0 q.stmt (λ t. q.to (go (le_z_yes (rw ge-truth at t)))) (λ t. rw ge-truth (back (q.from t)).le)
      where
        go : val σ r ≤ℤ val σ l → K ≤ℤ total (lit_val σ) G
        go x = omega (int, add_parts (val σ l) K, add_parts (val σ r) (total (lit_val σ) G))

        back : K ≤ℤ total (lit_val σ) G → val σ r ≤ℤ val σ l
        back x = omega (int, add_parts (val σ l) K, add_parts (val σ r) (total (lit_val σ) G))

    sat_gt : rel_check gt G K n ≡ ok true → Satisfies σ (app eq (cons (app gt (cons l (cons r nil))) (cons n nil)) ∷ [])
    unfolding rel_check
    sat_gt e =
        let (q, g) = one-half G (K +ℤ pos 1) n e in
        eq_sat (app gt (cons l (cons r nil))) n (two-stmt l r al ar).1 q.stmt (λ t. q.to (go (lt_z_yes (rw gt-truth at t)))) (λ t. rw gt-truth (back (q.from t)).lt)
      where
        go : val σ r <ℤ val σ l → (K +ℤ pos 1) ≤ℤ total (lit_val σ) G
        go x = omega (int, add_parts (val σ l) K, add_parts (val σ r) (total (lit_val σ) G), add_parts K (pos 1), up_pos 1, dn_pos 1)

        back : (K +ℤ pos 1) ≤ℤ total (lit_val σ) G → val σ r <ℤ val σ l
        back x = omega (int, add_parts (val σ l) K, add_parts (val σ r) (total (lit_val σ) G), add_parts K (pos 1), up_pos 1, dn_pos 1)

    sat_le : rel_check le G K n ≡ ok true → Satisfies σ (app eq (cons (app le (cons l (cons r nil))) (cons n nil)) ∷ [])
    unfolding rel_check
    sat_le e =
        let (q, g) = one-half (neg_all G) (neg_ℤ K) n e in
        eq_sat (app le (cons l (cons r nil))) n (two-stmt l r al ar).2 q.stmt (λ t. q.to (go (le_z_yes (rw le-truth at t)))) (λ t. rw le-truth (back (q.from t)).le)
      where
        t : ℤ
        t = total (lit_val σ) G

        go : val σ l ≤ℤ val σ r → neg_ℤ K ≤ℤ total (lit_val σ) (neg_all G)
        go x = rw total-neg (omega (int, add_parts (val σ l) K, add_parts (val σ r) t, up_neg K, dn_neg K, up_neg t, dn_neg t))

        back : neg_ℤ K ≤ℤ total (lit_val σ) (neg_all G) → val σ l ≤ℤ val σ r
        back x = let y : neg_ℤ K ≤ℤ neg_ℤ t = rw total-neg at x in omega (int, add_parts (val σ l) K, add_parts (val σ r) t, up_neg K, dn_neg K, up_neg t, dn_neg t)

    sat_lt : rel_check lt G K n ≡ ok true → Satisfies σ (app eq (cons (app lt (cons l (cons r nil))) (cons n nil)) ∷ [])
    unfolding rel_check
    sat_lt e =
        let (q, g) = one-half (neg_all G) (pos 1 -ℤ K) n e in
        eq_sat (app lt (cons l (cons r nil))) n (two-stmt l r al ar).3 q.stmt (λ t. q.to (go (lt_z_yes (rw lt-truth at t)))) (λ t. rw lt-truth (back (q.from t)).lt)
      where
        t : ℤ
        t = total (lit_val σ) G

        go : val σ l <ℤ val σ r → (pos 1 -ℤ K) ≤ℤ total (lit_val σ) (neg_all G)
        go x = rw total-neg (omega (int, add_parts (val σ l) K, add_parts (val σ r) t, add_parts (pos 1) (neg_ℤ K), up_pos 1, dn_pos 1, up_neg K, dn_neg K, up_neg t, dn_neg t))

        back : (pos 1 -ℤ K) ≤ℤ total (lit_val σ) (neg_all G) → val σ l <ℤ val σ r
        back x = let y : (pos 1 -ℤ K) ≤ℤ neg_ℤ t = rw total-neg at x in omega (int, add_parts (val σ l) K, add_parts (val σ r) t, add_parts (pos 1) (neg_ℤ K), up_pos 1, dn_pos 1, up_neg K, dn_neg K, up_neg t, dn_neg t)

    sat_eq : rel_check eq G K n ≡ ok true → Satisfies σ (app eq (cons (app eq (cons l (cons r nil))) (cons n nil)) ∷ [])
    unfolding rel_check
    sat_eq e =
        let (q, g) = two-halves G K n e in
        eq_sat (app eq (cons l (cons r nil))) n (two-stmt l r al ar).4 q.stmt (λ t. q.to (go (same_integer-eq (val σ l) (val σ r) (rw (eq-truth l r al ar) at t)))) (λ t. rw (eq-truth l r al ar) (same_integer-refl (val σ l) (val σ r) (back (q.from t))))
      where
        t : ℤ
        t = total (lit_val σ) G

        go : val σ l ≡ val σ r → K ≡ t
        go x = omega (int, add_parts (val σ l) K, add_parts (val σ r) t)

        back : K ≡ t → val σ l ≡ val σ r
        back x = omega (int, add_parts (val σ l) K, add_parts (val σ r) t)

    rel_sat' : (o : Op) → rel_check o G K n ≡ ok true → Satisfies σ (app eq (cons (app o (cons l (cons r nil))) (cons n nil)) ∷ [])
    unfolding rel_check
    rel_sat' add e = absurd (ok-bad e)
    rel_sat' sub e = absurd (ok-bad e)
    rel_sat' mul e = absurd (ok-bad e)
    rel_sat' ge e = sat_ge e
    rel_sat' gt e = sat_gt e
    rel_sat' le e = sat_le e
    rel_sat' lt e = sat_lt e
    rel_sat' eq e = sat_eq e
    rel_sat' conj e = absurd (ok-bad e)

  rel-names : (o : Op) (G : List Entry) (K : ℤ) (n : Term) → rel_check o G K n ≡ ok true → T (all_names G)
  unfolding rel_check
  rel-names add G K n e = absurd (ok-bad e)
  rel-names sub G K n e = absurd (ok-bad e)
  rel-names mul G K n e = absurd (ok-bad e)
  rel-names ge G K n e = (one-half G K n e).1
  rel-names gt G K n e = (one-half G (K +ℤ pos 1) n e).1
  rel-names le G K n e = names-neg G (one-half (neg_all G) (neg_ℤ K) n e).1
  rel-names lt G K n e = names-neg G (one-half (neg_all G) (pos 1 -ℤ K) n e).1
  rel-names eq G K n e = (two-halves G K n e).1
  rel-names conj G K n e = absurd (ok-bad e)

  rel-of : (o : Op) (ts : Terms) (r : Rel) → rel_of o ts ≡ ok r → app o ts ≡ app r.op (cons r.lhs (cons r.rhs nil))
  unfolding rel_of
  rel-of o ts r e =
      let (p, h, k) = bind_ok (or_bad 22 (pair ts)) _ r e in
      ap (app o) (pair_ok ts p (or_bad-ok 22 (pair ts) p h)) ∙ ap (λ (x : Rel). app x.op (cons x.lhs (cons x.rhs nil))) (ok-inj k)

  relation-ok : (t : Term) (r : Rel) → relation t ≡ ok r → t ≡ app r.op (cons r.lhs (cons r.rhs nil))
  unfolding relation
  relation-ok (num z) r e = absurd (ok-bad e)
  relation-ok (var x) r e = absurd (ok-bad e)
  relation-ok (app add ts) r e = absurd (ok-bad e)
  relation-ok (app sub ts) r e = absurd (ok-bad e)
  relation-ok (app mul ts) r e = absurd (ok-bad e)
  relation-ok (app ge ts) r e = rel-of ge ts r e
  relation-ok (app gt ts) r e = rel-of gt ts r e
  relation-ok (app le ts) r e = rel-of le ts r e
  relation-ok (app lt ts) r e = rel-of lt ts r e
  relation-ok (app eq ts) r e = rel-of eq ts r e
  relation-ok (app conj ts) r e = absurd (ok-bad e)

  norm-step : (o : Op) (l r n : Term) → rel_check o ((flatten l).entries ++ neg_all (flatten r).entries) ((flatten r).const -ℤ (flatten l).const) n ≡ ok true → T (not ((flatten l).one_minus || (flatten r).one_minus)) →
      Satisfies σ (app eq (cons (app o (cons l (cons r nil))) (cons n nil)) ∷ [])
  norm-step o l r n e b =
      let f : Flat = flatten l in
      let g : Flat = flatten r in
      let G = f.entries ++ neg_all g.entries in
      let K = g.const -ℤ f.const in
      let (nf, ng) = names-append f.entries (neg_all g.entries) (rel-names o G K n e) in
      let (bf, bg) = or_not f.one_minus g.one_minus b in
      let rl : FlatRead l f = flat_ok l (nf, bf) in
      let rr : FlatRead r g = flat_ok r (names-neg g.entries ng, bg) in
      rel_sat' l r n rl.arith rr.arith G K (bal l r f g rl rr) o e
    where
      bal : (l r : Term) (f g : Flat) → FlatRead l f → FlatRead r g → val σ l +ℤ (g.const -ℤ f.const) ≡ val σ r +ℤ total (lit_val σ) (f.entries ++ neg_all g.entries)
      bal l r f g p q =
          let a = total (lit_val σ) f.entries in
          let c = total (lit_val σ) g.entries in
          let x = f.const in
          let y = g.const in
          let hl : val σ l ≡ a +ℤ x = p.value in
          let hr : val σ r ≡ c +ℤ y = q.value in
          rw (total-append, total-neg) (omega (int, add_parts a x, add_parts c y, add_parts y (neg_ℤ x), up_neg x, dn_neg x, add_parts a (neg_ℤ c), up_neg c, dn_neg c, add_parts (val σ l) (y -ℤ x), add_parts (val σ r) (a +ℤ neg_ℤ c)))

  pub normalize_sound : (ps : List (List Term)) (xs c : List Term) → cp_normalize ps xs c ≡ ok true → AllSat σ ps → Satisfies σ c
  unfolding cp_normalize
  normalize_sound ps xs c e s =
      let (t, h₁, e₁) = bind_ok (single c) _ true e in
      let (p, h₂, e₂) = bind_ok (or_bad 23 (binary eq t)) _ true e₁ in
      let (r, h₃, e₃) = bind_ok (relation p.0) _ true e₂ in
      let (h₄, e₄) = ensure-ok (leb ((flatten r.lhs).leaves + (flatten r.rhs).leaves) max_summands) 40 _ true e₃ in
      let (m, h₅, e₅) = bind_ok (rel_check r.op ((flatten r.lhs).entries ++ neg_all (flatten r.rhs).entries) ((flatten r.rhs).const -ℤ (flatten r.lhs).const) p.1) _ true e₄ in
      let (tm, tb) = and_ok m _ e₅ in
      subst (Satisfies σ) (sym (single-ok c t h₁ ∙ ap (λ (x : Term). x ∷ []) (binary-ok eq t p (or_bad-ok 23 (binary eq t) p h₂) ∙ ap (λ (x : Term). app eq (cons x (cons p.1 nil))) (relation-ok p.0 r h₃))))
      (norm-step r.op r.lhs r.rhs p.1 (h₅ ∙ ap ok (is_true m tm)) tb)
