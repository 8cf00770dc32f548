-- What a term that was read as a sum is worth.
use mathlib.Core.Path.{◌≡◌, refl, sym, ap, ap₂, subst, subst₂, ◌∙◌}
use mathlib.Core.Bool.{Bool, true, false, not, cond}
use mathlib.Core.List.{List, [], ◌∷◌}
use Prim.Native.Nat.{ℕ}
use native.Mathlib.Omega.{arith}
use lib.Dec.{T, leb}
use lib.IntN.{ℤ, pos, ◌+ℤ◌, ◌-ℤ◌, +ℤ_idl, +ℤ_idr}
use lib.Signed.{◌≤ℤ◌}
use Rattle.integer.proofs.Parts.{dn, up, mul_parts, add_parts, int}
use Rattle.calculus.specs.Equality.{same_op}
use Rattle.calculus.specs.Matching.{or_bad, as_constant, binary, is_name, neg_of, pair, arguments_of}
use Rattle.calculus.specs.Entries.{Entry, Inequality, Lit, entry}
use Rattle.calculus.specs.Sums.{max_summands, all, count, lit_if, lit_of, lone_constant, all_names, opp, put, summands, unwrap_inequality, sum_or, pb_sum, summand, same_lit, split_summation, children_or}
use Rattle.calculus.specs.Terms.{Op, Term, Terms, add, app, cons, same_integer, ge, mul, nil, num, sub, var}
use Rattle.calculus.specs.Truth.{Assignment, Satisfies, are_arithmetic, arithmetic_op, bit, is_arithmetic, is_statement, less_z, pair_of, prod_z, statement_op, sum_z, truth, truth_op, two, val, val_op, vals}
use Rattle.calculus.specs.Words.{Res, bad, bind, ensure, ok}
use Rattle.calculus.proofs.Booleans.{and_l, and_mk, and_r}
use Rattle.theorems.proofs.SumLaws.{scale, Distinct, Same, distinct-put, same, same?, total, total-put}
use Rattle.calculus.proofs.TermLaws.{same_integer-eq, same_op-eq}

pub ok-bad : {A : Type 0} {a : A} {n : ℕ} → bad n ≡ ok a → ⊥
ok-bad e = let z : ◌≡◌ {A = ℕ} 0 1 = cc in omega arith

pub bind_ok : {A B : Type 0} (r : Res A) (f : A → Res B) (b : B) → bind r f ≡ ok b → (a : A) × (r ≡ ok a) × (f a ≡ ok b)
unfolding bind
bind_ok (ok a) f b e = (a, refl, e)
bind_ok (bad n) f b e = absurd (ok-bad e)

pub ensure-ok : {A : Type 0} (c : Bool) (n : ℕ) (r : Res A) (a : A) → ensure c n r ≡ ok a → T c × (r ≡ ok a)
unfolding ensure
ensure-ok true n r a e = (tt, e)
ensure-ok false n r a e = absurd (ok-bad e)

pub or_bad-ok : {A : Type 0} (n : ℕ) (r : Res A) (a : A) → or_bad n r ≡ ok a → r ≡ ok a
unfolding or_bad
or_bad-ok n (ok b) a e = e
or_bad-ok n (bad m) a e = absurd (ok-bad e)

pub ok-inj : {A : Type 0} {a b : A} → ok a ≡ ok b → a ≡ b
ok-inj e = cc

pub as_constant-ok : (t : Term) (z : ℤ) → as_constant t ≡ ok z → t ≡ num z
unfolding as_constant
as_constant-ok (num y) z e = ap num (ok-inj e)
as_constant-ok (var x) z e = absurd (ok-bad e)
as_constant-ok (app o ts) z e = absurd (ok-bad e)

pub arguments_of-ok : (o : Op) (t : Term) (ts : Terms) → arguments_of o t ≡ ok ts → t ≡ app o ts
unfolding arguments_of
arguments_of-ok o (num y) ts e = absurd (ok-bad e)
arguments_of-ok o (var x) ts e = absurd (ok-bad e)
arguments_of-ok o (app p us) ts e =
    let (h, k) = ensure-ok (same_op o p) 0 (ok us) ts e in
    let q : o ≡ p = same_op-eq o p h in
    ap₂ app (sym q) (ok-inj k)

pub pair_ok : (ts : Terms) (p : Term × Term) → pair ts ≡ ok p → ts ≡ cons p.0 (cons p.1 nil)
unfolding pair
pair_ok nil p e = absurd (ok-bad e)
pair_ok (cons a nil) p e = absurd (ok-bad e)
pair_ok (cons a (cons b nil)) p e = ap (λ (q : Term × Term). cons q.0 (cons q.1 nil)) (ok-inj e)
pair_ok (cons a (cons b (cons c r))) p e = absurd (ok-bad e)

pub binary-ok : (o : Op) (t : Term) (p : Term × Term) → binary o t ≡ ok p → t ≡ app o (cons p.0 (cons p.1 nil))
unfolding binary
binary-ok o t p e =
    let (ts, h, k) = bind_ok (arguments_of o t) pair p e in
    arguments_of-ok o t ts h ∙ ap (app o) (pair_ok ts p k)

pub neg_of-ok : (t v : Term) → neg_of t ≡ ok v → t ≡ app sub (cons (num (pos 1)) (cons v nil))
unfolding neg_of
neg_of-ok t v e =
    let (p, h, k) = bind_ok (binary sub t) _ v e in
    let (z, h₂, k₂) = bind_ok (as_constant p.0) _ v k in
    let (h₃, k₃) = ensure-ok (same_integer z (pos 1)) 0 (ok p.1) v k₂ in
    binary-ok sub t p h ∙ ap₂ (λ (a b : Term). app sub (cons a (cons b nil))) (as_constant-ok p.0 z h₂ ∙ ap num (same_integer-eq z (pos 1) h₃)) (ok-inj k₃)

unfoldable pub bit_of : Assignment → Term → Bool
bit_of σ (num z) = false
bit_of σ (var x) = σ x
bit_of σ (app o ts) = false

unfoldable pub lit_val : Assignment → Lit → Bool
lit_val σ l = cond l.negated (not (bit_of σ l.variable)) (bit_of σ l.variable)

pub lit_val-opp : (σ : Assignment) (l : Lit) → lit_val σ (opp l) ≡ not (lit_val σ l)
unfolding lit_val
lit_val-opp σ l = go l.negated (bit_of σ l.variable)
  where
    go : (c b : Bool) → cond (not c) (not b) b ≡ not (cond c (not b) b)
    go true true = refl
    go true false = refl
    go false true = refl
    go false false = refl

pub names-cons : (e : Entry) (E : List Entry) → T (all_names (e ∷ E)) → T (is_name e.lit.variable) × T (all_names E)
unfolding all_names all
names-cons e E t = (and_l (is_name e.lit.variable) _ t, and_r (is_name e.lit.variable) _ t)

-- the term v in a variable's place, read as a literal over a name
pub record IsLit (σ : Assignment) (v : Term) : Type 0 where
  pub value : val σ v ≡ bit (lit_val σ (lit_of v))
  pub arith : T (is_arithmetic v)

lit-name : (σ : Assignment) (v : Term) → T (is_name v) → (val σ v ≡ bit (bit_of σ v)) × T (is_arithmetic v)
unfolding is_name val bit_of is_arithmetic
lit-name σ (num z) t = absurd t
lit-name σ (var x) t = (refl, tt)
lit-name σ (app o ts) t = absurd t

neg-bit : (b : Bool) → pos 1 -ℤ (bit b +ℤ pos 0) ≡ bit (not b)
neg-bit true = refl
neg-bit false = refl

neg_value : (σ : Assignment) (w : Term) → val σ w ≡ bit (bit_of σ w) → val σ (app sub (cons (num (pos 1)) (cons w nil))) ≡ bit (not (bit_of σ w))
unfolding val vals val_op less_z sum_z
neg_value σ w h = rw h (neg-bit (bit_of σ w))

neg_arith : (w : Term) → T (is_arithmetic w) → T (is_arithmetic (app sub (cons (num (pos 1)) (cons w nil))))
unfolding is_arithmetic are_arithmetic arithmetic_op
neg_arith w a = and_mk (is_arithmetic w) true a tt

pub lit-ok : (σ : Assignment) (v : Term) → T (is_name (lit_of v).variable) → IsLit σ v
unfolding lit_of lit_if lit_val
lit-ok σ v t = record { value = (go (neg_of v) refl t).0; arith = (go (neg_of v) refl t).1 }
  where
    go : (r : Res Term) → neg_of v ≡ r → T (is_name (lit_if v r).variable) → (val σ v ≡ bit (lit_val σ (lit_if v r))) × T (is_arithmetic v)
    go (ok w) q t =
        let (h, a) = lit-name σ w t in
        (ap (val σ) (neg_of-ok v w q) ∙ neg_value σ w h, subst (λ (u : Term). T (is_arithmetic u)) (sym (neg_of-ok v w q)) (neg_arith w a))
    go (bad n) q t = lit-name σ v t

pub prod-bit : (c : ℤ) (b : Bool) → prod_z (c ∷ (bit b ∷ [])) ≡ scale b c
unfolding prod_z scale up dn
prod-bit c true = omega (int, mul_parts c (pos 1))
prod-bit c false = omega (int, mul_parts c (pos 0))

pub record TermRead (σ : Assignment) (t : Term) (e : Entry) : Type 0 where
  pub value : val σ t ≡ scale (lit_val σ e.lit) e.coefficient
  pub arith : T (is_arithmetic t)

pub term-read : (σ : Assignment) (c : ℤ) (v : Term) → IsLit σ v → TermRead σ (app mul (cons (num c) (cons v nil))) (entry (lit_of v) c)
unfolding val vals val_op is_arithmetic are_arithmetic arithmetic_op
term-read σ c v l = record { value = rw l.value (prod-bit c (lit_val σ (lit_of v))); arith = and_mk (is_arithmetic v) true l.arith tt }

pub term-ok : (σ : Assignment) (t : Term) (e : Entry) → summand t ≡ ok e → T (is_name e.lit.variable) → TermRead σ t e
unfolding summand
term-ok σ t e q n =
    let (p, h, k) = bind_ok (or_bad 26 (binary mul t)) _ e q in
    let (c, h₂, k₂) = bind_ok (or_bad 24 (as_constant p.0)) _ e k in
    let d : t ≡ app mul (cons (num c) (cons p.1 nil)) = binary-ok mul t p (or_bad-ok 26 (binary mul t) p h) ∙ ap (λ (x : Term). app mul (cons x (cons p.1 nil))) (as_constant-ok p.0 c (or_bad-ok 24 (as_constant p.0) c h₂)) in
    let g : entry (lit_of p.1) c ≡ e = ok-inj k₂ in
    let l : IsLit σ p.1 = lit-ok σ p.1 (subst (λ (x : Entry). T (is_name x.lit.variable)) (sym g) n) in
    subst₂ (TermRead σ) (sym d) g (term-read σ c p.1 l)

names-put : (k : Lit) (a : ℤ) (E : List Entry) → T (all_names (put k a E)) → T (is_name k.variable) × T (all_names E)
unfolding all_names all put
names-put k a [] t = (and_l (is_name k.variable) true t, tt)
names-put k a (e ∷ E) t = go (same_lit k e.lit) (same? k e.lit) t (names-put k a E)
  where
    go : (c : Bool) → Same k e.lit c → T (all_names (cond c (entry e.lit (e.coefficient +ℤ a) ∷ E) (e ∷ put k a E))) → (T (all_names (put k a E)) → T (is_name k.variable) × T (all_names E)) → T (is_name k.variable) × T (all_names (e ∷ E))
    go true (same p) t ih = (rw p (and_l (is_name e.lit.variable) _ t), t)
    go false s t ih =
        let (x, y) = ih (and_r (is_name e.lit.variable) _ t) in
        (x, and_mk (is_name e.lit.variable) _ (and_l (is_name e.lit.variable) _ t) y)

pub record Summed (σ : Assignment) (ts : Terms) (acc E : List Entry) : Type 0 where
  pub before : T (all_names acc)
  pub value : total (lit_val σ) E ≡ sum_z (vals σ ts) +ℤ total (lit_val σ) acc
  pub arith : T (are_arithmetic ts)

pub all-ok : (σ : Assignment) (ts : Terms) (acc E : List Entry) → summands ts acc ≡ ok E → T (all_names E) → Summed σ ts acc E
unfolding summands vals sum_z are_arithmetic
all-ok σ nil acc E q n = record { before = subst (λ (x : List Entry). T (all_names x)) (sym (ok-inj q)) n; value = rw (+ℤ_idl, ← ok-inj q) refl; arith = tt }
all-ok σ (cons t ts) acc E q n =
    let (e, h, k) = bind_ok (summand t) _ E q in
    let s = all-ok σ ts (put e.lit e.coefficient acc) E k n in
    let (m, b) = names-put e.lit e.coefficient acc s.before in
    let r = term-ok σ t e h m in
    let x = scale (lit_val σ e.lit) e.coefficient in
    let y = sum_z (vals σ ts) in
    let z = total (lit_val σ) acc in
    record {
      before = b;
      value = s.value ∙ rw (total-put, r.value) (omega (int, add_parts x z, add_parts y (x +ℤ z), add_parts x y, add_parts (x +ℤ y) z));
      arith = and_mk (is_arithmetic t) _ r.arith s.arith;
    }

pub all-distinct : (ts : Terms) (acc E : List Entry) → summands ts acc ≡ ok E → Distinct acc → Distinct E
unfolding summands
all-distinct nil acc E q d = subst Distinct (ok-inj q) d
all-distinct (cons t ts) acc E q d =
    let (e, h, k) = bind_ok (summand t) _ E q in
    all-distinct ts (put e.lit e.coefficient acc) E k (distinct-put e.lit e.coefficient acc d)

pub record SumRead (σ : Assignment) (t : Term) (E : List Entry) : Type 0 where
  pub value : val σ t ≡ total (lit_val σ) E
  pub arith : T (is_arithmetic t)

-- a term against its summands
pub split-val : (σ : Assignment) (t : Term) → val σ t ≡ sum_z (vals σ (split_summation t))
unfolding split_summation children_or val vals sum_z val_op
split-val σ t = go (arguments_of add t) refl
  where
    go : (r : Res Terms) → arguments_of add t ≡ r → val σ t ≡ sum_z (vals σ (children_or t r))
    go (ok ts) q = rw (arguments_of-ok add t ts q) refl
    go (bad n) q = sym (+ℤ_idr (val σ t))

pub split_arith : (t : Term) → T (are_arithmetic (split_summation t)) → T (is_arithmetic t)
unfolding split_summation children_or is_arithmetic are_arithmetic arithmetic_op
split_arith t = go (arguments_of add t) refl
  where
    go : (r : Res Terms) → arguments_of add t ≡ r → T (are_arithmetic (children_or t r)) → T (is_arithmetic t)
    go (ok ts) q h = rw (arguments_of-ok add t ts q) h
    go (bad n) q h = and_l (is_arithmetic t) true h

lone-ok : (ts : Terms) (z : ℤ) → lone_constant ts ≡ ok z → ts ≡ cons (num z) nil
unfolding lone_constant
lone-ok nil z q = absurd (ok-bad q)
lone-ok (cons t nil) z q = ap (λ (x : Term). cons x nil) (as_constant-ok t z q)
lone-ok (cons t (cons u r)) z q = absurd (ok-bad q)

pub sum-distinct : (t : Term) (E : List Entry) → pb_sum t ≡ ok E → Distinct E
unfolding pb_sum sum_or Distinct
sum-distinct t E q = go (lone_constant (split_summation t)) (ensure-ok (leb (count (split_summation t)) max_summands) 40 _ E q).1
  where
    go : (r : Res ℤ) → sum_or (split_summation t) r ≡ ok E → Distinct E
    go (ok z) q = subst Distinct (ok-inj (ensure-ok (same_integer z (pos 0)) 25 _ E q).1) tt
    go (bad n) q = all-distinct (split_summation t) [] E q tt

pub sum-ok : (σ : Assignment) (t : Term) (E : List Entry) → pb_sum t ≡ ok E → T (all_names E) → SumRead σ t E
unfolding pb_sum sum_or total sum_z vals val are_arithmetic is_arithmetic
sum-ok σ t E q n = go (lone_constant (split_summation t)) refl (ensure-ok (leb (count (split_summation t)) max_summands) 40 _ E q).1
  where
    go : (r : Res ℤ) → lone_constant (split_summation t) ≡ r → sum_or (split_summation t) r ≡ ok E → SumRead σ t E
    go (ok z) h q =
        let (b, k) = ensure-ok (same_integer z (pos 0)) 25 _ E q in
        let w : split_summation t ≡ cons (num (pos 0)) nil = lone-ok (split_summation t) z h ∙ ap (λ (y : ℤ). cons (num y) nil) (same_integer-eq z (pos 0) b) in
        record { value = split-val σ t ∙ rw (w, ← ok-inj k) zero_val; arith = split_arith t (rw w zero_arith) }
      where
        zero_val : sum_z (vals σ (cons (num (pos 0)) nil)) ≡ total (lit_val σ) []
        zero_val = refl

        zero_arith : T (are_arithmetic (cons (num (pos 0)) nil))
        zero_arith = tt
    go (bad m) h q =
        let s = all-ok σ (split_summation t) [] E q n in
        record { value = split-val σ t ∙ sym (s.value ∙ +ℤ_idr _); arith = split_arith t s.arith }

pub record IneqRead (σ : Assignment) (t : Term) (q : Inequality) : Type 0 where
  pub true_of : Satisfies σ (t ∷ []) → q.const ≤ℤ total (lit_val σ) q.sum
  pub of_true : q.const ≤ℤ total (lit_val σ) q.sum → Satisfies σ (t ∷ [])

pub ge_sat : (σ : Assignment) (s : Term) (k v : ℤ) → T (is_arithmetic s) → val σ s ≡ v → k ≤ℤ v → Satisfies σ (app ge (cons s (cons (num k) nil)) ∷ [])
unfolding Satisfies is_statement statement_op two truth truth_op pair_of are_arithmetic is_arithmetic vals val
ge_sat σ s k v a e h = (and_mk (is_arithmetic s) true a tt, rw e h.le)

pub sat_ge : (σ : Assignment) (s : Term) (k v : ℤ) → val σ s ≡ v → Satisfies σ (app ge (cons s (cons (num k) nil)) ∷ []) → k ≤ℤ v
unfolding Satisfies truth truth_op pair_of vals val
sat_ge σ s k v e h = record { le = rw e at h.1 }

pub ineq_distinct : (t : Term) (q : Inequality) → unwrap_inequality t ≡ ok q → Distinct q.sum
unfolding unwrap_inequality
ineq_distinct t q e =
    let (p, h, k) = bind_ok (or_bad 23 (binary ge t)) _ q e in
    let (z, h₂, k₂) = bind_ok (or_bad 24 (as_constant p.1)) _ q k in
    let (E, h₃, k₃) = bind_ok (pb_sum p.0) _ q k₂ in
    subst (λ (x : Inequality). Distinct x.sum) (ok-inj k₃) (sum-distinct p.0 E h₃)

pub ineq-ok : (σ : Assignment) (t : Term) (q : Inequality) → unwrap_inequality t ≡ ok q → T (all_names q.sum) → IneqRead σ t q
unfolding unwrap_inequality
ineq-ok σ t q e n =
    let (p, h, k) = bind_ok (or_bad 23 (binary ge t)) _ q e in
    let (z, h₂, k₂) = bind_ok (or_bad 24 (as_constant p.1)) _ q k in
    let (E, h₃, k₃) = bind_ok (pb_sum p.0) _ q k₂ in
    let r : record { sum = E; const = z } ≡ q = ok-inj k₃ in
    let d : t ≡ app ge (cons p.0 (cons (num z) nil)) = binary-ok ge t p (or_bad-ok 23 (binary ge t) p h) ∙ ap (λ (x : Term). app ge (cons p.0 (cons x nil))) (as_constant-ok p.1 z (or_bad-ok 24 (as_constant p.1) z h₂)) in
    let s : SumRead σ p.0 E = sum-ok σ p.0 E h₃ (subst (λ (x : Inequality). T (all_names x.sum)) (sym r) n) in
    subst₂ (IneqRead σ) (sym d) r (record { true_of = sat_ge σ p.0 z _ s.value; of_true = ge_sat σ p.0 z _ s.arith s.value })
