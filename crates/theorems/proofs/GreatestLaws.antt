-- The greatest value of a sum of distinct keys: no assignment goes beyond it, and one reaches it (02, No. 6).
-- A sum is worth, entry by entry, what its true literals have, counted for a variable with both literals at the plain one.
use mathlib.Core.Path.{◌≡◌, refl, sym, ap, subst, ◌∙◌}
use mathlib.Core.Bool.{Bool, true, false, not, cond, ◌&&◌}
use mathlib.Core.List.{List, [], ◌∷◌}
use Prim.Native.Nat.{ℕ}
use lib.Dec.{T}
use lib.IntN.{ℤ, pos, ◌+ℤ◌}
use lib.Signed.{lt_z, ◌≤ℤ◌, ◌<ℤ◌, lt_z_yes, lt_z_no}
use Rattle.integer.specs.Integers.{max_z}
use Rattle.integer.proofs.Laws.{max-l, max_r}
use Rattle.integer.proofs.Parts.{int, link, ‹◌›, lit, ◌⊕◌}
use Rattle.calculus.specs.Entries.{Lit, Entry, entry}
use Rattle.calculus.specs.Greatest.{greatest_at, greatest_by, greatest}
use Rattle.calculus.specs.Matching.{is_name}
use Rattle.calculus.specs.Sums.{has, get, opp, all_names}
use Rattle.calculus.specs.Terms.{Term, num, var, app}
use Rattle.calculus.specs.Truth.{Assignment}
use Rattle.theorems.proofs.Reading.{bit_of, lit_val, lit_val-opp}
use Rattle.theorems.proofs.Reduction.{opp-opp, flips, get-flips, distinct_flips}
use Rattle.theorems.proofs.RulesSound.{all-at}
use Rattle.theorems.proofs.SumLaws.{scale, Distinct, total, total_ext, get-missing, recoef, distinct_recoef, get-recoef}

-- ---- what an entry counts for under a valuation of literals
module _ (ν : Lit → Bool) (ν-opp : (l : Lit) → ν (opp l) ≡ not (ν l)) where
  always : Lit → Bool
  always l = true

  on-negated : Lit → Bool
  on-negated l = ν l && l.negated

  -- the true one of a variable's literals
  worth : List Entry → Entry → ℤ
  worth E e = cond (e.lit.negated && has (opp e.lit) E) (pos 0) (cond (ν e.lit) e.coefficient (get (opp e.lit) E))

  -- the coefficient where the opposite is a key, and the opposite's
  paired : List Entry → Entry → ℤ
  paired E e = cond (has (opp e.lit) E) e.coefficient (pos 0)

  facing : List Entry → Entry → ℤ
  facing E e = get (opp e.lit) E

  one_entry : (E : List Entry) (e : Entry) → worth E e +ℤ scale (on-negated e.lit) (paired E e) ≡ scale (ν e.lit) e.coefficient +ℤ scale (on-negated (opp e.lit)) (facing E e)
  unfolding worth paired facing on-negated scale
  one_entry E e = go e.lit.negated (has (opp e.lit) E) (ν e.lit) (ν (opp e.lit)) (ν-opp e.lit) (get-missing (opp e.lit) E)
    where
      c : ℤ
      c = e.coefficient

      g : ℤ
      g = get (opp e.lit) E

      go : (n h a b : Bool) → b ≡ not a → (T (not h) → g ≡ pos 0) →
          cond (n && h) (pos 0) (cond a c g) +ℤ scale (a && n) (cond h c (pos 0)) ≡ scale a c +ℤ scale (b && not n) g
      go true true true b e k = rw e (omega (int, link (lit 0 ⊕ ‹ c ›), link (‹ c › ⊕ lit 0)))
      go true true false b e k = rw e refl
      go true false true b e k = rw e refl
      go true false false b e k = rw (e, k tt) refl
      go false h true b e k = rw e refl
      go false h false b e k = rw e (omega (int, link (‹ g › ⊕ lit 0), link (lit 0 ⊕ ‹ g ›)))

  all-entries : (E F : List Entry) → total always (recoef (worth E) F) +ℤ total on-negated (recoef (paired E) F) ≡ total ν F +ℤ total on-negated (flips (recoef (facing E) F))
  unfolding total recoef flips always scale
  all-entries E [] = refl
  all-entries E (e ∷ F) =
      let a = worth E e in
      let b = scale (on-negated e.lit) (paired E e) in
      let x = scale (ν e.lit) e.coefficient in
      let y = scale (on-negated (opp e.lit)) (facing E e) in
      let p = total always (recoef (worth E) F) in
      let q = total on-negated (recoef (paired E) F) in
      let r = total ν F in
      let s = total on-negated (flips (recoef (facing E) F)) in
      omega (int, one_entry E e, all-entries E F, link (‹ a › ⊕ ‹ b ›), link (‹ x › ⊕ ‹ y ›), link (‹ p › ⊕ ‹ q ›), link (‹ r › ⊕ ‹ s ›), link (‹ a › ⊕ ‹ p › ⊕ (‹ b › ⊕ ‹ q ›)), link (‹ x › ⊕ ‹ r › ⊕ (‹ y › ⊕ ‹ s ›)))

  -- a pair's coefficient is the one that its opposite faces
  same-pairs : (E : List Entry) (k : Lit) → get k (recoef (paired E) E) ≡ get k (flips (recoef (facing E) E))
  unfolding paired facing
  same-pairs E k =
      get-recoef (paired E) k E
      ∙ go (has k E) (has (opp k) E) (get-missing k E)
      ∙ ap (λ (l : Lit). cond (has (opp k) E) (get l E) (pos 0)) (sym (opp-opp k))
      ∙ sym (get-flips k (recoef (facing E) E) ∙ get-recoef (facing E) (opp k) E)
    where
      go : (a b : Bool) → (T (not a) → get k E ≡ pos 0) → cond a (cond b (get k E) (pos 0)) (pos 0) ≡ cond b (get k E) (pos 0)
      go true b f = refl
      go false true f = sym (f tt)
      go false false f = refl

  -- a sum is worth what its entries count for
  total-worth : (E : List Entry) → Distinct E → total always (recoef (worth E) E) ≡ total ν E
  total-worth E d =
      let q = total on-negated (recoef (paired E) E) in
      let s = total on-negated (flips (recoef (facing E) E)) in
      let p = total always (recoef (worth E) E) in
      let r = total ν E in
      let h : q ≡ s = total_ext on-negated (recoef (paired E) E) (flips (recoef (facing E) E)) (distinct_recoef (paired E) E d) (distinct_flips (recoef (facing E) E) (distinct_recoef (facing E) E d)) (same-pairs E) in
      omega (int, h, all-entries E E, link (‹ p › ⊕ ‹ q ›), link (‹ r › ⊕ ‹ s ›))

  worth-greatest : (E : List Entry) (e : Entry) → worth E e ≤ℤ greatest_at E e
  unfolding worth greatest_at
  worth-greatest E e = go (e.lit.negated && has (opp e.lit) E) (ν e.lit)
    where
      c : ℤ
      c = e.coefficient

      g : ℤ
      g = get (opp e.lit) E

      go : (a b : Bool) → cond a (pos 0) (cond b c g) ≤ℤ cond a (pos 0) (max_z c g)
      go true b = omega int
      go false true = max-l c g
      go false false = max_r c g

  by_entries : (E F : List Entry) → total always (recoef (worth E) F) ≤ℤ greatest_by E F
  unfolding total recoef always scale greatest_by
  by_entries E [] = omega int
  by_entries E (e ∷ F) =
      let a = worth E e in
      let p = total always (recoef (worth E) F) in
      let b = greatest_at E e in
      let q = greatest_by E F in
      omega (int, worth-greatest E e, by_entries E F, link (‹ a › ⊕ ‹ p ›), link (‹ b › ⊕ ‹ q ›))

  pub total-bound : (E : List Entry) → Distinct E → total ν E ≤ℤ greatest E
  unfolding greatest
  total-bound E d = subst (λ (z : ℤ). z ≤ℤ greatest_by E E) (total-worth E d) (by_entries E E)

  by_total : (E F : List Entry) → total always (recoef (greatest_at E) F) ≡ greatest_by E F
  unfolding total recoef always scale greatest_by
  by_total E [] = refl
  by_total E (e ∷ F) = ap (λ (z : ℤ). greatest_at E e +ℤ z) (by_total E F)

  -- where at each key the larger of both is counted, the sum is worth its greatest value
  total-reached : (E : List Entry) → Distinct E → ((k : Lit) → T (has k E) → cond (ν k) (get k E) (get (opp k) E) ≡ max_z (get k E) (get (opp k) E)) → total ν E ≡ greatest E
  unfolding greatest worth greatest_at
  total-reached E d h =
      sym (total-worth E d)
      ∙ total_ext always (recoef (worth E) E) (recoef (greatest_at E) E) (distinct_recoef (worth E) E d) (distinct_recoef (greatest_at E) E d)
      (λ k. get-recoef (worth E) k E ∙ go k (has k E) (h k) ∙ sym (get-recoef (greatest_at E) k E))
      ∙ by_total E E
    where
      go : (k : Lit) (b : Bool) → (T b → cond (ν k) (get k E) (get (opp k) E) ≡ max_z (get k E) (get (opp k) E)) →
          cond b (worth E (entry k (get k E))) (pos 0) ≡ cond b (greatest_at E (entry k (get k E))) (pos 0)
      go k true f = ap (cond (k.negated && has (opp k) E) (pos 0)) (f tt)
      go k false f = refl

-- ---- assignments
-- no assignment goes beyond the greatest value
pub greatest-bound : (σ : Assignment) (E : List Entry) → Distinct E → total (lit_val σ) E ≤ℤ greatest E
greatest-bound σ E d = total-bound (lit_val σ) (lit_val-opp σ) E d

-- each variable as its larger total asks
unfoldable pub best : List Entry → Assignment
best E x = not (lt_z (get (record { variable = var x; negated = false }) E) (get (record { variable = var x; negated = true }) E))

max-plain : (a b : ℤ) → cond (not (lt_z a b)) a b ≡ max_z a b
unfolding max_z
max-plain a b = go (lt_z a b)
  where
    go : (c : Bool) → cond (not c) a b ≡ cond c b a
    go true = refl
    go false = refl

max-negated : (a b : ℤ) → cond (not (not (lt_z b a))) a b ≡ max_z a b
unfolding max_z
max-negated a b = go (lt_z b a) (lt_z a b) (λ t. lt_z_yes t) (λ t. lt_z_yes t) (λ t. lt_z_no t) (λ t. lt_z_no t)
  where
    go : (c d : Bool) → (T c → b <ℤ a) → (T d → a <ℤ b) → (T (not c) → a ≤ℤ b) → (T (not d) → b ≤ℤ a) → cond (not (not c)) a b ≡ cond d b a
    go true true f g h k = let x : b <ℤ a = f tt in let y : a <ℤ b = g tt in omega int
    go true false f g h k = refl
    go false true f g h k = refl
    go false false f g h k = let x : a ≤ℤ b = h tt in let y : b ≤ℤ a = k tt in omega int

best_larger : (E : List Entry) (x : List ℕ) (n : Bool) → let k : Lit = record { variable = var x; negated = n } in cond (lit_val (best E) k) (get k E) (get (opp k) E) ≡ max_z (get k E) (get (opp k) E)
unfolding lit_val bit_of best
best_larger E x true = max-negated (get (record { variable = var x; negated = true }) E) (get (record { variable = var x; negated = false }) E)
best_larger E x false = max-plain (get (record { variable = var x; negated = false }) E) (get (record { variable = var x; negated = true }) E)

best-name : (E : List Entry) (v : Term) (n : Bool) → T (is_name v) → let k : Lit = record { variable = v; negated = n } in cond (lit_val (best E) k) (get k E) (get (opp k) E) ≡ max_z (get k E) (get (opp k) E)
unfolding is_name
best-name E (num z) n t = absurd t
best-name E (var x) n t = best_larger E x n
best-name E (app o ts) n t = absurd t

-- an assignment reaches it
pub greatest-reached : (E : List Entry) → Distinct E → T (all_names E) → total (lit_val (best E)) E ≡ greatest E
unfolding all_names
greatest-reached E d n = total-reached (lit_val (best E)) (lit_val-opp (best E)) E d (λ k h. best-name E k.variable k.negated (all-at (λ e. is_name e.lit.variable) k E n h))
