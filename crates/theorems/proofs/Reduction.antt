-- A sum of distinct keys is worth its reduction and the slack.
-- Each entry loses what it shares with its opposite; of two opposite literals one is true, and the slack counts each pair once.
use mathlib.Core.Path.{◌≡◌, refl, sym, ap, ap₂, subst, ◌∙◌}
use mathlib.Core.Bool.{Bool, true, false, not, cond, ◌&&◌, not-not}
use mathlib.Core.List.{List, [], ◌∷◌}
use lib.Dec.{T}
use lib.IntN.{ℤ, pos, ◌+ℤ◌, ◌-ℤ◌, +ℤ_idr}
use lib.Signed.{lt_z, ◌≤ℤ◌, ◌<ℤ◌, lt_z_yes, lt_z_no}
use Rattle.integer.specs.Integers.{min_z}
use Rattle.integer.proofs.Laws.{min-l, min_r, min_glb, min_comm}
use Rattle.integer.proofs.Parts.{int, link, ‹◌›, lit, ◌⊕◌, ◌⊖◌}
use Rattle.calculus.specs.Equality.{same_term}
use Rattle.calculus.specs.Entries.{Lit, Entry, entry}
use Rattle.calculus.specs.Sums.{same_lit, has, get, opp, keep, reduced_at, slack_at, reduce_by, slack_by, reduce_sum}
use Rattle.calculus.proofs.Booleans.{beq_not}
use Rattle.theorems.proofs.SumLaws.{scale, scale-add, Distinct, total, total_ext, recoef, distinct_recoef, get-recoef}

pub keep-min : (x y : ℤ) → keep x y +ℤ min_z x y ≡ x
unfolding keep
keep-min x y = go (lt_z y x) (λ t. lt_z_yes t) (λ t. lt_z_no t)
  where
    go : (c : Bool) → (T c → y <ℤ x) → (T (not c) → x ≤ℤ y) → cond c (x -ℤ y) (pos 0) +ℤ min_z x y ≡ x
    go true f g = let h : y <ℤ x = f tt in omega (int, min_r x y, min_glb {a = x} {b = y} {c = y} (omega int) (omega int), link (‹ x › ⊖ ‹ y › ⊕ ‹ min_z x y ›))
    go false f g = let h : x ≤ℤ y = g tt in omega (int, min-l x y, min_glb {a = x} {b = y} {c = x} (omega int) h, link (lit 0 ⊕ ‹ min_z x y ›))

pub opp-opp : (l : Lit) → opp (opp l) ≡ l
opp-opp l = let p : not (not l.negated) ≡ l.negated = not-not l.negated in λ i. record { variable = l.variable; negated = p i }

-- ---- what an entry shares with its opposite
shared : List Entry → Entry → ℤ
shared E e = cond (has (opp e.lit) E) (min_z e.coefficient (get (opp e.lit) E)) (pos 0)

reduced_shared : (E : List Entry) (e : Entry) → reduced_at E e +ℤ shared E e ≡ e.coefficient
unfolding reduced_at shared
reduced_shared E e = go (has (opp e.lit) E)
  where
    go : (c : Bool) → cond c (keep e.coefficient (get (opp e.lit) E)) e.coefficient +ℤ cond c (min_z e.coefficient (get (opp e.lit) E)) (pos 0) ≡ e.coefficient
    go true = keep-min e.coefficient (get (opp e.lit) E)
    go false = +ℤ_idr e.coefficient

total-shared : (ν : Lit → Bool) (E F : List Entry) → total ν F ≡ total ν (reduce_by E F) +ℤ total ν (recoef (shared E) F)
unfolding total reduce_by recoef
total-shared ν E [] = refl
total-shared ν E (e ∷ F) =
    let a = scale (ν e.lit) (reduced_at E e) in
    let b = scale (ν e.lit) (shared E e) in
    let r = total ν (reduce_by E F) in
    let s = total ν (recoef (shared E) F) in
    let h : scale (ν e.lit) e.coefficient ≡ a +ℤ b = ap (scale (ν e.lit)) (sym (reduced_shared E e)) ∙ scale-add (ν e.lit) (reduced_at E e) (shared E e) in
    rw (h, total-shared ν E F) (omega (int, link (‹ a › ⊕ ‹ b › ⊕ (‹ r › ⊕ ‹ s ›)), link (‹ a › ⊕ ‹ r › ⊕ (‹ b › ⊕ ‹ s ›))))

-- the opposite shares the same
cond_swap : (a b : Bool) (x y : ℤ) → x ≡ y → cond a (cond b x (pos 0)) (pos 0) ≡ cond b (cond a y (pos 0)) (pos 0)
cond_swap true true x y e = e
cond_swap true false x y e = refl
cond_swap false true x y e = refl
cond_swap false false x y e = refl

get-shared : (E : List Entry) (k : Lit) → get k (recoef (shared E) E) ≡ get (opp k) (recoef (shared E) E)
unfolding shared
get-shared E k =
    get-recoef (shared E) k E
    ∙ cond_swap (has k E) (has (opp k) E) _ _ (min_comm (get k E) (get (opp k) E))
    ∙ sym (ap (λ (l : Lit). cond (has (opp k) E) (cond (has l E) (min_z (get (opp k) E) (get l E)) (pos 0)) (pos 0)) (opp-opp k))
    ∙ sym (get-recoef (shared E) (opp k) E)

-- ---- every literal for its opposite
unfoldable pub flips : List Entry → List Entry
flips [] = []
flips (e ∷ E) = entry (opp e.lit) e.coefficient ∷ flips E

same-opp : (k l : Lit) → same_lit k (opp l) ≡ same_lit (opp k) l
unfolding same_lit
same-opp k l = ap (λ (b : Bool). same_term k.variable l.variable && b) (beq_not k.negated l.negated)

has-flips : (k : Lit) (E : List Entry) → has k (flips E) ≡ has (opp k) E
unfolding flips has
has-flips k [] = refl
has-flips k (e ∷ E) = ap₂ (λ (c d : Bool). cond c true d) (same-opp k e.lit) (has-flips k E)

pub get-flips : (k : Lit) (E : List Entry) → get k (flips E) ≡ get (opp k) E
unfolding flips get
get-flips k [] = refl
get-flips k (e ∷ E) = ap₂ (λ (c : Bool) (z : ℤ). cond c e.coefficient z) (same-opp k e.lit) (get-flips k E)

pub distinct_flips : (E : List Entry) → Distinct E → Distinct (flips E)
unfolding flips Distinct
distinct_flips [] d = tt
distinct_flips (e ∷ E) d = (subst (λ (b : Bool). T (not b)) (sym (has-flips (opp e.lit) E ∙ ap (λ (l : Lit). has l E) (opp-opp e.lit))) d.0, distinct_flips E d.1)

-- ---- the slack
plain : Lit → Bool
plain l = not l.negated

slack-plain : (E F : List Entry) → total plain (recoef (shared E) F) ≡ slack_by E F
unfolding total recoef slack_by slack_at shared plain scale
slack-plain E [] = refl
slack-plain E (e ∷ F) = ap₂ ◌+ℤ◌ (go (not e.lit.negated) (has (opp e.lit) E)) (slack-plain E F)
  where
    m : ℤ
    m = min_z e.coefficient (get (opp e.lit) E)

    go : (a b : Bool) → scale a (cond b m (pos 0)) ≡ cond (a && b) m (pos 0)
    go true b = refl
    go false b = refl

module _ (ν : Lit → Bool) (ν-opp : (l : Lit) → ν (opp l) ≡ not (ν l)) where
  on-plain : Lit → Bool
  on-plain l = ν l && plain l

  on-negated : Lit → Bool
  on-negated l = ν l && l.negated

  split : (E : List Entry) → total ν E ≡ total on-plain E +ℤ total on-negated E
  unfolding total on-plain on-negated plain scale
  split [] = refl
  split (e ∷ E) =
      let c = e.coefficient in
      let x = total on-plain E in
      let y = total on-negated E in
      rw (split E) (go (ν e.lit) e.lit.negated c x y)
    where
      go : (a n : Bool) (c x y : ℤ) → scale a c +ℤ (x +ℤ y) ≡ (scale (a && not n) c +ℤ x) +ℤ (scale (a && n) c +ℤ y)
      go true true c x y = omega (int, link (‹ c › ⊕ (‹ x › ⊕ ‹ y ›)), link (lit 0 ⊕ ‹ x › ⊕ (‹ c › ⊕ ‹ y ›)))
      go true false c x y = omega (int, link (‹ c › ⊕ (‹ x › ⊕ ‹ y ›)), link (‹ c › ⊕ ‹ x › ⊕ (lit 0 ⊕ ‹ y ›)))
      go false n c x y = omega (int, link (lit 0 ⊕ (‹ x › ⊕ ‹ y ›)), link (lit 0 ⊕ ‹ x › ⊕ (lit 0 ⊕ ‹ y ›)))

  -- the plain literals, each counted once: where it is true, and where its opposite is
  meet : (E : List Entry) → total on-plain E +ℤ total on-negated (flips E) ≡ total plain E
  unfolding total flips on-plain on-negated plain scale
  meet [] = refl
  meet (e ∷ E) = go (ν e.lit) (ν (opp e.lit)) (ν-opp e.lit) (not e.lit.negated) e.coefficient (meet E)
    where
      x : ℤ
      x = total on-plain E

      y : ℤ
      y = total on-negated (flips E)

      z : ℤ
      z = total plain E

      go : (a b : Bool) → b ≡ not a → (p : Bool) (c : ℤ) → x +ℤ y ≡ z → (scale (a && p) c +ℤ x) +ℤ (scale (b && p) c +ℤ y) ≡ scale p c +ℤ z
      go true b e p c h = rw (e, ← h) (by p)
        where
          by : (p : Bool) → (scale p c +ℤ x) +ℤ (pos 0 +ℤ y) ≡ scale p c +ℤ (x +ℤ y)
          by p = omega (int, link (‹ scale p c › ⊕ ‹ x › ⊕ (lit 0 ⊕ ‹ y ›)), link (‹ scale p c › ⊕ (‹ x › ⊕ ‹ y ›)))
      go false b e p c h = rw (e, ← h) (by p)
        where
          by : (p : Bool) → (pos 0 +ℤ x) +ℤ (scale p c +ℤ y) ≡ scale p c +ℤ (x +ℤ y)
          by p = omega (int, link (lit 0 ⊕ ‹ x › ⊕ (‹ scale p c › ⊕ ‹ y ›)), link (‹ scale p c › ⊕ (‹ x › ⊕ ‹ y ›)))

  slack-total : (E : List Entry) → Distinct E → total ν (recoef (shared E) E) ≡ slack_by E E
  slack-total E d =
      let A = recoef (shared E) E in
      let d_a : Distinct A = distinct_recoef (shared E) E d in
      split A
      ∙ ap (λ (z : ℤ). total on-plain A +ℤ z) (total_ext on-negated A (flips A) d_a (distinct_flips A d_a) (λ k. get-shared E k ∙ sym (get-flips k A)))
      ∙ meet A ∙ slack-plain E E

  pub total-reduce : (E : List Entry) → Distinct E → total ν (reduce_sum E).sum +ℤ (reduce_sum E).slack ≡ total ν E
  unfolding reduce_sum
  total-reduce E d = ap (λ (z : ℤ). total ν (reduce_by E E) +ℤ z) (sym (slack-total E d)) ∙ sym (total-shared ν E E)

-- the keys stay
reduce_recoef : (E F : List Entry) → reduce_by E F ≡ recoef (reduced_at E) F
unfolding reduce_by recoef
reduce_recoef E [] = refl
reduce_recoef E (e ∷ F) = ap (λ (G : List Entry). entry e.lit (reduced_at E e) ∷ G) (reduce_recoef E F)

pub distinct_reduce : (E : List Entry) → Distinct E → Distinct (reduce_sum E).sum
unfolding reduce_sum
distinct_reduce E d = rw reduce_recoef (distinct_recoef (reduced_at E) E d)
