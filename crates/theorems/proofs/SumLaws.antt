-- Laws of entry lists: keys, coefficients, totals under a valuation of the literals.
use mathlib.Core.Path.{◌≡◌, refl, sym, ap, ap₂, subst, ◌∙◌}
use mathlib.Core.Bool.{Bool, true, false, not, cond}
use mathlib.Core.List.{List, [], ◌∷◌}
use lib.Dec.{T}
use lib.IntN.{ℤ, pos, ◌+ℤ◌}
use Rattle.integer.proofs.Parts.{add_parts, int}
use Rattle.calculus.specs.Equality.{same_term}
use Rattle.calculus.specs.Entries.{Entry, Lit, entry}
use Rattle.calculus.specs.Sums.{get, has, put, same_lit}
use Rattle.calculus.proofs.Booleans.{and_l, and_r, and_mk, beq_eq, beq_refl}
use Rattle.calculus.proofs.TermLaws.{same_term-eq, same_term-refl}

pub same_lit-eq : (a b : Lit) → T (same_lit a b) → a ≡ b
unfolding same_lit
same_lit-eq a b t =
    let p : a.variable ≡ b.variable = same_term-eq a.variable b.variable (and_l (same_term a.variable b.variable) _ t) in
    let q : a.negated ≡ b.negated = beq_eq a.negated b.negated (and_r (same_term a.variable b.variable) _ t) in
    λ i. record { variable = p i; negated = q i }

pub same_lit-refl : (a : Lit) → T (same_lit a a)
unfolding same_lit
same_lit-refl a = and_mk (same_term a.variable a.variable) _ (same_term-refl a.variable) (beq_refl a.negated)

-- what a coefficient adds where its literal is true
unfoldable pub scale : Bool → ℤ → ℤ
scale true a = a
scale false a = pos 0

pub scale-add : (b : Bool) (x y : ℤ) → scale b (x +ℤ y) ≡ scale b x +ℤ scale b y
unfolding scale
scale-add true x y = refl
scale-add false x y = refl

pub scale_zero : (b : Bool) → scale b (pos 0) ≡ pos 0
unfolding scale
scale_zero true = refl
scale_zero false = refl

-- without the first entry of a key
unfoldable pub del : Lit → List Entry → List Entry
del k [] = []
del k (e ∷ E) = cond (same_lit k e.lit) E (e ∷ del k E)

-- no key stands twice
unfoldable pub Distinct : List Entry → Type 0
Distinct [] = Unit {0}
Distinct (e ∷ E) = T (not (has e.lit E)) × Distinct E

-- the value of a sum, its literals valued by ν
unfoldable pub total : (Lit → Bool) → List Entry → ℤ
total ν [] = pos 0
total ν (e ∷ E) = scale (ν e.lit) e.coefficient +ℤ total ν E

module _ (ν : Lit → Bool) where
  pub total-put : (k : Lit) (a : ℤ) (E : List Entry) → total ν (put k a E) ≡ scale (ν k) a +ℤ total ν E
  unfolding total put
  total-put k a [] = refl
  total-put k a (e ∷ E) = go (same_lit k e.lit) (same_lit-eq k e.lit) (total-put k a E)
    where
      go : (c : Bool) → (T c → k ≡ e.lit) → total ν (put k a E) ≡ scale (ν k) a +ℤ total ν E →
          total ν (cond c (entry e.lit (e.coefficient +ℤ a) ∷ E) (e ∷ put k a E)) ≡ scale (ν k) a +ℤ (scale (ν e.lit) e.coefficient +ℤ total ν E)
      go true f ih =
          let x = scale (ν e.lit) e.coefficient in
          let y = scale (ν e.lit) a in
          let t = total ν E in
          rw (f tt, scale-add) (omega (int, add_parts x y, add_parts (x +ℤ y) t, add_parts x t, add_parts y (x +ℤ t)))
      go false f ih =
          let x = scale (ν e.lit) e.coefficient in
          let y = scale (ν k) a in
          let t = total ν E in
          rw ih (omega (int, add_parts y t, add_parts x (y +ℤ t), add_parts x t, add_parts y (x +ℤ t)))

  pub total-del : (k : Lit) (E : List Entry) → total ν E ≡ scale (ν k) (get k E) +ℤ total ν (del k E)
  unfolding total del get
  total-del k [] = rw scale_zero refl
  total-del k (e ∷ E) = go (same_lit k e.lit) (same_lit-eq k e.lit) (total-del k E)
    where
      go : (c : Bool) → (T c → k ≡ e.lit) → total ν E ≡ scale (ν k) (get k E) +ℤ total ν (del k E) →
          scale (ν e.lit) e.coefficient +ℤ total ν E ≡ scale (ν k) (cond c e.coefficient (get k E)) +ℤ total ν (cond c E (e ∷ del k E))
      go true f ih = rw (f tt) refl
      go false f ih =
          let x = scale (ν e.lit) e.coefficient in
          let y = scale (ν k) (get k E) in
          let t = total ν (del k E) in
          rw ih (omega (int, add_parts y t, add_parts x (y +ℤ t), add_parts x t, add_parts y (x +ℤ t)))

-- a test with what each answer tells
pub data Same (a b : Lit) : Bool → Type 0 where
  same : a ≡ b → Same a b true
  other : ¬ (a ≡ b) → Same a b false

pub same? : (a b : Lit) → Same a b (same_lit a b)
same? a b = go (same_lit a b) (same_lit-eq a b) (λ e. subst (λ (l : Lit). T (same_lit a l)) e (same_lit-refl a))
  where
    go : (c : Bool) → (T c → a ≡ b) → (a ≡ b → T c) → Same a b c
    go true f g = same (f tt)
    go false f g = other g

pub get-missing : (k : Lit) (E : List Entry) → T (not (has k E)) → get k E ≡ pos 0
unfolding has get
get-missing k [] h = refl
get-missing k (e ∷ E) h = go (same_lit k e.lit) (get-missing k E) h
  where
    go : (c : Bool) → (T (not (has k E)) → get k E ≡ pos 0) → T (not (cond c true (has k E))) → cond c e.coefficient (get k E) ≡ pos 0
    go true ih h = absurd h
    go false ih h = ih h

pub has-del : (j k : Lit) (E : List Entry) → T (not (has j E)) → T (not (has j (del k E)))
unfolding has del
has-del j k [] h = tt
has-del j k (e ∷ E) h = go (same_lit j e.lit) refl (same_lit k e.lit) (has-del j k E) h
  where
    go : (d : Bool) → same_lit j e.lit ≡ d → (c : Bool) → (T (not (has j E)) → T (not (has j (del k E)))) → T (not (cond d true (has j E))) → T (not (has j (cond c E (e ∷ del k E))))
    go true q c ih h = absurd h
    go false q true ih h = h
    go false q false ih h = rw q (ih h)

pub get-del-other : (j k : Lit) (E : List Entry) → ¬ (j ≡ k) → get j (del k E) ≡ get j E
unfolding get del
get-del-other j k [] n = refl
get-del-other j k (e ∷ E) n = go (same_lit k e.lit) (same_lit-eq k e.lit) (same_lit j e.lit) refl (same_lit-eq j e.lit) (get-del-other j k E n)
  where
    go : (c : Bool) → (T c → k ≡ e.lit) → (d : Bool) → same_lit j e.lit ≡ d → (T d → j ≡ e.lit) → get j (del k E) ≡ get j E → get j (cond c E (e ∷ del k E)) ≡ cond d e.coefficient (get j E)
    go true f true q g ih = absurd (n (g tt ∙ sym (f tt)))
    go true f false q g ih = refl
    go false f true q g ih = rw q refl
    go false f false q g ih = rw q ih

pub get-del-same : (k : Lit) (E : List Entry) → Distinct E → get k (del k E) ≡ pos 0
unfolding get del Distinct
get-del-same k [] d = refl
get-del-same k (e ∷ E) d = go (same_lit k e.lit) refl (same_lit-eq k e.lit) (get-del-same k E d.1)
  where
    go : (c : Bool) → same_lit k e.lit ≡ c → (T c → k ≡ e.lit) → get k (del k E) ≡ pos 0 → get k (cond c E (e ∷ del k E)) ≡ pos 0
    go true q f ih = get-missing k E (rw (f tt) d.0)
    go false q f ih = rw q ih

pub distinct_del : (k : Lit) (E : List Entry) → Distinct E → Distinct (del k E)
unfolding del Distinct
distinct_del k [] d = tt
distinct_del k (e ∷ E) d = go (same_lit k e.lit) (distinct_del k E d.1)
  where
    go : (c : Bool) → Distinct (del k E) → Distinct (cond c E (e ∷ del k E))
    go true ih = d.1
    go false ih = (has-del e.lit k E d.0, ih)

pub get-head : (e : Entry) (E : List Entry) → get e.lit (e ∷ E) ≡ e.coefficient
unfolding get
get-head e E = go (same_lit e.lit e.lit) (same_lit-refl e.lit)
  where
    go : (c : Bool) → T c → cond c e.coefficient (get e.lit E) ≡ e.coefficient
    go true t = refl
    go false t = absurd t

pub get-tail : (j : Lit) (e : Entry) (E : List Entry) → ¬ (j ≡ e.lit) → get j (e ∷ E) ≡ get j E
unfolding get
get-tail j e E n = go (same_lit j e.lit) (same_lit-eq j e.lit)
  where
    go : (c : Bool) → (T c → j ≡ e.lit) → cond c e.coefficient (get j E) ≡ get j E
    go true f = absurd (n (f tt))
    go false f = refl

-- the literals of a distinct list's tail
tail-get : (j : Lit) (e : Entry) (E C : List Entry) → Distinct (e ∷ E) → Distinct C → ((k : Lit) → get k (e ∷ E) ≡ get k C) → get j E ≡ get j (del e.lit C)
unfolding Distinct
tail-get j e E C d dc h = go (same_lit j e.lit) (same? j e.lit)
  where
    go : (c : Bool) → Same j e.lit c → get j E ≡ get j (del e.lit C)
    go true (same p) = rw p (get-missing e.lit E d.0 ∙ sym (get-del-same e.lit C dc))
    go false (other n) = sym (get-tail j e E n) ∙ h j ∙ sym (get-del-other j e.lit C n)

module _ (ν : Lit → Bool) where
  all-zero : (E : List Entry) → Distinct E → ((k : Lit) → get k E ≡ pos 0) → total ν E ≡ pos 0
  unfolding total Distinct
  all-zero [] d h = refl
  all-zero (e ∷ E) d h =
      let z : e.coefficient ≡ pos 0 = sym (get-head e E) ∙ h e.lit in
      let r : total ν E ≡ pos 0 = all-zero E d.1 (λ j. go j (same_lit j e.lit) (same? j e.lit)) in
      rw (z, scale_zero, r) refl
    where
      go : (j : Lit) (c : Bool) → Same j e.lit c → get j E ≡ pos 0
      go j true (same p) = rw p (get-missing e.lit E d.0)
      go j false (other n) = sym (get-tail j e E n) ∙ h j

  pub total_ext : (E C : List Entry) → Distinct E → Distinct C → ((k : Lit) → get k E ≡ get k C) → total ν E ≡ total ν C
  unfolding total Distinct get
  total_ext [] C d dc h = sym (all-zero C dc (λ k. sym (h k)))
  total_ext (e ∷ E) C d dc h =
      let r : total ν E ≡ total ν (del e.lit C) = total_ext E (del e.lit C) d.1 (distinct_del e.lit C dc) (λ j. tail-get j e E C d dc h) in
      let g : e.coefficient ≡ get e.lit C = sym (get-head e E) ∙ h e.lit in
      ap₂ (λ (x y : ℤ). scale (ν e.lit) x +ℤ y) g r ∙ sym (total-del ν e.lit C)

has-put : (j k : Lit) (a : ℤ) (E : List Entry) → ¬ (j ≡ k) → T (not (has j E)) → T (not (has j (put k a E)))
unfolding has put
has-put j k a [] n h = go (same_lit j k) (same_lit-eq j k)
  where
    go : (c : Bool) → (T c → j ≡ k) → T (not (cond c true false))
    go true f = absurd (n (f tt))
    go false f = tt
has-put j k a (e ∷ E) n h = go (same_lit j e.lit) refl (same_lit k e.lit) (has-put j k a E n) h
  where
    go : (d : Bool) → same_lit j e.lit ≡ d → (c : Bool) → (T (not (has j E)) → T (not (has j (put k a E)))) → T (not (cond d true (has j E))) → T (not (has j (cond c (entry e.lit (e.coefficient +ℤ a) ∷ E) (e ∷ put k a E))))
    go true q c ih h = absurd h
    go false q true ih h = rw q h
    go false q false ih h = rw q (ih h)

pub distinct-put : (k : Lit) (a : ℤ) (E : List Entry) → Distinct E → Distinct (put k a E)
unfolding put Distinct
distinct-put k a [] d = unfold has in (tt, tt)
distinct-put k a (e ∷ E) d = go (same_lit k e.lit) (same? k e.lit) (distinct-put k a E d.1)
  where
    go : (c : Bool) → Same k e.lit c → Distinct (put k a E) → Distinct (cond c (entry e.lit (e.coefficient +ℤ a) ∷ E) (e ∷ put k a E))
    go true s ih = d
    go false (other n) ih = (has-put e.lit k a E (λ p. n (sym p)) d.0, ih)

-- ---- new coefficients under the same keys
unfoldable pub recoef : (Entry → ℤ) → List Entry → List Entry
recoef g [] = []
recoef g (e ∷ E) = entry e.lit (g e) ∷ recoef g E

module _ (g : Entry → ℤ) where
  pub has-recoef : (k : Lit) (E : List Entry) → has k (recoef g E) ≡ has k E
  unfolding recoef has
  has-recoef k [] = refl
  has-recoef k (e ∷ E) = ap (cond (same_lit k e.lit) true) (has-recoef k E)

  pub distinct_recoef : (E : List Entry) → Distinct E → Distinct (recoef g E)
  unfolding recoef Distinct
  distinct_recoef [] d = tt
  distinct_recoef (e ∷ E) d = (subst (λ (b : Bool). T (not b)) (sym (has-recoef e.lit E)) d.0, distinct_recoef E d.1)

  pub get-recoef : (k : Lit) (E : List Entry) → get k (recoef g E) ≡ cond (has k E) (g (entry k (get k E))) (pos 0)
  unfolding recoef get has
  get-recoef k [] = refl
  get-recoef k (e ∷ E) = go (same_lit k e.lit) (same_lit-eq k e.lit) (get-recoef k E)
    where
      go : (c : Bool) → (T c → k ≡ e.lit) → get k (recoef g E) ≡ cond (has k E) (g (entry k (get k E))) (pos 0) →
          cond c (g e) (get k (recoef g E)) ≡ cond (cond c true (has k E)) (g (entry k (cond c e.coefficient (get k E)))) (pos 0)
      go true f ih = rw (f tt) refl
      go false f ih = ih
