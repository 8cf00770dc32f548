-- The greatest value of a sum, entry by entry, and the ways out of the test of a clause: each is one law.
use mathlib.Core.Path.{◌≡◌, refl, sym, ap, ◌∙◌}
use mathlib.Core.Bool.{Bool, true, false, not, cond, ◌&&◌}
use mathlib.Core.List.{List, [], ◌∷◌, map}
use Prim.Native.Nat.{ℕ, ◌+◌, ◌*◌, ◌-◌, ◌≤◌, ◌<◌}
use native.Mathlib.Omega.{arith}
use lib.IntN.{ℤ, pos, ◌+ℤ◌, +ℤ_idr, +ℤ_assoc}
use lib.ListN.{length, get_or}
use lib.Signed.{lt_z}
use mir.Syntax.{w64}
use mir.Val.{to_z, of_z}
use Rattle.integer.specs.Integers.{max_z, Within}
use Rattle.integer.proofs.Fits.{within_more, within-pos, within-add, within-max}
use Rattle.calculus.specs.Entries.{Lit, Entry, Inequality}
use Rattle.calculus.specs.Greatest.{greatest_at, greatest_by, greatest, beyond, unreachable}
use Rattle.calculus.specs.Rules.{single}
use Rattle.calculus.specs.Sums.{has, get, opp, all_names, unwrap_inequality, max_summands}
use Rattle.calculus.specs.Terms.{Term}
use Rattle.calculus.specs.Words.{Res, ok, bad}
use Rattle.nodes.specs.Nodes.{Below}
use Rattle.nodes.proofs.Tables.{below_at}
use Rattle.matching.specs.Matched.{Text, term, Variable, key_of, variable_of, negated_of, lit_at}
use Rattle.matching.specs.Entries.{run, entry_at, entries, Under, NamesAre}
use Rattle.matching.specs.Places.{max_entries, placed}
use Rattle.matching.proofs.Checks.{bind-of, bind-bad}
use Rattle.matching.proofs.Matches.{kept, key-variable, key-literal}
use Rattle.matching.proofs.Places.{key-at, coefficient-at}
use Rattle.matching.proofs.Runs.{run_more, run_none}
use Rattle.sums.specs.Found.{FindIs, InequalityIs}
use Rattle.sums.specs.Lists.{index_of, Bounded, Fine, max_total}
use Rattle.sums.specs.Places.{slotted, Room, Keyed, Elsewhere}
use Rattle.sums.proofs.Places.{room-still}
use Rattle.sums.proofs.Runs.{has-yes, has_no, get_at, get_none}
use Rattle.marks.specs.Values.{GreatestAtIs, GreatestIs, ReachedIs, UnreachableIs}

-- ---- one entry
module _ (E : List Entry) (e : Entry) where
  -- what it adds, by whether it is negated, whether its opposite is there, and with what coefficient
  value_of : (b c : Bool) (z : ℤ) → e.lit.negated ≡ b → has (opp e.lit) E ≡ c → get (opp e.lit) E ≡ z → greatest_at E e ≡ cond (b && c) (pos 0) (max_z e.coefficient z)
  unfolding greatest_at
  value_of b c z p h g = go e.lit.negated (has (opp e.lit) E) (get (opp e.lit) E) p h g
    where
      go : (p q : Bool) (y : ℤ) → p ≡ b → q ≡ c → y ≡ z → cond (p && q) (pos 0) (max_z e.coefficient y) ≡ cond (b && c) (pos 0) (max_z e.coefficient z)
      go p q y f g h = rw (f, g, h)

-- without its opposite it adds the same, negated or not
alone : (b : Bool) (z : ℤ) → z ≡ cond (b && false) (pos 0) z
alone true z = refl
alone false z = refl

module _ {t : List ℕ} (cs : List ℤ) {ks : List ℕ} {n : ℕ} (i k : ℕ) {j : ℕ} (e : k ≡ key_of (variable_of (get_or ks i 0)) (not (negated_of (get_or ks i 0)))) (F : FindIs t ks n k j) (l : i < n) (b : Bounded max_total cs n) where
  module _ (x : Text t) (under : Under x.n ks n) where
    -- the key that was looked for is over the same variable, and is the opposite literal
    over : variable_of k < x.n
    over = rw (e, key-variable (variable_of (get_or ks i 0)) (not (negated_of (get_or ks i 0)))) (under i l)

    opposite : lit_at (term x) k ≡ opp (lit_at (term x) (get_or ks i 0))
    opposite = rw e (key-literal (term x) (variable_of (get_or ks i 0)) (not (negated_of (get_or ks i 0))))

    place : j ≡ index_of (opp (lit_at (term x) (get_or ks i 0))) (entries (term x) cs ks n)
    place = F.is x cs under over ∙ ap (λ (o : Lit). index_of o (entries (term x) cs ks n)) opposite

  pub value_alone : n ≤ j → (r : ℤ) → r ≡ max_z (get_or cs i (pos 0)) (pos 0) → GreatestAtIs t cs ks n i r
  value_alone h r d = record {
    is = λ x under. let p : index_of (opp (lit_at (term x) (get_or ks i 0))) (entries (term x) cs ks n) ≡ n = omega (arith, place x under, F.most) in
        d ∙ alone (negated_of (get_or ks i 0)) _ ∙ sym (value_of (entries (term x) cs ks n) (entry_at (term x) cs ks i) (negated_of (get_or ks i 0)) false (pos 0) refl
        (has_no (opp (lit_at (term x) (get_or ks i 0))) (entry_at (term x) cs ks) 0 n p) (get_none (opp (lit_at (term x) (get_or ks i 0))) (entry_at (term x) cs ks) 0 n p));
    within = rw d (within-max (b i l) (within-pos (omega arith)));
  }

  module _ (h : j < n) where
    value-both : (x : Text t) → Under x.n ks n → (q : Bool) → negated_of (get_or ks i 0) ≡ q → cond (q && true) (pos 0) (max_z (get_or cs i (pos 0)) (get_or cs j (pos 0))) ≡ greatest_at (entries (term x) cs ks n) (entry_at (term x) cs ks i)
    value-both x under q g =
        let p : index_of (opp (lit_at (term x) (get_or ks i 0))) (entries (term x) cs ks n) < n = omega (arith, place x under) in
        sym (value_of (entries (term x) cs ks n) (entry_at (term x) cs ks i) q true (get_or cs j (pos 0)) g
        (has-yes (opp (lit_at (term x) (get_or ks i 0))) (entry_at (term x) cs ks) 0 n p) (get_at (opp (lit_at (term x) (get_or ks i 0))) (entry_at (term x) cs ks) 0 n j p (omega (arith, place x under))))

    pub value-negated : negated_of (get_or ks i 0) ≡ true → (r : ℤ) → r ≡ pos 0 → GreatestAtIs t cs ks n i r
    value-negated g r d = record { is = λ x under. d ∙ value-both x under true g; within = rw d (within-pos (omega arith)) }

    pub value-plain : negated_of (get_or ks i 0) ≡ false → (r : ℤ) → r ≡ max_z (get_or cs i (pos 0)) (get_or cs j (pos 0)) → GreatestAtIs t cs ks n i r
    value-plain g r d = record { is = λ x under. d ∙ value-both x under false g; within = rw d (within-max (b i l) (b j h)) }

-- the same of the lent arrays, as the code reads them at a place
module _ {t : List ℕ} {at : ℕ} {ks sl : List ℕ} {n : ℕ} (K : Keyed t at ks sl n) (i : ℕ) (l : i < n) where
  pub variable-at : Variable t (variable_of (get_or ks (at + i) 0))
  variable-at = rw (key-at at ks i (omega (arith, K.fine.few))) at (K.fine.literals i l)

  pub opposite_at : (k : ℕ) → k ≡ key_of (variable_of (get_or ks (at + i) 0)) (not (negated_of (get_or ks (at + i) 0))) → Variable t (variable_of k)
  opposite_at k e = rw (e, key-variable (variable_of (get_or ks (at + i) 0)) (not (negated_of (get_or ks (at + i) 0)))) variable-at

module _ {t : List ℕ} (at : ℕ) (cs : List ℤ) (ks : List ℕ) {n i k j : ℕ} (few : n ≤ max_entries) (l : i < n)
    (e : k ≡ key_of (variable_of (get_or ks (at + i) 0)) (not (negated_of (get_or ks (at + i) 0)))) (F : FindIs t (placed at ks) n k j) (b : Bounded max_total (placed at cs) n) where
  at_key : get_or (placed at ks) i 0 ≡ get_or ks (at + i) 0
  at_key = key-at at ks i (omega arith)

  at-number : (m : ℕ) → m < n → to_z w64 (of_z w64 (get_or cs (at + m) (pos 0))) ≡ get_or (placed at cs) m (pos 0)
  at-number m h = rw (← coefficient-at at cs m (omega arith)) (kept (omega arith) (b m h))

  pub alone_at : n ≤ j → {r q : ℤ} → q ≡ r → r ≡ max_z (to_z w64 (of_z w64 (get_or cs (at + i) (pos 0)))) (pos 0) → GreatestAtIs t (placed at cs) (placed at ks) n i q
  alone_at h {r} {q} f d = value_alone (placed at cs) i k (rw at_key e) F l b h q (f ∙ rw (at-number i l) at d)

  module _ (h : j < n) where
    pub negated-at : negated_of (get_or ks (at + i) 0) ≡ true → {q : ℤ} → q ≡ pos 0 → GreatestAtIs t (placed at cs) (placed at ks) n i q
    negated-at g {q} f = value-negated (placed at cs) i k (rw at_key e) F l b h (rw at_key g) q f

    pub plain_at : negated_of (get_or ks (at + i) 0) ≡ false → {r q : ℤ} → q ≡ r → r ≡ max_z (to_z w64 (of_z w64 (get_or cs (at + i) (pos 0)))) (to_z w64 (of_z w64 (get_or cs (at + j) (pos 0)))) → GreatestAtIs t (placed at cs) (placed at ks) n i q
    plain_at g {r} {q} f d = value-plain (placed at cs) i k (rw at_key e) F l b h (rw at_key g) q (f ∙ rw (at-number i l, at-number j h) at d)

-- ---- all entries
module _ (E : List Entry) (f : ℕ → Entry) where
  by-more : (i n : ℕ) (x y : ℤ) → i < n → x +ℤ greatest_by E (run f i (n - i)) ≡ y → (x +ℤ greatest_at E (f i)) +ℤ greatest_by E (run f (i + 1) (n - (i + 1))) ≡ y
  unfolding greatest_by
  by-more i n x y h e = +ℤ_assoc x (greatest_at E (f i)) _ ∙ rw (run_more f i n h) at e

  by_end : (i n : ℕ) (x y : ℤ) → n ≤ i → x +ℤ greatest_by E (run f i (n - i)) ≡ y → x ≡ y
  unfolding greatest_by
  by_end i n x y h e = sym (+ℤ_idr x) ∙ rw (run_none f i n h) at e

-- s is what the first i entries add
pub record Adding (t : List ℕ) (cs : List ℤ) (ks : List ℕ) (n : ℕ) (s : ℤ) (i : ℕ) : Type 0 where
  pub is : (x : Text t) → Under x.n ks n
      → s +ℤ greatest_by (entries (term x) cs ks n) (run (entry_at (term x) cs ks) i (n - i)) ≡ greatest_by (entries (term x) cs ks n) (entries (term x) cs ks n)
  pub within : Within (i * max_total) s

module _ {t : List ℕ} {cs : List ℤ} {ks : List ℕ} {n : ℕ} {s : ℤ} {i : ℕ} (A : Adding t cs ks n s i) where
  pub adding-next : i < n → {a : ℤ} → GreatestAtIs t cs ks n i a → (v : ℤ) → v ≡ s +ℤ a → Adding t cs ks n v (i + 1)
  adding-next h {a} G v e = record {
    is = λ x under. rw (e, G.is x under) (by-more (entries (term x) cs ks n) (entry_at (term x) cs ks) i n s _ h (A.is x under));
    within = let z : (i + 1) * max_total ≡ i * max_total + max_total = omega arith in rw (e, z) (within-add A.within G.within);
  }

  pub adding_end : n ≤ i → i ≤ n → n ≤ max_summands → GreatestIs t cs ks n s
  unfolding greatest
  adding_end h l few = record {
    is = λ x under. by_end (entries (term x) cs ks n) (entry_at (term x) cs ks) i n s _ h (A.is x under);
    within = within_more (omega arith) A.within;
  }

-- ---- clauses
-- what was read can be looked up
pub read-keyed : {t : List ℕ} {at : ℕ} {cs ds : List ℤ} {ks ls sl tl : List ℕ} {n : ℕ} → Room t at cs ks sl → Elsewhere at cs ks sl ds ls tl → Fine t (placed at ls) (slotted at tl) n
    → Keyed t at ls tl n × (at + n ≤ length ls) × (at + n ≤ length ds)
read-keyed R E F = (
  record { few = R.few; fine = F; keys = omega (arith, R.keys, E.keys.long); slots = (room-still E R).slots },
  omega (arith, R.keys, E.keys.long, F.few),
  omega (arith, R.coefficients, E.coefficients.long, F.few),
)

single_of : (d : ℕ → Term) (l : List ℕ) → length l ≡ 1 → single (map d l) ≡ ok (d (get_or l 0 0))
unfolding single
single_of d [] e = let z : ⊥ = omega arith in absurd z
single_of d (x ∷ []) e = refl
single_of d (x ∷ (y ∷ l)) e = let z : ⊥ = omega arith in absurd z

single-not : (d : ℕ → Term) (l : List ℕ) → (length l ≡ 1 → ⊥) → single (map d l) ≡ bad 21
unfolding single
single-not d [] f = refl
single-not d (x ∷ []) f = absurd (f refl)
single-not d (x ∷ (y ∷ l)) f = refl

-- what is not read is not out of reach
pub beyond-bad : (r : Res Inequality) (n : ℕ) → r ≡ bad n → false ≡ beyond r
unfolding beyond
beyond-bad r n e = rw e

beyond-of : (r : Res Inequality) (q : Inequality) → r ≡ ok q → (a b : Bool) → a ≡ all_names q.sum → b ≡ lt_z (greatest q.sum) q.const → a && b ≡ beyond r
unfolding beyond
beyond-of r q e a b f g = rw (e, f, g)

module _ (t l : List ℕ) where
  pub clause-count : (length l ≡ 1 → ⊥) → UnreachableIs t l false
  unfolding unreachable
  clause-count f x below = beyond-bad _ 21 (bind-bad _ _ 21 (single-not (term x) l f))

  module _ (e : length l ≡ 1) where
    clause-is : (x : Text t) (r : Bool) → r ≡ beyond (unwrap_inequality (term x (get_or l 0 0))) → r ≡ unreachable (map (term x) l)
    unfolding unreachable
    clause-is x r h = h ∙ ap beyond (sym (bind-of _ _ _ (single_of (term x) l e)))

    clause-below : {n : ℕ} → Below n l → get_or l 0 0 < n
    clause-below below = below_at l 0 below (omega arith)

    pub clause-reached : (r : Bool) → ReachedIs t (get_or l 0 0) r → r ≡ true → UnreachableIs t l false
    clause-reached r R h x below = clause-is x false (sym (R h x (clause-below below)))

    pub clause-refused : {number : ℕ} → ((x : Text t) → get_or l 0 0 < x.n → unwrap_inequality (term x (get_or l 0 0)) ≡ bad number) → UnreachableIs t l false
    clause-refused {number} B x below = clause-is x false (beyond-bad _ number (B x (clause-below below)))

    module _ {k : ℤ} {cs : List ℤ} {ks sl : List ℕ} {n : ℕ} (I : InequalityIs t (get_or l 0 0) k cs ks sl n) where
      pub clause-terms : {a : Bool} → NamesAre t ks n a → a ≡ false → UnreachableIs t l false
      clause-terms N q x below = clause-is x false (beyond-of _ _ (I.is x (clause-below below)) false _ (sym q ∙ N x.text cs) refl)

      pub clause-beyond : {a : Bool} → NamesAre t ks n a → a ≡ true → {v : ℤ} → GreatestIs t cs ks n v → (r : Bool) → r ≡ lt_z (to_z w64 (of_z w64 v)) (to_z w64 (of_z w64 k)) → UnreachableIs t l r
      clause-beyond N q {v} G r h x below =
          let under : Under x.n ks n = λ i m. omega (arith, I.under i m, clause-below below) in
          clause-is x r (beyond-of _ _ (I.is x (clause-below below)) true r (sym q ∙ N x.text cs) (h ∙ rw (kept (omega arith) G.within, kept (omega arith) I.within, G.is x under)))
