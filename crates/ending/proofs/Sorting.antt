-- An entry moved into its place by swaps with its neighbour, and the order that this makes from the last entry on.
use mathlib.Core.Path.{◌≡◌, refl, sym, ap, ◌∙◌}
use mathlib.Core.Bool.{true, false}
use mathlib.Core.List.{List, [], ◌∷◌, ◌++◌, append_assoc}
use Prim.Native.Nat.{ℕ, zero, suc, ◌+◌, ◌-◌, ◌≤◌, ◌<◌}
use native.Mathlib.Decide.{dec_lt}
use native.Mathlib.Numerals.{add-one}
use native.Mathlib.Omega.{arith}
use lib.IntN.{ℤ, pos}
use lib.ListN.{length, get_or, set, length-set}
use lib.Seq.{get_or-set_same, get_or-set_other}
use Rattle.calculus.specs.Entries.{Entry}
use Rattle.calculus.specs.Pol.{lit_before, placed, ordered}
use Rattle.calculus.specs.Words.{max_numeral}
use Rattle.integer.specs.Integers.{Within}
use Rattle.nodes.specs.Nodes.{decode}
use Rattle.matching.specs.Entries.{run, entry_at}
use Rattle.matching.specs.Matched.{Variable, variable_of, lit_at}
use Rattle.matching.proofs.Runs.{run_none, run_more}
use Rattle.sums.specs.Lists.{OverName}
use Rattle.sums.proofs.Runs.{run-ext}
use Rattle.ending.specs.Ending.{Spelled, Gathered, InText, Behind, Swapped, InPlace, Ordered}

-- ---- runs
-- one more at the end
pub run-snoc : (f : ℕ → Entry) (i n : ℕ) → run f i (suc n) ≡ run f i n ++ (f (i + n) ∷ [])
unfolding run
run-snoc f i zero = let e : i + 0 ≡ i = omega arith in rw e
run-snoc f i (suc n) = let e : i + suc n ≡ suc i + n = omega arith in rw e (ap (λ (l : List Entry). f i ∷ l) (run-snoc f (suc i) n))

-- a part of a run, and the rest
run-parts : (f : ℕ → Entry) (i j r : ℕ) → i ≤ j → j < r → run f i (j - i) ++ (f j ∷ run f (j + 1) (r - (j + 1))) ≡ run f i (r - i)
unfolding run
run-parts f i j r h l = go (j - i) i (omega arith)
  where
    go : (n i : ℕ) → i + n ≡ j → run f i n ++ (f j ∷ run f (j + 1) (r - (j + 1))) ≡ run f i (r - i)
    go zero i e = let z : i ≡ j = omega arith in rw z (sym (run_more f j r l))
    go (suc n) i e = ap (λ (l : List Entry). f i ∷ l) (go n (suc i) (omega arith)) ∙ rw (← add-one i) (sym (run_more f i r (omega arith)))

-- ---- a swap of neighbours
pub swapped : {A : Type 0} (z : A) (l : List A) (j : ℕ) {a b : A} → j + 1 < length l → a ≡ get_or l j z → b ≡ get_or l (j + 1) z → Swapped z l (set (set l j b) (j + 1) a) j
swapped z l j {a} {b} h e f = record {
  long = length-set (set l j b) (j + 1) a ∙ length-set l j b;
  here = get_or-set_other (set l j b) (j + 1) j a z (λ q. omega arith) ∙ get_or-set_same l j b z (omega arith) ∙ f;
  next = get_or-set_same (set l j b) (j + 1) a z (rw (length-set l j b) h) ∙ e;
  rest = λ i p q. get_or-set_other (set l j b) (j + 1) i a z q ∙ get_or-set_other l j i b z p;
}

module _ {A : Type 0} {z : A} {l m : List A} {j : ℕ} (S : Swapped z l m j) where
  -- what held of each of the first r
  swapped-all : (P : A → Type 0) (r : ℕ) → j + 1 < r → ((i : ℕ) → i < r → P (get_or l i z)) → (i : ℕ) → i < r → P (get_or m i z)
  swapped-all P r h f i l = elim (dec_lt i j) [
    | yes a ↦ rw (S.rest i (omega arith) (omega arith)) (f i l)
    | no a ↦ elim (dec_lt j i) [
      | no b ↦ let e : i ≡ j = omega arith in rw (e, S.here) (f (j + 1) h)
      | yes b ↦ elim (dec_lt (j + 1) i) [
        | yes c ↦ rw (S.rest i (omega arith) (omega arith)) (f i l)
        | no c ↦ let e : i ≡ j + 1 = omega arith in rw (e, S.next) (f j (omega arith))
      ]
    ]
  ]

-- ---- an entry on its way: it is entry j, and those between i and j stand before it
pub record Moving (s t : List ℕ) (cs : List ℤ) (ks : List ℕ) (i r : ℕ) (ds : List ℤ) (ls : List ℕ) (j : ℕ) : Type 0 where
  pub from : i ≤ j
  pub below : j < r
  pub is : run (entry_at (decode s t) ds ls) i (j - i) ++ placed (entry_at (decode s t) ds ls j) (run (entry_at (decode s t) ds ls) (j + 1) (r - (j + 1)))
      ≡ placed (entry_at (decode s t) cs ks i) (run (entry_at (decode s t) cs ks) (i + 1) (r - (i + 1)))
  pub coefficients : (m : ℕ) → m < i → get_or ds m (pos 0) ≡ get_or cs m (pos 0)
  pub keys : (m : ℕ) → m < i → get_or ls m 0 ≡ get_or ks m 0
  pub gathered : Gathered t ds ls r
  pub inside : InText s t ls r
  pub behind : Behind r cs ks ds ls

pub behind-none : (a : ℕ) (cs : List ℤ) (ks : List ℕ) → Behind a cs ks cs ks
behind-none a cs ks = record { long = refl; same = refl; coefficients = λ j h. refl; keys = λ j h. refl }

pub moving-start : {s t : List ℕ} {cs : List ℤ} {ks : List ℕ} (i : ℕ) {r : ℕ} → i < r → Gathered t cs ks r → InText s t ks r → Moving s t cs ks i r cs ks i
unfolding run
moving-start {s} {t} {cs} {ks} i {r} h L I =
    let e : i - i ≡ 0 = omega arith in
    record { from = omega arith; below = h; is = rw e; coefficients = λ m q. refl; keys = λ m q. refl; gathered = L; inside = I; behind = behind-none r cs ks }

-- a step of an entry e past x: the run before it grows by x
step : (f g : ℕ → Entry) (i j r : ℕ) → i ≤ j → j + 1 < r → lit_before (f j).lit (f (j + 1)).lit ≡ false → g j ≡ f (j + 1) → g (j + 1) ≡ f j → ((m : ℕ) → (m ≡ j → ⊥) → (m ≡ j + 1 → ⊥) → g m ≡ f m)
    → run g i (j + 1 - i) ++ placed (g (j + 1)) (run g (j + 1 + 1) (r - (j + 1 + 1))) ≡ run f i (j - i) ++ placed (f j) (run f (j + 1) (r - (j + 1)))
unfolding placed
step f g i j r h l b here next rest =
    let e : j + 1 - i ≡ suc (j - i) = omega arith in
    let z : i + (j - i) ≡ j = omega arith in
    rw (e, run-snoc g i (j - i), z, here, next, run-ext g f i (j - i) (λ m a c. rest m (omega arith) (omega arith)), run-ext g f (j + 1 + 1) (r - (j + 1 + 1)) (λ m a c. rest m (omega arith) (omega arith)), run_more f (j + 1) r l, b)
    (append_assoc (run f i (j - i)) (f (j + 1) ∷ []) (placed (f j) (run f (j + 1 + 1) (r - (j + 1 + 1)))))

module _ {s t : List ℕ} {cs : List ℤ} {ks : List ℕ} {i r : ℕ} {ds : List ℤ} {ls : List ℕ} {j : ℕ} (M : Moving s t cs ks i r ds ls j) where
  abbrev F : ℕ → Entry
  F = entry_at (decode s t) ds ls

  -- the two keys that are compared
  pub moving-keys : j + 1 < r → Spelled s t (get_or ls j 0) (get_or ls (j + 1) 0)
  moving-keys h = record {
    n = M.inside.n;
    named = M.inside.named;
    left = M.gathered.literals j M.below;
    right = M.gathered.literals (j + 1) h;
    name = M.gathered.names j M.below;
    other = M.gathered.names (j + 1) h;
    under = M.inside.under j M.below;
    below = M.inside.under (j + 1) h;
  }

  pub moving-more : {es : List ℤ} {ms : List ℕ} → j + 1 < r → lit_before (lit_at (decode s t) (get_or ls j 0)) (lit_at (decode s t) (get_or ls (j + 1) 0)) ≡ false → Swapped (pos 0) ds es j → Swapped 0 ls ms j → Moving s t cs ks i r es ms (j + 1)
  moving-more {es} {ms} h b S Q = record {
    from = omega (arith, M.from);
    below = h;
    is = step F (entry_at (decode s t) es ms) i j r M.from h b (rw (S.here, Q.here)) (rw (S.next, Q.next)) (λ m p q. rw (S.rest m p q, Q.rest m p q)) ∙ M.is;
    coefficients = λ m q. S.rest m (omega (arith, M.from)) (omega (arith, M.from)) ∙ M.coefficients m q;
    keys = λ m q. Q.rest m (omega (arith, M.from)) (omega (arith, M.from)) ∙ M.keys m q;
    gathered = record {
      few = M.gathered.few;
      coefficients = rw S.long M.gathered.coefficients;
      keys = rw Q.long M.gathered.keys;
      literals = swapped-all Q (λ k. Variable t (variable_of k)) r h M.gathered.literals;
      names = swapped-all Q (λ k. OverName t k) r h M.gathered.names;
      within = swapped-all S (λ c. Within max_numeral c) r h M.gathered.within;
    };
    inside = record { n = M.inside.n; named = M.inside.named; under = swapped-all Q (λ k. variable_of k < M.inside.n) r h M.inside.under };
    behind = record {
      long = S.long ∙ M.behind.long;
      same = Q.long ∙ M.behind.same;
      coefficients = λ m q. S.rest m (omega arith) (omega arith) ∙ M.behind.coefficients m q;
      keys = λ m q. Q.rest m (omega arith) (omega arith) ∙ M.behind.keys m q;
    };
  }

  -- it is in its place where nothing has to be done any more
  ends : run F i (j - i) ++ placed (F j) (run F (j + 1) (r - (j + 1))) ≡ run F i (j - i) ++ (F j ∷ run F (j + 1) (r - (j + 1))) → InPlace s t cs ks i r ds ls
  ends e = record {
    is = sym (run-parts F i j r M.from M.below) ∙ sym e ∙ M.is;
    coefficients = M.coefficients;
    keys = M.keys;
    gathered = M.gathered;
    inside = M.inside;
    behind = M.behind;
  }

  pub moving-stop : j + 1 < r → lit_before (lit_at (decode s t) (get_or ls j 0)) (lit_at (decode s t) (get_or ls (j + 1) 0)) ≡ true → InPlace s t cs ks i r ds ls
  unfolding placed
  moving-stop h b = ends (rw (run_more F (j + 1) r h, b))

  pub moving_end : r ≤ j + 1 → InPlace s t cs ks i r ds ls
  unfolding placed
  moving_end h = ends (rw (run_none F (j + 1) r h))

-- ---- the entries from i on are in order
pub record Ordering (s t : List ℕ) (cs : List ℤ) (ks : List ℕ) (r : ℕ) (ds : List ℤ) (ls : List ℕ) (i : ℕ) : Type 0 where
  pub most : i ≤ r
  pub is : run (entry_at (decode s t) ds ls) i (r - i) ≡ ordered (run (entry_at (decode s t) cs ks) i (r - i))
  pub coefficients : (m : ℕ) → m < i → get_or ds m (pos 0) ≡ get_or cs m (pos 0)
  pub keys : (m : ℕ) → m < i → get_or ls m 0 ≡ get_or ks m 0
  pub gathered : Gathered t ds ls r
  pub inside : InText s t ls r
  pub behind : Behind r cs ks ds ls

pub ordering-start : {s t : List ℕ} {cs : List ℤ} {ks : List ℕ} (r : ℕ) → Gathered t cs ks r → InText s t ks r → Ordering s t cs ks r cs ks r
unfolding ordered
ordering-start {s} {t} {cs} {ks} r L I = record {
  most = omega arith;
  is = rw (run_none (entry_at (decode s t) cs ks) r r (omega arith));
  coefficients = λ m h. refl;
  keys = λ m h. refl;
  gathered = L;
  inside = I;
  behind = behind-none r cs ks;
}

pub behind-then : {a : ℕ} {cs ds es : List ℤ} {ks ls ms : List ℕ} → Behind a cs ks ds ls → Behind a ds ls es ms → Behind a cs ks es ms
behind-then B C = record { long = C.long ∙ B.long; same = C.same ∙ B.same; coefficients = λ j h. C.coefficients j h ∙ B.coefficients j h; keys = λ j h. C.keys j h ∙ B.keys j h }

module _ {s t : List ℕ} {cs : List ℤ} {ks : List ℕ} {r : ℕ} {ds : List ℤ} {ls : List ℕ} {i : ℕ} (O : Ordering s t cs ks r ds ls i) where
  pub ordering-more : {p : ℕ} {es : List ℤ} {ms : List ℕ} → i ≡ p + 1 → InPlace s t ds ls p r es ms → Ordering s t cs ks r es ms p
  unfolding ordered
  ordering-more {p} {es} {ms} e P =
      let h : p < r = omega (arith, O.most) in
      let q : run (entry_at (decode s t) ds ls) (p + 1) (r - (p + 1)) ≡ ordered (run (entry_at (decode s t) cs ks) (p + 1) (r - (p + 1))) = rw e at O.is in
      record {
        most = omega (arith, O.most);
        is = P.is ∙ rw (q, O.coefficients p (omega arith), O.keys p (omega arith), run_more (entry_at (decode s t) cs ks) p r h);
        coefficients = λ m l. P.coefficients m l ∙ O.coefficients m (omega arith);
        keys = λ m l. P.keys m l ∙ O.keys m (omega arith);
        gathered = P.gathered;
        inside = P.inside;
        behind = behind-then O.behind P.behind;
      }

  pub ordering-all : i ≡ 0 → Ordered s t cs ks r ds ls
  ordering-all e =
      let z : r - 0 ≡ r = omega arith in
      record { is = rw (e, z) at O.is; gathered = O.gathered; inside = O.inside; behind = O.behind }
