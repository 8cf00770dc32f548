-- The check of one half, by its ways out: against entries that are pushed already, and against the entries before they were.
use mathlib.Core.Path.{◌≡◌, refl, sym, ap, ap₂, ◌∙◌}
use mathlib.Core.Bool.{Bool, true, false}
use mathlib.Core.List.{List, [], ◌∷◌, map}
use Prim.Native.Nat.{ℕ, suc, ◌+◌, ◌≤◌, ◌<◌}
use native.Mathlib.Omega.{arith}
use borrow.Author.Tests.{le-leb, lt-leb}
use lib.Dec.{leb}
use lib.IntN.{ℤ, pos, ◌+ℤ◌}
use lib.ListN.{length, length-map, get_or}
use Rattle.std.specs.Prelude.{Result, Err}
use Rattle.calculus.specs.Matching.{as_constant}
use Rattle.calculus.specs.Normalize.{collect, push_entries, pushed_constant, half_check}
use Rattle.calculus.specs.Entries.{Entry}
use Rattle.calculus.specs.Sums.{split_summation, count, max_summands}
use Rattle.calculus.specs.Terms.{Term, listed}
use Rattle.calculus.specs.Words.{ok, bad}
use Rattle.nodes.specs.Nodes.{decode}
use Rattle.matching.proofs.Checks.{bind-of, bind-bad, ensure-yes, ensure-no, or_of, or-bad}
use Rattle.matching.specs.Matched.{Text, term, variable_of, ConstantAt, SplitIs, refusal_number, answer_of}
use Rattle.matching.specs.Places.{max_entries, Others}
use Rattle.normalize.specs.Halves.{PushedIs, CollectReady, CollectedAt, sides_check, pushed_check, SidesIs, HalfReady, HalfIs}
use Rattle.matching.specs.Entries.{entries, Under}
use Rattle.matching.proofs.Places.{still_at}
use Rattle.normalize.specs.Lists.{normalized_at, Still, Held}
use Rattle.matching.specs.declared.Refusal.{Refusal}
use Rattle.matching.specs.declared.Refusal.TheVariants.{ExpectedAnyInteger, TooManySummands}
use Rattle.normalize.proofs.Pushing.{pushed-names}
use Rattle.normalize.proofs.Runs.{entries-same, first}
use Rattle.normalize.proofs.Trees.{are-nodes, end_below}

-- ---- the chain of checks
module _ (P : List Entry) (k : ℤ) (s z : Term) where
  by_length : leb (count (split_summation s)) max_summands ≡ false → bad 40 ≡ pushed_check P k s z
  unfolding pushed_check
  by_length e = sym (ensure-no _ 40 _ e)

  module _ (e : leb (count (split_summation s)) max_summands ≡ true) where
    by_refusal : (n : ℕ) → collect (split_summation s) ≡ bad n → bad n ≡ pushed_check P k s z
    unfolding pushed_check
    by_refusal n f = sym (ensure-yes _ 40 _ e ∙ bind-bad _ _ n f)

    module _ (E : List Entry) (f : collect (split_summation s) ≡ ok E) where
      by-term : as_constant z ≡ bad 0 → bad 24 ≡ pushed_check P k s z
      unfolding pushed_check
      by-term g = sym (ensure-yes _ 40 _ e ∙ bind-of _ _ E f ∙ bind-bad _ _ 24 (or-bad 24 0 (as_constant z) g))

      by_sides : (c : ℤ) → as_constant z ≡ ok c → sides_check P k E c ≡ pushed_check P k s z
      unfolding pushed_check
      by_sides c g = sym (ensure-yes _ 40 _ e ∙ bind-of _ _ E f ∙ bind-of _ _ c (or_of 24 (as_constant z) c g))

count-listed : (ts : List Term) → count (listed ts) ≡ length ts
unfolding count listed
count-listed [] = refl
count-listed (t ∷ ts) = ap suc (count-listed ts)

-- ---- a half, its summands the nodes l
module _ {t : List ℕ} {s z : ℕ} {cs : List ℤ} {ks : List ℕ} {n : ℕ} (p : HalfReady t s z cs ks n) {l : List ℕ} (q : SplitIs t s l) where
  counts : (x : List ℕ) → count (split_summation (decode x t s)) ≡ length l
  counts x = ap count (sym (q.is x)) ∙ count-listed (map (decode x t) l) ∙ length-map l (decode x t)

  short : length l ≤ max_summands → (x : List ℕ) → leb (count (split_summation (decode x t s))) max_summands ≡ true
  short h x = rw (counts x) (le-leb (length l) max_summands h)

  pub half-long : {k : ℤ} → max_summands < length l → HalfIs t s z cs ks n k (Err TooManySummands)
  half-long {k} h = record { is = λ x a B. by_length (entries (term x) cs ks n) k (term x s) (term x z) (rw (counts x.text) (lt-leb (length l) max_summands h)) }

  pub half-collect : length l ≤ max_summands → CollectReady t l cs ks
  half-collect h = record { nodes = are-nodes p.sum l q.nodes p.sum.below; few = h; room = p.room }

  module _ (h : length l ≤ max_summands) {ds : List ℤ} {js : List ℕ} {m : ℕ} where
    pub half-refused : {k : ℤ} {e : Refusal} → CollectedAt t l ds js m (λ E. bad (refusal_number e)) → HalfIs t s z cs ks n k (Err e)
    half-refused {k} {e} c = record {
      is = λ x a B. by_refusal (entries (term x) cs ks n) k (term x s) (term x z) (short h x.text) (refusal_number e) (ap collect (sym (q.is x.text)) ∙ c.is x.text);
    }

    module _ (c : CollectedAt t l ds js m ok) where
      found : (x : List ℕ) → collect (split_summation (decode x t s)) ≡ ok (entries (decode x t) ds js m)
      found x = ap collect (sym (q.is x)) ∙ c.is x

      pub half-term : {k : ℤ} → ((x : List ℕ) → as_constant (decode x t z) ≡ bad 0) → HalfIs t s z cs ks n k (Err ExpectedAnyInteger)
      half-term {k} f = record { is = λ x a B. by-term (entries (term x) cs ks n) k (term x s) (term x z) (short h x.text) _ (found x.text) (f x.text) }

      pub half_sides : {k k' y y' : ℤ} {a : Result Bool Refusal} → ConstantAt t z y → SidesIs t cs ks n k' ds js m y' a → k' ≡ k → y' ≡ y → HalfIs t s z cs ks n k a
      half_sides {k} {k'} {y} {y'} f w ek ey = record {
        is = λ x b B.
            w.is x B (c.before x.n (omega (arith, end_below l q.nodes)))
            ∙ ap₂ (λ (i j : ℤ). sides_check (entries (term x) cs ks n) i (entries (term x) ds js m) j) ek ey
            ∙ by_sides (entries (term x) cs ks n) k (term x s) (term x z) (short h x.text) _ (found x.text) y (f.is x.text);
      }

-- ---- what writes the normalized side leaves the general side as it was
first-still : {A : Type 0} (z : A) {l m : List A} → Others normalized_at l m → (i : ℕ) → i < max_entries → get_or m i z ≡ get_or l i z
first-still z {l} {m} o i h = let e : 0 + i ≡ i = omega arith in (rw e at (still_at z o 0 (λ a b p q e. omega arith) i h)) ∙ first z l i h

module _ {cs cs' : List ℤ} {ks ks' : List ℕ} {n : ℕ} (w : Still cs ks cs' ks') (h : n ≤ max_summands) where
  coefficient-still : (i : ℕ) → i < n → get_or cs' i (pos 0) ≡ get_or cs i (pos 0)
  coefficient-still i l = first-still (pos 0) w.coeffs i (omega arith)

  key-still : (i : ℕ) → i < n → get_or ks' i 0 ≡ get_or ks i 0
  key-still i l = first-still 0 w.keys i (omega arith)

  entries-still : (d : ℕ → Term) → entries d cs' ks' n ≡ entries d cs ks n
  entries-still d = entries-same d cs cs' ks ks' n coefficient-still key-still

  pub held-still : {t : List ℕ} → Held t cs ks n → Held t cs' ks' n
  held-still p = record { most = h; nodes = λ i l. rw (key-still i l) (p.nodes i l); within = λ i l. rw (coefficient-still i l) (p.within i l) }

  pub sides_still : {t : List ℕ} {k z : ℤ} {ds : List ℤ} {js : List ℕ} {m : ℕ} {r : Result Bool Refusal} → SidesIs t cs' ks' n k ds js m z r → SidesIs t cs ks n k ds js m z r
  sides_still {k = k} {z} {ds} {js} {m} q = record { is = λ x B C. q.is x (λ i l. rw (key-still i l) (B i l)) C ∙ ap (λ (P : List Entry). sides_check P k (entries (term x) ds js m) z) (entries-still (term x)) }

  pub pushed_still : {bs : List ℤ} {js : List ℕ} {k : ℤ} → PushedIs bs js n cs ks k → PushedIs bs js n cs' ks' k
  pushed_still p = record {
    is = λ d. entries-still d ∙ p.is d;
    total = p.total;
    within = λ i l. rw (coefficient-still i l) (p.within i l);
    same = λ i l. ap variable_of (key-still i l) ∙ p.same i l;
    bound = p.bound;
  }

-- ---- `half_check` on the entries as they were before they were pushed
half_pushed : (G : List Entry) (k : ℤ) (s z : Term) → pushed_check (push_entries G) (k +ℤ pushed_constant G) s z ≡ half_check G k s z
unfolding half_check pushed_check sides_check
half_pushed G k s z = rw (pushed-names G)

pub before-pushed : {cs cs' : List ℤ} {ks ks' : List ℕ} {n top : ℕ} {m : ℤ} → PushedIs cs ks n cs' ks' m → Under top ks n → Under top ks' n
before-pushed p B j l = rw (p.same j l) (B j l)

pub half-before : {t : List ℕ} {cs cs' : List ℤ} {ks ks' : List ℕ} {n s z : ℕ} {m v : ℤ} {r : Result Bool Refusal} (k : ℤ) → PushedIs cs ks n cs' ks' m → v ≡ k +ℤ m → HalfIs t s z cs' ks' n v r
    → (x : Text t) → s < x.n → Under x.n ks n → answer_of r ≡ half_check (entries (term x) cs ks n) k (term x s) (term x z)
half-before {cs = cs} {ks = ks} {n = n} {s = s} {z = z} k p e h x l B =
    h.is x l (before-pushed p B)
    ∙ ap₂ (λ (P : List Entry) (y : ℤ). pushed_check P y (term x s) (term x z)) (p.is (term x)) (e ∙ ap (λ (y : ℤ). k +ℤ y) (p.total (term x)))
    ∙ half_pushed (entries (term x) cs ks n) k (term x s) (term x z)
