-- The two ways in which `put` ends: a coefficient that grew, or one entry more and its slot.
use mathlib.Core.Path.{◌≡◌, refl, sym, ap, ◌∙◌}
use mathlib.Core.List.{List}
use Prim.Native.Nat.{ℕ, suc, ◌+◌, ◌≤◌, ◌<◌}
use native.Mathlib.Decide.{dec_lt}
use native.Mathlib.Numerals.{add-one}
use native.Mathlib.Omega.{arith}
use lib.IntN.{ℤ, pos, ◌+ℤ◌}
use lib.ListN.{get_or}
use Rattle.integer.proofs.Fits.{within_more, within-add}
use Rattle.calculus.specs.Entries.{entry}
use Rattle.matching.specs.Matched.{term, lit_at, variable_of, Variable}
use Rattle.matching.specs.Entries.{entry_at, entries}
use Rattle.matching.specs.Places.{max_entries, Put1}
use Rattle.sums.specs.Lists.{index_of, OverName, Taken, Fine}
use Rattle.sums.specs.Found.{Followed, FindIs, Appended, PutIs}
use Rattle.sums.proofs.Runs.{index-le, put-at, put-new}

-- what stands below n stands there still, and the last is new
by_last : {A : Type 0} {m n r : ℕ} → m < r → r ≡ n + 1 → (m < n → (m ≡ n → ⊥) → A) → (m ≡ n → A) → A
by_last {A} {m} {n} {r} h e f g = elim (dec_lt m n) [
  | yes l ↦ f l (λ z. omega arith)
  | no l ↦ g (omega arith)
]

module _ {t ks sl : List ℕ} {n k i : ℕ} (cs : List ℤ) (c : ℤ) (I : FindIs t ks n k i) (F : Fine t ks sl n) where
  pub put-added : (ds : List ℤ) → i < n → Put1 (pos 0) cs i (get_or cs i (pos 0) +ℤ c) ds → PutIs t cs ks n k c ds ks sl n
  put-added ds h P = record {
    is = λ x under a.
        let at : i ≡ index_of (lit_at (term x) k) (entries (term x) cs ks n) = I.is x cs under a in
        let new : entry_at (term x) ds ks i ≡ entry (lit_at (term x) (get_or ks i 0)) (get_or cs i (pos 0) +ℤ c) = rw P.new in
        let old : (m : ℕ) → (m ≡ i → ⊥) → entry_at (term x) cs ks m ≡ entry_at (term x) ds ks m = λ m f. rw (P.old m f) in
        sym (put-at (lit_at (term x) k) c (entry_at (term x) cs ks) (entry_at (term x) ds ks) i new old 0 n (omega arith) (omega arith));
    fine = F;
    grows = omega arith;
    under = λ m under a. under;
    names = λ f o. f;
    bounded = λ B C b w m l. elim (dec_eq m) [
      | yes e ↦ rw (e, P.new) (within-add (b i h) w)
      | no e ↦ rw (P.old m e) (within_more (omega arith) (b m l))
    ];
  }
    where
      dec_eq : (m : ℕ) → Dec (m ≡ i)
      dec_eq m = elim (dec_lt m i) [
        | yes l ↦ no (λ z. omega arith)
        | no l ↦ elim (dec_lt i m) [
          | yes g ↦ no (λ z. omega arith)
          | no g ↦ yes (omega arith)
        ]
      ]

  pub put-appended : (ds : List ℤ) (ls tl : List ℕ) (r : ℕ) → n ≤ i → n < max_entries → Variable t (variable_of k) → Appended cs ks sl n k c ds ls tl r → PutIs t cs ks n k c ds ls tl r
  put-appended ds ls tl r h lim N A = record {
    is = λ x under a.
        let last : index_of (lit_at (term x) k) (entries (term x) cs ks n) ≡ n = omega (arith, I.is x cs under a, index-le (lit_at (term x) k) (entry_at (term x) cs ks) 0 n) in
        let new : entry_at (term x) ds ls n ≡ entry (lit_at (term x) k) c = rw (A.coefficients.new, A.keys.new) in
        let old : (m : ℕ) → m < 0 + n → entry_at (term x) cs ks m ≡ entry_at (term x) ds ls m = λ m l. let f : m ≡ n → ⊥ = λ z. omega arith in rw (A.coefficients.old m f, A.keys.old m f) in
        rw (A.count, add-one n) (sym (put-new (lit_at (term x) k) c (entry_at (term x) cs ks) (entry_at (term x) ds ls) 0 n last old (ap (entry_at (term x) ds ls) (omega arith) ∙ new)));
    fine = record {
      few = omega (arith, A.count);
      literals = λ m l. by_last l A.count (λ q f. rw (A.keys.old m f) (F.literals m q)) (λ e. rw (e, A.keys.new) N);
      slots = λ m l. by_last l A.count (λ q f. rw (A.keys.old m f) (λ o. taken_still m q (get_or ks m 0) o (λ e. apart m q e o) (F.slots m q o))) (λ e. rw (e, A.keys.new) taken-new);
    };
    grows = omega (arith, A.count);
    under = λ u under a m l. by_last l A.count (λ q f. rw (A.keys.old m f) (under m q)) (λ e. rw (e, A.keys.new) a);
    names = λ f o m l. by_last l A.count (λ q g. rw (A.keys.old m g) (f m q)) (λ e. rw (e, A.keys.new) o);
    bounded = λ B C b w m l. by_last l A.count
        (λ q f. rw (A.coefficients.old m f) (within_more (omega arith) (b m q)))
        (λ e. rw (e, A.coefficients.new) (within_more (omega arith) w));
  }
    where
      -- no key over a name is this one
      apart : (m : ℕ) → m < n → get_or ks m 0 ≡ k → OverName t (get_or ks m 0) → ⊥
      apart m q e o = I.fresh (rw e at o) h m q e

      -- what was taken is taken still, but for the slot that was written
      taken_still : (m : ℕ) → m < n → (l : ℕ) → OverName t l → (l ≡ k → ⊥) → Taken ks sl (suc m) l → Taken ls tl (suc m) l
      taken_still m q l o f T = rw (A.slots.old l f) (T.0, rw (A.keys.old (get_or sl l 0) (λ z. omega (arith, T.0))) T.1)

      taken-new : OverName t k → Taken ls tl (suc n) k
      taken-new o = rw (A.slots.new, A.keys.new) (omega arith, refl)

-- ---- one entry more, whatever stands before it
module _ {t ks sl : List ℕ} {n k i : ℕ} (I : FindIs t ks n k i) (F : Fine t ks sl n) (N : Variable t (variable_of k)) (o : OverName t k) (lim : n < max_entries) where
  -- a key that stands there already keeps its slot
  pub followed_again : {cs ds : List ℤ} {ls : List ℕ} {c : ℤ} → i < n → Put1 (pos 0) cs n c ds → Put1 0 ks n k ls → Followed t cs ks n k c ds ls sl (n + 1)
  followed_again {ls = ls} h C K = record {
    coefficients = C;
    keys = K;
    fine = record {
      few = omega arith;
      literals = λ m l. by_last l refl (λ q f. rw (K.old m f) (F.literals m q)) (λ e. rw (e, K.new) N);
      slots = λ m l. by_last l refl (λ q f. rw (K.old m f) (λ p. still m q (get_or ks m 0) (F.slots m q p))) (λ e. rw (e, K.new) (λ p. taken));
    };
    count = refl;
  }
    where
      still : (m : ℕ) → m < n → (l : ℕ) → Taken ks sl (suc m) l → Taken ls sl (suc m) l
      still m q l T = (T.0, rw (K.old (get_or sl l 0) (λ z. omega (arith, T.0))) T.1)

      first : Taken ks sl (suc i) k
      first = let e = I.here o h in rw e at (F.slots i h (rw e o))

      taken : Taken ls sl (suc n) k
      taken = (omega (arith, first.0), rw (K.old (get_or sl k 0) (λ z. omega (arith, first.0))) first.1)

  -- another is new
  pub followed-new : {cs ds : List ℤ} {ls tl : List ℕ} {c : ℤ} {r : ℕ} → n ≤ i → Appended cs ks sl n k c ds ls tl r → Followed t cs ks n k c ds ls tl r
  followed-new {cs} {ds} {ls} {tl} {c} {r} h A = record {
    coefficients = A.coefficients;
    keys = A.keys;
    fine = (put-appended cs c I F ds ls tl r h lim N A).fine;
    count = A.count;
  }
