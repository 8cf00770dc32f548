-- The literals of an entry whose coefficient is not 0, copied one after the other to the beginning of the arrays.
use mathlib.Core.Path.{◌≡◌, refl, sym, subst, ◌∙◌}
use mathlib.Core.Bool.{Bool, true, false, cond}
use mathlib.Core.List.{List, [], ◌∷◌, ◌++◌, append-nil}
use Prim.Native.Nat.{ℕ, suc, ◌+◌, ◌≤◌, ◌<◌}
use native.Mathlib.Decide.{dec_lt}
use native.Mathlib.Nat.{not-suc-le-zero}
use native.Mathlib.Omega.{arith}
use lib.IntN.{ℤ, pos}
use lib.ListN.{length, get_or, set, length-set}
use lib.Seq.{get_or-set_same, get_or-set_other}
use Rattle.calculus.specs.Entries.{Entry}
use Rattle.calculus.specs.Pol.{max_literals, nonzeros}
use Rattle.calculus.specs.Terms.{Term, same_integer}
use Rattle.matching.specs.Entries.{run, entry_at}
use Rattle.pol.specs.Stack.{stack_at, window, count_of}
use Rattle.pol.proofs.Windows.{window-get, entries-same}
use Rattle.ending.specs.Ending.{PutIs, Picked, Behind, Nonzeros}
use Rattle.ending.proofs.Sorting.{run-snoc, behind-none}

-- ---- one entry
pub kept-none : (cs : List ℤ) (ks : List ℕ) (r : ℕ) (c : ℤ) (k : ℕ) → true ≡ same_integer c (pos 0) → PutIs cs ks r c k cs ks r
kept-none cs ks r c k e = record {
  long = refl;
  same = refl;
  coefficients = λ j h. refl;
  keys = λ j h. refl;
  count = rw (← e);
  coefficient = λ f. differ (e ∙ f);
  key = λ f. differ (e ∙ f);
}
  where
    differ : {A : Type 0} → true ≡ false → A
    differ q = absurd (subst (λ (b : Bool). cond b Unit ⊥) q tt)

pub kept-some : (cs : List ℤ) (ks : List ℕ) (r : ℕ) (c : ℤ) (k : ℕ) → false ≡ same_integer c (pos 0) → r < length cs → r < length ks → PutIs cs ks r c k (set cs r c) (set ks r k) (r + 1)
kept-some cs ks r c k e h l = record {
  long = length-set cs r c;
  same = length-set ks r k;
  coefficients = λ j f. get_or-set_other cs r j c (pos 0) f;
  keys = λ j f. get_or-set_other ks r j k 0 f;
  count = rw (← e);
  coefficient = λ f. get_or-set_same cs r c (pos 0) h;
  key = λ f. get_or-set_same ks r k 0 l;
}

-- ---- all entries
nonzeros-snoc : (E : List Entry) (e : Entry) → nonzeros (E ++ (e ∷ [])) ≡ nonzeros E ++ cond (same_integer e.coefficient (pos 0)) [] (e ∷ [])
unfolding nonzeros
nonzeros-snoc [] e = refl
nonzeros-snoc (x ∷ E) e = rw (nonzeros-snoc E e) (go (same_integer x.coefficient (pos 0)) (cond (same_integer e.coefficient (pos 0)) [] (e ∷ [])))
  where
    go : (b : Bool) (l : List Entry) → cond b (nonzeros E ++ l) (x ∷ (nonzeros E ++ l)) ≡ cond b (nonzeros E) (x ∷ nonzeros E) ++ l
    go true l = refl
    go false l = refl

-- of the first i literals of the stack's first entry r are not 0
pub record Choosing (cs : List ℤ) (ks : List ℕ) (i r : ℕ) (ds : List ℤ) (ls : List ℕ) : Type 0 where
  pub few : r ≤ i
  pub is : (d : ℕ → Term) → run (entry_at d ds ls) 0 r ≡ nonzeros (run (entry_at d (window 0 cs) (window 0 ks)) 0 i)
  pub each : (j : ℕ) → j < r → Picked (window 0 cs) (window 0 ks) j ds ls
  pub behind : Behind max_literals cs ks ds ls

pub choosing-start : (cs : List ℤ) (ks : List ℕ) → Choosing cs ks 0 0 cs ks
unfolding run nonzeros
choosing-start cs ks = record { few = omega arith; is = λ d. refl; each = λ j h. absurd (not-suc-le-zero h); behind = behind-none max_literals cs ks }

module _ {cs : List ℤ} {ks : List ℕ} {i r : ℕ} {ds : List ℤ} {ls : List ℕ} (C : Choosing cs ks i r ds ls) where
  -- what is read next: the entry's words are as they were
  pub choosing-coefficient : i < max_literals → get_or ds (stack_at + i) (pos 0) ≡ get_or (window 0 cs) i (pos 0)
  choosing-coefficient h = C.behind.coefficients (stack_at + i) (omega arith) ∙ sym (window-get 0 cs (pos 0) i (omega arith))

  pub choosing-key : i < max_literals → get_or ls (stack_at + i) 0 ≡ get_or (window 0 ks) i 0
  choosing-key h = C.behind.keys (stack_at + i) (omega arith) ∙ sym (window-get 0 ks 0 i (omega arith))

  module _ {c : ℤ} {k : ℕ} {es : List ℤ} {ms : List ℕ} {e : ℕ} (few : i < max_literals) (more : i < count_of (window 0 ks)) (f : c ≡ get_or (window 0 cs) i (pos 0)) (g : k ≡ get_or (window 0 ks) i 0) (K : PutIs ds ls r c k es ms e) where
    first : (d : ℕ → Term) → run (entry_at d es ms) 0 r ≡ run (entry_at d ds ls) 0 r
    first d = entries-same d ds es ls ms r (λ j h. K.coefficients j (omega arith)) (λ j h. K.keys j (omega arith))

    last : (d : ℕ → Term) → nonzeros (run (entry_at d (window 0 cs) (window 0 ks)) 0 (i + 1)) ≡ run (entry_at d ds ls) 0 r ++ cond (same_integer c (pos 0)) [] (entry_at d (window 0 cs) (window 0 ks) i ∷ [])
    last d =
        let a : i + 1 ≡ suc i = omega arith in
        let b : 0 + i ≡ i = omega arith in
        rw (a, run-snoc (entry_at d (window 0 cs) (window 0 ks)) 0 i, b, nonzeros-snoc (run (entry_at d (window 0 cs) (window 0 ks)) 0 i) (entry_at d (window 0 cs) (window 0 ks) i), C.is d, f)

    old : (j : ℕ) → j < r → Picked (window 0 cs) (window 0 ks) j es ms
    old j h = let P = C.each j h in record { i = P.i; below = P.below; coefficient = K.coefficients j (omega arith) ∙ P.coefficient; key = K.keys j (omega arith) ∙ P.key }

    -- an entry more
    module _ (q : same_integer c (pos 0) ≡ false) where
      grown : (d : ℕ → Term) → run (entry_at d es ms) 0 (r + 1) ≡ run (entry_at d ds ls) 0 r ++ (entry_at d (window 0 cs) (window 0 ks) i ∷ [])
      grown d =
          let a : r + 1 ≡ suc r = omega arith in
          let b : 0 + r ≡ r = omega arith in
          rw (a, run-snoc (entry_at d es ms) 0 r, b, first d, K.coefficient q ∙ f, K.key q ∙ g)

      new : (j : ℕ) → j < r + 1 → Dec (j < r) → Picked (window 0 cs) (window 0 ks) j es ms
      new j h (yes l) = old j l
      new j h (no l) = let e : j ≡ r = omega arith in rw e record { i = i; below = more; coefficient = K.coefficient q ∙ f; key = K.key q ∙ g }

    kept-behind : Behind max_literals cs ks es ms
    kept-behind = record {
      long = K.long ∙ C.behind.long;
      same = K.same ∙ C.behind.same;
      coefficients = λ j h. K.coefficients j (omega (arith, C.few)) ∙ C.behind.coefficients j h;
      keys = λ j h. K.keys j (omega (arith, C.few)) ∙ C.behind.keys j h;
    }

    pub choosing-more : Choosing cs ks (i + 1) e es ms
    choosing-more = go (same_integer c (pos 0)) refl
      where
        go : (b : Bool) → same_integer c (pos 0) ≡ b → Choosing cs ks (i + 1) e es ms
        go true q =
            let n : e ≡ r = K.count ∙ rw q in
            rw n record {
              few = omega (arith, C.few);
              is = λ d. first d ∙ sym (last d ∙ rw q (append-nil (run (entry_at d ds ls) 0 r)));
              each = old;
              behind = kept-behind;
            }
        go false q =
            let n : e ≡ r + 1 = K.count ∙ rw q in
            rw n record {
              few = omega (arith, C.few);
              is = λ d. grown q d ∙ sym (last d ∙ rw q);
              each = λ j h. new q j h (dec_lt j r);
              behind = kept-behind;
            }

  pub choosing-all : i ≡ count_of (window 0 ks) → Nonzeros (window 0 cs) (window 0 ks) ds ls r
  choosing-all e = record { is = λ d. rw e at (C.is d); few = omega (arith, C.few); each = C.each }
