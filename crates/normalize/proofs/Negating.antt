-- Negating a sum in place, a block of structs at a time, and what that is on the list of entries.
use mathlib.Core.Path.{◌≡◌, refl, sym, ap, ◌∙◌}
use mathlib.Core.Bool.{Bool, true, false}
use mathlib.Core.List.{List, [], ◌∷◌, map}
use Prim.Native.Nat.{ℕ, zero, suc, ◌+◌, ◌-◌, ◌≤◌, ◌<◌}
use native.Mathlib.Decide.{dec_lt}
use native.Mathlib.Nat.{not-suc-le-zero}
use native.Mathlib.Omega.{arith}
use lib.IntN.{ℤ, pos, neg_ℤ}
use lib.ListN.{length, get_or, set, length-set, get_or-map, replicate, length-replicate}
use lib.Seq.{get_or-set_same, get_or-set_other}
use Rattle.integer.proofs.Fits.{within-neg, within-pos, fits-within}
use Rattle.integer.specs.Integers.{Within}
use Rattle.calculus.specs.Normalize.{neg_entry, neg_all}
use Rattle.calculus.specs.Entries.{Entry, entry}
use Rattle.calculus.specs.Terms.{Term}
use Rattle.calculus.specs.Words.{max_numeral}
use Rattle.entries.proofs.Same.{negate-entry}
use Rattle.entries.specs.declared.Entry.{Entry as Struct}
use Rattle.entries.specs.Entries.{block_size, AllTurn, negated}
use Rattle.matching.specs.Entries.{run, entry_at, entries}
use Rattle.matching.specs.Matched.{lit_at}
use Rattle.normalize.specs.Flattening.{turn_all}
use Rattle.normalize.specs.Halves.{struct_of, vacant, BlockIs, PutIs, NegateReady, NegatedIs}
use Rattle.normalize.specs.Lists.{Room, Coefficients, Held}
use Rattle.normalize.proofs.Runs.{run-each}
use Rattle.normalize.proofs.Signs.{turn-is-neg, turn-is-same}

-- ---- a block without entries
vacant-all : (n k : ℕ) → get_or (replicate n vacant) k vacant ≡ vacant
vacant-all zero zero = refl
vacant-all zero (suc k) = refl
vacant-all (suc n) zero = refl
vacant-all (suc n) (suc k) = vacant-all n k

-- ---- filling a block: the first k places have their entries, the others none
pub record Filling (cs : List ℤ) (ks : List ℕ) (i : ℕ) (block : List Struct) (k : ℕ) : Type 0 where
  pub long : length block ≡ block_size
  pub filled : BlockIs cs ks i k block

module _ {cs : List ℤ} {ks : List ℕ} {i : ℕ} where
  pub filling-none : {e : Struct} → e ≡ vacant → Filling cs ks i (replicate block_size e) 0
  filling-none {e} h = rw h (record {
    long = length-replicate block_size vacant;
    filled = record { here = λ k l. absurd (not-suc-le-zero l); behind = λ k l. vacant-all block_size k };
  })

  pub filling-more : {block : List Struct} {k : ℕ} {e : Struct} → Filling cs ks i block k → k < block_size → e ≡ struct_of (get_or cs (i + k) (pos 0)) (get_or ks (i + k) 0) → Filling cs ks i (set block k e) (k + 1)
  filling-more {block} {k} {e} w h q = record {
    long = length-set block k e ∙ w.long;
    filled = record {
      here = λ j l. elim (dec_lt j k) [
        | yes lt ↦ get_or-set_other block k j e vacant (λ z. omega arith) ∙ w.filled.here j lt
        | no ge ↦ let z : j ≡ k = omega arith in rw z (get_or-set_same block k e vacant (omega (arith, w.long)) ∙ q)
      ];
      behind = λ j l. get_or-set_other block k j e vacant (λ z. omega arith) ∙ w.filled.behind j (omega arith);
    };
  }

-- ---- putting it back: the first k coefficients stand in their places, no others changed
module _ {cs : List ℤ} {i : ℕ} {block : List Struct} where
  pub putting-none : PutIs cs i 0 block cs
  putting-none = record { here = λ k l. absurd (not-suc-le-zero l); before = λ j l. refl; behind = λ j l. refl }

  pub putting-more : {cs' : List ℤ} {k : ℕ} {c : ℤ} → PutIs cs i k block cs' → i + k < length cs' → c ≡ (get_or block k vacant).coefficient → PutIs cs i (k + 1) block (set cs' (i + k) c)
  putting-more {cs'} {k} {c} w room q = record {
    here = λ j l. elim (dec_lt j k) [
      | yes lt ↦ get_or-set_other cs' (i + k) (i + j) c (pos 0) (λ z. omega arith) ∙ w.here j lt
      | no ge ↦ let z : j ≡ k = omega arith in rw z (get_or-set_same cs' (i + k) c (pos 0) room ∙ q)
    ];
    before = λ j l. get_or-set_other cs' (i + k) j c (pos 0) (λ z. omega arith) ∙ w.before j l;
    behind = λ j l. get_or-set_other cs' (i + k) j c (pos 0) (λ z. omega arith) ∙ w.behind j (omega arith);
  }

-- ---- a block of numerals can be negated
all-turn : (es : List Struct) → ((k : ℕ) → Within max_numeral (get_or es k vacant).coefficient) → AllTurn es
all-turn [] h = tt
all-turn (e ∷ es) h = (fits-within (omega arith) (within-neg (h 0)), all-turn es (λ k. h (suc k)))

-- ---- on lists
negated-run : (f g : ℕ → Entry) (i n : ℕ) → ((m : ℕ) → i ≤ m → m < i + n → g m ≡ neg_entry (f m)) → run g i n ≡ neg_all (run f i n)
unfolding neg_all
negated-run = run-each neg_all neg_entry refl (λ e E. refl)

-- ---- the loop: the first i are negated, the others as they were
pub record Negating (cs : List ℤ) (n : ℕ) (cs' : List ℤ) (i : ℕ) : Type 0 where
  pub upto : i ≤ n
  pub coeffs : length cs' ≡ length cs
  pub done : (m : ℕ) → m < i → get_or cs' m (pos 0) ≡ neg_ℤ (get_or cs m (pos 0))
  pub left : (m : ℕ) → i ≤ m → get_or cs' m (pos 0) ≡ get_or cs m (pos 0)

module _ {cs : List ℤ} {ks : List ℕ} {n : ℕ} (p : NegateReady cs ks n) where
  pub negating-none : Negating cs n cs 0
  negating-none = record { upto = omega arith; coeffs = refl; done = λ m h. absurd (not-suc-le-zero h); left = λ m h. refl }

  module _ {cs' : List ℤ} {i : ℕ} (w : Negating cs n cs' i) where
    pub negating_turns : {m : ℕ} {block : List Struct} → i + m ≤ n → BlockIs cs' ks i m block → AllTurn block
    negating_turns {m} {block} l b = all-turn block (λ k. elim (dec_lt k m) [
      | yes lt ↦ rw (b.here k lt, w.left (i + k) (omega arith)) (p.within (i + k) (omega arith))
      | no ge ↦ rw (b.behind k (omega arith)) (within-pos {n = 0} (omega arith))
    ])

    pub negating-more : {m : ℕ} {block turned : List Struct} {cs'' : List ℤ} → i + m ≤ n → BlockIs cs' ks i m block → turned ≡ map negated block → length cs'' ≡ length cs' → PutIs cs' i m turned cs'' → Negating cs n cs'' (i + m)
    negating-more {m} {block} {turned} {cs''} l b e k q = record {
      upto = l;
      coeffs = k ∙ w.coeffs;
      done = λ j h. elim (dec_lt j i) [
        | yes lt ↦ q.before j lt ∙ w.done j lt
        | no ge ↦
            let z : i + (j - i) ≡ j = omega arith in
            let r : get_or turned (j - i) vacant ≡ negated (get_or block (j - i) vacant) = rw e (get_or-map negated block (j - i) vacant) in
            rw z at (q.here (j - i) (omega arith) ∙ ap (λ (s : Struct). s.coefficient) (r ∙ ap negated (b.here (j - i) (omega arith)))) ∙ ap neg_ℤ (w.left j (omega arith))
      ];
      left = λ j h. q.behind j h ∙ w.left j (omega arith);
    }

    pub negating_end : n ≤ i → NegatedIs cs ks n cs'
    negating_end h = record {
      is = λ d. negated-run (entry_at d cs ks) (entry_at d cs' ks) 0 n (λ m a l.
          ap (λ (z : ℤ). entry (lit_at d (get_or ks m 0)) z) (w.done m (omega (arith, w.upto))) ∙ negate-entry d (struct_of (get_or cs m (pos 0)) (get_or ks m 0)));
      within = λ m l. rw (w.done m (omega (arith, w.upto))) (within-neg (p.within m l));
    }

-- ---- entries of the table
pub negate-ready : {t : List ℕ} {cs : List ℤ} {ks : List ℕ} {n : ℕ} → Room cs ks → Held t cs ks n → NegateReady cs ks n
negate-ready r h = record { coeffs = omega (arith, h.most, r.coeffs); keys = omega (arith, h.most, r.keys); within = h.within }

pub negate-held : {t : List ℕ} {cs cs' : List ℤ} {ks : List ℕ} {n : ℕ} → Held t cs ks n → NegatedIs cs ks n cs' → Held t cs' ks n
negate-held h p = record { most = h.most; nodes = h.nodes; within = p.within }

-- ---- where a sign says so
-- the first n entries are turned by b
pub record TurnedIs (b : Bool) (cs : List ℤ) (ks : List ℕ) (n : ℕ) (cs' : List ℤ) : Type 0 where
  pub is : (d : ℕ → Term) → entries d cs' ks n ≡ turn_all b (entries d cs ks n)
  pub within : Coefficients cs' n
  pub coeffs : length cs' ≡ length cs

module _ {b : Bool} {cs cs' : List ℤ} {ks : List ℕ} {n : ℕ} where
  pub turned-yes : {ds : List ℤ} → b ≡ true → NegatedIs cs ks n ds → length ds ≡ length cs → cs' ≡ ds → TurnedIs b cs ks n cs'
  turned-yes e g l f = rw (e, f) (record { is = λ d. g.is d ∙ sym (turn-is-neg (entries d cs ks n)); within = g.within; coeffs = l })

  pub turned-no : b ≡ false → Coefficients cs n → cs' ≡ cs → TurnedIs b cs ks n cs'
  turned-no e w f = rw (e, f) (record { is = λ d. sym (turn-is-same (entries d cs ks n)); within = w; coeffs = refl })

  pub turned-held : {t : List ℕ} → Held t cs ks n → TurnedIs b cs ks n cs' → Held t cs' ks n
  turned-held h p = record { most = h.most; nodes = h.nodes; within = p.within }
