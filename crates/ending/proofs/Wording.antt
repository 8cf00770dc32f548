-- Entries as the words of summands, one after the other.
use mathlib.Core.Path.{◌≡◌, refl, sym, subst, ◌∙◌}
use mathlib.Core.Bool.{Bool, true, false, cond}
use mathlib.Core.List.{List, [], ◌∷◌, ◌++◌}
use Prim.Native.Nat.{ℕ, zero, suc, ◌+◌, ◌≤◌, ◌<◌}
use native.Mathlib.Nat.{not-suc-le-zero}
use native.Mathlib.Omega.{arith}
use borrow.Author.Tests.{le-ltb, ltb-true}
use lib.Dec.{T}
use lib.IntN.{ℤ, pos, negsuc, neg_ℤ, nat_abs}
use lib.ListN.{length, get_or}
use lib.Signed.{lt_z, non_neg}
use mir.Syntax.{w32}
use mir.Val.{Fits}
use Rattle.integer.specs.Integers.{signed, Within}
use Rattle.calculus.specs.OpbWriting.{Summand, times, key_of, entry_of, entries_of}
use Rattle.calculus.specs.Terms.{var}
use Rattle.calculus.specs.Words.{max_numeral}
use Rattle.nodes.specs.Nodes.{name_at, first_at, second_at}
use Rattle.nodes.proofs.Tables.{decode-name}
use Rattle.matching.specs.Entries.{run, entry_at, Under}
use Rattle.matching.specs.Matched.{variable_of, negated_of, Text, term}
use Rattle.opb.specs.Judged.{put_summand}
use Rattle.opb.specs.Summands.{summand_words, literal_over, summands_of, SummandsIn}
use Rattle.opb.proofs.Storing.{none-stored, more-stored}
use Rattle.ending.specs.Ending.{Gathered, Written, words_put}
use Rattle.ending.proofs.Sorting.{run-snoc}

-- ---- a number by its sign and magnitude
pub signed_is : (z : ℤ) → signed (lt_z z (pos 0)) (nat_abs z) ≡ z
unfolding signed
signed_is (pos n) = rw (le-ltb n 0 (omega arith))
signed_is (negsuc n) = refl

minus-some : (z : ℤ) → lt_z z (pos 0) ≡ true → 1 ≤ nat_abs z
minus-some (pos n) e = omega (arith, ltb-true n 0 e)
minus-some (negsuc n) e = omega arith

-- the magnitude fits a word, as the code casts it
pub plus_cast : (z : ℤ) → lt_z z (pos 0) ≡ false → Within max_numeral z → T (non_neg z) × Fits w32 (nat_abs z)
plus_cast (pos n) e w = (tt, record { fits = omega (arith, w.within) })
plus_cast (negsuc n) e w = absurd (subst (λ (b : Bool). cond b Unit ⊥) e tt)

pub minus-cast : (z : ℤ) → lt_z z (pos 0) ≡ true → Within max_numeral z → T (non_neg (neg_ℤ z)) × Fits w32 (nat_abs (neg_ℤ z))
minus-cast (pos n) e w = let h : n < 0 = ltb-true n 0 e in absurd (not-suc-le-zero h)
minus-cast (negsuc n) e w = (tt, record { fits = omega (arith, w.within) })

pub minus-size : (z : ℤ) → nat_abs (neg_ℤ z) ≡ nat_abs z
minus-size (pos zero) = refl
minus-size (pos (suc n)) = refl
minus-size (negsuc n) = refl

-- ---- a summand as an entry
literal-is : (d : Bool) (x : List ℕ) → key_of (literal_over d x) ≡ record { variable = var x; negated = d }
unfolding key_of literal_over
literal-is true x = refl
literal-is false x = refl

entries-snoc : (xs : List Summand) (x : Summand) → entries_of (xs ++ (x ∷ [])) ≡ entries_of xs ++ (entry_of x ∷ [])
unfolding entries_of
entries-snoc [] x = refl
entries-snoc (y ∷ xs) x = rw (entries-snoc xs x)

-- ---- all
pub written_none : (t : List ℕ) (cs : List ℤ) (ks a : List ℕ) → summand_words ≤ length a → Written t cs ks 0 a
unfolding run entries_of
written_none t cs ks a h = record { is = λ x u. rw (none-stored x.text a h).0; each = λ x u. (none-stored x.text a h).1 }

module _ {t : List ℕ} {cs : List ℤ} {ks : List ℕ} {r q : ℕ} {a : List ℕ} (L : Gathered t cs ks r) (W : Written t cs ks q a) (h : q < r) (room : summand_words ≤ length a) where
  abbrev v : ℕ
  v = variable_of (get_or ks q 0)

  abbrev z : ℤ
  z = get_or cs q (pos 0)

  stored : (x : Text t) → Under x.n ks (q + 1) →
      (summands_of x.text (words_put t cs ks q a) (q + 1) ≡ summands_of x.text a q ++ (times (signed (lt_z z (pos 0)) (nat_abs z)) (literal_over (negated_of (get_or ks q 0)) (name_at x.text t v)) ∷ [])) × SummandsIn x.text (words_put t cs ks q a) (q + 1)
  stored x u =
      let b : v < x.n = u q (omega arith) in
      more-stored x.text a q (lt_z z (pos 0)) (nat_abs z) (negated_of (get_or ks q 0)) (first_at t v) (second_at t v) (summands_of x.text a q)
      (λ few. (refl, W.each x (λ i l. u i (omega arith)))) room
      (L.within q h).within (minus-some z) (x.named.starts v b (L.names q h)) (x.named.ends v b (L.names q h)) (x.named.short v b (L.names q h))
      (omega (arith, L.few))

  entry-is : (x : Text t) → entry_of (times (signed (lt_z z (pos 0)) (nat_abs z)) (literal_over (negated_of (get_or ks q 0)) (name_at x.text t v))) ≡ entry_at (term x) cs ks q
  unfolding entry_of
  entry-is x =
      let N = (L.literals q h).node in
      rw (signed_is z, literal-is (negated_of (get_or ks q 0)) (name_at x.text t v), decode-name N.table x.text v N.below (L.names q h))

  written-more : Written t cs ks (q + 1) (words_put t cs ks q a)
  written-more = record {
    is = λ x u.
        let e : q + 1 ≡ suc q = omega arith in
        let f : 0 + q ≡ q = omega arith in
        rw ((stored x u).0, entries-snoc (summands_of x.text a q) (times (signed (lt_z z (pos 0)) (nat_abs z)) (literal_over (negated_of (get_or ks q 0)) (name_at x.text t v))), W.is x (λ i l. u i (omega arith)), entry-is x)
        (sym (rw e (run-snoc (entry_at (term x) cs ks) 0 q ∙ rw f)));
    each = λ x u. (stored x u).1;
  }

-- fewer of them
pub gathered-less : {t : List ℕ} {cs : List ℤ} {ks : List ℕ} {q r : ℕ} → Gathered t cs ks r → q ≤ r → Gathered t cs ks q
gathered-less G h = record {
  few = omega (arith, G.few);
  coefficients = G.coefficients;
  keys = G.keys;
  literals = λ i l. G.literals i (omega arith);
  names = λ i l. G.names i (omega arith);
  within = λ i l. G.within i (omega arith);
}

-- as the code puts them
pub words-put : (t : List ℕ) (cs : List ℤ) (ks : List ℕ) (q : ℕ) (a : List ℕ) {b : List ℕ} {m : Bool} {v : ℕ} {d : Bool} {n e w : ℕ}
    → m ≡ lt_z (get_or cs q (pos 0)) (pos 0) → v ≡ nat_abs (get_or cs q (pos 0)) → d ≡ negated_of (get_or ks q 0) → w ≡ variable_of (get_or ks q 0) → n ≡ first_at t w → e ≡ second_at t w
    → b ≡ put_summand a q m v d n e → b ≡ words_put t cs ks q a
words-put t cs ks q a f g h i j k p = p ∙ rw (f, g, h, j, k, i)

pub written_next : {t : List ℕ} {cs : List ℤ} {ks : List ℕ} {r q : ℕ} {a b : List ℕ} → Gathered t cs ks r → Written t cs ks q a → q < r → summand_words ≤ length a → b ≡ words_put t cs ks q a → Written t cs ks (q + 1) b
written_next L W h room e = rw e (written-more L W h room)
