-- A token of an OPB text ends behind its beginning and within the text, so a part of the text has at most as many words as bytes.
use mathlib.Core.Path.{◌≡◌}
use mathlib.Core.Bool.{Bool, true, false, cond, ◌||◌}
use mathlib.Core.List.{List, [], ◌∷◌}
use Prim.Native.Nat.{ℕ, suc, ◌+◌, ◌-◌, ◌≤◌, ◌<◌}
use native.Mathlib.Omega.{arith}
use lib.Dec.{T, eqb}
use lib.IntN.{ℤ}
use lib.ListN.{length, take, drop, length-drop}
use Rattle.calculus.specs.Bytes.{is_blank, class_of, opens, closes}
use Rattle.calculus.specs.Words.{Res, ok, bad}
use Rattle.calculus.specs.Tokens.{span}
use Rattle.calculus.specs.OpbWords.{Relation, OpbWord, semicolon, word, wrong, in_opb_word, opb_word_of, opb_judged, opb_from, opb_behind, inside_at, Place, next_place, passed, gap, place_at, outside_at}
use Rattle.calculus.specs.OpbWriting.{Summand, times, Constraint, compare, summands_words, constraint_words, HasInside, HasConstraint, HasConstraints}
use Rattle.calculus.proofs.Tokens.{span-le, span-some}

pub gap-le : (c : Place) (bs : List ℕ) → gap c bs ≤ length bs
unfolding gap
gap-le c [] = omega arith
gap-le c (b ∷ bs) = go (passed c b) (gap-le (next_place c b) bs)
  where
    go : (d : Bool) → gap (next_place c b) bs ≤ length bs → cond d (suc (gap (next_place c b) bs)) 0 ≤ suc (length bs)
    go true h = omega arith
    go false h = omega arith

judged-end : (p t : ℕ) (r : Res OpbWord) (w : OpbWord) (q u : ℕ) → opb_judged p t r ≡ word w q u → t ≡ u
unfolding opb_judged
judged-end p t (ok v) w q u e = cc
judged-end p t (bad n) w q u e = let z : ◌≡◌ {A = ℕ} 0 1 = cc in let v : ⊥ = omega arith in absurd v

from-later : (p : ℕ) (bs : List ℕ) (w : OpbWord) (q t : ℕ) → opb_from p bs ≡ word w q t → (p < t) × (t ≤ p + length bs)
unfolding opb_from
from-later p [] w q t e = let z : ◌≡◌ {A = ℕ} 0 1 = cc in let v : ⊥ = omega arith in absurd v
from-later p (b ∷ bs) w q t e = go (in_opb_word b) (eqb b 59) (eqb (class_of b) opens || eqb (class_of b) closes) (span-some in_opb_word b bs) (span-le in_opb_word (b ∷ bs)) e
  where
    k : ℕ
    k = span in_opb_word (b ∷ bs)

    go : (c d f : Bool) → (T c → 0 < k) → k ≤ suc (length bs) → cond c (opb_judged p (p + k) (opb_word_of (take k (b ∷ bs)))) (cond d (word semicolon p (p + 1)) (cond f (wrong 51 p) (wrong 3 p))) ≡ word w q t → (p < t) × (t ≤ p + suc (length bs))
    go true d f h l e =
        let z : p + k ≡ t = judged-end p (p + k) (opb_word_of (take k (b ∷ bs))) w q t e in
        let y : 0 < k = h tt in
        (omega arith, omega arith)
    go false true f h l e = let z : p + 1 ≡ t = cc in (omega arith, omega arith)
    go false false true h l e = let z : ◌≡◌ {A = ℕ} 0 1 = cc in let v : ⊥ = omega arith in absurd v
    go false false false h l e = let z : ◌≡◌ {A = ℕ} 0 1 = cc in let v : ⊥ = omega arith in absurd v

behind-later : (s : List ℕ) (k at : ℕ) (w : OpbWord) (q t : ℕ) → k ≤ length (drop at s) → opb_behind k at (drop at s) ≡ word w q t → (at < t) × (t ≤ length s)
unfolding opb_behind
behind-later s k at w q t a e =
    let bs = drop at s in
    let (h, l) = from-later (at + k) (drop k bs) w q t e in
    let b : length (drop k bs) ≡ length bs - k = length-drop k bs in
    let c : length bs ≡ length s - at = length-drop at s in
    (omega arith, omega arith)

pub inside-later : (s : List ℕ) (at : ℕ) (w : OpbWord) (q t : ℕ) → inside_at s at ≡ word w q t → (at < t) × (t ≤ length s)
unfolding inside_at
inside-later s at w q t e = behind-later s (span is_blank (drop at s)) at w q t (span-le is_blank (drop at s)) e

pub outside-later : (s : List ℕ) (at : ℕ) (w : OpbWord) (q t : ℕ) → outside_at s at ≡ word w q t → (at < t) × (t ≤ length s)
unfolding outside_at
outside-later s at w q t e = behind-later s (gap (place_at s at) (drop at s)) at w q t (gap-le (place_at s at) (drop at s)) e

-- ---- words, and constraints, one after the other
words_long : (s : List ℕ) (ws : List OpbWord) (a e : ℕ) → HasInside s a ws e → a + length ws ≤ e
unfolding HasInside
words_long s [] a e h = omega arith
words_long s (w ∷ ws) a e (p, t, g, h) = omega (arith, (inside-later s a w p t g).0, words_long s ws t e h)

words_inside : (s : List ℕ) (ws : List OpbWord) (a e : ℕ) → a ≤ length s → HasInside s a ws e → e ≤ length s
unfolding HasInside
words_inside s [] a e l h = omega arith
words_inside s (w ∷ ws) a e l (p, t, g, h) = words_inside s ws t e (inside-later s a w p t g).1 h

pub one-long : (s : List ℕ) (ws : List OpbWord) (a e : ℕ) → HasConstraint s a ws e → a + length ws ≤ e
unfolding HasConstraint
one-long s [] a e h = omega arith
one-long s (w ∷ ws) a e (p, t, g, h) = omega (arith, (outside-later s a w p t g).0, words_long s ws t e h)

pub one_inside : (s : List ℕ) (ws : List OpbWord) (a e : ℕ) → a ≤ length s → HasConstraint s a ws e → e ≤ length s
unfolding HasConstraint
one_inside s [] a e l h = omega arith
one_inside s (w ∷ ws) a e l (p, t, g, h) = words_inside s ws t e (outside-later s a w p t g).1 h

-- a constraint has more words than summands
pub few-summands : (xs : List Summand) (r : Relation) (k : ℤ) → length xs < length (constraint_words (compare xs r k))
unfolding constraint_words summands_words
few-summands [] r k = omega arith
few-summands (times c l ∷ xs) r k = omega (arith, few-summands xs r k)

pub some_words : (k : Constraint) → 0 < length (constraint_words k)
some_words (compare xs r k) = omega (arith, few-summands xs r k)

pub constraints-long : (s : List ℕ) (ks : List Constraint) (a e : ℕ) → HasConstraints s a ks e → a + length ks ≤ e
unfolding HasConstraints
constraints-long s [] a e h = omega arith
constraints-long s (k ∷ ks) a e (t, g, h) = omega (arith, one-long s (constraint_words k) a t g, some_words k, constraints-long s ks t e h)

pub constraints-inside : (s : List ℕ) (ks : List Constraint) (a e : ℕ) → a ≤ length s → HasConstraints s a ks e → e ≤ length s
unfolding HasConstraints
constraints-inside s [] a e l h = omega arith
constraints-inside s (k ∷ ks) a e l (t, g, h) = constraints-inside s ks t e (one_inside s (constraint_words k) a t l g) h
