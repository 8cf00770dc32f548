-- Outside constraints: behind the blanks and comments the text ends, or a constraint is judged there.
use mathlib.Core.Path.{◌≡◌, refl, sym, ◌∙◌}
use mathlib.Core.Bool.{Bool, true, false, cond, ◌||◌}
use mathlib.Core.List.{List, [], ◌∷◌, ◌++◌}
use Prim.Native.Nat.{ℕ, suc, ◌+◌, ◌-◌, ◌*◌, ◌≤◌, ◌<◌}
use native.Mathlib.Nat.{not-suc-le-zero}
use native.Mathlib.Omega.{arith}
use lib.Dec.{eqb}
use lib.ListN.{length, get_or, take, drop, drop_of_length-le, length-drop}
use lib.Seq.{drop-cons, drop-drop, get_or-drop}
use Rattle.calculus.specs.Bytes.{byte, class_of, is_blank, opens, closes}
use Rattle.calculus.specs.Commands.{enough}
use Rattle.calculus.specs.Words.{Res, ok, bad}
use Rattle.calculus.specs.Tokens.{span}
use Rattle.calculus.specs.Limits.{max_text, all_nodes}
use Rattle.calculus.specs.OpbWords.{OpbWord, semicolon, OpbToken, ended, word, wrong, in_opb_word, opb_word_of, opb_judged, opb_from, opb_behind, inside_at, Place, first, later, comment, next_place, passed, gap, place_at, outside_at}
use Rattle.calculus.specs.OpbWriting.{Constraint, assumptions_of}
use Rattle.calculus.specs.OpbReading.{fault, OpbRead, constraints, on_begin, constraint_from, on_one, on_outside, constraints_from}
use Rattle.lexer.proofs.Meanings.{falsely}
use Rattle.opb.specs.Judged.{judged_at}

-- ---- where blanks and comments end no blank stands
blank-seen : (c : Place) (b : ℕ) → passed c b ≡ false → is_blank b ≡ false
unfolding passed class_of
blank-seen first b e = go (is_blank b) e
  where
    go : (c : Bool) → (c || eqb b (byte "*")) ≡ false → c ≡ false
    go true e = e
    go false e = refl
blank-seen later b e = e
blank-seen comment b e = go (is_blank b) refl e
  where
    go : (c : Bool) → is_blank b ≡ c → passed comment b ≡ false → c ≡ false
    go true q e = falsely (sym (printed q) ∙ e)
      where
        printed : is_blank b ≡ true → passed comment b ≡ true
        printed q = rw q
    go false q e = refl

gap-stops : (c : Place) (bs : List ℕ) → gap c bs < length bs → is_blank (get_or bs (gap c bs) 0) ≡ false
unfolding gap
gap-stops c [] h = absurd (not-suc-le-zero h)
gap-stops c (b ∷ bs) h = go (passed c b) refl h (gap-stops (next_place c b) bs)
  where
    go : (d : Bool) → passed c b ≡ d → cond d (suc (gap (next_place c b) bs)) 0 < suc (length bs)
        → (gap (next_place c b) bs < length bs → is_blank (get_or bs (gap (next_place c b) bs) 0) ≡ false)
        → is_blank (get_or (b ∷ bs) (cond d (suc (gap (next_place c b) bs)) 0) 0) ≡ false
    go true e l r = r (omega arith)
    go false e l r = blank-seen c b e

-- ---- a token begins where its first byte stands
module _ (p : ℕ) (P : OpbToken → Type 0) (good : (w : OpbWord) (t : ℕ) → P (word w p t)) (no : (e : ℕ) → P (wrong e p)) where
  judged-begins : (t : ℕ) (r : Res OpbWord) → P (opb_judged p t r)
  unfolding opb_judged
  judged-begins t (ok w) = good w t
  judged-begins t (bad e) = no e

  begins : (b : ℕ) (bs : List ℕ) → P (opb_from p (b ∷ bs))
  unfolding opb_from
  begins b bs = go (in_opb_word b) (eqb b (byte ";")) (eqb (class_of b) opens || eqb (class_of b) closes)
    where
      go : (c d e : Bool) → P (cond c (opb_judged p (p + span in_opb_word (b ∷ bs)) (opb_word_of (take (span in_opb_word (b ∷ bs)) (b ∷ bs)))) (cond d (word semicolon p (p + 1)) (cond e (wrong 51 p) (wrong 3 p))))
      go true d e = judged-begins (p + span in_opb_word (b ∷ bs)) (opb_word_of (take (span in_opb_word (b ∷ bs)) (b ∷ bs)))
      go false true e = good semicolon (p + 1)
      go false false true = no 51
      go false false false = no 3

-- ---- what is no constraint's first token is refused alike
wrong_first : (f : ℕ) (s : List ℕ) (e p : ℕ) → constraint_from (suc f) s [] (wrong e p) ≡ fault e p
unfolding constraint_from on_begin
wrong_first f s e p = refl

wrong-judged : (s : List ℕ) (e p : ℕ) → constraint_from enough s [] (wrong e p) ≡ fault e p
wrong-judged s e p = wrong_first (2 * max_text + 1) s e p

module _ (go : Constraint → ℕ → OpbRead) (s : List ℕ) (p n c : ℕ) (ks : List Constraint) where
  abbrev Same : OpbToken → Type 0
  Same w = on_outside (λ w q. on_one go q n c (constraint_from enough s [] w)) ks w ≡ on_one go p n c (constraint_from enough s [] w)

  same_word : (w : OpbWord) (t : ℕ) → Same (word w p t)
  unfolding on_outside
  same_word w t = refl

  same-wrong : (e : ℕ) → Same (wrong e p)
  unfolding on_outside on_one
  same-wrong e = rw (wrong-judged s e p)

  same_from : (b : ℕ) (bs : List ℕ) → Same (opb_from p (b ∷ bs))
  same_from = begins p Same same_word same-wrong

-- ---- p is the first byte behind blanks and comments
module _ (s : List ℕ) (at p : ℕ) (start : p ≡ at + gap (place_at s at) (drop at s)) where
  outside_from : outside_at s at ≡ opb_from p (drop p s)
  unfolding outside_at opb_behind
  outside_from = rw (drop-drop (gap (place_at s at) (drop at s)) at s, ← start)

  pub outside-none : p ≡ length s → outside_at s at ≡ ended p
  unfolding opb_from
  outside-none e = let l : length s ≤ p = omega arith in outside_from ∙ rw (drop_of_length-le s l)

  pub outside-ended : p ≡ length s → (f n c : ℕ) (ks : List Constraint) → constraints_from (suc f) s at n c ks ≡ constraints ks
  unfolding constraints_from on_outside
  outside-ended e f n c ks = rw (outside-none e)

  module _ (h : p < length s) where
    not-blank : is_blank (get_or s p 0) ≡ false
    not-blank =
        let l : length (drop at s) ≡ length s - at = length-drop at s in
        let e : get_or (drop at s) (gap (place_at s at) (drop at s)) 0 ≡ get_or s p 0 = get_or-drop at s (gap (place_at s at) (drop at s)) 0 ∙ rw (← start) in
        rw (← e) (gap-stops (place_at s at) (drop at s) (omega arith))

    -- so the token inside a constraint from there on is the one outside
    inside-from : inside_at s p ≡ opb_from p (drop p s)
    unfolding inside_at opb_behind span
    inside-from =
        let z : span is_blank (drop p s) ≡ 0 = rw (drop-cons s p 0 h, not-blank) in
        let e : p + 0 ≡ p = omega arith in
        rw (z, e)

    pub outside-judged : (f n c : ℕ) (ks : List Constraint) → constraints_from (suc f) s at n c ks
        ≡ on_one (λ k t. constraints_from f s t (n + all_nodes (assumptions_of c k)) (c + length (assumptions_of c k)) (ks ++ (k ∷ []))) p n c (judged_at s p)
    unfolding constraints_from judged_at
    outside-judged f n c ks =
        rw (outside_from, inside-from, drop-cons s p 0 h)
        (same_from (λ k t. constraints_from f s t (n + all_nodes (assumptions_of c k)) (c + length (assumptions_of c k)) (ks ++ (k ∷ []))) s p n c ks (get_or s p 0) (drop (suc p) s))
