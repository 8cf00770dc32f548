-- Laws of the next token inside a constraint.
use mathlib.Core.Path.{◌≡◌, refl, sym, ◌∙◌}
use mathlib.Core.Bool.{Bool, true, false, ◌&&◌}
use mathlib.Core.List.{List, ◌∷◌}
use Prim.Native.Nat.{ℕ, suc, ◌+◌, ◌≤◌, ◌<◌}
use native.Mathlib.Omega.{arith}
use borrow.Author.Tests.{eq-eqb, ne_eqb, leb-true}
use lib.Dec.{leb}
use lib.ListN.{length, get_or, take, drop, drop_of_length-le}
use lib.Seq.{slice, drop-cons, drop-drop}
use Rattle.calculus.specs.Bytes.{byte, class_of, is_blank, is_digit, is_letter, in_word}
use Rattle.calculus.specs.Tokens.{span}
use Rattle.calculus.specs.OpbWords.{in_opb_word, opb_word_of, opb_judged, opb_from, opb_behind, inside_at}
use Rattle.lexer.proofs.Classes.{agree, agreed}
use Rattle.lexer.proofs.Meanings.{falsely}
use Rattle.lexer.proofs.Named.{run_on}
use Rattle.lexer.proofs.Runs.{span-go}
use Rattle.lexer.proofs.Spoken.{slice_from}
use Rattle.std.specs.Prelude.{Result, Ok, Err}
use Rattle.lexer.specs.declared.Fault.{Fault}
use Rattle.lexer.specs.declared.Reason.TheVariants.{BadByte, Format}
use Rattle.opb.specs.Tokens.{opb_token_of, OpbPlaced}
use Rattle.opb.specs.declared.OpbToken.{OpbToken}
use Rattle.opb.specs.declared.OpbToken.TheVariants.{End, Number, Literal, Relation, Semicolon}

-- ---- one byte
pub semicolon-ends : (b : ℕ) → b ≡ byte ";" → false ≡ in_opb_word b
unfolding in_opb_word in_word class_of is_blank is_digit is_letter
semicolon-ends b e = rw e

pub others-as-words : (b : ℕ) (r : Bool) → (b ≡ byte ";" → ⊥) → r ≡ in_word b → r ≡ in_opb_word b
unfolding in_opb_word
others-as-words b r n e = rw (ne_eqb b (byte ";") n) (e ∙ go (in_word b))
  where
    go : (c : Bool) → c ≡ (c && true)
    go true = refl
    go false = refl

digits_in : (b : ℕ) → 48 ≤ b → b < 58 → in_opb_word b ≡ true
unfolding agree in_opb_word in_word class_of is_blank is_digit is_letter
digits_in b h l = sym (agreed (λ (b : ℕ). true) in_opb_word 48 10 tt b h l)

digit-in-word : (b : ℕ) → is_digit b ≡ true → in_opb_word b ≡ true
unfolding is_digit
digit-in-word b e = go (leb (byte "0") b) (leb b (byte "9")) refl refl e
  where
    go : (c d : Bool) → leb (byte "0") b ≡ c → leb b (byte "9") ≡ d → (c && d) ≡ true → in_opb_word b ≡ true
    go true true p q e = let h : 48 ≤ b = leb-true _ _ p in let g : b ≤ 57 = leb-true _ _ q in digits_in b h (omega arith)
    go true false p q e = falsely (sym e)
    go false d p q e = falsely (sym e)

-- ---- the end of a word: behind its first byte, its digits, and what follows them
pub word-whole : (s : List ℕ) (f d t : ℕ) → f < length s → in_opb_word (get_or s f 0) ≡ true → d ≡ f + 1 + span is_digit (drop (f + 1) s) → t ≡ d + span in_opb_word (drop d s) → t ≡ f + span in_opb_word (drop f s)
word-whole s f d t h b p q =
    let e : drop (span is_digit (drop (f + 1) s)) (drop (f + 1) s) ≡ drop d s = rw (drop-drop (span is_digit (drop (f + 1) s)) (f + 1) s, ← p) in
    let r : span in_opb_word (drop (f + 1) s) ≡ span is_digit (drop (f + 1) s) + span in_opb_word (drop d s) = rw (← e) (run_on is_digit in_opb_word digit-in-word (drop (f + 1) s)) in
    omega (arith, span-go in_opb_word s f h b)

-- ---- the token
module _ (s : List ℕ) (at f : ℕ) (start : f ≡ at + span is_blank (drop at s)) where
  behind : inside_at s at ≡ opb_from f (drop f s)
  unfolding inside_at opb_behind
  behind = rw (drop-drop (span is_blank (drop at s)) at s, ← start)

  pub token_end : length s ≤ f → opb_token_of s (Ok (End f)) ≡ inside_at s at
  unfolding opb_token_of opb_from
  token_end h = rw (behind, drop_of_length-le s h)

  module _ (h : f < length s) where
    pub token-word : (t : ℕ) → in_opb_word (get_or s f 0) ≡ true → t ≡ f + span in_opb_word (drop f s) → opb_judged f t (opb_word_of (slice f t s)) ≡ inside_at s at
    unfolding opb_from
    token-word t b e =
        let y : slice f t s ≡ take (span in_opb_word (drop f s)) (drop f s) = rw e (slice_from f (span in_opb_word (drop f s)) s) in
        let c : drop f s ≡ get_or s f 0 ∷ drop (suc f) s = drop-cons s f 0 h in
        rw (behind, y, e, c, b)

    module _ (b : in_opb_word (get_or s f 0) ≡ false) where
      pub token-semicolon : get_or s f 0 ≡ byte ";" → opb_token_of s (Ok (Semicolon f)) ≡ inside_at s at
      unfolding opb_token_of opb_from
      token-semicolon e = rw (behind, drop-cons s f 0 h, b, eq-eqb _ _ e)

      pub token-opens : (k : ℕ) → (get_or s f 0 ≡ byte ";" → ⊥) → k ≡ class_of (get_or s f 0) → k ≡ 2 → opb_token_of s (Err (Format, f)) ≡ inside_at s at
      unfolding opb_token_of opb_from
      token-opens k n q e = rw (behind, drop-cons s f 0 h, b, ne_eqb _ _ n, ← q, e)

      pub token-closes : (k : ℕ) → (get_or s f 0 ≡ byte ";" → ⊥) → k ≡ class_of (get_or s f 0) → k ≡ 3 → opb_token_of s (Err (Format, f)) ≡ inside_at s at
      unfolding opb_token_of opb_from
      token-closes k n q e = rw (behind, drop-cons s f 0 h, b, ne_eqb _ _ n, ← q, e)

      pub token-bad : (k : ℕ) → (get_or s f 0 ≡ byte ";" → ⊥) → k ≡ class_of (get_or s f 0) → (k ≡ 2 → ⊥) → (k ≡ 3 → ⊥) → opb_token_of s (Err (BadByte, f)) ≡ inside_at s at
      unfolding opb_token_of opb_from
      token-bad k n q e g = rw (behind, drop-cons s f 0 h, b, ne_eqb _ _ n, ← q, ne_eqb k 2 e, ne_eqb k 3 g)

pub placed-from : (s : List ℕ) (at f : ℕ) → at ≤ f → (r : Result OpbToken Fault) → OpbPlaced s f r → OpbPlaced s at r
placed-from s at f h (Ok (End p)) e = e
placed-from s at f h (Ok (Number m v p t)) (a, e, b, c, d) = (a, e, omega arith, c, d)
placed-from s at f h (Ok (Literal d p n t)) (a, b, c, e, g) = (a, omega arith, c, e, g)
placed-from s at f h (Ok (Relation e p t)) (a, b, c) = (omega arith, b, c)
placed-from s at f h (Ok (Semicolon p)) (a, b) = (omega arith, b)
placed-from s at f h (Err e) (a, b) = (omega arith, b)
