-- The words of a pol line are read from their words.
use mathlib.Core.Path.{◌≡◌, refl, sym, ap, ap₂, ◌∙◌}
use mathlib.Core.Bool.{Bool, not}
use mathlib.Core.List.{List, [], ◌∷◌, ◌++◌, append_assoc, append-nil}
use Prim.Native.Nat.{ℕ, zero, suc, ◌≤◌, ◌<◌}
use native.Mathlib.Omega.{arith}
use lib.Dec.{T}
use lib.ListN.{length, length-append}
use Rattle.calculus.specs.Bytes.{bytes}
use Rattle.calculus.specs.Grammar.{Reads, got, then, on_close, close_at, on_item}
use Rattle.calculus.specs.PolGrammar.{on_factor, named_word, on_word, word_at, more_words, words_at}
use Rattle.calculus.specs.Terms.{same_name, PolWord, line_word, plain_word, negated_word, plus-word, saturate-word, times-word, over_word}
use Rattle.calculus.specs.Words.{closing, mark}
use Rattle.calculus.specs.Tokens.{word, token_at}
use Rattle.calculus.specs.Limits.{operand, allowed_word, allowed_words, some_word}
use Rattle.calculus.specs.Writing.{pol_word, pol_words, Has}
use Rattle.calculus.proofs.Booleans.{and_l, and_r, is_true, is_false}
use Rattle.theorems.proofs.Faithful.{has-as}
use Rattle.theorems.proofs.Readable.{has_split, item_close}

module _ (above : List ℕ → Bool) (s : List ℕ) where
  named-line : (n : ℕ) (x : List ℕ) (p u : ℕ) → T (operand x) → T (above x) → named_word above n x p u ≡ got (line_word x) u n
  unfolding named_word operand
  named-line n x p u o k = rw (is_false (same_name (bytes "d") x) (and_l (not (same_name (bytes "d") x)) _ o), is_false (same_name (bytes "s") x) (and_r (not (same_name (bytes "d") x)) _ o), is_true (above x) k) refl

  named-plain : (n : ℕ) (x : List ℕ) (p u : ℕ) → T (operand x) → T (not (above x)) → named_word above n x p u ≡ got (plain_word x) u n
  unfolding named_word operand
  named-plain n x p u o k = rw (is_false (same_name (bytes "d") x) (and_l (not (same_name (bytes "d") x)) _ o), is_false (same_name (bytes "s") x) (and_r (not (same_name (bytes "d") x)) _ o), is_false (above x) k) refl

  word_at_eq : (w : PolWord) (at n t : ℕ) → T (allowed_word above w) → Has s at (pol_word w) t → word_at above s at n ≡ got w t n
  unfolding word_at on_word on_factor named_word same_name pol_word Has allowed_word
  word_at_eq (line_word d) at n t a (p, u, e, h) = ap (on_word above s n) e ∙ named-line n d p u (and_l (operand d) _ a) (and_r (operand d) _ a) ∙ ap (λ (v : ℕ). got (line_word d) v n) h
  word_at_eq (plain_word x) at n t a (p, u, e, h) = ap (on_word above s n) e ∙ named-plain n x p u (and_l (operand x) _ a) (and_r (operand x) _ a) ∙ ap (λ (v : ℕ). got (plain_word x) v n) h
  word_at_eq (negated_word x) at n t a (p, u, e, h) = ap (on_word above s n) e ∙ ap (λ (v : ℕ). got (negated_word x) v n) h
  word_at_eq plus-word at n t a (p, u, e, h) = ap (on_word above s n) e ∙ ap (λ (v : ℕ). got plus-word v n) h
  word_at_eq saturate-word at n t a (p, u, e, h) = ap (on_word above s n) e ∙ ap (λ (v : ℕ). got saturate-word v n) h
  word_at_eq (times-word m) at n t a (p, u, e, (q, v, g, h)) = ap (on_word above s n) e ∙ ap (on_factor m n) g ∙ ap (λ (v : ℕ). got (times-word m) v n) h
  word_at_eq (over_word m) at n t a (p, u, e, (q, v, g, h)) = ap (on_word above s n) e ∙ ap (on_factor m n) g ∙ ap (λ (v : ℕ). got (over_word m) v n) h

  -- no word of a pol line begins with the closing bracket
  word-not_close : (w : PolWord) (at t : ℕ) → Has s at (pol_word w) t → on_close (token_at s at) ≡ 0
  unfolding on_close pol_word Has
  word-not_close (line_word d) at t (p, u, e, h) = ap on_close e
  word-not_close (plain_word x) at t (p, u, e, h) = ap on_close e
  word-not_close (negated_word x) at t (p, u, e, h) = ap on_close e
  word-not_close plus-word at t (p, u, e, h) = ap on_close e
  word-not_close saturate-word at t (p, u, e, h) = ap on_close e
  word-not_close (times-word m) at t (p, u, e, h) = ap on_close e
  word-not_close (over_word m) at t (p, u, e, h) = ap on_close e

  then-got-eq : {A B : Type 0} (r : Reads A) (k : A → ℕ → ℕ → Reads B) (a : A) (t n : ℕ) → r ≡ got a t n → then r k ≡ k a t n
  unfolding then
  then-got-eq r k a t n e = ap (λ (q : Reads _). then q k) e

  more-eq : (f : ℕ) (ws : List PolWord) (at n : ℕ) (vs : List PolWord) (t : ℕ) → T (allowed_words above ws) → length ws < f → Has s at (pol_words ws ++ (mark closing ∷ [])) t → more_words f above s at n vs ≡ got (vs ++ ws) t n
  unfolding more_words close_at pol_words allowed_words on_item
  more-eq zero ws at n vs t a j h = let v : ⊥ = omega arith in absurd v
  more-eq (suc f) [] at n vs t a j h = unfold Has in none h
    where
      none : (p : ℕ) × (u : ℕ) × (token_at s at ≡ word (mark closing) p u) × (u ≡ t) → on_item (then (word_at above s at n) (λ w t m. more_words f above s t m (vs ++ (w ∷ [])))) vs n (on_close (token_at s at)) ≡ got (vs ++ []) t n
      none (p, u, e, h) = item_close s _ at n p u vs e ∙ ap₂ (λ (a : List PolWord) (b : ℕ). got a b n) (sym (append-nil vs)) h
  more-eq (suc f) (w ∷ ws) at n vs t a j h =
      let (b, h₁, h₂) = has_split s (pol_word w) (pol_words ws ++ (mark closing ∷ [])) at t (has-as s at t _ _ (append_assoc (pol_word w) (pol_words ws) (mark closing ∷ [])) h) in
      ap (on_item (then (word_at above s at n) (λ w t m. more_words f above s t m (vs ++ (w ∷ [])))) vs n) (word-not_close w at b h₁)
      ∙ then-got-eq (word_at above s at n) (λ w t m. more_words f above s t m (vs ++ (w ∷ []))) w b n (word_at_eq w at n b (and_l (allowed_word above w) _ a) h₁)
      ∙ more-eq f ws b n (vs ++ (w ∷ [])) t (and_r (allowed_word above w) _ a) (omega arith) h₂
      ∙ ap (λ (us : List PolWord). got us t n) (append_assoc vs (w ∷ []) ws)

  pub words_at-eq : (f : ℕ) (ws : List PolWord) (at n t : ℕ) → T (some_word ws) → T (allowed_words above ws) → length ws < f → Has s at (pol_words ws ++ (mark closing ∷ [])) t → words_at f above s at n ≡ got ws t n
  unfolding words_at some_word allowed_words pol_words
  words_at-eq f [] at n t o a j h = absurd o
  words_at-eq f (w ∷ ws) at n t o a j h =
      let (b, h₁, h₂) = has_split s (pol_word w) (pol_words ws ++ (mark closing ∷ [])) at t (has-as s at t _ _ (append_assoc (pol_word w) (pol_words ws) (mark closing ∷ [])) h) in
      then-got-eq (word_at above s at n) (λ w t m. more_words f above s t m (w ∷ [])) w b n (word_at_eq w at n b (and_l (allowed_word above w) _ a) h₁)
      ∙ more-eq f ws b n (w ∷ []) t (and_r (allowed_word above w) _ a) (omega arith) h₂

-- each is written with a word at least
pub words_long : (ws : List PolWord) → length ws ≤ length (pol_words ws)
unfolding pol_words pol_word
words_long [] = omega arith
words_long (w ∷ ws) = omega (arith, words_long ws, length-append (pol_word w) (pol_words ws), go w)
  where
    go : (w : PolWord) → 1 ≤ length (pol_word w)
    go (line_word d) = omega arith
    go (plain_word x) = omega arith
    go (negated_word x) = omega arith
    go plus-word = omega arith
    go saturate-word = omega arith
    go (times-word m) = omega arith
    go (over_word m) = omega arith
