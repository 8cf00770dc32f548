-- The ids of a text that is read are names, so they hold no line feed.
use mathlib.Core.Path.{◌≡◌, ap, subst}
use mathlib.Core.Bool.{Bool, true, false, not, cond, ◌&&◌}
use mathlib.Core.List.{List, [], ◌∷◌, ◌++◌}
use Prim.Native.Nat.{ℕ, ◌+◌}
use native.Mathlib.Omega.{arith}
use lib.Dec.{T, eqb, eqb→eq, leb, not_T}
use lib.IntN.{ℤ}
use lib.ListN.{length, take, drop}
use Rattle.calculus.specs.Bytes.{is_blank, is_digit, is_letter, in_name, in_word, class_of, opens, closes}
use Rattle.calculus.specs.Terms.{same_name, Command, assume, step, pol, id_of}
use Rattle.calculus.specs.Words.{Res, ok, bad, bind, Mark, opening, closing, Word, mark, operator, numeral, name, word_of, word_text, fixed_or, fixed_words, name_of, name_bytes, is_name_text, max_name, numeral_first, numeral_of, negated-name, behind_tilde, tilde_first}
use Rattle.calculus.specs.Tokens.{word, wrong, token_at, token_from, token_behind, span, judged}
use Rattle.calculus.specs.Writing.{command_words, words_of, Has}
use Rattle.calculus.proofs.Booleans.{and_l, and_r}
use Rattle.theorems.proofs.Lines.{Clean, CleanIds}
use Rattle.theorems.proofs.Reading.{bind_ok, ensure-ok, ok-inj, ok-bad}

-- ---- a name's bytes
letter-clean : (b : ℕ) → T (is_letter b) → T (not (eqb b 10))
unfolding is_letter
letter-clean b h = not_T (eqb b 10) (λ t. subst (λ (c : ℕ). T (is_letter c)) (eqb→eq b 10 t) h)

byte-clean : (b : ℕ) → T (in_name b) → T (not (eqb b 10))
unfolding in_name is_letter is_digit
byte-clean b h = not_T (eqb b 10) (λ t. subst (λ (c : ℕ). T (in_name c)) (eqb→eq b 10 t) h)

bytes-clean : (bs : List ℕ) → T (name_bytes bs) → Clean bs
unfolding name_bytes Clean
bytes-clean [] h = tt
bytes-clean (b ∷ bs) h = (byte-clean b (and_l (in_name b) _ h), bytes-clean bs (and_r (in_name b) _ h))

name-clean : (bs : List ℕ) → T (is_name_text bs) → Clean bs
unfolding is_name_text Clean
name-clean [] h = absurd h
name-clean (b ∷ bs) h = (letter-clean b (and_l (is_letter b) _ h), bytes-clean bs (and_r (is_letter b) _ h))

-- ---- a token that is a name
fixed : Word → Bool
fixed (mark m) = true
fixed (operator o) = true
fixed (numeral z) = true
fixed (name x) = false
fixed (negated-name x) = true

all_fixed : List Word → Bool
all_fixed [] = true
all_fixed (w ∷ ws) = fixed w && all_fixed ws

fixed-name : (ws : List Word) (bs x : List ℕ) → T (all_fixed ws) → fixed_or ws bs ≡ ok (name x) → name_of bs ≡ ok (name x)
unfolding all_fixed fixed_or fixed
fixed-name [] bs x h e = e
fixed-name (w ∷ ws) bs x h e = go (same_name (word_text w) bs) (fixed-name ws bs x (and_r (fixed w) _ h)) e
  where
    go : (c : Bool) → (fixed_or ws bs ≡ ok (name x) → name_of bs ≡ ok (name x)) → cond c (ok w) (fixed_or ws bs) ≡ ok (name x) → name_of bs ≡ ok (name x)
    go true ih e = absurd (subst (λ (v : Word). T (fixed v)) (ok-inj e) (and_l (fixed w) _ h))
    go false ih e = ih e

fixed-words : T (all_fixed fixed_words)
unfolding all_fixed fixed fixed_words
fixed-words = tt

numeral-name : {z : ℤ} {x : List ℕ} → numeral z ≡ name x → ⊥
numeral-name e = let z : ◌≡◌ {A = ℕ} 0 1 = cc in omega arith

-- `~` makes no name
tilde-name : (w : Word) (x : List ℕ) → behind_tilde w ≡ ok (name x) → ⊥
unfolding behind_tilde
tilde-name (mark m) x e = ok-bad e
tilde-name (operator o) x e = ok-bad e
tilde-name (numeral z) x e = ok-bad e
tilde-name (name y) x e = let z : ◌≡◌ {A = ℕ} 0 1 = cc in omega arith
tilde-name (negated-name y) x e = ok-bad e

-- a name is no fixed word
pub word-fixed : (bs x : List ℕ) → word_of bs ≡ ok (name x) → fixed_or fixed_words bs ≡ ok (name x)
unfolding word_of
word-fixed bs x e = go (numeral_first bs) (tilde_first bs) e
  where
    go : (c d : Bool) → cond c (bind (numeral_of bs) (λ z. ok (numeral z))) (cond d (bind (fixed_or fixed_words (drop 1 bs)) behind_tilde) (fixed_or fixed_words bs)) ≡ ok (name x) → fixed_or fixed_words bs ≡ ok (name x)
    go true d e = let (z, h, g) = bind_ok (numeral_of bs) (λ z. ok (numeral z)) (name x) e in absurd (numeral-name (ok-inj g))
    go false true e = let (w, h, g) = bind_ok (fixed_or fixed_words (drop 1 bs)) behind_tilde (name x) e in absurd (tilde-name w x g)
    go false false e = e

pub word-name : (bs x : List ℕ) → word_of bs ≡ ok (name x) → T (is_name_text x)
unfolding name_of
word-name bs x e =
    let (h, g) = ensure-ok (is_name_text bs && leb (length bs) max_name) 5 (ok (name bs)) (name x) (fixed-name fixed_words bs x fixed-words (word-fixed bs x e)) in
    let f : name bs ≡ name x = ok-inj g in
    let k : bs ≡ x = cc in
    subst (λ (y : List ℕ). T (is_name_text y)) k (and_l (is_name_text bs) _ h)

judged-name : (p t : ℕ) (r : Res Word) (x : List ℕ) (q u : ℕ) → judged p t r ≡ word (name x) q u → r ≡ ok (name x)
unfolding judged
judged-name p t (ok w) x q u e = let h : w ≡ name x = cc in ap ok h
judged-name p t (bad n) x q u e = let z : ◌≡◌ {A = ℕ} 0 1 = cc in let w : ⊥ = omega arith in absurd w

mark-name : {m : Mark} {x : List ℕ} {p t q u : ℕ} → word (mark m) p t ≡ word (name x) q u → ⊥
mark-name e = let z : ◌≡◌ {A = ℕ} 0 1 = cc in omega arith

wrong_name : {n p q u : ℕ} {x : List ℕ} → wrong n p ≡ word (name x) q u → ⊥
wrong_name e = let z : ◌≡◌ {A = ℕ} 0 1 = cc in omega arith

from-name : (p : ℕ) (bs x : List ℕ) (q u : ℕ) → token_from p bs ≡ word (name x) q u → T (is_name_text x)
unfolding token_from
from-name p [] x q u e = let z : ◌≡◌ {A = ℕ} 0 1 = cc in let w : ⊥ = omega arith in absurd w
from-name p (b ∷ bs) x q u e = go (in_word b) (eqb (class_of b) opens) (eqb (class_of b) closes) e
  where
    k : ℕ
    k = span in_word (b ∷ bs)

    go : (c d f : Bool) → cond c (judged p (p + k) (word_of (take k (b ∷ bs)))) (cond d (word (mark opening) p (p + 1)) (cond f (word (mark closing) p (p + 1)) (wrong 3 p))) ≡ word (name x) q u → T (is_name_text x)
    go true d f e = word-name (take k (b ∷ bs)) x (judged-name p (p + k) (word_of (take k (b ∷ bs))) x q u e)
    go false true f e = absurd (mark-name e)
    go false false true e = absurd (mark-name e)
    go false false false e = absurd (wrong_name e)

pub token-name : (s : List ℕ) (at : ℕ) (x : List ℕ) (q u : ℕ) → token_at s at ≡ word (name x) q u → T (is_name_text x)
unfolding token_at token_behind
token-name s at x q u e = from-name (at + span is_blank (drop at s)) (drop (span is_blank (drop at s)) (drop at s)) x q u e

-- ---- the ids of commands
has-behind : (s : List ℕ) (ws vs : List Word) (a c : ℕ) → Has s a (ws ++ vs) c → (b : ℕ) × Has s b vs c
unfolding Has
has-behind s [] vs a c h = (a, h)
has-behind s (w ∷ ws) vs a c (p, t, e, h) = has-behind s ws vs t c h

command-id : (s : List ℕ) (c : Command) (ws : List Word) (a e : ℕ) → Has s a (command_words c ++ ws) e → Clean (id_of c)
unfolding Has command_words id_of
command-id s (assume d x) ws a e (p₁, t₁, h₁, (p₂, t₂, h₂, (p₃, t₃, h₃, r))) = name-clean d (token-name s t₂ d p₃ t₃ h₃)
command-id s (step d c r ds xs) ws a e (p₁, t₁, h₁, (p₂, t₂, h₂, (p₃, t₃, h₃, k))) = name-clean d (token-name s t₂ d p₃ t₃ h₃)
command-id s (pol d vs) ws a e (p₁, t₁, h₁, (p₂, t₂, h₂, (p₃, t₃, h₃, k))) = name-clean d (token-name s t₂ d p₃ t₃ h₃)

pub ids-clean : (s : List ℕ) (cs : List Command) (a e : ℕ) → Has s a (words_of cs) e → CleanIds cs
unfolding words_of CleanIds
ids-clean s [] a e h = tt
ids-clean s (c ∷ cs) a e h = let (b, k) = has-behind s (command_words c) (words_of cs) a e h in (command-id s c (words_of cs) a e h, ids-clean s cs b e k)
