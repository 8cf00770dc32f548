-- A refusal of an OPB text has one of the document's numbers and a byte within the text: the steps never run out.
use mathlib.Core.Path.{◌≡◌, refl, ap, subst, ◌∙◌}
use mathlib.Core.Bool.{Bool, true, false, not, cond, ◌&&◌, ◌||◌}
use mathlib.Core.List.{List, [], ◌∷◌, ◌++◌}
use mathlib.Core.Logic.{◌⊎◌, inl, inr}
use Prim.Native.Nat.{ℕ, zero, suc, ◌+◌, ◌-◌, ◌≤◌, ◌<◌}
use native.Mathlib.Omega.{arith}
use lib.Dec.{T, eqb, leb, leb→le, nleb→lt}
use lib.IntN.{ℤ, pos}
use lib.ListN.{length, take, drop, length-drop}
use Rattle.calculus.specs.Answers.{among, opb_numbers}
use Rattle.calculus.specs.Bytes.{bytes, is_blank, class_of, opens, closes}
use Rattle.calculus.specs.Commands.{enough, refused}
use Rattle.calculus.specs.Terms.{same_name}
use Rattle.calculus.specs.Words.{Res, ok, bad, bind, ensure, digits, value_from, leading_zero, max_numeral, magnitude, negative, numeral_of, numeral_first}
use Rattle.calculus.specs.Tokens.{span}
use Rattle.calculus.specs.Limits.{max_text, max_nodes, max_commands, all_nodes}
use Rattle.calculus.specs.OpbWords.{Literal, plain, negated, Relation, at_least, equal, OpbWord, number_word, literal-word, relation-word, semicolon, OpbToken, ended, word, wrong, plus_first, signed_of, is_variable, literal_of, objective, other_of, in_opb_word, opb_word_of, opb_judged, opb_from, opb_behind, inside_at, gap, place_at, outside_at}
use Rattle.calculus.specs.OpbWriting.{Summand, times, Constraint, assumptions, assumptions_of, constraint_words, HasConstraint}
use Rattle.calculus.specs.OpbReading.{OneRead, found, fault, on_begin, on_literal, on_number, on_semicolon, constant_at, constraint_from, OpbRead, constraints, refused_at, on_one, on_outside, constraints_from, read_opb}
use Rattle.calculus.specs.OpbReport.{on_opb, read_both}
use Rattle.theorems.proofs.OpbFaithful.{whole_has}
use Rattle.theorems.proofs.OpbTokens.{gap-le, inside-later, outside-later, one-long, one_inside, some_words}
use Rattle.theorems.proofs.Proper.{Refusal, proper-behind}
use Rattle.calculus.proofs.Tokens.{span-le}

-- ---- numbers of words
-- one of the document's numbers
Known : ℕ → Type 0
Known n = T (among n opb_numbers)

Numbered : {A : Type 0} → Res A → Type 0
Numbered (ok a) = Unit {0}
Numbered (bad n) = Known n

ensure-known : {A : Type 0} (c : Bool) (n : ℕ) (r : Res A) → Known n → Numbered r → Numbered (ensure c n r)
unfolding Numbered ensure
ensure-known true n r h i = i
ensure-known false n r h i = h

bind-known : {A B : Type 0} (r : Res A) (f : A → Res B) → Numbered r → ((a : A) → Numbered (f a)) → Numbered (bind r f)
unfolding Numbered bind
bind-known (ok a) f h k = k a
bind-known (bad n) f h k = h

cond-known : {A : Type 0} (c : Bool) (r q : Res A) → Numbered r → Numbered q → Numbered (cond c r q)
cond-known true r q h k = h
cond-known false r q h k = k

magnitude-known : (bs : List ℕ) → Numbered (magnitude bs)
unfolding Numbered Known among opb_numbers magnitude
magnitude-known bs = ensure-known (digits bs) 4 _ tt (ensure-known (not (leading_zero bs)) 4 _ tt (ensure-known (leb (value_from 0 bs) max_numeral) 4 (ok (value_from 0 bs)) tt tt))

negative-known : (n : ℕ) → Numbered (negative n)
unfolding Numbered Known among opb_numbers negative
negative-known zero = tt
negative-known (suc n) = tt

numeral-known : (bs : List ℕ) → Numbered (numeral_of bs)
unfolding Numbered Known among opb_numbers numeral_of
numeral-known [] = tt
numeral-known (b ∷ bs) = cond-known (eqb b 45) _ _ (bind-known (magnitude bs) negative (magnitude-known bs) negative-known) (bind-known (magnitude (b ∷ bs)) (λ n. ok (pos n)) (magnitude-known (b ∷ bs)) (λ n. tt))

signed-known : (bs : List ℕ) → Numbered (signed_of bs)
unfolding Numbered Known among opb_numbers signed_of
signed-known [] = tt
signed-known (b ∷ bs) = cond-known (eqb b 43) _ _ (bind-known (magnitude bs) (λ n. ok (pos n)) (magnitude-known bs) (λ n. tt)) (numeral-known (b ∷ bs))

literal-known : (bs : List ℕ) → Numbered (literal_of bs)
unfolding Numbered Known among opb_numbers literal_of
literal-known [] = tt
literal-known (b ∷ bs) = cond-known (eqb b 126) _ _ (ensure-known (is_variable bs) 5 (ok (literal-word (negated bs))) tt tt) (ensure-known (is_variable (b ∷ bs)) 5 (ok (literal-word (plain (b ∷ bs)))) tt tt)

other-known : (bs : List ℕ) → Numbered (other_of bs)
unfolding Numbered Known among opb_numbers other_of
other-known bs =
    cond-known (same_name (bytes ">=") bs) (ok (relation-word at_least)) _ tt
    (cond-known (same_name (bytes "=") bs) (ok (relation-word equal)) _ tt (cond-known (objective bs) (bad 50) (literal_of bs) tt (literal-known bs)))

word-known : (bs : List ℕ) → Numbered (opb_word_of bs)
unfolding Numbered opb_word_of
word-known bs = cond-known (numeral_first bs || plus_first bs) _ _ (bind-known (signed_of bs) (λ z. ok (number_word z)) (signed-known bs) (λ z. tt)) (other-known bs)

-- ---- tokens
-- a number of the document, and a byte of the text or its length
pub record OpbRefusal (s : List ℕ) (e p : ℕ) : Type 0 where
  pub number : T (among e opb_numbers)
  pub inside : p ≤ length s

ProperOpb : List ℕ → OpbRead → Type 0
ProperOpb s (constraints ks) = Unit {0}
ProperOpb s (refused_at e p) = OpbRefusal s e p

module _ (s : List ℕ) where
  TokenIn : OpbToken → Type 0
  TokenIn (ended p) = p ≤ length s
  TokenIn (word w p t) = (p ≤ length s) × (t ≤ length s)
  TokenIn (wrong e p) = OpbRefusal s e p

  judged-in : (p t : ℕ) (r : Res OpbWord) → p ≤ length s → t ≤ length s → Numbered r → TokenIn (opb_judged p t r)
  unfolding TokenIn opb_judged Numbered Known
  judged-in p t (ok w) h k i = (h, k)
  judged-in p t (bad n) h k i = record { number = i; inside = h }

  from_in : (p : ℕ) (bs : List ℕ) → p + length bs ≤ length s → TokenIn (opb_from p bs)
  unfolding TokenIn opb_from among opb_numbers
  from_in p [] h = omega arith
  from_in p (b ∷ bs) h = go (in_opb_word b) (eqb b 59) (eqb (class_of b) opens || eqb (class_of b) closes) (span-le in_opb_word (b ∷ bs))
    where
      k : ℕ
      k = span in_opb_word (b ∷ bs)

      go : (c d f : Bool) → k ≤ suc (length bs) → TokenIn (cond c (opb_judged p (p + k) (opb_word_of (take k (b ∷ bs)))) (cond d (word semicolon p (p + 1)) (cond f (wrong 51 p) (wrong 3 p))))
      go true d f l = judged-in p (p + k) (opb_word_of (take k (b ∷ bs))) (omega arith) (omega arith) (word-known (take k (b ∷ bs)))
      go false true f l = (omega arith, omega arith)
      go false false true l = record { number = tt; inside = omega arith }
      go false false false l = record { number = tt; inside = omega arith }

  behind-in : (k at : ℕ) → at ≤ length s → k ≤ length (drop at s) → TokenIn (opb_behind k at (drop at s))
  unfolding opb_behind
  behind-in k at h a =
      let bs = drop at s in
      let b : length (drop k bs) ≡ length bs - k = length-drop k bs in
      let c : length bs ≡ length s - at = length-drop at s in
      from_in (at + k) (drop k bs) (omega arith)

  inside-in : (at : ℕ) → at ≤ length s → TokenIn (inside_at s at)
  unfolding inside_at
  inside-in at h = behind-in (span is_blank (drop at s)) at h (span-le is_blank (drop at s))

  outside_in : (at : ℕ) → at ≤ length s → TokenIn (outside_at s at)
  unfolding outside_at
  outside_in at h = behind-in (gap (place_at s at) (drop at s)) at h (gap-le (place_at s at) (drop at s))

  -- ---- constraints
  OneIn : OneRead → Type 0
  OneIn (found k t) = Unit {0}
  OneIn (fault e p) = OpbRefusal s e p

  broken : (p : ℕ) → p ≤ length s → OpbRefusal s 51 p
  unfolding among opb_numbers
  broken p h = record { number = tt; inside = h }

  on-begin : (k : ℤ → ℕ → OneRead) (j : Relation → ℕ → OneRead) (w : OpbToken) → TokenIn w → ((z : ℤ) (p t : ℕ) → w ≡ word (number_word z) p t → t ≤ length s → OneIn (k z t)) → ((r : Relation) (p t : ℕ) → w ≡ word (relation-word r) p t → t ≤ length s → OneIn (j r t)) → OneIn (on_begin k j w)
  unfolding on_begin TokenIn OneIn
  on-begin k j (ended p) i f g = broken p i
  on-begin k j (word (number_word z) p t) i f g = f z p t refl i.1
  on-begin k j (word (literal-word l) p t) i f g = broken p i.0
  on-begin k j (word (relation-word r) p t) i f g = g r p t refl i.1
  on-begin k j (word semicolon p t) i f g = broken p i.0
  on-begin k j (wrong e p) i f g = i

  on-literal : (k : Literal → ℕ → OneRead) (w : OpbToken) → TokenIn w → ((l : Literal) (p t : ℕ) → w ≡ word (literal-word l) p t → t ≤ length s → OneIn (k l t)) → OneIn (on_literal k w)
  unfolding on_literal TokenIn OneIn
  on-literal k (ended p) i f = broken p i
  on-literal k (word (number_word z) p t) i f = broken p i.0
  on-literal k (word (literal-word l) p t) i f = f l p t refl i.1
  on-literal k (word (relation-word r) p t) i f = broken p i.0
  on-literal k (word semicolon p t) i f = broken p i.0
  on-literal k (wrong e p) i f = i

  on-number : (k : ℤ → ℕ → OneRead) (w : OpbToken) → TokenIn w → ((z : ℤ) (t : ℕ) → t ≤ length s → OneIn (k z t)) → OneIn (on_number k w)
  unfolding on_number TokenIn OneIn
  on-number k (ended p) i f = broken p i
  on-number k (word (number_word z) p t) i f = f z t i.1
  on-number k (word (literal-word l) p t) i f = broken p i.0
  on-number k (word (relation-word r) p t) i f = broken p i.0
  on-number k (word semicolon p t) i f = broken p i.0
  on-number k (wrong e p) i f = i

  on-semicolon : (k : ℕ → OneRead) (w : OpbToken) → TokenIn w → ((t : ℕ) → OneIn (k t)) → OneIn (on_semicolon k w)
  unfolding on_semicolon TokenIn OneIn
  on-semicolon k (ended p) i f = broken p i
  on-semicolon k (word (number_word z) p t) i f = broken p i.0
  on-semicolon k (word (literal-word l) p t) i f = broken p i.0
  on-semicolon k (word (relation-word r) p t) i f = broken p i.0
  on-semicolon k (word semicolon p t) i f = f t
  on-semicolon k (wrong e p) i f = i

  constant-in : (xs : List Summand) (r : Relation) (at : ℕ) → at ≤ length s → OneIn (constant_at s xs r at)
  unfolding constant_at OneIn
  constant-in xs r at h = on-number _ (inside_at s at) (inside-in at h) (λ k t i. on-semicolon _ (inside_at s t) (inside-in t i) (λ u. tt))

  -- the token w, if it is a word, ends behind at
  constraint_in : (f at : ℕ) (xs : List Summand) (w : OpbToken) → TokenIn w → ((v : OpbWord) (p t : ℕ) → w ≡ word v p t → at < t) → at ≤ length s → length s - at < f → OneIn (constraint_from f s xs w)
  unfolding constraint_from
  constraint_in zero at xs w i g h l = let v : ⊥ = omega arith in absurd v
  constraint_in (suc f) at xs w i g h l =
      on-begin _ _ w i
      (λ z p t e j. on-literal _ (inside_at s t) (inside-in t j) (λ y q u o m.
      let a : at < t = g (number_word z) p t e in
      let b : t < u = (inside-later s t (literal-word y) q u o).0 in
      constraint_in f u (xs ++ (times z y ∷ [])) (inside_at s u) (inside-in u m) (λ v p t e. (inside-later s u v p t e).0) m (omega arith)))
      (λ r p t e j. constant-in xs r t j)

  -- ---- texts
  one_in : (go : Constraint → ℕ → OpbRead) (p n c : ℕ) (o : OneRead) → p ≤ length s → OneIn o → ((k : Constraint) (t : ℕ) → o ≡ found k t → ProperOpb s (go k t)) → ProperOpb s (on_one go p n c o)
  unfolding on_one OneIn ProperOpb among opb_numbers
  one_in go p n c (found k t) h i f = by (leb (n + all_nodes (assumptions_of c k)) max_nodes && leb (c + length (assumptions_of c k)) max_commands)
    where
      by : (b : Bool) → ProperOpb s (cond b (go k t) (refused_at 7 p))
      by true = f k t refl
      by false = record { number = tt; inside = h }
  one_in go p n c (fault e q) h i f = i

  on-outside : (go : OpbToken → ℕ → OpbRead) (ks : List Constraint) (w : OpbToken) → TokenIn w → ((p : ℕ) → p ≤ length s → ProperOpb s (go w p)) → ProperOpb s (on_outside go ks w)
  unfolding on_outside TokenIn ProperOpb
  on-outside go ks (ended p) i f = tt
  on-outside go ks (word w p t) i f = f p i.0
  on-outside go ks (wrong e p) i f = i

  constraints-in : length s ≤ max_text → (f at n c : ℕ) (ks : List Constraint) → at ≤ length s → length s - at < f → ProperOpb s (constraints_from f s at n c ks)
  unfolding constraints_from
  constraints-in short zero at n c ks h l = let v : ⊥ = omega arith in absurd v
  constraints-in short (suc f) at n c ks h l =
      on-outside _ ks (outside_at s at) (outside_in at h) (λ p i.
      one_in _ p n c (constraint_from enough s [] (outside_at s at)) i
      (constraint_in enough at [] (outside_at s at) (outside_in at h) (λ v p t e. (outside-later s at v p t e).0) h (omega arith))
      (λ k t e.
      let g : HasConstraint s at (constraint_words k) t = whole_has enough s at k t e in
      let a : at + length (constraint_words k) ≤ t = one-long s (constraint_words k) at t g in
      let b : 0 < length (constraint_words k) = some_words k in
      let j : t ≤ length s = one_inside s (constraint_words k) at t h g in
      constraints-in short f t _ _ (ks ++ (k ∷ [])) j (omega arith)))

-- a refusal of an OPB text has one of its numbers, and a byte of the text or its length
pub opb_proper : (s : List ℕ) (n p : ℕ) → read_opb s ≡ refused_at n p → OpbRefusal s n p
unfolding read_opb ProperOpb among opb_numbers
opb_proper s n p e = subst (ProperOpb s) e (go (leb (length s) max_text) (leb→le (length s) max_text) (nleb→lt (length s) max_text))
  where
    go : (c : Bool) → (T c → length s ≤ max_text) → (T (not c) → max_text < length s) → ProperOpb s (cond c (constraints_from enough s 0 0 0 []) (refused_at 2 max_text))
    go true f g = constraints-in s (f tt) enough 0 0 0 [] (omega arith) (let h : length s ≤ max_text = f tt in omega arith)
    go false f g = let h : max_text < length s = g tt in record { number = tt; inside = omega arith }

-- a refusal of both texts is that of the OPB text, or the proof text's, each inside its own text
pub both-proper : (o s : List ℕ) (n p : ℕ) → read_both o s ≡ refused n p → OpbRefusal o n p ⊎ Refusal s n p
unfolding read_both on_opb
both-proper o s n p e = go (read_opb o) refl e
  where
    go : (z : OpbRead) → read_opb o ≡ z → on_opb s z ≡ refused n p → OpbRefusal o n p ⊎ Refusal s n p
    go (constraints ks) h e = inr (proper-behind (assumptions ks) s n p e)
    go (refused_at m q) h e =
        let a : m ≡ n = cc in
        let b : q ≡ p = cc in
        inl (opb_proper o n p (h ∙ ap (λ (x : ℕ). refused_at x q) a ∙ ap (refused_at n) b))
