-- Laws of what a word's bytes mean.
use mathlib.Core.Path.{◌≡◌, refl, sym, ap, ◌∙◌}
use mathlib.Core.Bool.{Bool, true, false, cond, ◌&&◌, and-false}
use mathlib.Core.Logic.{◌⊎◌, inl, inr}
use mathlib.Core.List.{List, [], ◌∷◌}
use Prim.Native.Nat.{ℕ, zero, suc, ◌+◌, ◌-◌, ◌≤◌, ◌<◌}
use native.Mathlib.Numerals.{add-one}
use native.Mathlib.Omega.{arith}
use borrow.Author.Tests.{le-leb, lt-leb, ne_eqb}
use lib.Dec.{eqb, leb}
use lib.IntN.{pos}
use lib.ListN.{length, get_or, take, drop, length-drop}
use lib.Seq.{drop-cons, slice, slice-cons, slice_empty, length-slice}
use Rattle.integer.specs.Integers.{signed}
use Rattle.calculus.specs.Bytes.{byte, bytes, is_digit}
use Rattle.calculus.specs.Terms.{same_name}
use Rattle.calculus.specs.Words.{Res, ok, bad, bind, ensure, digits, magnitude, negative, numeral_of, digit_first, numeral_first, max_name}
use Rattle.calculus.specs.Tokens.{span}
use Rattle.calculus.specs.OpbWords.{OpbWord, number_word, literal-word, word, plus_first, signed_of, is_variable, literal_of, objective, other_of, opb_word_of, opb_judged}
use Rattle.lexer.specs.Tokens.{small}
use Rattle.lexer.proofs.Bytes.{or_less}
use Rattle.lexer.proofs.Meanings.{falsely}
use Rattle.lexer.proofs.Numbers.{small-yes, small-no}
use Rattle.lexer.proofs.Spoken.{slice_from}
use Rattle.std.specs.Prelude.{Ok, Err}
use Rattle.lexer.specs.declared.Reason.TheVariants.{BadNumeral, BadWord, Objective}
use Rattle.opb.specs.Summands.{literal_over}
use Rattle.opb.specs.Tokens.{opb_token_of, relation_of}
use Rattle.opb.specs.declared.OpbToken.TheVariants.{Number, Literal, Relation as RelationTok}

-- ---- digits
digits-within : (xs : List ℕ) (k : ℕ) → k ≤ span is_digit xs → digits (take k xs) ≡ true
unfolding span digits
digits-within xs zero h = refl
digits-within [] (suc k) h = refl
digits-within (b ∷ xs) (suc k) h = go (is_digit b) refl h (digits-within xs k)
  where
    go : (c : Bool) → is_digit b ≡ c → suc k ≤ cond c (suc (span is_digit xs)) 0 → (k ≤ span is_digit xs → digits (take k xs) ≡ true) → (is_digit b && digits (take k xs)) ≡ true
    go true e l r = rw e (r (omega arith))
    go false e l r = let z : ⊥ = omega arith in absurd z

digits-beyond : (xs : List ℕ) (k : ℕ) → span is_digit xs < k → k ≤ length xs → digits (take k xs) ≡ false
unfolding span digits
digits-beyond xs zero h l = let z : ⊥ = omega arith in absurd z
digits-beyond [] (suc k) h l = let z : ⊥ = omega arith in absurd z
digits-beyond (b ∷ xs) (suc k) h l = go (is_digit b) refl h (λ m. digits-beyond xs k m (omega arith))
  where
    go : (c : Bool) → is_digit b ≡ c → cond c (suc (span is_digit xs)) 0 < suc k → (span is_digit xs < k → digits (take k xs) ≡ false) → (is_digit b && digits (take k xs)) ≡ false
    go true e m r = rw e (r (omega arith))
    go false e m r = rw e

digits-first : (y : List ℕ) → 1 ≤ length y → digits y ≡ true → digit_first y ≡ true
unfolding digits digit_first
digits-first [] h e = let z : ⊥ = omega arith in absurd z
digits-first (b ∷ y) h e = go (is_digit b) e
  where
    go : (c : Bool) → (c && digits y) ≡ true → c ≡ true
    go true e = refl
    go false e = falsely (sym e)

-- ---- variables: `x` stands at n, and the digits behind it end at d
module _ (s : List ℕ) (n t d : ℕ) (h : n < t) (l : t ≤ length s) (x : get_or s n 0 ≡ byte "x") (e : d ≡ n + 1 + span is_digit (drop (n + 1) s)) where
  tail : slice (suc n) t s ≡ take (t - (n + 1)) (drop (n + 1) s)
  tail =
      let k : ℕ = t - (n + 1) in
      let g : t ≡ n + 1 + k = omega arith in
      rw (← add-one n) (ap (λ (m : ℕ). slice (n + 1) m s) g ∙ slice_from (n + 1) k s)

  long : length (slice (suc n) t s) ≡ t - suc n
  long = length-slice (suc n) t s l

  split : is_variable (slice n t s) ≡ (digit_first (slice (suc n) t s) && (digits (slice (suc n) t s) && leb (suc (length (slice (suc n) t s))) max_name))
  unfolding is_variable
  split = rw (slice-cons n t s 0 h l, x)

  pub variable-broken : d < t → is_variable (slice n t s) ≡ false
  variable-broken g =
      let z : digits (slice (suc n) t s) ≡ false = rw tail (digits-beyond (drop (n + 1) s) (t - (n + 1)) (omega arith) (rw length-drop (omega arith))) in
      split ∙ rw (z, and-false (digit_first (slice (suc n) t s)))

  pub variable-bare : t - n < 2 → is_variable (slice n t s) ≡ false
  unfolding digit_first
  variable-bare g =
      let u : suc n ≡ t = omega arith in
      let z : slice (suc n) t s ≡ [] = rw (u, slice_empty t s) in
      split ∙ rw z

  pub variable-long : max_name < t - n → is_variable (slice n t s) ≡ false
  variable-long g =
      let z : leb (suc (length (slice (suc n) t s))) max_name ≡ false = lt-leb (suc (length (slice (suc n) t s))) max_name (rw long (omega arith)) in
      split ∙ rw (z, and-false (digits (slice (suc n) t s)), and-false (digit_first (slice (suc n) t s)))

  pub variable-good : t ≤ d → 2 ≤ t - n → t - n ≤ max_name → is_variable (slice n t s) ≡ true
  variable-good g b m =
      let z : digits (slice (suc n) t s) ≡ true = rw tail (digits-within (drop (n + 1) s) (t - (n + 1)) (omega arith)) in
      let y : digit_first (slice (suc n) t s) ≡ true = digits-first (slice (suc n) t s) (rw long (omega arith)) z in
      let w : leb (suc (length (slice (suc n) t s))) max_name ≡ true = le-leb (suc (length (slice (suc n) t s))) max_name (rw long (omega arith)) in
      split ∙ rw (y, z, w)

module _ (s : List ℕ) (f t : ℕ) (c : Bool) where
  pub literal-bad : (w : OpbWord) → c ≡ false → opb_token_of s (Err (BadWord, f)) ≡ opb_judged f t (ensure c 5 (ok w))
  unfolding opb_token_of opb_judged ensure
  literal-bad w e = rw e

  pub literal-good : (d : Bool) (n : ℕ) → c ≡ true → opb_token_of s (Ok (Literal d f n t)) ≡ opb_judged f t (ensure c 5 (ok (literal-word (literal_over d (slice n t s)))))
  unfolding opb_token_of opb_judged ensure
  literal-good d n e = rw e

-- ---- numbers, by their magnitude
module _ (s : List ℕ) (f t v : ℕ) (r : Res ℕ) (q : small v ≡ r) where
  pub unsigned_big : 99999999 < v → opb_token_of s (Err (BadNumeral, f)) ≡ opb_judged f t (bind r (λ n. ok (number_word (pos n))))
  unfolding opb_token_of opb_judged bind
  unsigned_big h = rw (sym q ∙ small-no v h)

  pub unsigned-good : v ≤ 99999999 → opb_token_of s (Ok (Number false v f t)) ≡ opb_judged f t (bind r (λ n. ok (number_word (pos n))))
  unfolding opb_token_of opb_judged bind signed
  unsigned-good h = rw (sym q ∙ small-yes v h)

  pub minus-zero : v ≡ 0 → opb_token_of s (Err (BadNumeral, f)) ≡ opb_judged f t (bind (bind r negative) (λ z. ok (number_word z)))
  unfolding opb_token_of opb_judged bind negative
  minus-zero e = let u : r ≡ ok 0 = sym q ∙ rw e (small-yes 0 (omega arith)) in rw u

  pub minus-big : 99999999 < v → opb_token_of s (Err (BadNumeral, f)) ≡ opb_judged f t (bind (bind r negative) (λ z. ok (number_word z)))
  unfolding opb_token_of opb_judged bind
  minus-big h = rw (sym q ∙ small-no v h)

  pub minus-good : (v ≡ 0 → ⊥) → v ≤ 99999999 → opb_token_of s (Ok (Number true v f t)) ≡ opb_judged f t (bind (bind r negative) (λ z. ok (number_word z)))
  unfolding opb_token_of opb_judged bind negative signed
  minus-good n h = let u : r ≡ ok v = sym q ∙ small-yes v h in rw u (go v n)
    where
      go : (v : ℕ) → (v ≡ 0 → ⊥) → word (number_word (signed true v)) f t ≡ opb_judged f t (bind (negative v) (λ z. ok (number_word z)))
      go zero n = absurd (n refl)
      go (suc v) n = refl

-- ---- words that are no numbers
pub meant : (f t : ℕ) {w v : Res OpbWord} → v ≡ w → opb_judged f t w ≡ opb_judged f t v
meant f t e = rw e

module _ (s : List ℕ) (f t : ℕ) (h : f < t) (l : t ≤ length s) where
  -- `~` and a variable
  pub tilde : get_or s f 0 ≡ byte "~" → other_of (slice f t s) ≡ ensure (is_variable (slice (f + 1) t s)) 5 (ok (literal-word (literal_over true (slice (f + 1) t s))))
  unfolding other_of objective same_name literal_of literal_over
  tilde e = rw (slice-cons f t s 0 h l, e, add-one f)

  pub tilde-bad : get_or s f 0 ≡ byte "~" → is_variable (slice (f + 1) t s) ≡ false → opb_token_of s (Err (BadWord, f)) ≡ opb_judged f t (other_of (slice f t s))
  unfolding opb_token_of opb_judged ensure
  tilde-bad e v = rw (tilde e, v)

  pub tilde_bare : t - f < 2 → is_variable (slice (f + 1) t s) ≡ false
  unfolding is_variable
  tilde_bare g = let u : f + 1 ≡ t = omega arith in rw (u, slice_empty t s)

  pub tilde-other : 2 ≤ t - f → (get_or s (f + 1) 0 ≡ byte "x" → ⊥) → is_variable (slice (f + 1) t s) ≡ false
  unfolding is_variable
  tilde-other g n = rw (slice-cons (f + 1) t s 0 (omega arith) l, ne_eqb (get_or s (f + 1) 0) (byte "x") n)

-- neither `~` nor `x` first
lone : (s : List ℕ) (f t : ℕ) → f < t → t ≤ length s → (get_or s f 0 ≡ byte "~" → ⊥) → (get_or s f 0 ≡ byte "x" → ⊥) → literal_of (slice f t s) ≡ bad 5
unfolding literal_of is_variable ensure
lone s f t h l n x = rw (slice-cons f t s 0 h l, ne_eqb (get_or s f 0) (byte "~") n, ne_eqb (get_or s f 0) (byte "x") x)

module _ (s : List ℕ) (f t : ℕ) where
  pub other-at_least : true ≡ same_name (bytes ">=") (slice f t s) → opb_token_of s (Ok (RelationTok false f t)) ≡ opb_judged f t (other_of (slice f t s))
  unfolding opb_token_of opb_judged other_of relation_of
  other-at_least e = rw (← e)

  module _ (a : false ≡ same_name (bytes ">=") (slice f t s)) where
    pub other-equal : true ≡ same_name (bytes "=") (slice f t s) → opb_token_of s (Ok (RelationTok true f t)) ≡ opb_judged f t (other_of (slice f t s))
    unfolding opb_token_of opb_judged other_of relation_of
    other-equal e = rw (← a, ← e)

    module _ (q : false ≡ same_name (bytes "=") (slice f t s)) where
      pub other-min : true ≡ same_name (bytes "min:") (slice f t s) → opb_token_of s (Err (Objective, f)) ≡ opb_judged f t (other_of (slice f t s))
      unfolding opb_token_of opb_judged other_of objective
      other-min e = rw (← a, ← q, ← e)

      pub other-max : false ≡ same_name (bytes "min:") (slice f t s) → true ≡ same_name (bytes "max:") (slice f t s) → opb_token_of s (Err (Objective, f)) ≡ opb_judged f t (other_of (slice f t s))
      unfolding opb_token_of opb_judged other_of objective
      other-max m e = rw (← a, ← q, ← m, ← e)

      pub other_none : f < t → t ≤ length s → (get_or s f 0 ≡ byte "~" → ⊥) → (get_or s f 0 ≡ byte "x" → ⊥) → false ≡ same_name (bytes "min:") (slice f t s) → false ≡ same_name (bytes "max:") (slice f t s)
          → opb_token_of s (Err (BadWord, f)) ≡ opb_judged f t (other_of (slice f t s))
      unfolding opb_token_of opb_judged other_of objective
      other_none h l n x m e = rw (← a, ← q, ← m, ← e, lone s f t h l n x)

-- ---- all words, by their first byte
bind-bind : (r : Res ℕ) → bind (bind r (λ n. ok (pos n))) (λ z. ok (number_word z)) ≡ bind r (λ n. ok (number_word (pos n)))
unfolding bind
bind-bind (ok n) = refl
bind-bind (bad n) = refl

plus-no : is_digit (byte "+") ≡ false
unfolding is_digit
plus-no = refl

minus-no : is_digit (byte "-") ≡ false
unfolding is_digit
minus-no = refl

-- by the run of digits from m on
digit-behind : (s : List ℕ) (m t : ℕ) → m < t → t ≤ length s → 1 ≤ span is_digit (drop m s) → (n : ℕ) → m ≡ n → digit_first (slice n t s) ≡ true
unfolding digit_first span
digit-behind s m t h l g n e = rw (← e, slice-cons m t s 0 h l) (go (is_digit (get_or s m 0)) (rw (drop-cons s m 0 (omega arith)) at g))
  where
    go : (c : Bool) → 1 ≤ cond c (suc (span is_digit (drop (suc m) s))) 0 → c ≡ true
    go true g = refl
    go false g = let z : ⊥ = omega arith in absurd z

none-behind : (s : List ℕ) (m t : ℕ) → m ≤ t → t ≤ length s → span is_digit (drop m s) ≤ 0 → (n : ℕ) → m ≡ n → digit_first (slice n t s) ≡ false
unfolding digit_first span
none-behind s m t b l g n e = rw (← e) (go (or_less t m))
  where
    some : (c : Bool) → cond c (suc (span is_digit (drop (suc m) s))) 0 ≤ 0 → c ≡ false
    some true g = let z : ⊥ = omega arith in absurd z
    some false g = refl

    go : (t ≤ m) ⊎ (m < t) → digit_first (slice m t s) ≡ false
    go (inl h) = let u : m ≡ t = omega arith in rw (u, slice_empty t s)
    go (inr h) = rw (slice-cons m t s 0 h l) (some (is_digit (get_or s m 0)) (rw (drop-cons s m 0 (omega arith)) at g))

module _ (s : List ℕ) (f t : ℕ) (h : f < t) (l : t ≤ length s) where
  pub word-variable : get_or s f 0 ≡ byte "x" → opb_word_of (slice f t s) ≡ ensure (is_variable (slice f t s)) 5 (ok (literal-word (literal_over false (slice f t s))))
  unfolding opb_word_of numeral_first plus_first is_digit other_of objective same_name literal_of literal_over
  word-variable e = rw (slice-cons f t s 0 h l, e)

  pub word-digit : is_digit (get_or s f 0) ≡ true → opb_word_of (slice f t s) ≡ bind (magnitude (slice f t s)) (λ n. ok (number_word (pos n)))
  unfolding opb_word_of numeral_first signed_of numeral_of
  word-digit d = rw (slice-cons f t s 0 h l, d, ne_eqb _ _ plus, ne_eqb _ _ minus) (bind-bind (magnitude (get_or s f 0 ∷ slice (suc f) t s)))
    where
      plus : get_or s f 0 ≡ byte "+" → ⊥
      plus e = falsely (sym d ∙ ap is_digit e ∙ plus-no)

      minus : get_or s f 0 ≡ byte "-" → ⊥
      minus e = falsely (sym d ∙ ap is_digit e ∙ minus-no)

  -- the digits behind the first byte end at d
  module _ (d : ℕ) (e : d ≡ f + 1 + span is_digit (drop (f + 1) s)) (i : d ≤ t) where
    behind-digit : f + 1 < d → digit_first (slice (suc f) t s) ≡ true
    behind-digit g = digit-behind s (f + 1) t (omega arith) l (omega arith) (suc f) (add-one f)

    behind-none : d ≤ f + 1 → digit_first (slice (suc f) t s) ≡ false
    behind-none g = none-behind s (f + 1) t (omega arith) l (omega arith) (suc f) (add-one f)

    pub word-plus : f + 1 < d → get_or s f 0 ≡ byte "+" → opb_word_of (slice f t s) ≡ bind (magnitude (slice (f + 1) t s)) (λ n. ok (number_word (pos n)))
    unfolding opb_word_of numeral_first plus_first is_digit signed_of
    word-plus g p = rw (slice-cons f t s 0 h l, p, behind-digit g, add-one f) (bind-bind (magnitude (slice (suc f) t s)))

    pub word-minus : f + 1 < d → get_or s f 0 ≡ byte "-" → opb_word_of (slice f t s) ≡ bind (bind (magnitude (slice (f + 1) t s)) negative) (λ z. ok (number_word z))
    unfolding opb_word_of numeral_first plus_first is_digit signed_of numeral_of
    word-minus g p = rw (slice-cons f t s 0 h l, p, behind-digit g, add-one f)

    pub word-bare : is_digit (get_or s f 0) ≡ false → d ≤ f + 1 → opb_word_of (slice f t s) ≡ other_of (slice f t s)
    unfolding opb_word_of numeral_first plus_first
    word-bare k g = rw (slice-cons f t s 0 h l, k, behind-none g, and-false (eqb (get_or s f 0) (byte "-")), and-false (eqb (get_or s f 0) (byte "+")))

    pub word-other : is_digit (get_or s f 0) ≡ false → (get_or s f 0 ≡ byte "+" → ⊥) → (get_or s f 0 ≡ byte "-" → ⊥) → opb_word_of (slice f t s) ≡ other_of (slice f t s)
    unfolding opb_word_of numeral_first plus_first
    word-other k p m = rw (slice-cons f t s 0 h l, k, ne_eqb (get_or s f 0) (byte "+") p, ne_eqb (get_or s f 0) (byte "-") m)
