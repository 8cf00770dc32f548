-- Constraints within the limits whose numbers and variables are in range are what their own words are read as.
use mathlib.Core.Path.{◌≡◌, refl, sym, ap, subst, ◌∙◌}
use mathlib.Core.Bool.{Bool, true, false, cond, ◌&&◌}
use mathlib.Core.List.{List, [], ◌∷◌, ◌++◌, append_assoc}
use Prim.Native.Nat.{ℕ, zero, suc, ◌+◌, ◌≤◌}
use native.Mathlib.Omega.{arith}
use lib.Dec.{T, not_T, eqb, eqb→eq, leb}
use lib.IntN.{ℤ, pos, negsuc, nat_abs}
use lib.ListN.{length, drop, get_or, length-append}
use lib.Seq.{take-append_seam, drop-append_seam, drop-drop, drop-length}
use Rattle.calculus.specs.Bytes.{bytes, is_blank, is_digit, is_letter, in_name, in_word, class_of}
use Rattle.calculus.specs.Terms.{same_name}
use Rattle.calculus.specs.Words.{ok, bind, decimal, integer_text, digits, max_numeral, max_name, magnitude, negative, numeral_of, digit_first, numeral_first}
use Rattle.calculus.specs.Tokens.{span}
use Rattle.calculus.specs.Limits.{max_text, max_nodes, max_commands, all_nodes}
use Rattle.calculus.specs.OpbWords.{plain, negated, at_least, equal, OpbWord, number_word, literal-word, relation-word, semicolon, ended, word, wrong, plus_first, signed_of, is_variable, literal_of, objective, other_of, in_opb_word, opb_word_of, opb_judged, opb_from, opb_behind, inside_at, first, later, next_place, passed, gap, place_at, outside_at}
use Rattle.calculus.specs.OpbWriting.{Constraint, constraint_words, assumptions, HasInside, HasConstraint, HasConstraints}
use Rattle.calculus.specs.OpbReading.{constraints, read_opb}
use Rattle.calculus.proofs.Booleans.{or_l, or_r, and_l, and_r, and_mk, is_true, is_false}
use Rattle.calculus.proofs.Computing.{computing}
use Rattle.theorems.proofs.Decimal.{decimal-is, decimal-magnitude, ensure-yes}
use Rattle.theorems.proofs.OpbReadable.{opb_complete}
use Rattle.theorems.proofs.Reading.{ok-bad}
use Rattle.theorems.proofs.Written.{blank-cases, name-byte}

-- ---- how words are written
unfoldable pub opb_text : OpbWord → List ℕ
opb_text (number_word z) = integer_text z
opb_text (literal-word (plain x)) = x
opb_text (literal-word (negated x)) = 126 ∷ x
opb_text (relation-word at_least) = bytes ">="
opb_text (relation-word equal) = bytes "="
opb_text semicolon = bytes ";"

-- each with a blank before it
unfoldable pub opb_text_of : List OpbWord → List ℕ
opb_text_of [] = []
opb_text_of (w ∷ ws) = 32 ∷ (opb_text w ++ opb_text_of ws)

-- the text of constraints
unfoldable pub text_of_all : List Constraint → List ℕ
text_of_all [] = []
text_of_all (k ∷ ks) = opb_text_of (constraint_words k) ++ text_of_all ks

-- a number in range, `x` and digits: what a word may be
unfoldable pub OpbInRange : OpbWord → Type 0
OpbInRange (number_word z) = nat_abs z ≤ max_numeral
OpbInRange (literal-word (plain x)) = T (is_variable x)
OpbInRange (literal-word (negated x)) = T (is_variable x)
OpbInRange (relation-word r) = Unit {0}
OpbInRange semicolon = Unit {0}

unfoldable pub AllOpbInRange : List OpbWord → Type 0
AllOpbInRange [] = Unit {0}
AllOpbInRange (w ∷ ws) = OpbInRange w × AllOpbInRange ws

unfoldable pub ConstraintsInRange : List Constraint → Type 0
ConstraintsInRange [] = Unit {0}
ConstraintsInRange (k ∷ ks) = AllOpbInRange (constraint_words k) × ConstraintsInRange ks

-- ---- what the bytes of a word mean
opb_bytes : List ℕ → Bool
opb_bytes [] = true
opb_bytes (b ∷ bs) = in_opb_word b && opb_bytes bs

digit-byte : (b : ℕ) → T (is_digit b) → T (in_opb_word b)
unfolding in_opb_word in_name is_digit
digit-byte b h = and_mk (in_word b) _ (name-byte b (or_r (is_letter b) _ (or_l (is_digit b) _ h))) (not_T (eqb b 59) (λ t. subst (λ (c : ℕ). T (is_digit c)) (eqb→eq b 59 t) h))

digits-bytes : (bs : List ℕ) → T (digits bs) → T (opb_bytes bs)
unfolding digits opb_bytes
digits-bytes [] h = tt
digits-bytes (b ∷ bs) h = and_mk (in_opb_word b) _ (digit-byte b (and_l (is_digit b) _ h)) (digits-bytes bs (and_r (is_digit b) _ h))

not_sign : (c b : ℕ) → (T (is_digit c) → ⊥) → T (is_digit b) → eqb b c ≡ false
not_sign c b n h = is_false (eqb b c) (not_T (eqb b c) (λ t. n (subst (λ (d : ℕ). T (is_digit d)) (eqb→eq b c t) h)))

positive-word : (bs : List ℕ) (n : ℕ) → T (digit_first bs) → magnitude bs ≡ ok n → opb_word_of bs ≡ ok (number_word (pos n))
unfolding opb_word_of digit_first numeral_first signed_of numeral_of bind
positive-word [] n d e = absurd d
positive-word (b ∷ bs) n d e = rw (is_true (is_digit b) d, not_sign 43 b (λ t. unfold is_digit in t) d, not_sign 45 b (λ t. unfold is_digit in t) d, e)

negative-word : (bs : List ℕ) (n : ℕ) → T (digit_first bs) → magnitude bs ≡ ok (suc n) → opb_word_of (45 ∷ bs) ≡ ok (number_word (negsuc n))
unfolding opb_word_of numeral_first signed_of numeral_of bind negative is_digit
negative-word bs n d e = rw (is_true (digit_first bs) d, e)

-- the bytes w are those of the word v
abbrev IsWord : List ℕ → OpbWord → Type 0
IsWord w v = (opb_word_of w ≡ ok v) × T (opb_bytes w)

number_is : (z : ℤ) → nat_abs z ≤ max_numeral → IsWord (integer_text z) (number_word z)
unfolding integer_text opb_bytes in_opb_word in_word class_of is_blank is_digit is_letter
number_is (pos n) h = let d = decimal-is n in (positive-word (decimal n) n d.front (decimal-magnitude n h), digits-bytes (decimal n) d.all)
number_is (negsuc n) h = let d = decimal-is (suc n) in (negative-word (decimal (suc n)) n d.front (decimal-magnitude (suc n) h), digits-bytes (decimal (suc n)) d.all)

-- what holds of `x` and digits holds of every variable
variable-is : (P : List ℕ → Type 0) → ((bs : List ℕ) → T (is_variable (120 ∷ bs)) → T (digits bs) → P (120 ∷ bs)) → (x : List ℕ) → T (is_variable x) → P x
unfolding is_variable
variable-is P f [] h = absurd h
variable-is P f (b ∷ bs) h =
    let e : 120 ≡ b = sym (eqb→eq b 120 (and_l (eqb b 120) _ h)) in
    let g : T (digit_first bs && (digits bs && leb (length (b ∷ bs)) max_name)) = and_r (eqb b 120) _ h in
    let d : T (digits bs) = and_l (digits bs) _ (and_r (digit_first bs) _ g) in
    subst (λ (c : ℕ). T (is_variable (c ∷ bs)) → P (c ∷ bs)) e (λ i. f bs i d) h

plain-is : (x : List ℕ) → T (is_variable x) → IsWord x (literal-word (plain x))
plain-is = variable-is (λ x. IsWord x (literal-word (plain x)))
    (λ bs h d. (unfold opb_word_of numeral_first plus_first other_of objective same_name literal_of is_digit in ensure-yes (is_variable (120 ∷ bs)) 5 _ h, unfold opb_bytes in_opb_word in_word class_of is_blank is_digit is_letter in digits-bytes bs d))

negated-is : (x : List ℕ) → T (is_variable x) → IsWord (126 ∷ x) (literal-word (negated x))
negated-is x v = variable-is (λ x. IsWord (126 ∷ x) (literal-word (negated x)))
    (λ bs h d. (unfold opb_word_of numeral_first plus_first other_of objective same_name literal_of is_digit in ensure-yes (is_variable (120 ∷ bs)) 5 _ h, unfold opb_bytes in_opb_word in_word class_of is_blank is_digit is_letter in digits-bytes bs d)) x v

-- ---- the token that a word is written as
span-word : (w rest : List ℕ) → T (opb_bytes w) → span in_opb_word rest ≡ 0 → span in_opb_word (w ++ rest) ≡ length w
unfolding span opb_bytes
span-word [] rest h e = e
span-word (b ∷ w) rest h e =
    ap (λ (c : Bool). cond c (suc (span in_opb_word (w ++ rest))) 0) (is_true (in_opb_word b) (and_l (in_opb_word b) _ h))
    ∙ ap suc (span-word w rest (and_r (in_opb_word b) _ h) e)

empty-word : (v : OpbWord) → opb_word_of [] ≡ ok v → ⊥
unfolding computing
empty-word v e = ok-bad e

from-word : (p : ℕ) (w rest : List ℕ) (v : OpbWord) → IsWord w v → span in_opb_word rest ≡ 0 → opb_from p (w ++ rest) ≡ word v p (p + length w)
unfolding opb_from opb_judged opb_bytes
from-word p [] rest v h e = absurd (empty-word v h.0)
from-word p (b ∷ w) rest v h e =
    let i : in_opb_word b ≡ true = is_true (in_opb_word b) (and_l (in_opb_word b) _ h.1) in
    let k : span in_opb_word (b ∷ (w ++ rest)) ≡ length (b ∷ w) = span-word (b ∷ w) rest h.1 e in
    rw (i, k) (ap (opb_judged p (p + length (b ∷ w))) (ap opb_word_of (take-append_seam (b ∷ w) rest) ∙ h.0))

from-text : (w : OpbWord) (p : ℕ) (rest : List ℕ) → OpbInRange w → span in_opb_word rest ≡ 0 → opb_from p (opb_text w ++ rest) ≡ word w p (p + length (opb_text w))
unfolding opb_text OpbInRange opb_bytes computing
from-text (number_word z) p rest h e = from-word p (integer_text z) rest (number_word z) (number_is z h) e
from-text (literal-word (plain x)) p rest h e = from-word p x rest (literal-word (plain x)) (plain-is x h) e
from-text (literal-word (negated x)) p rest h e = from-word p (126 ∷ x) rest (literal-word (negated x)) (negated-is x h) e
from-text (relation-word at_least) p rest h e = from-word p (bytes ">=") rest (relation-word at_least) (refl, tt) e
from-text (relation-word equal) p rest h e = from-word p (bytes "=") rest (relation-word equal) (refl, tt) e
from-text semicolon p rest h e = refl

-- no word begins with a blank
no-blank : (p : ℕ) (bs : List ℕ) (w : OpbWord) (q t : ℕ) → opb_from p bs ≡ word w q t → (span is_blank bs ≡ 0) × (gap later bs ≡ 0)
unfolding span gap passed
no-blank p [] w q t e = (refl, refl)
no-blank p (b ∷ bs) w q t e = go (is_blank b) (λ h. blank-wrong h ∙ e)
  where
    blank-wrong : T (is_blank b) → wrong 3 p ≡ opb_from p (b ∷ bs)
    blank-wrong h = blank-cases (λ (c : ℕ). wrong 3 p ≡ opb_from p (c ∷ bs)) (unfold computing in refl) (unfold computing in refl) (unfold computing in refl) (unfold computing in refl) b h

    go : (c : Bool) → (T c → wrong 3 p ≡ word w q t) → (cond c (suc (span is_blank bs)) 0 ≡ 0) × (cond c (suc (gap (next_place later b) bs)) 0 ≡ 0)
    go true h = let g = h tt in let z : ◌≡◌ {A = ℕ} 0 1 = cc in let v : ⊥ = omega arith in absurd v
    go false h = (refl, refl)

-- behind one blank
behind-text : (w : OpbWord) (k p : ℕ) (rest : List ℕ) → OpbInRange w → span in_opb_word rest ≡ 0 → k ≡ 1 → opb_behind k p (32 ∷ (opb_text w ++ rest)) ≡ word w (p + 1) (p + suc (length (opb_text w)))
unfolding opb_behind
behind-text w k p rest h e g = ap (λ (j : ℕ). opb_from (p + j) (drop j (32 ∷ (opb_text w ++ rest)))) g ∙ from-text w (p + 1) rest h e ∙ ap (word w (p + 1)) (omega arith)

inside-text : (s : List ℕ) (w : OpbWord) (p : ℕ) (rest : List ℕ) → OpbInRange w → span in_opb_word rest ≡ 0 → drop p s ≡ 32 ∷ (opb_text w ++ rest) → inside_at s p ≡ word w (p + 1) (p + suc (length (opb_text w)))
unfolding inside_at span is_blank
inside-text s w p rest h e d =
    let (a, b) = no-blank 0 (opb_text w ++ rest) w 0 (0 + length (opb_text w)) (from-text w 0 rest h e) in
    ap (λ (bs : List ℕ). opb_behind (span is_blank bs) p bs) d ∙ behind-text w (suc (span is_blank (opb_text w ++ rest))) p rest h e (ap suc a)

-- a blank outside constraints is no first byte of a comment
blank-gap : (s : List ℕ) (p : ℕ) (bs : List ℕ) → gap (place_at s p) (32 ∷ bs) ≡ suc (gap later bs)
unfolding computing
blank-gap s zero bs = refl
blank-gap s (suc p) bs = go (eqb (get_or s p 0) 10)
  where
    go : (c : Bool) → gap (cond c first later) (32 ∷ bs) ≡ suc (gap later bs)
    go true = refl
    go false = refl

outside-text : (s : List ℕ) (w : OpbWord) (p : ℕ) (rest : List ℕ) → OpbInRange w → span in_opb_word rest ≡ 0 → drop p s ≡ 32 ∷ (opb_text w ++ rest) → outside_at s p ≡ word w (p + 1) (p + suc (length (opb_text w)))
unfolding outside_at
outside-text s w p rest h e d =
    let (a, b) = no-blank 0 (opb_text w ++ rest) w 0 (0 + length (opb_text w)) (from-text w 0 rest h e) in
    ap (λ (bs : List ℕ). opb_behind (gap (place_at s p) bs) p bs) d ∙ behind-text w (gap (place_at s p) (32 ∷ (opb_text w ++ rest))) p rest h e (blank-gap s p (opb_text w ++ rest) ∙ ap suc b)

-- ---- the words of the text of constraints
-- a text of words, and what follows, begins with no byte of a word
text-ends : (ws : List OpbWord) (more : List ℕ) → span in_opb_word more ≡ 0 → span in_opb_word (opb_text_of ws ++ more) ≡ 0
unfolding opb_text_of span computing
text-ends [] more e = e
text-ends (w ∷ ws) more e = refl

-- behind the word w that stands at p
word-behind : (s : List ℕ) (w : OpbWord) (p : ℕ) (rest : List ℕ) → drop p s ≡ 32 ∷ (opb_text w ++ rest) → drop (p + suc (length (opb_text w))) s ≡ rest
word-behind s w p rest d =
    let v : List ℕ = 32 ∷ opb_text w in
    sym (drop-drop (length v) p s) ∙ ap (drop (length v)) d ∙ drop-append_seam v rest

inside-has : (s : List ℕ) (ws : List OpbWord) (p e : ℕ) (more : List ℕ) → AllOpbInRange ws → span in_opb_word more ≡ 0 → drop p s ≡ opb_text_of ws ++ more → p + length (opb_text_of ws) ≡ e → HasInside s p ws e × (drop e s ≡ more)
unfolding HasInside AllOpbInRange opb_text_of
inside-has s [] p e more h z d l = let g : p ≡ e = omega arith in (g, ap (λ (q : ℕ). drop q s) (sym g) ∙ d)
inside-has s (w ∷ ws) p e more h z d l =
    let rest : List ℕ = opb_text_of ws ++ more in
    let g : drop p s ≡ 32 ∷ (opb_text w ++ rest) = d ∙ ap (λ (bs : List ℕ). 32 ∷ bs) (append_assoc (opb_text w) (opb_text_of ws) more) in
    let n : length (opb_text w ++ opb_text_of ws) ≡ length (opb_text w) + length (opb_text_of ws) = length-append (opb_text w) (opb_text_of ws) in
    let (i, j) = inside-has s ws (p + suc (length (opb_text w))) e more h.1 z (word-behind s w p rest g) (omega arith) in
    ((p + 1, p + suc (length (opb_text w)), inside-text s w p rest h.0 (text-ends ws more z) g, i), j)

constraint-has : (s : List ℕ) (ws : List OpbWord) (p e : ℕ) (more : List ℕ) → AllOpbInRange ws → span in_opb_word more ≡ 0 → drop p s ≡ opb_text_of ws ++ more → p + length (opb_text_of ws) ≡ e → HasConstraint s p ws e × (drop e s ≡ more)
unfolding HasConstraint AllOpbInRange opb_text_of
constraint-has s [] p e more h z d l = let g : p ≡ e = omega arith in (g, ap (λ (q : ℕ). drop q s) (sym g) ∙ d)
constraint-has s (w ∷ ws) p e more h z d l =
    let rest : List ℕ = opb_text_of ws ++ more in
    let g : drop p s ≡ 32 ∷ (opb_text w ++ rest) = d ∙ ap (λ (bs : List ℕ). 32 ∷ bs) (append_assoc (opb_text w) (opb_text_of ws) more) in
    let n : length (opb_text w ++ opb_text_of ws) ≡ length (opb_text w) + length (opb_text_of ws) = length-append (opb_text w) (opb_text_of ws) in
    let (i, j) = inside-has s ws (p + suc (length (opb_text w))) e more h.1 z (word-behind s w p rest g) (omega arith) in
    ((p + 1, p + suc (length (opb_text w)), outside-text s w p rest h.0 (text-ends ws more z) g, i), j)

all-ends : (ks : List Constraint) → span in_opb_word (text_of_all ks) ≡ 0
unfolding text_of_all span
all-ends [] = refl
all-ends (k ∷ ks) = text-ends (constraint_words k) (text_of_all ks) (all-ends ks)

constraints-have : (s : List ℕ) (ks : List Constraint) (p e : ℕ) → ConstraintsInRange ks → drop p s ≡ text_of_all ks → p + length (text_of_all ks) ≡ e → HasConstraints s p ks e
unfolding HasConstraints ConstraintsInRange text_of_all
constraints-have s [] p e h d l = omega arith
constraints-have s (k ∷ ks) p e (h, i) d l =
    let ws : List OpbWord = constraint_words k in
    let n : length (opb_text_of ws ++ text_of_all ks) ≡ length (opb_text_of ws) + length (text_of_all ks) = length-append (opb_text_of ws) (text_of_all ks) in
    let (a, b) = constraint-has s ws p (p + length (opb_text_of ws)) (text_of_all ks) h (all-ends ks) d refl in
    (p + length (opb_text_of ws), a, constraints-have s ks (p + length (opb_text_of ws)) e i b (omega arith))

text-none : (s : List ℕ) → outside_at s (length s) ≡ ended (length s + 0)
unfolding outside_at
text-none s = ap (λ (bs : List ℕ). opb_behind (gap (place_at s (length s)) bs) (length s) bs) (drop-length s) ∙ unfold opb_behind opb_from gap in refl

-- the theorem
pub constraints-read : (ks : List Constraint) → ConstraintsInRange ks → all_nodes (assumptions ks) ≤ max_nodes → length (assumptions ks) ≤ max_commands → length (text_of_all ks) ≤ max_text → read_opb (text_of_all ks) ≡ constraints ks
constraints-read ks h n c l =
    let s = text_of_all ks in
    opb_complete s ks (record { short = l; nodes = n; commands = c; last = length s; size = length s + 0; words = constraints-have s ks 0 (length s) h refl (omega arith); none = text-none s })
