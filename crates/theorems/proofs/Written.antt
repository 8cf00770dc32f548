-- Commands within the limits whose names and numerals are in range are what their own words are read as.
use mathlib.Core.Path.{◌≡◌, refl, sym, ap, subst, ◌∙◌}
use mathlib.Core.Bool.{Bool, true, false, cond, ◌&&◌, ◌||◌}
use mathlib.Core.List.{List, [], ◌∷◌, ◌++◌}
use Prim.Native.Nat.{ℕ, suc, ◌+◌, ◌≤◌}
use native.Mathlib.Omega.{arith}
use lib.Dec.{T, not_T, eqb, eqb→eq, leb}
use lib.IntN.{ℤ, pos, negsuc, nat_abs}
use lib.ListN.{length, drop, length-append}
use lib.Seq.{take-append_seam, drop-append_seam, drop-drop, drop-length}
use Rattle.calculus.specs.Bytes.{bytes, is_blank, is_digit, is_letter, in_name, in_word, class_of}
use Rattle.calculus.specs.Commands.{whole, read_file}
use Rattle.calculus.specs.Terms.{Op, add, sub, mul, ge, gt, le, lt, eq, conj, Term, Terms, num, var, app, nil, cons, listed, Rule, addition, multiplication, division, saturation, literal, normalize, transfer, part, rule_text, Command, assume, step, pol}
use Rattle.calculus.specs.Words.{ok, bind, Mark, opening, closing, cl-word, assume-word, step-word, rule-word, premises-word, args-word, Word, mark, operator, numeral, name, decimal, integer_text, operator_text, mark_text, word_text, digits, max_numeral, magnitude, negative, numeral_of, digit_first, numeral_first, name_bytes, is_name_text, word_of, Res, negated-name, behind_tilde, tilde_first}
use Rattle.calculus.specs.Tokens.{word, wrong, span, judged, token_from, token_behind, token_at}
use Rattle.calculus.specs.Limits.{max_text, Limits}
use Rattle.calculus.specs.Writing.{term_words, terms_words, name_words, premises_words, args_words, pol_words, command_words, words_of, Has, Spells}
use Rattle.calculus.proofs.Booleans.{or_elim, or_l, or_r, and_l, and_r, and_mk, is_true, is_false}
use Rattle.theorems.proofs.ReadableFile.{complete}
use Rattle.calculus.proofs.Computing.{computing}
use Rattle.theorems.proofs.Decimal.{decimal-is, decimal-magnitude}
use Rattle.theorems.proofs.Names.{word-name, word-fixed}
use Rattle.theorems.proofs.Reading.{ok-bad}

-- ---- texts of words
-- the words of a text, each with a blank before it
unfoldable pub text_of : List Word → List ℕ
text_of [] = []
text_of (w ∷ ws) = 32 ∷ (word_text w ++ text_of ws)

-- a numeral in range, a name: what a word of the grammar may be
unfoldable pub InRange : Word → Type 0
InRange (mark m) = Unit {0}
InRange (operator o) = Unit {0}
InRange (numeral z) = nat_abs z ≤ max_numeral
InRange (name x) = word_of x ≡ ok (name x)
InRange (negated-name x) = word_of x ≡ ok (name x)

-- of every word of a list
unfoldable pub AllInRange : List Word → Type 0
AllInRange [] = Unit {0}
AllInRange (w ∷ ws) = InRange w × AllInRange ws

-- ---- bytes of words
-- every byte may stand in a word
word_bytes : List ℕ → Bool
word_bytes [] = true
word_bytes (b ∷ bs) = in_word b && word_bytes bs

-- what holds of the four blanks holds of every blank
pub blank-cases : (P : ℕ → Type 0) → P 32 → P 10 → P 9 → P 13 → (b : ℕ) → T (is_blank b) → P b
unfolding is_blank
blank-cases P p q r s b = or_elim (eqb b 32) _ (is 32 p) (or_elim (eqb b 10) _ (is 10 q) (or_elim (eqb b 9) _ (is 9 r) (is 13 s)))
  where
    is : (c : ℕ) → P c → T (eqb b c) → P b
    is c h t = subst P (sym (eqb→eq b c t)) h

-- a byte of a name is a byte of a word
pub name-byte : (b : ℕ) → T (in_name b) → T (in_word b)
unfolding in_name in_word class_of is_digit is_letter
name-byte b h =
    go (is_blank b) (is_digit b) (is_letter b) (eqb b 46)
    (λ t. blank-cases (λ (c : ℕ). T (in_name c) → ⊥) (λ u. u) (λ u. u) (λ u. u) (λ u. u) b t h)
    (λ t. subst (λ (c : ℕ). T (leb 4 (rest c))) (sym (eqb→eq b 46 t)) tt) h
  where
    rest : ℕ → ℕ
    rest c = cond (eqb c 40) 2 (cond (eqb c 41) 3 (cond (leb 33 c && leb c 126) 6 1))

    go : (blank digit letter dot : Bool) → (T blank → ⊥) → (T dot → T (leb 4 (rest b))) → T (letter || (digit || dot)) → T (leb 4 (cond blank 0 (cond digit 4 (cond letter 5 (rest b)))))
    go true digit letter dot n k h = absurd (n tt)
    go false true letter dot n k h = tt
    go false false true dot n k h = tt
    go false false false dot n k h = k h

-- the bytes of numerals and of names are bytes of words
names-words : (bs : List ℕ) → T (name_bytes bs) → T (word_bytes bs)
unfolding name_bytes word_bytes
names-words [] h = tt
names-words (b ∷ bs) h = and_mk (in_word b) _ (name-byte b (and_l (in_name b) _ h)) (names-words bs (and_r (in_name b) _ h))

digits-words : (bs : List ℕ) → T (digits bs) → T (word_bytes bs)
unfolding digits word_bytes in_name
digits-words [] h = tt
digits-words (b ∷ bs) h = and_mk (in_word b) _ (name-byte b (or_r (is_letter b) _ (or_l (is_digit b) _ (and_l (is_digit b) _ h)))) (digits-words bs (and_r (is_digit b) _ h))

name-words : (bs : List ℕ) → T (is_name_text bs) → T (word_bytes bs)
unfolding is_name_text word_bytes in_name
name-words [] h = absurd h
name-words (b ∷ bs) h = and_mk (in_word b) _ (name-byte b (or_l (is_letter b) _ (and_l (is_letter b) _ h))) (names-words bs (and_r (is_letter b) _ h))

-- ---- what the bytes of a word mean
not-minus : (b : ℕ) → T (is_digit b) → eqb b 45 ≡ false
unfolding is_digit
not-minus b h = is_false (eqb b 45) (not_T (eqb b 45) (λ t. subst (λ (c : ℕ). T (is_digit c)) (eqb→eq b 45 t) h))

-- numerals with and without `-`
positive-word : (bs : List ℕ) (n : ℕ) → T (digit_first bs) → magnitude bs ≡ ok n → word_of bs ≡ ok (numeral (pos n))
unfolding word_of digit_first numeral_first numeral_of bind
positive-word [] n d e = absurd d
positive-word (b ∷ bs) n d e = rw (is_true (is_digit b) d, not-minus b d, e)

negative-word : (bs : List ℕ) (n : ℕ) → T (digit_first bs) → magnitude bs ≡ ok (suc n) → word_of (45 ∷ bs) ≡ ok (numeral (negsuc n))
unfolding word_of numeral_first numeral_of bind negative is_digit
negative-word bs n d e = rw (is_true (digit_first bs) d, e)

-- the bytes w are those of the word v, and no bracket
abbrev IsWord : List ℕ → Word → Type 0
IsWord w v = (word_of w ≡ ok v) × T (word_bytes w)

-- an integer in range is read from its text
integer-word : (z : ℤ) → nat_abs z ≤ max_numeral → IsWord (integer_text z) (numeral z)
unfolding integer_text word_bytes in_word class_of is_blank is_digit is_letter
integer-word (pos n) h =
    let d = decimal-is n in
    (positive-word (decimal n) n d.front (decimal-magnitude n h), digits-words (decimal n) d.all)
integer-word (negsuc n) h =
    let d = decimal-is (suc n) in
    (negative-word (decimal (suc n)) n d.front (decimal-magnitude (suc n) h), digits-words (decimal (suc n)) d.all)

-- so is an operator
operator-word : (o : Op) → IsWord (operator_text o) (operator o)
unfolding computing word_bytes
operator-word add = (refl, tt)
operator-word sub = (refl, tt)
operator-word mul = (refl, tt)
operator-word ge = (refl, tt)
operator-word gt = (refl, tt)
operator-word le = (refl, tt)
operator-word lt = (refl, tt)
operator-word eq = (refl, tt)
operator-word conj = (refl, tt)

-- a name is read from its bytes
name-word : (x : List ℕ) → word_of x ≡ ok (name x) → IsWord x (name x)
name-word x e = (e, name-words x (word-name x x e))

-- so is a name behind `~`
negated-word-of : (x : List ℕ) → word_of x ≡ ok (name x) → IsWord (126 ∷ x) (negated-name x)
unfolding word_of numeral_first tilde_first is_digit bind behind_tilde word_bytes in_word class_of is_blank is_letter
negated-word-of x e = (ap (λ (r : Res Word). bind r behind_tilde) (word-fixed x x e), name-words x (word-name x x e))

-- ---- the token that a word is written as
-- a word reaches to its last byte
span-word : (w rest : List ℕ) → T (word_bytes w) → span in_word rest ≡ 0 → span in_word (w ++ rest) ≡ length w
unfolding span word_bytes
span-word [] rest h e = e
span-word (b ∷ w) rest h e =
    ap (λ (c : Bool). cond c (suc (span in_word (w ++ rest))) 0) (is_true (in_word b) (and_l (in_word b) _ h))
    ∙ ap suc (span-word w rest (and_r (in_word b) _ h) e)

empty-word : (v : Word) → word_of [] ≡ ok v → ⊥
unfolding computing
empty-word v e = ok-bad e

-- a word's bytes before what ends a word
from-word : (p : ℕ) (w rest : List ℕ) (v : Word) → IsWord w v → span in_word rest ≡ 0 → token_from p (w ++ rest) ≡ word v p (p + length w)
unfolding token_from judged word_bytes
from-word p [] rest v h e = absurd (empty-word v h.0)
from-word p (b ∷ w) rest v h e =
    let i : in_word b ≡ true = is_true (in_word b) (and_l (in_word b) _ h.1) in
    let k : span in_word (b ∷ (w ++ rest)) ≡ length (b ∷ w) = span-word (b ∷ w) rest h.1 e in
    rw (i, k) (ap (judged p (p + length (b ∷ w))) (ap word_of (take-append_seam (b ∷ w) rest) ∙ h.0))

-- a text of words begins with a blank, which ends the word before it
text-ends : (ws : List Word) → span in_word (text_of ws) ≡ 0
unfolding text_of computing
text-ends [] = refl
text-ends (w ∷ ws) = refl

-- brackets are tokens of their own, the other marks are words
from-mark : (m : Mark) (p : ℕ) (rest : List ℕ) → span in_word rest ≡ 0 → token_from p (mark_text m ++ rest) ≡ word (mark m) p (p + length (mark_text m))
unfolding computing word_bytes
from-mark opening p rest e = refl
from-mark closing p rest e = refl
from-mark cl-word p rest e = from-word p (mark_text cl-word) rest (mark cl-word) (refl, tt) e
from-mark assume-word p rest e = from-word p (mark_text assume-word) rest (mark assume-word) (refl, tt) e
from-mark step-word p rest e = from-word p (mark_text step-word) rest (mark step-word) (refl, tt) e
from-mark rule-word p rest e = from-word p (mark_text rule-word) rest (mark rule-word) (refl, tt) e
from-mark premises-word p rest e = from-word p (mark_text premises-word) rest (mark premises-word) (refl, tt) e
from-mark args-word p rest e = from-word p (mark_text args-word) rest (mark args-word) (refl, tt) e

-- a word in range is the token of its own text
from-text : (w : Word) (p : ℕ) (rest : List ℕ) → InRange w → span in_word rest ≡ 0 → token_from p (word_text w ++ rest) ≡ word w p (p + length (word_text w))
unfolding word_text InRange
from-text (mark m) p rest h e = from-mark m p rest e
from-text (operator o) p rest h e = from-word p (operator_text o) rest (operator o) (operator-word o) e
from-text (numeral z) p rest h e = from-word p (integer_text z) rest (numeral z) (integer-word z h) e
from-text (name x) p rest h e = from-word p x rest (name x) (name-word x h) e
from-text (negated-name x) p rest h e = from-word p (126 ∷ x) rest (negated-name x) (negated-word-of x h) e

-- no token begins with a blank
no-blank : (p : ℕ) (bs : List ℕ) (w : Word) (q t : ℕ) → token_from p bs ≡ word w q t → span is_blank bs ≡ 0
unfolding span
no-blank p [] w q t e = refl
no-blank p (b ∷ bs) w q t e = go (is_blank b) (λ h. blank-wrong h ∙ e)
  where
    blank-wrong : T (is_blank b) → wrong 3 p ≡ token_from p (b ∷ bs)
    blank-wrong h = blank-cases (λ (c : ℕ). wrong 3 p ≡ token_from p (c ∷ bs)) (unfold computing in refl) (unfold computing in refl) (unfold computing in refl) (unfold computing in refl) b h

    go : (c : Bool) → (T c → wrong 3 p ≡ word w q t) → cond c (suc (span is_blank bs)) 0 ≡ 0
    go true h = let g = h tt in let z : ◌≡◌ {A = ℕ} 0 1 = cc in let v : ⊥ = omega arith in absurd v
    go false h = refl

-- also behind a blank
behind-text : (w : Word) (p : ℕ) (rest : List ℕ) → InRange w → span in_word rest ≡ 0 → token_behind p (32 ∷ (word_text w ++ rest)) ≡ word w (p + 1) (p + suc (length (word_text w)))
unfolding token_behind span is_blank
behind-text w p rest h e =
    let g = from-text w (p + 1) rest h e in
    rw (no-blank (p + 1) (word_text w ++ rest) w _ _ g) (g ∙ ap (word w (p + 1)) (omega arith))

-- ---- the words of the text of words
-- from p on the text s has the words whose text stands there
text-has : (s : List ℕ) (ws : List Word) (p e : ℕ) → AllInRange ws → drop p s ≡ text_of ws → p + length (text_of ws) ≡ e → Has s p ws e
unfolding Has AllInRange text_of token_at
text-has s [] p e h d l = omega arith
text-has s (w ∷ ws) p e h d l =
    let v : List ℕ = 32 ∷ word_text w in
    let n : length (v ++ text_of ws) ≡ length v + length (text_of ws) = length-append v (text_of ws) in
    let k : drop (p + length v) s ≡ text_of ws = sym (drop-drop (length v) p s) ∙ ap (drop (length v)) d ∙ drop-append_seam v (text_of ws) in
    (p + 1, p + length v, ap (token_behind p) d ∙ behind-text w p (text_of ws) h.0 (text-ends ws), text-has s ws (p + length v) e h.1 k (omega arith))

-- words in range are the words of their text
pub written-spells : (ws : List Word) → AllInRange ws → Spells (text_of ws) ws
unfolding token_at
written-spells ws h =
    let s = text_of ws in
    record {
      last = length s;
      size = length s + 0;
      words = text-has s ws 0 (length s) h refl (omega arith);
      none = ap (token_behind (length s)) (drop-length s) ∙ unfold token_behind token_from span in refl;
    }

-- commands within the limits are what their own words are read as
pub written_read : (cs : List Command) → Limits cs → AllInRange (words_of cs) → length (text_of (words_of cs)) ≤ max_text → read_file (text_of (words_of cs)) ≡ whole cs
written_read cs l h k = complete (text_of (words_of cs)) cs (record { short = k; limits = l; words = written-spells (words_of cs) h })

-- ---- what is in range, told of commands
-- the numerals and variables of a term
unfoldable mutual
  pub InRangeTerm : Term → Type 0
  InRangeTerm (num z) = InRange (numeral z)
  InRangeTerm (var x) = InRange (name x)
  InRangeTerm (app o ts) = InRangeTerms ts

  pub InRangeTerms : Terms → Type 0
  InRangeTerms nil = Unit {0}
  InRangeTerms (cons t ts) = InRangeTerm t × InRangeTerms ts

-- the id, the cited premises, the words of a pol line, and the terms' variables and numerals
unfoldable pub InRangeCommand : Command → Type 0
InRangeCommand (assume d x) = InRange (name d) × InRangeTerm x
InRangeCommand (step d c r ds xs) = InRange (name d) × InRangeTerms (listed c) × AllInRange (name_words ds) × InRangeTerms (listed xs)
InRangeCommand (pol d ws) = InRange (name d) × AllInRange (pol_words ws)

unfoldable pub InRangeCommands : List Command → Type 0
InRangeCommands [] = Unit {0}
InRangeCommands (c ∷ cs) = InRangeCommand c × InRangeCommands cs

all_append : (ws vs : List Word) → AllInRange ws → AllInRange vs → AllInRange (ws ++ vs)
unfolding AllInRange
all_append [] vs h k = k
all_append (w ∷ ws) vs h k = (h.0, all_append ws vs h.1 k)

-- behind an opening bracket, up to the closing one
all_closed : (ws : List Word) → AllInRange ws → AllInRange (ws ++ (mark closing ∷ []))
unfolding AllInRange InRange
all_closed ws h = all_append ws (mark closing ∷ []) h (tt, tt)

-- the words of a term, of a part of a command and of a command in range are in range
mutual
  unfolding term_words InRangeTerm AllInRange InRange

  term-range : (x : Term) → InRangeTerm x → AllInRange (term_words x)
  term-range (num z) h = (h, tt)
  term-range (var x) h = (h, tt)
  term-range (app o ts) h = (tt, (tt, all_closed (terms_words ts) (terms-range ts h)))

  terms-range : (ts : Terms) → InRangeTerms ts → AllInRange (terms_words ts)
  terms-range nil h = tt
  terms-range (cons t ts) h = all_append (term_words t) (terms_words ts) (term-range t h.0) (terms-range ts h.1)

premises-range : (ds : List (List ℕ)) → AllInRange (name_words ds) → AllInRange (premises_words ds)
unfolding premises_words AllInRange InRange
premises-range [] h = tt
premises-range (d ∷ ds) h = (tt, (tt, all_closed (name_words (d ∷ ds)) h))

args_range : (xs : List Term) → InRangeTerms (listed xs) → AllInRange (args_words xs)
unfolding args_words AllInRange InRange
args_range [] h = tt
args_range (x ∷ xs) h = (tt, (tt, all_closed (terms_words (listed (x ∷ xs))) (terms-range (listed (x ∷ xs)) h)))

rule-range : (r : Rule) → InRange (name (rule_text r))
unfolding computing InRange
rule-range addition = refl
rule-range multiplication = refl
rule-range division = refl
rule-range saturation = refl
rule-range literal = refl
rule-range normalize = refl
rule-range transfer = refl
rule-range part = refl

command_range : (c : Command) → InRangeCommand c → AllInRange (command_words c)
unfolding command_words InRangeCommand AllInRange InRange
command_range (assume d x) (h, k) = (tt, (tt, (h, all_closed (term_words x) (term-range x k))))
command_range (step d c r ds xs) (h, k, i, j) =
    let a = all_append (premises_words ds) _ (premises-range ds i) (all_closed (args_words xs) (args_range xs j)) in
    (tt, (tt, (h, (tt, (tt, all_append (terms_words (listed c)) _ (terms-range (listed c) k) (tt, (tt, (rule-range r, a))))))))
command_range (pol d ws) (h, k) = (tt, (pol-range, (h, all_closed (pol_words ws) k)))
  where
    pol-range : InRange (name (bytes "pol"))
    pol-range = unfold computing InRange in refl

commands-range : (cs : List Command) → InRangeCommands cs → AllInRange (words_of cs)
unfolding words_of InRangeCommands
commands-range [] h = unfold AllInRange in tt
commands-range (c ∷ cs) h = all_append (command_words c) (words_of cs) (command_range c h.0) (commands-range cs h.1)

-- the same with the range told of the commands themselves
pub commands-read : (cs : List Command) → Limits cs → InRangeCommands cs → length (text_of (words_of cs)) ≤ max_text → read_file (text_of (words_of cs)) ≡ whole cs
commands-read cs l h k = written_read cs l (commands-range cs h) k
