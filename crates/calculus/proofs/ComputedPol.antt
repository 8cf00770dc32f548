-- Pol lines by computation (02, No. 2): what their words leave, the number of the first word that fails, where words are refused; `~x` elsewhere.
use mathlib.Core.Path.{◌≡◌, refl}
use mathlib.Core.Bool.{Bool, true, false, cond, ◌||◌}
use mathlib.Core.List.{List, [], ◌∷◌, ◌++◌, map}
use Prim.Native.Nat.{ℕ, zero, suc}
use Prim.Native.String.{String}
use lib.IntN.{pos}
use Rattle.calculus.specs.Bytes.{bytes}
use Rattle.calculus.specs.Commands.{enough}
use Rattle.calculus.specs.Grammar.{Reads, got, off, term}
use Rattle.calculus.specs.Terms.{Term, var, same_name, PolWord, plain_word, plus-word}
use Rattle.calculus.specs.Words.{Res, ok, bad}
use Rattle.calculus.specs.Entries.{Entry, entry, Inequality}
use Rattle.calculus.specs.Pol.{fits_entry, pol_result, given_clause, given_answer, pushed_ids}
use Rattle.calculus.specs.PolGrammar.{words_at}
use Rattle.calculus.proofs.Computing.{computing}
use Rattle.calculus.proofs.Examples.{Example, ◌⟼◌, reported, stated}

-- ---- lines by their bytes
-- the term that a text is read as
abbrev term_of : Reads Term → List Term
term_of (got x t n) = x ∷ []
term_of (off e p) = []

abbrev read_terms : List String → List Term
read_terms [] = []
read_terms (t ∷ ts) = term_of (term enough (bytes t) 0 1 0) ++ read_terms ts

-- an id above, and its clause
infix 70 ◌says◌
pub data Above : Type 0 where
  ◌says◌ : String → List String → Above

pub ids : List Above
ids =
    "a" says ("(>= (* 1 x) 1)" ∷ []) ∷
    "b" says ("(>= (* 1 (- 1 x)) 1)" ∷ []) ∷
    "c" says ("(>= (+ (* 2 x) (* 1 y)) 2)" ∷ []) ∷
    "both" says ("(>= (+ (* 3 x) (* 2 (- 1 x))) 3)" ∷ []) ∷
    "minus" says ("(>= (* -1 x) -1)" ∷ []) ∷
    "below" says ("(>= (* 1 x) -1)" ∷ []) ∷
    "bare" says ("(>= x 0)" ∷ []) ∷
    "equal" says ("(= (* 1 x) 1)" ∷ []) ∷
    "inner" says ("(>= (* 1 (+ x y)) 0)" ∷ []) ∷
    "none" says [] ∷
    "two" says ("(>= (* 1 x) 1)" ∷ "(>= (* 1 y) 1)" ∷ []) ∷
    "top" says ("(>= (* 1 x) 99999999)" ∷ []) ∷
    "twice" says ("(>= (+ (* 99999999 x) (* 1 x)) 0)" ∷ []) ∷
    "d" says ("(>= (* 1 x) 0)" ∷ []) ∷
    "s" says ("(>= (* 1 x) 0)" ∷ []) ∷ []

abbrev is_above : List Above → List ℕ → Bool
is_above [] x = false
is_above (d says ts ∷ ds) x = same_name (bytes d) x || is_above ds x

abbrev clause_at : List Above → List ℕ → List Term
clause_at [] x = []
clause_at (d says ts ∷ ds) x = cond (same_name (bytes d) x) (read_terms ts) (clause_at ds x)

-- what a line leaves, the number of its first word that fails, or where its words are refused
pub data Left : Type 0 where
  clause : List Term → Left
  number : ℕ → Left
  stop : ℕ → ℕ → Left

abbrev leaves : String → Left
leaves t = clause (read_terms (t ∷ []))

abbrev left : Res Inequality → Left
left (ok q) = clause (given_clause (ok q))
left (bad n) = number n

abbrev left_by : Reads (List PolWord) → Left
left_by (got ws t n) = left (pol_result (clause_at ids) ws)
left_by (off e p) = stop e p

-- the words of a line behind its id, and what they give below these ids
infix 70 ◌⟶◌
pub data Line : Type 0 where
  ◌⟶◌ : String → Left → Line

abbrev computed : Line → Left
computed (ws ⟶ r) = left_by (words_at enough (is_above ids) (bytes ws) 0 0)

abbrev said : Line → Left
said (ws ⟶ r) = r

-- ---- what words leave
-- `+` adds and reduces; numbers are judged behind the reduction
abbrev sums : List Line
sums =
    "a b +)" ⟶ leaves "(>= 0 1)" ∷
    "x ~x +)" ⟶ leaves "(>= 0 -1)" ∷
    "both y +)" ⟶ leaves "(>= (+ (* 1 x) (* 1 y)) 1)" ∷
    "x 99999999 * ~x 99999999 * +)" ⟶ leaves "(>= 0 -99999999)" ∷ []

pub pol-sums : map computed sums ≡ map said sums
unfolding computing ids
pol-sums = refl

-- a push does not reduce; numeral and `*`, numeral and `d`, and `s` work on the top
abbrev operations : List Line
operations =
    "both)" ⟶ leaves "(>= (+ (* 3 x) (* 2 (- 1 x))) 3)" ∷
    "c 3 *)" ⟶ leaves "(>= (+ (* 6 x) (* 3 y)) 6)" ∷
    "c 3 * 2 d)" ⟶ leaves "(>= (+ (* 3 x) (* 2 y)) 3)" ∷
    "c x + 2 d)" ⟶ leaves "(>= (+ (* 2 x) (* 1 y)) 1)" ∷
    "minus 2 d)" ⟶ leaves "(>= 0 0)" ∷
    "c y + 3 * s)" ⟶ leaves "(>= (+ (* 6 x) (* 6 y)) 6)" ∷
    "x 5 * s)" ⟶ leaves "(>= 0 0)" ∷
    "~x 2 *)" ⟶ leaves "(>= (* 2 (- 1 x)) 0)" ∷ []

pub pol-operations : map computed operations ≡ map said operations
unfolding computing ids
pol-operations = refl

-- a zero stays on the stack and changes a later reduction; at the end it is left out
abbrev zeros : List Line
zeros =
    "x 0 *)" ⟶ leaves "(>= 0 0)" ∷
    "minus y 0 * +)" ⟶ leaves "(>= (* -1 x) -1)" ∷
    "minus ~x 0 * +)" ⟶ leaves "(>= (* 1 (- 1 x)) 0)" ∷ []

pub pol-zeros : map computed zeros ≡ map said zeros
unfolding computing ids
pol-zeros = refl

-- names in byte order, plain before negated, whatever the order of the words
abbrev orders : List Line
orders =
    "both)" ⟶ leaves "(>= (+ (* 3 x) (* 2 (- 1 x))) 3)" ∷
    "x2 x10 + x1 + Y + x + a1 +)" ⟶ leaves "(>= (+ (* 1 Y) (* 1 a1) (* 1 x) (* 1 x1) (* 1 x10) (* 1 x2)) 0)" ∷
    "~z c + x + y 0 * +)" ⟶ leaves "(>= (+ (* 3 x) (* 1 y) (* 1 (- 1 z))) 2)" ∷ []

pub pol-orders : map computed orders ≡ map said orders
unfolding computing ids
pol-orders = refl

-- of one name
abbrev pairs : List Line
pairs = "minus ~x 2 * +)" ⟶ leaves "(>= (* 3 (- 1 x)) 0)" ∷ "both 2 *)" ⟶ leaves "(>= (+ (* 6 x) (* 4 (- 1 x))) 6)" ∷ []

pub pol-pairs : map computed pairs ≡ map said pairs
unfolding computing ids
pol-pairs = refl

-- ---- numbers
-- 52: the stack runs short, or has not one entry in the end
abbrev short : List Line
short =
    "x +)" ⟶ number 52 ∷
    "s)" ⟶ number 52 ∷
    "2 *)" ⟶ number 52 ∷
    "2 d)" ⟶ number 52 ∷
    "x y)" ⟶ number 52 ∷ []

pub pol-short : map computed short ≡ map said short
unfolding computing ids
pol-short = refl

-- so many words
abbrev repeated : ℕ → PolWord → List PolWord → List PolWord
repeated zero w ws = ws
repeated (suc n) w ws = w ∷ repeated n w ws

-- 32 entries fit, a 33rd is 52; all are added up
pub stack-limits : map (λ (n : ℕ). given_answer (pol_result (clause_at ids) (repeated (suc n) (plain_word (bytes "x")) (repeated n plus-word [])))) (31 ∷ 32 ∷ []) ≡ ok true ∷ bad 52 ∷ []
unfolding computing ids
stack-limits = refl

-- 54: a pushed id is not one inequality over names that section 2 reads
abbrev unread : List Line
unread =
    "bare)" ⟶ number 54 ∷
    "equal)" ⟶ number 54 ∷
    "inner)" ⟶ number 54 ∷
    "none)" ⟶ number 54 ∷
    "two)" ⟶ number 54 ∷ []

pub pol-unread : map computed unread ≡ map said unread
unfolding computing ids
pol-unread = refl

-- 54: a rule's sign check
abbrev signs : List Line
signs =
    "x -1 *)" ⟶ number 54 ∷
    "x -2 d)" ⟶ number 54 ∷
    "minus s)" ⟶ number 54 ∷
    "below s)" ⟶ number 54 ∷ []

pub pol-signs : map computed signs ≡ map said signs
unfolding computing ids
pol-signs = refl

-- a zero divisor included
abbrev divisors : List Line
divisors = "x 0 d)" ⟶ number 54 ∷ "x 1 d)" ⟶ leaves "(>= (* 1 x) 0)" ∷ []

pub pol-divisors : map computed divisors ≡ map said divisors
unfolding computing ids
pol-divisors = refl

-- 53: a number beyond the numeral range, at a push too
abbrev ranges : List Line
ranges =
    "x 99999999 *)" ⟶ leaves "(>= (* 99999999 x) 0)" ∷
    "x 99999999 * x +)" ⟶ number 53 ∷
    "top)" ⟶ leaves "(>= (* 1 x) 99999999)" ∷
    "top a +)" ⟶ number 53 ∷
    "twice)" ⟶ number 53 ∷ []

pub pol-ranges : map computed ranges ≡ map said ranges
unfolding computing ids
pol-ranges = refl

-- so many literals with the coefficient 0
abbrev zero_entries : ℕ → List Entry
zero_entries zero = []
zero_entries (suc n) = entry (record { variable = var (bytes "x"); negated = false }) (pos 0) ∷ zero_entries n

-- 64 literals fit, zeros counted, a 65th does not
pub literal-limits : map (λ (n : ℕ). fits_entry (record { sum = zero_entries n; const = pos 99999999 })) (64 ∷ 65 ∷ []) ≡ true ∷ false ∷ []
unfolding computing
literal-limits = refl

-- the first word that fails decides, and at one word the order is 52, 54, 53
abbrev firsts : List Line
firsts =
    "-1 *)" ⟶ number 52 ∷
    "0 d)" ⟶ number 52 ∷
    "top -2 *)" ⟶ number 54 ∷
    "x 99999999 * x + -1 *)" ⟶ number 53 ∷
    "x -1 * +)" ⟶ number 54 ∷
    "+ x -1 *)" ⟶ number 52 ∷
    "bare twice)" ⟶ number 54 ∷
    "twice bare)" ⟶ number 53 ∷ []

pub pol-firsts : map computed firsts ≡ map said firsts
unfolding computing ids
pol-firsts = refl

-- ---- which words there are
-- `d` and `s` are operations, whatever ids there are; `~d` and `~s` are literals
abbrev words : List Line
words =
    "~d ~s +)" ⟶ leaves "(>= (+ (* 1 (- 1 d)) (* 1 (- 1 s))) 0)" ∷
    "p )" ⟶ leaves "(>= (* 1 p) 0)" ∷
    "a ~a + )" ⟶ leaves "(>= (+ (* 1 (- 1 a)) (* 1 x)) 1)" ∷
    "d)" ⟶ stop 6 0 ∷
    "x *)" ⟶ stop 6 2 ∷
    "x 2)" ⟶ stop 6 3 ∷
    "x 2 x)" ⟶ stop 6 4 ∷
    "x 2 3 *)" ⟶ stop 6 4 ∷
    "x 2 ~d)" ⟶ stop 6 4 ∷
    "x 2 s)" ⟶ stop 6 4 ∷
    ")" ⟶ stop 6 0 ∷
    "x -)" ⟶ stop 6 2 ∷
    "and)" ⟶ stop 6 0 ∷
    "(x))" ⟶ stop 6 0 ∷
    "x" ⟶ stop 6 1 ∷
    "~cl)" ⟶ stop 5 0 ∷
    "~5)" ⟶ stop 5 0 ∷
    "~)" ⟶ stop 5 0 ∷
    "~~x)" ⟶ stop 5 0 ∷
    "x 007 *)" ⟶ stop 4 2 ∷ []

pub pol-words : map computed words ≡ map said words
unfolding computing ids
pol-words = refl

-- the ids that a line pushes, each as often as it does
abbrev pushed_by : Reads (List PolWord) → List (List ℕ)
pushed_by (got ws t n) = pushed_ids ws
pushed_by (off e p) = []

pub pushed : pushed_by (words_at enough (is_above ids) (bytes "x a ~b + b + a + 2 d)") 0 0) ≡ bytes "a" ∷ bytes "b" ∷ bytes "a" ∷ []
unfolding computing ids
pushed = refl

-- ---- elsewhere `~x` is 5, where it stands
abbrev tildes : List Example
tildes =
    ("~x" ∷ []) ⟼ ("refused=5 byte=0" ∷ []) ∷
    ("(~x)" ∷ []) ⟼ ("refused=5 byte=1" ∷ []) ∷
    ("(assume ~a (>= 1 0))" ∷ []) ⟼ ("refused=5 byte=8" ∷ []) ∷
    ("(assume a ~x)" ∷ []) ⟼ ("refused=5 byte=10" ∷ []) ∷
    ("(assume a (~x 1))" ∷ []) ⟼ ("refused=5 byte=11" ∷ []) ∷
    ("(assume a (>= ~x 0))" ∷ []) ⟼ ("refused=5 byte=14" ∷ []) ∷
    ("(assume a (>= ~cl 0))" ∷ []) ⟼ ("refused=5 byte=14" ∷ []) ∷
    ("(assume a (>= 1 0) ~x)" ∷ []) ⟼ ("refused=5 byte=19" ∷ []) ∷
    ("(step t ~x)" ∷ []) ⟼ ("refused=5 byte=8" ∷ []) ∷
    ("(step t (~cl) :rule cp_part)" ∷ []) ⟼ ("refused=5 byte=9" ∷ []) ∷
    ("(step t (cl) ~x cp_part)" ∷ []) ⟼ ("refused=5 byte=13" ∷ []) ∷
    ("(step t (cl) :rule ~cp_part)" ∷ []) ⟼ ("refused=5 byte=19" ∷ []) ∷
    ("(step t (cl) :rule cp_part ~x)" ∷ []) ⟼ ("refused=5 byte=27" ∷ []) ∷
    ("(step t (cl) :rule cp_part :premises (~t))" ∷ []) ⟼ ("refused=5 byte=38" ∷ []) ∷
    ("(step t (cl) :rule cp_part :args (~x))" ∷ []) ⟼ ("refused=5 byte=34" ∷ []) ∷ []

pub reported_tildes : map reported tildes ≡ map stated tildes
unfolding computing
reported_tildes = refl
