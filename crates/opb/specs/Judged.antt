-- What the judge of one constraint answers, in the definitions' words (02, No. 1).
use Rattle.std.specs.Prelude.{◌≡◌, Result, Ok, Err, Bool, true, cond, List, [], ◌∷◌, ◌++◌, ℕ, suc, ◌+◌, ◌*◌, ◌≤◌, ◌<◌, ltb, length, set}
use Rattle.std.proofs.Math.Seq.{slice}
use Rattle.integer.specs.Integers.{signed}
use Rattle.calculus.specs.Words.{max_numeral, max_name}
use Rattle.calculus.specs.Commands.{enough}
use Rattle.calculus.specs.OpbWords.{Literal, Relation, inside_at}
use Rattle.calculus.specs.OpbWriting.{Summand, times, compare}
use Rattle.calculus.specs.OpbReading.{OneRead, found, fault, on_literal, on_semicolon, constant_at, constraint_from}
use Rattle.opb.specs.Counts.{negations}
use Rattle.opb.specs.Summands.{max_summands, literal_over, summands_of, SummandsIn}
use Rattle.opb.specs.Tokens.{relation_of}
use Rattle.lexer.specs.Tokens.{reason_number}
use Rattle.lexer.specs.declared.Fault.{Fault}
use Rattle.opb.specs.declared.Item.{Item}
use Rattle.opb.specs.declared.Item.TheVariants.{Summand as SummandItem, Compared}
use Rattle.opb.specs.declared.Judged.{Judged}

-- ---- parts of a constraint, from byte `at` of the text s on
-- a literal, with where its name begins and ends, or a refusal
abbrev pub LiteralIs : List ℕ → ℕ → Result (Bool × ℕ × ℕ) Fault → Type 0
LiteralIs s at (Ok (d, n, t)) =
    ((k : Literal → ℕ → OneRead) → on_literal k (inside_at s at) ≡ k (literal_over d (slice n t s)) t) × (t ≤ n + max_name) × (at < t) × (n < t) × (t ≤ length s)
LiteralIs s at (Err e) = (k : Literal → ℕ → OneRead) → on_literal k (inside_at s at) ≡ fault (reason_number e.0) e.1

-- a summand, the relation, or a refusal
abbrev pub ItemIs : List ℕ → ℕ → Result Item Fault → Type 0
ItemIs s at (Ok (SummandItem m v d n t)) =
    ((f : ℕ) (xs : List Summand) → constraint_from (suc f) s xs (inside_at s at) ≡ constraint_from f s (xs ++ (times (signed m v) (literal_over d (slice n t s)) ∷ [])) (inside_at s t))
    × (v ≤ max_numeral) × (m ≡ true → 1 ≤ v) × (t ≤ n + max_name) × (at < t) × (n < t) × (t ≤ length s)
ItemIs s at (Ok (Compared e t)) =
    ((f : ℕ) (xs : List Summand) → constraint_from (suc f) s xs (inside_at s at) ≡ constant_at s xs (relation_of e) t) × (at < t) × (t ≤ length s)
ItemIs s at (Err e) = (f : ℕ) (xs : List Summand) → constraint_from (suc f) s xs (inside_at s at) ≡ fault (reason_number e.0) e.1

-- `;`, with where the text goes on, or a refusal
abbrev pub ClosedIs : List ℕ → ℕ → Result ℕ Fault → Type 0
ClosedIs s at (Ok t) = ((k : ℕ → OneRead) → on_semicolon k (inside_at s at) ≡ k t) × (at < t) × (t ≤ length s)
ClosedIs s at (Err e) = (k : ℕ → OneRead) → on_semicolon k (inside_at s at) ≡ fault (reason_number e.0) e.1

-- a constant and `;`, or a refusal
abbrev pub ConstantIs : List ℕ → ℕ → Result (Bool × ℕ × ℕ) Fault → Type 0
ConstantIs s at (Ok (m, v, t)) =
    ((xs : List Summand) (r : Relation) → constant_at s xs r at ≡ found (compare xs r (signed m v)) t) × (v ≤ max_numeral) × (m ≡ true → 1 ≤ v) × (at < t) × (t ≤ length s)
ConstantIs s at (Err e) = (xs : List Summand) (r : Relation) → constant_at s xs r at ≡ fault (reason_number e.0) e.1

-- ---- a whole constraint
-- the constraint whose first token stands at byte `at` of the text s, or behind blanks from there on
unfoldable pub judged_at : List ℕ → ℕ → OneRead
judged_at s at = constraint_from enough s [] (inside_at s at)

-- it is whole: q summands, g of them with a `~`, a relation, `=` or not, and a constant; and the words a hold the summands, where they are not too many
pub record IsWhole (s : List ℕ) (at : ℕ) (a : List ℕ) (t : ℕ) (e m : Bool) (v q g : ℕ) : Type 0 where
  pub xs : List Summand
  pub parsed : judged_at s at ≡ found (compare xs (relation_of e) (signed m v)) t
  pub count : length xs ≡ q
  pub negated : negations xs ≡ g
  pub stored : q ≤ max_summands → (summands_of s a q ≡ xs) × SummandsIn s a q
  pub later : at < t
  pub inside : t ≤ length s
  pub size : v ≤ max_numeral
  pub minus : m ≡ true → 1 ≤ v
  pub counted : q ≤ length s
  pub fewer : g ≤ q

-- the judge's answer; the summands stand in the words a
abbrev pub JudgedIs : List ℕ → ℕ → List ℕ → Result Judged Fault → Type 0
JudgedIs s at a (Ok j) = IsWhole s at a j.end j.equal j.negative j.magnitude j.count j.negated
JudgedIs s at a (Err e) = judged_at s at ≡ fault (reason_number e.0) e.1

-- ---- how the summands are written
-- 1 for yes
unfoldable pub bit_of : Bool → ℕ
bit_of b = cond b 1 0

-- five words from i on
unfoldable pub five_words : List ℕ → ℕ → ℕ → ℕ → ℕ → ℕ → ℕ → List ℕ
five_words a i m v d n t = set (set (set (set (set a i m) (i + 1) v) (i + 2) d) (i + 3) n) (i + 4) t

-- those of summand q, while there is room
unfoldable pub put_summand : List ℕ → ℕ → Bool → ℕ → Bool → ℕ → ℕ → List ℕ
put_summand a q m v d n t = cond (ltb q max_summands) (five_words a (5 * q) (bit_of m) v (bit_of d) n t) a
