-- The summands of one constraint, as they are stored while it is judged. Summand i is the words 5 i to 5 i + 4: whether its coefficient is
-- below 0, the coefficient's magnitude, whether its literal is negated, and the first byte of the variable's name and the byte behind its last.
use Rattle.std.specs.Prelude.{◌≡◌, Bool, cond, List, [], ◌∷◌, ◌++◌, ℕ, zero, suc, ◌+◌, ◌*◌, ◌≤◌, ◌<◌, eqb, length, get_or}
use Rattle.std.proofs.Math.Seq.{slice}
use Rattle.integer.specs.Integers.{signed}
use Rattle.calculus.specs.OpbWords.{Literal, plain, negated}
use Rattle.calculus.specs.OpbWriting.{Summand, times}
use Rattle.calculus.specs.Words.{max_numeral, max_name}

-- the most summands that are stored: one more would take more nodes than there are
abbrev pub max_summands : ℕ
max_summands = 1364

-- their words
abbrev pub summand_words : ℕ
summand_words = 6820

-- word j of the five of summand i
abbrev pub summand_word : List ℕ → ℕ → ℕ → ℕ
summand_word a i j = get_or a (5 * i + j) 0

-- a variable's literal
unfoldable pub literal_over : Bool → List ℕ → Literal
literal_over d x = cond d (negated x) (plain x)

-- summand i of the text s, by the words a
unfoldable pub summand_at : List ℕ → List ℕ → ℕ → Summand
summand_at s a i = times (signed (eqb (summand_word a i 0) 1) (summand_word a i 1)) (literal_over (eqb (summand_word a i 2) 1) (slice (summand_word a i 3) (summand_word a i 4) s))

-- the first q of them
unfoldable pub summands_of : List ℕ → List ℕ → ℕ → List Summand
summands_of s a zero = []
summands_of s a (suc q) = summands_of s a q ++ (summand_at s a q ∷ [])

-- the coefficient of summand i is a numeral, never -0, and its variable's name lies in the text s
pub record SummandIn (s a : List ℕ) (i : ℕ) : Type 0 where
  pub size : summand_word a i 1 ≤ max_numeral
  pub minus : summand_word a i 0 ≡ 1 → 1 ≤ summand_word a i 1
  pub starts : summand_word a i 3 < summand_word a i 4
  pub ends : summand_word a i 4 ≤ length s
  pub short : summand_word a i 4 ≤ summand_word a i 3 + max_name

-- the first q of them, and room for all
pub record SummandsIn (s a : List ℕ) (q : ℕ) : Type 0 where
  pub room : summand_words ≤ length a
  pub few : q ≤ max_summands
  pub each : (i : ℕ) → i < q → SummandIn s a i
