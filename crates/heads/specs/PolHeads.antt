-- What the code answers of the words of pol lines, in the definitions' words (02, No. 2).
use Rattle.std.specs.Prelude.{◌≡◌, Result, Ok, Err, Bool, true, cond, List, ℕ, ◌+◌, ◌≤◌, ◌<◌, length}
use Rattle.std.proofs.Math.Seq.{slice}
use Rattle.integer.specs.Integers.{signed}
use Rattle.calculus.specs.Grammar.{Reads, got, off}
use Rattle.calculus.specs.PolGrammar.{on_factor, named_word, word_at}
use Rattle.calculus.specs.Terms.{PolWord, line_word, plain_word, negated_word, plus-word, saturate-word, times-word, over_word}
use Rattle.calculus.specs.Tokens.{token_at}
use Rattle.calculus.specs.Words.{max_numeral, max_name}
use Rattle.heads.specs.declared.PolHead.{PolHead}
use Rattle.heads.specs.declared.PolHead.TheVariants.{Plain, Negated, Add, Saturate, Times, Over}
use Rattle.lexer.specs.Tokens.{reason_number}
use Rattle.lexer.specs.declared.Fault.{Fault}

-- the word of the text s that the code's answer stands for, where `above` tells the ids that are defined above; n nodes before it
unfoldable pub pol_word_of : (List ℕ → Bool) → List ℕ → ℕ → PolHead → Reads PolWord
pol_word_of above s n (Plain p t) = cond (above (slice p t s)) (got (line_word (slice p t s)) t n) (got (plain_word (slice p t s)) t n)
pol_word_of above s n (Negated p t) = got (negated_word (slice p t s)) t n
pol_word_of above s n (Add t) = got plus-word t n
pol_word_of above s n (Saturate t) = got saturate-word t n
pol_word_of above s n (Times m v t) = got (times-word (signed m v)) t n
pol_word_of above s n (Over m v t) = got (over_word (signed m v)) t n

-- the same, by the code's answer
abbrev pub pol_read : (List ℕ → Bool) → List ℕ → ℕ → Result PolHead Fault → Reads PolWord
pol_read above s n (Ok head) = pol_word_of above s n head
pol_read above s n (Err fault) = off (reason_number fault.0) fault.1

-- it is the grammar's word, whatever ids are above
abbrev pub PolWordIs : List ℕ → ℕ → Result PolHead Fault → Type 0
PolWordIs s at r = (above : List ℕ → Bool) (n : ℕ) → pol_read above s n r ≡ word_at above s at n

-- its parts lie in s behind byte `at`, its numbers within their ranges
abbrev pub PolHeadIn : List ℕ → ℕ → Result PolHead Fault → Type 0
PolHeadIn s at (Ok (Plain p t)) = (at ≤ p) × (p < t) × (t ≤ length s) × (t ≤ p + max_name)
PolHeadIn s at (Ok (Negated p t)) = (at < p) × (p < t) × (t ≤ length s) × (t ≤ p + max_name)
PolHeadIn s at (Ok (Add t)) = (at < t) × (t ≤ length s)
PolHeadIn s at (Ok (Saturate t)) = (at < t) × (t ≤ length s)
PolHeadIn s at (Ok (Times m v t)) = (v ≤ max_numeral) × (m ≡ true → 1 ≤ v) × (at < t) × (t ≤ length s)
PolHeadIn s at (Ok (Over m v t)) = (v ≤ max_numeral) × (m ≡ true → 1 ≤ v) × (at < t) × (t ≤ length s)
PolHeadIn s at (Err fault) = Unit

-- ---- the parts of it
-- the word that the name from p to t is
abbrev pub NamedIs : List ℕ → ℕ → ℕ → Result PolHead Fault → Type 0
NamedIs s p t r = (above : List ℕ → Bool) (n : ℕ) → pol_read above s n r ≡ named_word above n (slice p t s) p t

abbrev pub NamedIn : ℕ → ℕ → Result PolHead Fault → Type 0
NamedIn p t (Ok (Plain a b)) = (a ≡ p) × (b ≡ t)
NamedIn p t (Ok (Negated a b)) = ⊥
NamedIn p t (Ok (Add b)) = ⊥
NamedIn p t (Ok (Saturate b)) = b ≡ t
NamedIn p t (Ok (Times m v b)) = ⊥
NamedIn p t (Ok (Over m v b)) = ⊥
NamedIn p t (Err fault) = Unit

-- the word that a numeral is with what stands behind it
abbrev pub FactorIs : List ℕ → ℕ → Bool → ℕ → Result PolHead Fault → Type 0
FactorIs s at m v r = (above : List ℕ → Bool) (n : ℕ) → pol_read above s n r ≡ on_factor (signed m v) n (token_at s at)

abbrev pub FactorIn : List ℕ → ℕ → Bool → ℕ → Result PolHead Fault → Type 0
FactorIn s at m v (Ok (Plain a b)) = ⊥
FactorIn s at m v (Ok (Negated a b)) = ⊥
FactorIn s at m v (Ok (Add b)) = ⊥
FactorIn s at m v (Ok (Saturate b)) = ⊥
FactorIn s at m v (Ok (Times k w b)) = (k ≡ m) × (w ≡ v) × (at < b) × (b ≤ length s)
FactorIn s at m v (Ok (Over k w b)) = (k ≡ m) × (w ≡ v) × (at < b) × (b ≤ length s)
FactorIn s at m v (Err fault) = Unit
