-- What the code answers of the words of an OPB text, in the definitions' words (02, No. 1).
use Rattle.std.specs.Prelude.{◌≡◌, Result, Ok, Err, Bool, true, false, List, ℕ, ◌+◌, ◌≤◌, ◌<◌, length}
use Rattle.std.proofs.Math.Seq.{slice}
use Rattle.integer.specs.Integers.{signed}
use Rattle.calculus.specs.Words.{Res, max_numeral, max_name}
use Rattle.calculus.specs.OpbWords.{Relation, at_least, equal, OpbWord, number_word, literal-word, relation-word, semicolon, ended, word, wrong, opb_judged}
use Rattle.calculus.specs.OpbWords as words
use Rattle.lexer.specs.Tokens.{reason_number}
use Rattle.lexer.specs.declared.Fault.{Fault}
use Rattle.opb.specs.Summands.{literal_over}
use Rattle.opb.specs.declared.OpbToken.{OpbToken}
use Rattle.opb.specs.declared.Place.{Place}
use Rattle.opb.specs.declared.Place.TheVariants.{First, Later, Comment}
use Rattle.opb.specs.declared.OpbToken.TheVariants.{End, Number, Literal, Relation as RelationTok, Semicolon}

-- a relation by whether it is `=`
unfoldable pub relation_of : Bool → Relation
relation_of true = equal
relation_of false = at_least

-- the token that the code's token of the text s stands for
unfoldable pub opb_token_of : List ℕ → Result OpbToken Fault → words.OpbToken
opb_token_of s (Ok (End p)) = ended p
opb_token_of s (Ok (Number m v p t)) = word (number_word (signed m v)) p t
opb_token_of s (Ok (Literal d p n t)) = word (literal-word (literal_over d (slice n t s))) p t
opb_token_of s (Ok (RelationTok e p t)) = word (relation-word (relation_of e)) p t
opb_token_of s (Ok (Semicolon p)) = word semicolon p (p + 1)
opb_token_of s (Err fault) = wrong (reason_number fault.0) fault.1

-- its number is a numeral, never -0, its variable's name is no longer than a name may be, and it stands in s at or after byte `at`
abbrev pub OpbPlaced : List ℕ → ℕ → Result OpbToken Fault → Type 0
OpbPlaced s at (Ok (End p)) = p ≡ length s
OpbPlaced s at (Ok (Number m v p t)) = (v ≤ max_numeral) × (m ≡ true → 1 ≤ v) × (at ≤ p) × (p < t) × (t ≤ length s)
OpbPlaced s at (Ok (Literal d p n t)) = (t ≤ n + max_name) × (at ≤ p) × (p ≤ n) × (n < t) × (t ≤ length s)
OpbPlaced s at (Ok (RelationTok e p t)) = (at ≤ p) × (p < t) × (t ≤ length s)
OpbPlaced s at (Ok (Semicolon p)) = (at ≤ p) × (p < length s)
OpbPlaced s at (Err fault) = (at ≤ fault.1) × (fault.1 < length s)

-- the code's token is the word w, or its refusal, from byte `from` to byte `to` of the text s
abbrev pub Means : List ℕ → ℕ → ℕ → Res OpbWord → Result OpbToken Fault → Type 0
Means s from to w r = (opb_token_of s r ≡ opb_judged from to w) × OpbPlaced s from r

-- the place that the code's place stands for
abbrev pub place_of : Place → words.Place
place_of First = words.first
place_of Later = words.later
place_of Comment = words.comment
