-- What a call of the exported reader answers: 0 and three counts, the number of a refusal and its byte, or 1.
use Rattle.std.specs.Prelude.{◌≡◌, List, ℕ, zero, suc, ◌≤◌, length, get_or, take}
use Rattle.calculus.specs.Commands.{read_file, refused}
use Rattle.calculus.specs.Report.{min_table}
use Rattle.reader.specs.Commands.{all_words}
use Rattle.reader.specs.Reading.{All, ReadsFile}

-- the words of an answer
abbrev pub answer_words : ℕ
answer_words = 3

-- the node table t, the commands' words w and the answer a are large enough
pub record Lent (t w a : List ℕ) : Type 0 where
  pub nodes : min_table ≤ length t
  pub commands : all_words ≤ length w
  pub answer : answer_words ≤ length a

-- the number for the text s, where t became u, w became x and a became b. 0: s is read into the first words of u, and b begins with the commands,
-- the nodes and the child words in use, p of the commands pol lines; 1: something lent is too small, and all is as it was; else: s is refused by it, and b begins with the byte
unfoldable pub Answers : (s t u w x a b : List ℕ) → ℕ → Type 0
Answers s t u w x a b zero = Lent t w a × (p : ℕ) × ReadsFile s (take min_table t) (take min_table u) w x (All (get_or b 0 0) (get_or b 1 0) (get_or b 2 0) p)
Answers s t u w x a b (suc zero) = (Lent t w a → ⊥) × (u ≡ t) × (x ≡ w) × (b ≡ a)
Answers s t u w x a b (suc (suc n)) = Lent t w a × (read_file s ≡ refused (suc (suc n)) (get_or b 0 0))
