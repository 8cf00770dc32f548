-- The lines of a run as the checker holds them: in the text, the commands' words, the answers and the marks (01, section 6).
use Rattle.std.specs.Prelude.{◌≡◌, Bool, false, cond, List, [], ◌∷◌, ◌++◌, ℕ, zero, suc, ◌+◌, ◌*◌, ◌≤◌, ◌<◌, eqb, length, get_or}
use Rattle.calculus.specs.Bytes.{bytes}
use Rattle.calculus.specs.Marks.{Line, number_of, plain_of, no_line}
use Rattle.calculus.specs.Report.{yes_no, line_text}
use Rattle.calculus.specs.Terms.{rule_text}
use Rattle.calculus.specs.Words.{max_name}
use Rattle.calculus.specs.Limits.{max_commands}
use Rattle.heads.specs.Heads.{rule_named}
use Rattle.reader.specs.Commands.{all_words, word_at, kind_word, pol_kind}
use Rattle.terms.specs.Spans.{string_at, Spans}

-- ---- what stands for a line
-- the name of an assumption, or of the rule of the number below
unfoldable pub step_name : ℕ → List ℕ
step_name zero = bytes "assume"
step_name (suc r) = rule_text (rule_named r)

-- the name of a command's kind: that of a pol line, or one of those
unfoldable pub name_of : ℕ → List ℕ
name_of kind = cond (eqb kind pol_kind) (bytes "pol") (step_name kind)

-- the line l is that of a command with this name for its id and this kind, with this answer and these marks
pub record LineHas (l : Line) (name : List ℕ) (kind answer : ℕ) (plainly held : Bool) : Type 0 where
  pub id : l.id ≡ name
  pub rule : l.rule ≡ name_of kind
  pub number : number_of l.answer ≡ answer
  pub plain : plain_of l.answer ≡ plainly
  pub holds : l.holds ≡ held

-- the lines ls are those of the first n commands
pub record LinesAre (s w numbers : List ℕ) (plains marks : List Bool) (n : ℕ) (ls : List Line) : Type 0 where
  pub count : length ls ≡ n
  pub each : (k : ℕ) → k < n
      → LineHas (get_or ls k no_line) (string_at s w k) (word_at w k kind_word) (get_or numbers k 0) (get_or plains k false) (get_or marks k false)

-- the answers of the lines ls are the first n numbers
pub record Counted (numbers : List ℕ) (n : ℕ) (ls : List Line) : Type 0 where
  pub count : length ls ≡ n
  pub each : (k : ℕ) → k < n → number_of (get_or ls k no_line).answer ≡ get_or numbers k 0

-- ---- what can be written
-- command k: its id is a name in the text, its kind is one of ten
pub record IdShown (s w : List ℕ) (k : ℕ) : Type 0 where
  pub room : all_words ≤ length w
  pub few : k < max_commands
  pub up : get_or w (2 * k + 1) 0 ≤ get_or w (2 * k) 0
  pub inside : get_or w (2 * k) 0 ≤ length s
  pub short : get_or w (2 * k) 0 ≤ get_or w (2 * k + 1) 0 + max_name
  pub kind : word_at w k kind_word ≤ pol_kind

-- each of the first n commands, with its answer and its marks
pub record Printable (s w numbers : List ℕ) (plains marks : List Bool) (n : ℕ) : Type 0 where
  pub room : all_words ≤ length w
  pub few : n ≤ max_commands
  pub ids : Spans s w n
  pub short : (j : ℕ) → j < n → get_or w (2 * j) 0 ≤ get_or w (2 * j + 1) 0 + max_name
  pub kinds : (j : ℕ) → j < n → word_at w j kind_word ≤ pol_kind
  pub numbered : n ≤ length numbers
  pub plained : n ≤ length plains
  pub marked : n ≤ length marks

-- ---- the parts of a report that one function writes
-- a line up to its rule
unfoldable pub start_text : List ℕ → List ℕ → List ℕ
start_text id rule = bytes "id=" ++ id ++ bytes " rule=" ++ rule

-- a line's marks and its line feed
unfoldable pub marks_text : Bool → Bool → List ℕ
marks_text plain holds = bytes " plain=" ++ yes_no plain ++ bytes " holds=" ++ yes_no holds ++ bytes "\n"

-- the lines before the totals
unfoldable pub lines_text : List Line → List ℕ
lines_text [] = []
lines_text (l ∷ ls) = line_text l ++ (10 ∷ lines_text ls)

-- ---- the most bytes of each part
-- yes
abbrev pub yes_room : ℕ
yes_room = 3

-- the longest name of a kind, cp_multiplication
abbrev pub rule_room : ℕ
rule_room = 17

-- a line up to its rule: an id of 32 bytes and the longest name
abbrev pub start_room : ℕ
start_room = 58

-- the two marks and the line feed
abbrev pub marks_room : ℕ
marks_room = 21

-- a line, with an answer of three digits
abbrev pub line_room : ℕ
line_room = 90

-- the totals, with two counts of three digits
abbrev pub totals_room : ℕ
totals_room = 37
