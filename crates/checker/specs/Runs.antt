-- A file in the reader's tables: its lines as the definitions give them, and how their numbers and marks stand in slices (01, sections 5 and 6).
use Rattle.std.specs.Prelude.{◌≡◌, Bool, true, false, ◌&&◌, Result, List, [], ◌∷◌, map, ℕ, ◌≤◌, ◌<◌, length, get_or}
use Rattle.calculus.specs.Grammar.{got}
use Rattle.calculus.specs.Greatest.{unreachable}
use Rattle.calculus.specs.Limits.{pol_lines, max_pols}
use Rattle.calculus.specs.Marks.{Line, line_of, number_of, plain_of, line_at, all_hold, refuted_by, run}
use Rattle.calculus.specs.Pol.{pol_result, given_clause, given_answer, pushed_ids}
use Rattle.calculus.specs.Terms.{Term, PolWord}
use Rattle.heads.specs.PolHeads.{pol_word_of}
use Rattle.heads.specs.declared.PolHead.{PolHead}
use Rattle.lines.specs.Running.{ClausesAre}
use Rattle.nodes.specs.Nodes.{decode, Table, Firsts, Named}
use Rattle.matching.specs.Matched.{answer_of}
use Rattle.matching.specs.declared.Refusal.{Refusal}
use Rattle.reader.specs.Commands.{id_index, word_at, kind_word, clause_word, part_at, pol_kind, above_in, pol_words_of, command_of, commands_of, Commands}
use Rattle.terms.specs.Index.{Indexed}
use Rattle.terms.specs.Spans.{max_joined, string_at}

-- what the reader publishes of n commands of the text s in the tables t and w, p pol lines among them, with m nodes and c child words in use
pub record Taken (s t w : List ℕ) (n m c p : ℕ) : Type 0 where
  pub text : length s ≤ max_joined
  pub table : Table t m c
  pub firsts : Firsts t m
  pub named : Named s t m
  pub commands : Commands s t w n m c
  pub indexed : Indexed s w id_index n
  pub pols : p ≡ pol_lines (commands_of s t w n)
  pub few : p ≤ max_pols

-- the same with some number of pol lines
abbrev pub TakenSome : List ℕ → List ℕ → List ℕ → ℕ → ℕ → ℕ → Type 0
TakenSome s t w n m c = (p : ℕ) × Taken s t w n m c p

-- the same where the clauses of pol lines stand in the tables as those of all commands
pub record File (s t w : List ℕ) (n : ℕ) : Type 0 where
  pub nodes : ℕ
  pub children : ℕ
  pub table : Table t nodes children
  pub firsts : Firsts t nodes
  pub named : Named s t nodes
  pub commands : Commands s t w n nodes children
  pub indexed : Indexed s w id_index n
  pub clauses : (j : ℕ) → j < n → word_at w j kind_word ≡ pol_kind → (at : List ℕ → List Term) → ClausesAre at s t w j → map (decode s t) (part_at t w j clause_word) ≡ given_clause (pol_result at (pol_words_of s w j))

-- the same of some text
abbrev pub Filed : List ℕ → List ℕ → ℕ → Type 0
Filed t w n = (s : List ℕ) × File s t w n

-- the lines of the first k commands
unfoldable pub command_lines : List ℕ → List ℕ → List ℕ → ℕ → List Line
command_lines s t w k = run [] (commands_of s t w k)

-- the line of command k
unfoldable pub command_line : List ℕ → List ℕ → List ℕ → ℕ → Line
command_line s t w k = line_of (command_lines s t w k) (command_of s t w k)

-- ---- pol lines
-- none of the first n commands is one
abbrev pub NoPols : List ℕ → ℕ → Type 0
NoPols w n = (j : ℕ) → j < n → word_at w j kind_word ≡ pol_kind → ⊥

-- the number of pol line j
abbrev pub NumberedBy : List ℕ → List ℕ → List ℕ → ℕ → ℕ → Type 0
NumberedBy s t w j number = word_at w j kind_word ≡ pol_kind → (at : List ℕ → List Term) → ClausesAre at s t w j → number ≡ number_of (given_answer (pol_result at (pol_words_of s w j)))

-- the numbers of those among the first n commands
abbrev pub Counted : List ℕ → List ℕ → List ℕ → ℕ → List ℕ → Type 0
Counted s t w n numbers = (j : ℕ) → j < n → NumberedBy s t w j (get_or numbers j 0)

-- the lines of the first k commands hold as the marks say
abbrev pub HoldBy : List Line → List ℕ → List ℕ → ℕ → List Bool → Type 0
HoldBy ls s w k marks = (j : ℕ) → j < k → (line_at ls (string_at s w j)).holds ≡ get_or marks j false

-- whether what a word of pol line k pushes holds, where it is an id
abbrev pub PushIs : List ℕ → List ℕ → ℕ → PolHead → List Bool → Bool → Type 0
PushIs s w k head marks r = (ls : List Line) → HoldBy ls s w k marks → (x : PolWord) (to n : ℕ) → pol_word_of (above_in s w k) s n head ≡ got x to n → r ≡ all_hold ls (pushed_ids (x ∷ []))

-- whether all that it pushes does
abbrev pub PushesAre : List ℕ → List ℕ → ℕ → List Bool → Bool → Type 0
PushesAre s w k marks r = (ls : List Line) → HoldBy ls s w k marks → r ≡ all_hold ls (pushed_ids (pol_words_of s w k))

-- ---- how lines stand in slices
-- of the first k commands: the answers' numbers
abbrev pub Numbered : List ℕ → List ℕ → List ℕ → ℕ → List ℕ → Type 0
Numbered s t w k numbers = (j : ℕ) → j < k → get_or numbers j 0 ≡ number_of (command_line s t w j).answer

-- whether they are plain
abbrev pub Plained : List ℕ → List ℕ → List ℕ → ℕ → List Bool → Type 0
Plained s t w k plains = (j : ℕ) → j < k → get_or plains j false ≡ plain_of (command_line s t w j).answer

-- both, of all n commands
abbrev pub AnsweredBy : List ℕ → List ℕ → List ℕ → ℕ → List ℕ → List Bool → Type 0
AnsweredBy s t w n numbers plains = Numbered s t w n numbers × Plained s t w n plains

-- whether the commands hold
abbrev pub Marked : List ℕ → List ℕ → List ℕ → ℕ → List Bool → Type 0
Marked s t w k marks = (j : ℕ) → j < k → get_or marks j false ≡ (command_line s t w j).holds

-- each of the commands ps is marked
unfoldable pub all_marked : List Bool → List ℕ → Bool
all_marked marks [] = true
all_marked marks (p ∷ ps) = get_or marks p false && all_marked marks ps

-- ---- what the functions answer, over every text of which the tables are a file
-- the answer of command k, if it is no pol line
abbrev pub AnswerIs : List ℕ → List ℕ → ℕ → ℕ → Result Bool Refusal → Type 0
AnswerIs t w n k r = (s : List ℕ) → File s t w n → (word_at w k kind_word ≡ pol_kind → ⊥) → answer_of r ≡ (command_line s t w k).answer

-- the answers of the first k commands, where the first slice has the numbers of pol lines
abbrev pub AnswersAre : List ℕ → List ℕ → ℕ → ℕ → List ℕ → List ℕ → List Bool → Type 0
AnswersAre t w n k before numbers plains = (s : List ℕ) → File s t w n → Counted s t w n before → Numbered s t w k numbers × Plained s t w k plains

-- whether command k refutes
abbrev pub RefutesIs : List ℕ → List ℕ → ℕ → List Bool → ℕ → Bool → Type 0
RefutesIs t w n marks k r = (s : List ℕ) → File s t w n → Marked s t w n marks → r ≡ ((command_line s t w k).holds && unreachable (command_line s t w k).clause)

-- whether one of the first k commands does
abbrev pub RefutedIs : List ℕ → List ℕ → ℕ → List Bool → ℕ → Bool → Type 0
RefutedIs t w n marks k r = (s : List ℕ) → File s t w n → Marked s t w n marks → r ≡ refuted_by (command_lines s t w k)

-- ---- what they answer of one text
-- whether command k holds, by whether its answer is plain and the marks above it
abbrev pub HoldsIs : List ℕ → List ℕ → List ℕ → ℕ → Bool → List Bool → Bool → Type 0
HoldsIs s t w k plain marks r = plain ≡ plain_of (command_line s t w k).answer → Marked s t w k marks → r ≡ (command_line s t w k).holds

-- the marks of the first k of n commands
abbrev pub MarksAre : List ℕ → List ℕ → List ℕ → ℕ → ℕ → List Bool → List Bool → Type 0
MarksAre s t w n k plains marks = Plained s t w n plains → Marked s t w k marks

-- ---- what they need
-- each of the commands ps has a mark
abbrev pub Cited : List Bool → List ℕ → Type 0
Cited marks ps = (i : ℕ) → i < length ps → get_or ps i 0 < length marks
