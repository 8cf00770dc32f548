-- What is given of a step in the reader's tables, and what it is answered (01, section 5).
use Rattle.std.specs.Prelude.{Bool, Result, List, ℕ, ◌-◌, ◌≤◌, ◌<◌, length}
use Rattle.calculus.specs.Marks.{apply_rule}
use Rattle.calculus.specs.Limits.{max_commands}
use Rattle.heads.specs.Heads.{rule_named}
use Rattle.nodes.specs.Nodes.{Table, Firsts}
use Rattle.matching.specs.declared.Refusal.{Refusal}
use Rattle.reader.specs.Commands.{all_words, word_at, kind_word, clause_word, premises_word, arguments_word, part_at, CommandIn}
use Rattle.links.specs.Steps.{RuleIs}

-- ---- the rules' numbers, as the reader gives them
abbrev pub addition_number : ℕ
addition_number = 0

abbrev pub multiplication_number : ℕ
multiplication_number = 1

abbrev pub division_number : ℕ
division_number = 2

abbrev pub saturation_number : ℕ
saturation_number = 3

abbrev pub literal_number : ℕ
literal_number = 4

abbrev pub normalize_number : ℕ
normalize_number = 5

abbrev pub transfer_number : ℕ
transfer_number = 6

-- the last: every number from here on is the last rule's
abbrev pub part_number : ℕ
part_number = 7

-- what the reader publishes of command k, a step
pub record Given (t w : List ℕ) (k : ℕ) : Type 0 where
  pub n : ℕ
  pub c : ℕ
  pub table : Table t n c
  pub firsts : Firsts t n
  pub room : all_words ≤ length w
  pub few : k < max_commands
  pub each : (j : ℕ) → j ≤ k → CommandIn t w j n c
  pub step : 1 ≤ word_at w k kind_word

-- the answer of a step by the rule of this number, over every text in which the names may lie
abbrev pub NumberIs : ℕ → List ℕ → List ℕ → List ℕ → List ℕ → List ℕ → Result Bool Refusal → Type 0
NumberIs number t w ps xs cs r = RuleIs (apply_rule (rule_named number)) t w ps xs cs r

-- the answer of command k, a step: its rule over the premises' clauses, the arguments and the conclusion
abbrev pub StepIs : List ℕ → List ℕ → ℕ → Result Bool Refusal → Type 0
StepIs t w k r = NumberIs (word_at w k kind_word - 1) t w (part_at t w k premises_word) (part_at t w k arguments_word) (part_at t w k clause_word) r
