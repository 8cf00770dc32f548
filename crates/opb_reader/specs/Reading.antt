-- What the readers of an OPB text, and of a proof text behind it, promise (02, No. 1).
use Rattle.std.specs.Prelude.{◌≡◌, Result, Ok, Err, Bool, List, ◌++◌, ℕ, ◌+◌, ◌*◌, ◌≤◌, length}
use Rattle.calculus.specs.Commands.{whole, refused}
use Rattle.calculus.specs.OpbReading.{constraints, refused_at, read_opb}
use Rattle.calculus.specs.OpbReport.{read_both}
use Rattle.calculus.specs.OpbWriting.{Constraint, assumptions}
use Rattle.calculus.specs.Report.{min_table}
use Rattle.calculus.specs.Limits.{max_text, max_nodes, max_commands, pol_lines}
use Rattle.nodes.specs.Nodes.{Table, Firsts, Named}
use Rattle.terms.specs.Index.{hashes, Indexed}
use Rattle.terms.specs.Spans.{max_joined}
use Rattle.reader.specs.Commands.{id_index, all_words, commands_of, Commands}
use Rattle.lexer.specs.Tokens.{reason_number}
use Rattle.lexer.specs.declared.Fault.{Fault}
use Rattle.reader.specs.Reading.{Whole, All, Refused, Small}
use Rattle.opb.specs.Counts.{negations, inequality_nodes}
use Rattle.opb.specs.Summands.{summands_of, SummandsIn}
use Rattle.opb_terms.specs.Making.{Numeral}
use Rattle.opb_reader.specs.Ids.{joined}
use Rattle.opb_reader.specs.Standing.{IdsAt, Standing}

-- ---- what they ask
-- the ids begin at byte b of the string j; there is room for `more` assumptions of q summands and a constant
pub record Assuming (j a t w v y : List ℕ) (b q : ℕ) (negative : Bool) (magnitude k n more : ℕ) : Type 0 where
  pub long : length j ≤ max_joined
  pub ids : IdsAt j b
  pub standing : Standing j t w v y k n
  pub summands : SummandsIn j a q
  pub constant : Numeral negative magnitude
  pub few : k + more ≤ max_commands
  pub room : n + more * inequality_nodes q (negations (summands_of j a q)) ≤ max_nodes

-- the OPB text o stands at the front of the string j, and the ids behind it; the tables are as large as they have to be
pub record OpbReady (o j t w v y : List ℕ) : Type 0 where
  pub short : length o ≤ max_text
  pub rest : List ℕ
  pub front : j ≡ o ++ rest
  pub ids : IdsAt j (length o)
  pub long : length j ≤ max_joined
  pub room : length t ≡ min_table
  pub words : all_words ≤ length w
  pub stack : max_nodes ≤ length v
  pub tags : hashes + max_nodes ≤ length y

-- both texts stand in the string j; the tables are as large as they have to be
pub record BothReady (o s j t w : List ℕ) : Type 0 where
  pub short : length o ≤ max_text
  pub joined : j ≡ joined o s
  pub room : length t ≡ min_table
  pub words : all_words ≤ length w

-- ---- what they answer
-- the OPB text o is read: k assumptions of n nodes stand in the tables u and x; or it is refused
pub record IsModel (o j u x v y : List ℕ) (k n : ℕ) : Type 0 where
  pub ks : List Constraint
  pub read : read_opb o ≡ constraints ks
  pub standing : Standing j u x v y k n
  pub are : commands_of j u x k ≡ assumptions ks

abbrev pub OpbIs : (o j u x v y : List ℕ) → Result (ℕ × ℕ) Fault → Type 0
OpbIs o j u x v y (Ok (k, n)) = IsModel o j u x v y k n
OpbIs o j u x v y (Err e) = read_opb o ≡ refused_at (reason_number e.0) e.1

-- both texts are read: all commands, p pol lines among them, are in the tables u and x, over the string j; or one is refused, by a byte of its own
abbrev pub BothIs : (o s j u x : List ℕ) → Whole → Type 0
BothIs o s j u x (All k n c p) = (read_both o s ≡ whole (commands_of j u x k)) × Table u n c × Firsts u n × Named j u n × Commands j u x k n c × (p ≡ pol_lines (commands_of j u x k)) × Indexed j x id_index k
BothIs o s j u x (Refused e b) = read_both o s ≡ refused e b
BothIs o s j u x Small = ⊥
