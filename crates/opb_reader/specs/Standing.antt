-- What stands in the tables while an OPB text is read: the assumptions that its constraints become, over the string that both texts are
-- read from (02, No. 1).
use Rattle.std.specs.Prelude.{◌≡◌, Bool, List, [], ◌∷◌, ◌++◌, ℕ, suc, ◌+◌, ◌*◌, ◌≤◌, ◌<◌, ℤ, length}
use Rattle.std.proofs.Math.Seq.{slice}
use Rattle.calculus.specs.OpbWriting.{compare, inequality, constraint_id, assumptions_of}
use Rattle.calculus.specs.Terms.{assume}
use Rattle.calculus.specs.Limits.{max_text, max_nodes, max_commands, all_nodes}
use Rattle.nodes.specs.Nodes.{capacity, Table}
use Rattle.terms.specs.Index.{Indexed}
use Rattle.terms.specs.Names.{Names}
use Rattle.terms.specs.Spans.{string_at}
use Rattle.reader.specs.Commands.{id_index, commands_of, Commands}
use Rattle.opb.specs.Counts.{resulting, negations, inequality_nodes}
use Rattle.opb.specs.Summands.{summands_of}
use Rattle.opb.specs.Tokens.{relation_of}
use Rattle.opb_terms.specs.Making.{turned_if, turned_number}
use Rattle.opb_reader.specs.Ids.{id_start}

-- the ids begin at byte m of the string j, and behind them stands no more than a proof text
pub record IdsAt (j : List ℕ) (m : ℕ) : Type 0 where
  pub each : (k : ℕ) → k < max_commands → slice (m + id_start k) (m + id_start (suc k)) j ≡ constraint_id (suc k)
  pub room : m + id_start max_commands ≤ length j
  pub near : length j ≤ m + id_start max_commands + max_text

-- k assumptions of n nodes, and as many child words, stand in the tables t and w over the string j; their ids are c1, c2, ..
pub record Standing (j t w v y : List ℕ) (k n : ℕ) : Type 0 where
  pub whole : capacity t ≤ max_nodes
  pub table : Table t n n
  pub names : Names j t y n
  pub stack : max_nodes ≤ length v
  pub commands : Commands j t w k n n
  pub indexed : Indexed j w id_index k
  pub named : (i : ℕ) → i < k → string_at j w i ≡ constraint_id (suc i)
  pub nodes : all_nodes (commands_of j t w k) ≡ n

-- ---- what the functions answer
-- one assumption more: that of the q summands and the constant z, all signs turned where asked
pub record AssumptionPut (j a t u w x v y : List ℕ) (d : Bool) (q : ℕ) (z : ℤ) (k n m : ℕ) : Type 0 where
  pub standing : Standing j u x v y (k + 1) m
  pub more : commands_of j u x (k + 1) ≡ commands_of j t w k ++ (assume (constraint_id (suc k)) (inequality (turned_if d (summands_of j a q)) (turned_number d z)) ∷ [])
  pub size : m ≡ n + inequality_nodes q (negations (summands_of j a q))

-- the assumptions of a constraint more: two of `=`, else one
pub record ConstraintPut (j a t u w x v y : List ℕ) (e : Bool) (q : ℕ) (z : ℤ) (k n m : ℕ) : Type 0 where
  pub standing : Standing j u x v y (k + resulting (relation_of e)) m
  pub more : commands_of j u x (k + resulting (relation_of e)) ≡ commands_of j t w k ++ assumptions_of k (compare (summands_of j a q) (relation_of e) z)
  pub size : m ≡ n + resulting (relation_of e) * inequality_nodes q (negations (summands_of j a q))
