-- `reader::read_step` owes a step: a new id, a clause, and what stands behind it. Assumes nothing.
use Rattle.terms.specs.Reading.{read_of, items_of}
use Rattle.heads.proofs.Refusals.{passed_on}
use mathlib.Core.Path.{ap}
use native.Mathlib.Omega.{arith}
use Rattle.reader.proofs.Composing.{step-named-refused, named-ready, clause-off, clause-is, clause-ready, headed, step-done}
use Rattle.reader.proofs.read_step.Goals as goal

pub read_clause-requires : goal.read_clause-requires
read_clause-requires c = named-ready c.requires.0 c.requires.1 c.requires.2 c.new_id.result c.new_id.ensures _ _ c.in_ok-from.was

pub overflow_add-clause : goal.overflow_add-clause
overflow_add-clause c = let S = clause-is c.requires.0 c.requires.1 c.requires.2 c.new_id.result c.new_id.ensures _ _ c.in_ok-from.was c.read_clause.new.nodes c.read_clause.new.names (items_of c.read_clause.result) c.read_clause.ensures _ _ _ _ (ap items_of c.in_ok-clause.was) in omega (arith, S.grown.table.used, S.grown.table.few)

pub read_ending-requires : goal.read_ending-requires
read_ending-requires c = (clause-ready c.requires.0 c.requires.1 c.requires.2 c.new_id.result c.new_id.ensures _ _ c.in_ok-from.was c.read_clause.new.nodes c.read_clause.new.names (items_of c.read_clause.result) c.read_clause.ensures _ _ _ _ (ap items_of c.in_ok-clause.was) c.read_clause.auto.pending, c.requires.1, c.requires.2, headed c.requires.0 c.requires.1 c.requires.2 c.new_id.result c.new_id.ensures _ _ c.in_ok-from.was c.read_clause.new.nodes c.read_clause.new.names (items_of c.read_clause.result) c.read_clause.ensures _ _ _ _ (ap items_of c.in_ok-clause.was))

pub returns-in_err-from : goal.returns-in_err-from
returns-in_err-from c = rw (passed_on c.from_residual.result c.from_residual.ensures.1) (step-named-refused c.requires.0 c.requires.1 c.requires.2 c.new_id.result c.new_id.ensures _ c.in_err-from.was)

pub returns-in_err-clause : goal.returns-in_err-clause
returns-in_err-clause c = rw (passed_on c.from_residual-in_err-clause.result c.from_residual-in_err-clause.ensures.1) (clause-off c.requires.0 c.requires.1 c.requires.2 c.new_id.result c.new_id.ensures _ _ c.in_ok-from.was c.read_clause.new.nodes c.read_clause.new.names (items_of c.read_clause.result) c.read_clause.ensures _ _ (ap items_of c.in_err-clause.was))

pub returns : goal.returns
returns c = step-done c.requires.0 c.requires.1 c.requires.2 c.new_id.result c.new_id.ensures _ _ c.in_ok-from.was c.read_clause.new.nodes c.read_clause.new.names (items_of c.read_clause.result) c.read_clause.ensures _ _ _ _ (ap items_of c.in_ok-clause.was) c.read_ending.new.nodes c.read_ending.new.commands c.read_ending.new.names (read_of c.read_ending.result) c.read_ending.ensures
