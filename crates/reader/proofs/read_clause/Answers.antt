-- `reader::read_clause` owes the terms of a clause, none among them. Assumes nothing.
use mathlib.Core.Path.{sym, ap, ◌∙◌}
use Rattle.heads.specs.Heads.{step_of, past_of}
use Rattle.terms.specs.Reading.{items_of}
use Rattle.heads.proofs.Answers.{past-none, past-some, past_later}
use Rattle.heads.proofs.Refusals.{passed_on}
use Rattle.reader.proofs.Sections.{outside, clause-asks, clause-off, clause-empty, clause-items}
use Rattle.reader.proofs.read_clause.Goals as goal

pub closes-requires : goal.closes-requires
closes-requires c = clause-asks c.requires (step_of c.clause_head.result) c.clause_head.ensures.0 c.clause_head.ensures.1 _ (ap step_of c.in_ok-t.was)

pub returns-in-Some : goal.returns-in-Some
returns-in-Some c = let H = past_later c.args.text.now _ c.closes.result c.closes.ensures.1 c.in-Some.is in clause-empty c.requires (step_of c.clause_head.result) c.clause_head.ensures.0 c.clause_head.ensures.1 _ (ap step_of c.in_ok-t.was) _ (sym (past-some _ _ c.closes.result c.closes.ensures.1 c.in-Some.is) ∙ c.closes.ensures.0) H.0 H.1

pub read_items-requires : goal.read_items-requires
read_items-requires c = outside c.requires _ (clause-asks c.requires (step_of c.clause_head.result) c.clause_head.ensures.0 c.clause_head.ensures.1 _ (ap step_of c.in_ok-t.was))

pub returns-in_err-t : goal.returns-in_err-t
returns-in_err-t c = rw (passed_on c.from_residual.result c.from_residual.ensures.1) (clause-off c.requires (step_of c.clause_head.result) c.clause_head.ensures.0 c.clause_head.ensures.1 _ _ (ap step_of c.in_err-t.was))

pub shape_of-nodes : goal.shape_of-nodes
shape_of-nodes c = c.read_items.auto.nodes

pub shape_of-pending : goal.shape_of-pending
shape_of-pending c = c.read_items.auto.pending

pub shape_of-names : goal.shape_of-names
shape_of-names c = c.read_items.auto.names

pub returns-in-None : goal.returns-in-None
returns-in-None c = clause-items c.requires (step_of c.clause_head.result) c.clause_head.ensures.0 c.clause_head.ensures.1 _ (ap step_of c.in_ok-t.was) (past_of c.closes.result) c.closes.ensures.0 (past-none c.closes.result c.in-None.is) c.read_items.new.nodes c.read_items.new.pending c.read_items.new.names (items_of c.read_items.result) c.read_items.ensures
