-- `reader::read_one` owes a term, and its node as the next child word. Assumes nothing.
use Rattle.terms.specs.Reading.{read_of}
use Rattle.heads.proofs.Refusals.{passed_on}
use mathlib.Core.Path.{ap, ◌∙◌}
use native.Mathlib.Omega.{arith}
use lib.ListN.{length-set}
use Rattle.reader.proofs.Sections.{outside, one-refused, one-done, one-made}
use Rattle.reader.proofs.read_one.Goals as goal

pub read_term-requires : goal.read_term-requires
read_term-requires c = outside c.requires _ c.requires.place

pub overflow_sub-pending : goal.overflow_sub-pending
overflow_sub-pending c = let D = one-done c.requires c.read_term.new.nodes c.read_term.new.pending c.read_term.new.names (read_of c.read_term.result) c.read_term.ensures _ _ _ (ap read_of c.in_ok-term.was) in omega (arith, D.made)

pub overflow_cast-pending : goal.overflow_cast-pending
overflow_cast-pending c = let D = one-done c.requires c.read_term.new.nodes c.read_term.new.pending c.read_term.new.names (read_of c.read_term.result) c.read_term.ensures _ _ _ (ap read_of c.in_ok-term.was) in omega (arith, D.limit)

pub bounds-pending-0 : goal.bounds-pending-0
bounds-pending-0 c = omega (arith, c.requires.stack, c.read_term.auto.pending)

pub put_children-requires : goal.put_children-requires
put_children-requires c = let D = one-done c.requires c.read_term.new.nodes c.read_term.new.pending c.read_term.new.names (read_of c.read_term.result) c.read_term.ensures _ _ _ (ap read_of c.in_ok-term.was) in (omega arith, rw length-set (omega (arith, c.requires.stack, c.read_term.auto.pending)), omega (arith, D.count, D.limit, D.grown.table.room))

pub shape_of-nodes-in_err-term : goal.shape_of-nodes-in_err-term
shape_of-nodes-in_err-term c = c.read_term.auto.nodes

pub shape_of-pending-in_err-term : goal.shape_of-pending-in_err-term
shape_of-pending-in_err-term c = c.read_term.auto.pending

pub shape_of-names-in_err-term : goal.shape_of-names-in_err-term
shape_of-names-in_err-term c = c.read_term.auto.names

pub returns-in_err-term : goal.returns-in_err-term
returns-in_err-term c = rw (passed_on c.from_residual.result c.from_residual.ensures.1) (one-refused c.requires c.read_term.new.nodes c.read_term.new.pending c.read_term.new.names (read_of c.read_term.result) c.read_term.ensures _ _ (ap read_of c.in_err-term.was))

pub shape_of-nodes : goal.shape_of-nodes
shape_of-nodes c = c.put_children.auto.nodes ∙ c.read_term.auto.nodes

pub shape_of-names : goal.shape_of-names
shape_of-names c = c.read_term.auto.names

pub returns : goal.returns
returns c = one-made c.requires c.read_term.new.nodes c.read_term.new.pending c.read_term.new.names (read_of c.read_term.result) c.read_term.ensures _ _ _ _ (ap read_of c.in_ok-term.was) c.read_term.auto.pending c.put_children.ensures
