-- `reader::read_assumption` owes an assumption: a new id, one term, the closing bracket. Assumes nothing.
use Rattle.calculus.specs.Grammar.{mark_number}
use Rattle.heads.specs.Heads.{step_of}
use Rattle.terms.specs.Reading.{read_of}
use Rattle.heads.proofs.Refusals.{passed_on}
use mathlib.Core.Path.{ap}
use native.Mathlib.Omega.{arith}
use Rattle.reader.proofs.Composing.{named-refused, named-ready, named_new, one-off, one-is, assumption_open, assumption_done}
use Rattle.reader.proofs.read_assumption.Goals as goal

pub read_one-requires : goal.read_one-requires
read_one-requires c = named-ready c.requires.0 c.requires.1 c.requires.2 c.new_id.result c.new_id.ensures _ _ c.in_ok-from.was

pub expect-requires : goal.expect-requires
expect-requires c = let O = one-is c.requires.0 c.requires.1 c.requires.2 c.new_id.result c.new_id.ensures _ _ c.in_ok-from.was c.read_one.new.nodes c.read_one.new.names (read_of c.read_one.result) c.read_one.ensures _ _ _ (ap read_of c.in_ok-term.was) in O.inside

pub put_command-requires : goal.put_command-requires
put_command-requires c = let O = one-is c.requires.0 c.requires.1 c.requires.2 c.new_id.result c.new_id.ensures _ _ c.in_ok-from.was c.read_one.new.nodes c.read_one.new.names (read_of c.read_one.result) c.read_one.ensures _ _ _ (ap read_of c.in_ok-term.was) in let g = named_new c.requires.0 c.requires.1 c.requires.2 c.new_id.result c.new_id.ensures _ _ c.in_ok-from.was in (c.requires.1.room, c.requires.2, g.0, g.1, g.2, omega (arith, O.grown.table.used, O.grown.table.few), omega arith, omega arith, omega arith, omega arith, omega arith, c.requires.1.indexed, g.3)

pub overflow_add-result : goal.overflow_add-result
overflow_add-result c = let O = one-is c.requires.0 c.requires.1 c.requires.2 c.new_id.result c.new_id.ensures _ _ c.in_ok-from.was c.read_one.new.nodes c.read_one.new.names (read_of c.read_one.result) c.read_one.ensures _ _ _ (ap read_of c.in_ok-term.was) in omega (arith, O.grown.table.used, O.grown.table.few)

pub returns-in_err-from : goal.returns-in_err-from
returns-in_err-from c = rw (passed_on c.from_residual.result c.from_residual.ensures.1) (named-refused c.requires.0 c.requires.1 c.requires.2 c.new_id.result c.new_id.ensures _ c.in_err-from.was)

pub returns-in_err-term : goal.returns-in_err-term
returns-in_err-term c = rw (passed_on c.from_residual-in_err-term.result c.from_residual-in_err-term.ensures.1) (one-off c.requires.0 c.requires.1 c.requires.2 c.new_id.result c.new_id.ensures _ _ c.in_ok-from.was c.read_one.new.nodes c.read_one.new.names (read_of c.read_one.result) c.read_one.ensures _ _ (ap read_of c.in_err-term.was))

pub returns-in_err-end : goal.returns-in_err-end
unfolding mark_number
returns-in_err-end c = rw (passed_on c.from_residual-in_err-end.result c.from_residual-in_err-end.ensures.1) (assumption_open c.requires.0 c.requires.1 c.requires.2 c.new_id.result c.new_id.ensures _ _ c.in_ok-from.was c.read_one.new.nodes c.read_one.new.names (read_of c.read_one.result) c.read_one.ensures _ _ _ (ap read_of c.in_ok-term.was) (step_of c.expect.result) c.expect.ensures.0 c.expect.ensures.1 _ _ (ap step_of c.in_err-end.was))

pub returns : goal.returns
unfolding mark_number
returns c = assumption_done c.requires.0 c.requires.1 c.requires.2 c.new_id.result c.new_id.ensures _ _ c.in_ok-from.was c.read_one.new.nodes c.read_one.new.names (read_of c.read_one.result) c.read_one.ensures _ _ _ (ap read_of c.in_ok-term.was) (step_of c.expect.result) c.expect.ensures.0 c.expect.ensures.1 _ _ (ap step_of c.in_ok-end.was) c.put_command.ensures
