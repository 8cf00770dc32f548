-- `reader::read_ending` owes what stands behind a clause, section by section, and the command that is put. Assumes nothing.
use Rattle.calculus.specs.Grammar.{mark_number}
use Rattle.heads.specs.Heads.{step_of}
use Rattle.terms.specs.Reading.{items_of}
use Rattle.heads.proofs.Refusals.{passed_on}
use mathlib.Core.Path.{ap}
use native.Mathlib.Omega.{arith}
use Rattle.reader.proofs.Composing.{rule-unknown, rule-in, rule-left, premises-refused, premises-grown, premises-ready, arguments-refused, arguments-are, all_grown, ending_open, ending_done}
use Rattle.reader.proofs.read_ending.Goals as goal

pub read_premises-requires : goal.read_premises-requires
read_premises-requires c = let h = rule-left c.requires.0 c.requires.1 c.requires.2 c.requires.3 c.rule_from.result c.rule_from.ensures.0 c.rule_from.ensures.1 _ _ c.in_ok-rule.was in (h.0, h.1, c.requires.1, c.requires.0.table, c.requires.0.stack)

pub overflow_add-premises : goal.overflow_add-premises
overflow_add-premises c = let G = premises-grown c.requires.0 c.requires.1 c.requires.2 c.requires.3 c.rule_from.result c.rule_from.ensures.0 c.rule_from.ensures.1 _ _ c.in_ok-rule.was c.read_premises.new.nodes (items_of c.read_premises.result) c.read_premises.ensures _ _ _ _ (ap items_of c.in_ok-premises.was) in omega (arith, G.table.used, G.table.few)

pub read_arguments-requires : goal.read_arguments-requires
read_arguments-requires c = premises-ready c.requires.0 c.requires.1 c.requires.2 c.requires.3 c.rule_from.result c.rule_from.ensures.0 c.rule_from.ensures.1 _ _ c.in_ok-rule.was c.read_premises.new.nodes (items_of c.read_premises.result) c.read_premises.ensures _ _ _ _ (ap items_of c.in_ok-premises.was) c.read_premises.auto.pending

pub expect-requires : goal.expect-requires
expect-requires c = let D = arguments-are c.requires.0 c.requires.1 c.requires.2 c.requires.3 c.rule_from.result c.rule_from.ensures.0 c.rule_from.ensures.1 _ _ c.in_ok-rule.was c.read_premises.new.nodes (items_of c.read_premises.result) c.read_premises.ensures _ _ _ _ (ap items_of c.in_ok-premises.was) c.read_arguments.new.nodes c.read_arguments.new.names (items_of c.read_arguments.result) c.read_arguments.ensures _ _ _ _ (ap items_of c.in_ok-arguments.was) in D.inside

pub overflow_cast-rule : goal.overflow_cast-rule
overflow_cast-rule c = let h = rule-in c.requires.0 c.requires.1 c.requires.2 c.requires.3 c.rule_from.result c.rule_from.ensures.0 c.rule_from.ensures.1 _ _ c.in_ok-rule.was in omega (arith, h.0)

pub overflow_add-rule : goal.overflow_add-rule
overflow_add-rule c = let h = rule-in c.requires.0 c.requires.1 c.requires.2 c.requires.3 c.rule_from.result c.rule_from.ensures.0 c.rule_from.ensures.1 _ _ c.in_ok-rule.was in omega (arith, h.0)

pub put_command-requires : goal.put_command-requires
put_command-requires c = let G = premises-grown c.requires.0 c.requires.1 c.requires.2 c.requires.3 c.rule_from.result c.rule_from.ensures.0 c.rule_from.ensures.1 _ _ c.in_ok-rule.was c.read_premises.new.nodes (items_of c.read_premises.result) c.read_premises.ensures _ _ _ _ (ap items_of c.in_ok-premises.was) in let E = all_grown c.requires.0 c.requires.1 c.requires.2 c.requires.3 c.rule_from.result c.rule_from.ensures.0 c.rule_from.ensures.1 _ _ c.in_ok-rule.was c.read_premises.new.nodes (items_of c.read_premises.result) c.read_premises.ensures _ _ _ _ (ap items_of c.in_ok-premises.was) c.read_arguments.new.nodes c.read_arguments.new.names (items_of c.read_arguments.result) c.read_arguments.ensures _ _ _ _ (ap items_of c.in_ok-arguments.was) in (c.requires.1.room, c.requires.2, omega (arith, c.requires.3.starts), c.requires.3.ends, c.requires.3.near, omega (arith, c.requires.3.inside, c.requires.0.table.used, c.requires.0.table.few), omega (arith, c.requires.3.inside, c.requires.0.table.used, c.requires.0.table.few), omega (arith, G.table.used, G.table.few), omega (arith, G.table.used, G.table.few), omega (arith, E.table.used, E.table.few), omega (arith, E.table.used, E.table.few), c.requires.1.indexed, c.requires.3.new)

pub overflow_add-result : goal.overflow_add-result
overflow_add-result c = let E = all_grown c.requires.0 c.requires.1 c.requires.2 c.requires.3 c.rule_from.result c.rule_from.ensures.0 c.rule_from.ensures.1 _ _ c.in_ok-rule.was c.read_premises.new.nodes (items_of c.read_premises.result) c.read_premises.ensures _ _ _ _ (ap items_of c.in_ok-premises.was) c.read_arguments.new.nodes c.read_arguments.new.names (items_of c.read_arguments.result) c.read_arguments.ensures _ _ _ _ (ap items_of c.in_ok-arguments.was) in omega (arith, E.table.used, E.table.few)

pub returns-in_err-rule : goal.returns-in_err-rule
returns-in_err-rule c = rw (passed_on c.from_residual.result c.from_residual.ensures.1) (rule-unknown c.requires.0 c.requires.1 c.requires.2 c.requires.3 c.rule_from.result c.rule_from.ensures.0 c.rule_from.ensures.1 _ c.in_err-rule.was)

pub returns-in_err-premises : goal.returns-in_err-premises
returns-in_err-premises c = rw (passed_on c.from_residual-in_err-premises.result c.from_residual-in_err-premises.ensures.1) (premises-refused c.requires.0 c.requires.1 c.requires.2 c.requires.3 c.rule_from.result c.rule_from.ensures.0 c.rule_from.ensures.1 _ _ c.in_ok-rule.was c.read_premises.new.nodes (items_of c.read_premises.result) c.read_premises.ensures _ _ (ap items_of c.in_err-premises.was))

pub returns-in_err-arguments : goal.returns-in_err-arguments
returns-in_err-arguments c = rw (passed_on c.from_residual-in_err-arguments.result c.from_residual-in_err-arguments.ensures.1) (arguments-refused c.requires.0 c.requires.1 c.requires.2 c.requires.3 c.rule_from.result c.rule_from.ensures.0 c.rule_from.ensures.1 _ _ c.in_ok-rule.was c.read_premises.new.nodes (items_of c.read_premises.result) c.read_premises.ensures _ _ _ _ (ap items_of c.in_ok-premises.was) c.read_arguments.new.nodes c.read_arguments.new.names (items_of c.read_arguments.result) c.read_arguments.ensures _ _ (ap items_of c.in_err-arguments.was))

pub returns-in_err-end : goal.returns-in_err-end
unfolding mark_number
returns-in_err-end c = rw (passed_on c.from_residual-in_err-end.result c.from_residual-in_err-end.ensures.1) (ending_open c.requires.0 c.requires.1 c.requires.2 c.requires.3 c.rule_from.result c.rule_from.ensures.0 c.rule_from.ensures.1 _ _ c.in_ok-rule.was c.read_premises.new.nodes (items_of c.read_premises.result) c.read_premises.ensures _ _ _ _ (ap items_of c.in_ok-premises.was) c.read_arguments.new.nodes c.read_arguments.new.names (items_of c.read_arguments.result) c.read_arguments.ensures _ _ _ _ (ap items_of c.in_ok-arguments.was) (step_of c.expect.result) c.expect.ensures.0 c.expect.ensures.1 _ _ (ap step_of c.in_err-end.was))

pub returns : goal.returns
unfolding mark_number
returns c = ending_done c.requires.0 c.requires.1 c.requires.2 c.requires.3 c.rule_from.result c.rule_from.ensures.0 c.rule_from.ensures.1 _ _ c.in_ok-rule.was c.read_premises.new.nodes (items_of c.read_premises.result) c.read_premises.ensures _ _ _ _ (ap items_of c.in_ok-premises.was) c.read_arguments.new.nodes c.read_arguments.new.names (items_of c.read_arguments.result) c.read_arguments.ensures _ _ _ _ (ap items_of c.in_ok-arguments.was) (step_of c.expect.result) c.expect.ensures.0 c.expect.ensures.1 _ _ (ap step_of c.in_ok-end.was) c.put_command.ensures
