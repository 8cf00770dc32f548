-- The parts are those of command k, and what the reader publishes of it gives what its rule needs. Each arm's rule is the one of its
-- number; normalization needs less room than a sum, and the tests left to an arm are its bounds.
use Prim.Native.Nat.{◌-◌}
use native.Mathlib.Omega.{arith}
use Rattle.steps.proofs.Numbered.{by-addition, by_normalize}
use Rattle.steps.proofs.Stepping.{premises-in, arguments-in, clause-in, step_in, conclusion-in, lines-in, step_is}
use Rattle.steps.proofs.check_step.Goals as goal

pub part_of-premises-requires : goal.part_of-premises-requires
part_of-premises-requires c = premises-in c.requires.given

pub part_of-args-requires : goal.part_of-args-requires
part_of-args-requires c = arguments-in c.requires.given

pub part_of-conclusion-requires : goal.part_of-conclusion-requires
part_of-conclusion-requires c = clause-in c.requires.given

pub cp_addition-requires : goal.cp_addition-requires
cp_addition-requires c = record {
  step = step_in c.requires.given c.part_of-premises.result.now c.part_of-args.result.now c.part_of-premises.ensures c.part_of-args.ensures;
  all_nodes = conclusion-in c.requires.given c.part_of-conclusion.result.now c.part_of-conclusion.ensures;
  rooms = c.requires.rooms;
}

pub returns-then-rule-eq-ADDITION : goal.returns-then-rule-eq-ADDITION
returns-then-rule-eq-ADDITION c = step_is c.args.nodes.now c.args.commands.now c.args.k c.word_of-rule.result c.part_of-premises.result.now c.part_of-args.result.now c.part_of-conclusion.result.now c.cp_addition.result c.part_of-premises.ensures c.part_of-args.ensures c.part_of-conclusion.ensures c.word_of-rule.ensures (by-addition c.args.nodes.now c.args.commands.now c.part_of-premises.result.now c.part_of-args.result.now c.part_of-conclusion.result.now c.cp_addition.result (c.word_of-rule.result - 1) (omega arith) c.cp_addition.ensures)

pub cp_normalize-requires : goal.cp_normalize-requires
cp_normalize-requires c = record {
  all_nodes = conclusion-in c.requires.given c.part_of-conclusion.result.now c.part_of-conclusion.ensures;
  lines = lines-in c.requires.rooms;
}

pub returns-then-rule-eq-NORMALIZE : goal.returns-then-rule-eq-NORMALIZE
returns-then-rule-eq-NORMALIZE c = step_is c.args.nodes.now c.args.commands.now c.args.k c.word_of-rule.result c.part_of-premises.result.now c.part_of-args.result.now c.part_of-conclusion.result.now c.cp_normalize.result c.part_of-premises.ensures c.part_of-args.ensures c.part_of-conclusion.ensures c.word_of-rule.ensures (by_normalize c.args.nodes.now c.args.commands.now c.part_of-premises.result.now c.part_of-args.result.now c.part_of-conclusion.result.now c.cp_normalize.result (c.word_of-rule.result - 1) (omega arith) c.cp_normalize.ensures)

pub check_map-requires : goal.check_map-requires
check_map-requires c = record {
  multiplication_number_le_rule = (omega arith, omega arith);
  step = step_in c.requires.given c.part_of-premises.result.now c.part_of-args.result.now c.part_of-premises.ensures c.part_of-args.ensures;
  all_nodes = conclusion-in c.requires.given c.part_of-conclusion.result.now c.part_of-conclusion.ensures;
  rooms = c.requires.rooms;
}

pub returns-then-rule-lt-LITERAL : goal.returns-then-rule-lt-LITERAL
returns-then-rule-lt-LITERAL c = step_is c.args.nodes.now c.args.commands.now c.args.k c.word_of-rule.result c.part_of-premises.result.now c.part_of-args.result.now c.part_of-conclusion.result.now c.check_map.result c.part_of-premises.ensures c.part_of-args.ensures c.part_of-conclusion.ensures c.word_of-rule.ensures c.check_map.ensures

pub check_terms-requires : goal.check_terms-requires
check_terms-requires c = record {
  literal_number_le_rule = (omega arith, λ e. omega arith);
  step = step_in c.requires.given c.part_of-premises.result.now c.part_of-args.result.now c.part_of-premises.ensures c.part_of-args.ensures;
  all_nodes = conclusion-in c.requires.given c.part_of-conclusion.result.now c.part_of-conclusion.ensures;
}

pub returns : goal.returns
returns c = step_is c.args.nodes.now c.args.commands.now c.args.k c.word_of-rule.result c.part_of-premises.result.now c.part_of-args.result.now c.part_of-conclusion.result.now c.check_terms.result c.part_of-premises.ensures c.part_of-args.ensures c.part_of-conclusion.ensures c.word_of-rule.ensures c.check_terms.ensures
