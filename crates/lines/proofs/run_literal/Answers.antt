-- `lines::run_literal` owes the axiom of a literal on the stack, or 52 where it is full.
use native.Mathlib.Omega.{arith}
use Rattle.lines.proofs.Doing.{literal_full, literal_done}
use Rattle.lines.proofs.run_literal.Goals as goal

pub returns-then-d-ge-STACK_ENTRIES : goal.returns-then-d-ge-STACK_ENTRIES
returns-then-d-ge-STACK_ENTRIES c = λ b sl R. literal_full R _ _ (omega (arith, c.if-d-ge-STACK_ENTRIES.true))

pub number_of-name-requires : goal.number_of-name-requires
number_of-name-requires c = (c.requires.0.2.table.wide, c.requires.1 (omega arith), c.requires.0.2.names, c.requires.0.2.text, c.requires.2, c.requires.3, c.requires.4)

pub push_axiom-requires : goal.push_axiom-requires
push_axiom-requires c = (omega (arith, c.number_of-name.ensures.before, c.number_of-name.ensures.most, c.requires.1 (omega arith), c.requires.0.2.table.wide), omega arith, c.requires.0.2.stack.coefficients, c.requires.0.2.stack.keys)

pub returns : goal.returns
returns c = λ b sl R. literal_done R (omega (arith, c.if-d-ge-STACK_ENTRIES.false)) c.number_of-name.ensures c.args.negated c.push_axiom.ensures
