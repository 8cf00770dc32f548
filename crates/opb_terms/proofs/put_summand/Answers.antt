-- `opb_terms::put_summand` owes a summand's term as the last node. Assumes nothing.
use native.Mathlib.Omega.{arith}
use Rattle.opb_terms.proofs.Products.{more-nodes, some-nodes, literal-ready, summand-binary, summand-put}
use Rattle.opb_terms.proofs.put_summand.Goals as goal

pub put_numeral-requires : goal.put_numeral-requires
put_numeral-requires c = omega (arith, c.requires.0.room, more-nodes c.args.negated, some-nodes c.args.negated)

pub overflow_add-n : goal.overflow_add-n
overflow_add-n c = omega (arith, c.requires.0.room, more-nodes c.args.negated, some-nodes c.args.negated)

pub put_literal-m-requires : goal.put_literal-m-requires
put_literal-m-requires c = (literal-ready c.args.negated c.requires.0 c.args.negative c.args.magnitude c.requires.1 c.put_numeral.ensures, c.requires.2, omega (arith, c.requires.3, c.put_numeral.auto.nodes))

pub overflow_sub-m : goal.overflow_sub-m
overflow_sub-m c = omega (arith, c.put_literal-m.ensures.0)

pub overflow_add-c : goal.overflow_add-c
overflow_add-c c = omega (arith, c.put_literal-m.ensures.0, c.requires.0.room, more-nodes c.args.negated, c.requires.0.table.used)

pub overflow_sub-c : goal.overflow_sub-c
overflow_sub-c c = omega (arith, c.put_literal-m.ensures.0, some-nodes c.args.negated)

pub overflow_sub-m-2 : goal.overflow_sub-m-2
overflow_sub-m-2 c = omega (arith, c.put_literal-m.ensures.0)

pub put_binary-requires : goal.put_binary-requires
put_binary-requires c = summand-binary c.args.negated c.requires.0 c.args.negative c.args.magnitude c.requires.1 c.put_numeral.ensures c.put_literal-m.ensures.0 c.put_literal-m.ensures.1 c.requires.3

pub overflow_add-result : goal.overflow_add-result
overflow_add-result c = omega (arith, c.put_literal-m.ensures.0, c.requires.0.room, more-nodes c.args.negated)

pub returns : goal.returns
returns c = summand-put c.args.negated c.requires.0 c.args.negative c.args.magnitude c.requires.1 c.put_numeral.ensures _ _ c.put_literal-m.ensures.0 c.put_literal-m.ensures.1 c.put_binary.ensures
