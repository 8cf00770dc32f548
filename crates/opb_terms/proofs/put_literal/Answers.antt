-- `opb_terms::put_literal` owes a literal's term as the last node. Assumes nothing.
use native.Mathlib.Omega.{arith}
use Rattle.opb_terms.proofs.Products.{literal-room, negated-asked, negated-binary, negated-put, plain-room, plain-asked, plain-put}
use Rattle.opb_terms.proofs.put_literal.Goals as goal

pub put_numeral-requires : goal.put_numeral-requires
put_numeral-requires c = omega (arith, literal-room c.requires.0 c.if-negated.true)

pub overflow_add-n : goal.overflow_add-n
overflow_add-n c = omega (arith, literal-room c.requires.0 c.if-negated.true)

pub put_variable-requires : goal.put_variable-requires
put_variable-requires c = negated-asked c.requires.0 c.if-negated.true c.put_numeral.ensures c.requires.1

pub overflow_add-n-then-negated : goal.overflow_add-n-then-negated
overflow_add-n-then-negated c = omega (arith, literal-room c.requires.0 c.if-negated.true)

pub overflow_add-n-then-negated-2 : goal.overflow_add-n-then-negated-2
overflow_add-n-then-negated-2 c = omega (arith, literal-room c.requires.0 c.if-negated.true)

pub put_binary-requires : goal.put_binary-requires
put_binary-requires c = negated-binary c.requires.0 c.if-negated.true c.put_numeral.ensures c.put_variable.ensures c.requires.2

pub overflow_add-result : goal.overflow_add-result
overflow_add-result c = omega (arith, literal-room c.requires.0 c.if-negated.true)

pub returns-then-negated : goal.returns-then-negated
returns-then-negated c = negated-put c.requires.0 c.if-negated.true c.put_numeral.ensures c.put_variable.ensures c.put_binary.ensures

pub put_variable-requires-2 : goal.put_variable-requires-2
put_variable-requires-2 c = plain-asked c.requires.0 c.if-negated.false c.requires.1

pub overflow_add-result-2 : goal.overflow_add-result-2
overflow_add-result-2 c = omega (arith, plain-room c.requires.0 c.if-negated.false)

pub returns : goal.returns
returns c = plain-put c.requires.0 c.if-negated.false c.put_variable-2.ensures
