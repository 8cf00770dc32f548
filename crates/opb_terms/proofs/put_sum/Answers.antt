-- `opb_terms::put_sum` owes the sum of the summands as the last node, in one of three forms. Assumes nothing.
use native.Mathlib.Omega.{arith}
use Rattle.opb_terms.proofs.Summing.{two, sum_first, sum-last, products_making, sum-none, sum_one, sum_more}
use Rattle.opb_terms.proofs.put_sum.Goals as goal

pub put_numeral-requires : goal.put_numeral-requires
put_numeral-requires c = sum_first c.requires

pub overflow_add-result : goal.overflow_add-result
overflow_add-result c = omega (arith, sum_first c.requires)

pub returns-then-count-eq0 : goal.returns-then-count-eq0
returns-then-count-eq0 c = sum-none c.args.turned c.args.count c.requires c.if-count-eq0.true c.put_numeral.ensures

pub put_products-m-requires : goal.put_products-m-requires
put_products-m-requires c = products_making c.requires c.if-count-eq0.false

pub returns-then-count-eq1 : goal.returns-then-count-eq1
returns-then-count-eq1 c = sum_one c.args.count c.if-count-eq1.true c.put_products-m.ensures (omega (arith, c.requires.stack, c.put_products-m.auto.pending))

pub overflow_sub-d : goal.overflow_sub-d
overflow_sub-d c = c.put_products-m.ensures.grown.more

pub overflow_add-d : goal.overflow_add-d
overflow_add-d c = omega (arith, c.put_products-m.ensures.grown.table.few, c.requires.ready.table.used)

pub overflow_sub-d-2 : goal.overflow_sub-d-2
overflow_sub-d-2 c = omega (arith, c.put_products-m.ensures.size)

pub put_children-requires : goal.put_children-requires
put_children-requires c = (omega arith, omega (arith, c.requires.summands.few, c.requires.stack, c.put_products-m.auto.pending), omega (arith, c.put_products-m.ensures.size, c.put_products-m.ensures.grown.table.few, c.requires.ready.table.used))

pub overflow_cast-d : goal.overflow_cast-d
overflow_cast-d c = omega (arith, c.put_products-m.ensures.grown.table.few, c.requires.ready.table.used)

pub overflow_cast-count : goal.overflow_cast-count
overflow_cast-count c = omega (arith, c.requires.summands.few)

pub put_node-requires : goal.put_node-requires
put_node-requires c = omega (arith, sum-last c.requires c.put_products-m.ensures (two c.args.count c.if-count-eq0.false c.if-count-eq1.false), c.put_children.auto.nodes)

pub overflow_add-result-2 : goal.overflow_add-result-2
overflow_add-result-2 c = omega (arith, sum-last c.requires c.put_products-m.ensures (two c.args.count c.if-count-eq0.false c.if-count-eq1.false))

pub returns : goal.returns
returns c = sum_more c.args.count (two c.args.count c.if-count-eq0.false c.if-count-eq1.false) c.put_products-m.ensures (omega (arith, c.requires.stack, c.put_products-m.auto.pending)) (omega (arith, c.requires.summands.few)) c.requires.ready.table.used (sum-last c.requires c.put_products-m.ensures (two c.args.count c.if-count-eq0.false c.if-count-eq1.false)) c.put_children.ensures c.put_node.ensures
