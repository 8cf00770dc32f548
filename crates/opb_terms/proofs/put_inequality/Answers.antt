-- `opb_terms::put_inequality` owes the assumption of a constraint as the last node, and this node as a child word. Assumes nothing.
use native.Mathlib.Omega.{arith}
use Rattle.opb_terms.proofs.Summing.{sum-making, inequality-room, inequality-put}
use Rattle.opb_terms.proofs.put_inequality.Goals as goal

pub put_sum-m-requires : goal.put_sum-m-requires
put_sum-m-requires c = sum-making c.requires.0

pub overflow_sub-d : goal.overflow_sub-d
overflow_sub-d c = c.put_sum-m.ensures.made.grown.more

pub overflow_add-d : goal.overflow_add-d
overflow_add-d c = omega (arith, inequality-room c.requires.0 c.put_sum-m.ensures, c.requires.0.ready.table.used)

pub overflow_sub-d-2 : goal.overflow_sub-d-2
overflow_sub-d-2 c = omega (arith, inequality-room c.requires.0 c.put_sum-m.ensures)

pub sign-minus-requires : goal.sign-minus-requires
sign-minus-requires c = c.requires.1

pub put_numeral-requires : goal.put_numeral-requires
put_numeral-requires c = omega (arith, inequality-room c.requires.0 c.put_sum-m.ensures)

pub overflow_add-m : goal.overflow_add-m
overflow_add-m c = omega (arith, inequality-room c.requires.0 c.put_sum-m.ensures)

pub overflow_sub-m : goal.overflow_sub-m
overflow_sub-m c = omega (arith, inequality-room c.requires.0 c.put_sum-m.ensures)

pub put_binary-requires : goal.put_binary-requires
put_binary-requires c =
    let room = inequality-room c.requires.0 c.put_sum-m.ensures in
    let long = c.put_numeral.auto.nodes in
    (omega (arith, long, c.put_sum-m.ensures.made.grown.table.wide), omega (arith, room, long), omega (arith, room, long, c.requires.0.ready.table.used), omega (arith, room, long), omega (arith, room, long), omega (arith, c.child_base-base.ensures, long))

pub overflow_add-d-2 : goal.overflow_add-d-2
overflow_add-d-2 c = omega (arith, inequality-room c.requires.0 c.put_sum-m.ensures, c.requires.0.ready.table.used)

pub overflow_add-m-2 : goal.overflow_add-m-2
overflow_add-m-2 c = omega (arith, inequality-room c.requires.0 c.put_sum-m.ensures)

pub put_child-requires : goal.put_child-requires
put_child-requires c =
    let room = inequality-room c.requires.0 c.put_sum-m.ensures in
    let long = c.put_numeral.auto.nodes in
    let same = c.put_binary.auto.nodes in
    (omega (arith, long, same, c.put_sum-m.ensures.made.grown.table.wide), omega (arith, room, long, same, c.requires.0.ready.table.used), omega (arith, room, long, same), omega (arith, c.child_base-base.ensures, long, same))

pub overflow_add-result : goal.overflow_add-result
overflow_add-result c = omega (arith, inequality-room c.requires.0 c.put_sum-m.ensures)

pub returns : goal.returns
returns c = inequality-put c.requires.0 c.put_sum-m.ensures c.sign-minus.ensures c.put_numeral.ensures c.put_binary.ensures c.put_child.ensures
