-- `nodes::children` meets its contract: where the part starts and ends is what the node says, and `children-room` has it inside.
use native.Mathlib.Omega.{arith}
use Rattle.nodes.proofs.Tables.{children-room}
use Rattle.nodes.proofs.Copying.{part-children}
use Rattle.nodes.proofs.children.Goals as goal

pub overflow_add-from : goal.overflow_add-from
overflow_add-from c = omega (arith, c.first_of.ensures, children-room c.requires.0 c.requires.1, c.requires.0.table.room)

pub overflow_add-to : goal.overflow_add-to
overflow_add-to c = omega (arith, c.first_of.ensures, c.second_of.ensures, children-room c.requires.0 c.requires.1, c.requires.0.table.room)

pub offset_bounds-nodes-from : goal.offset_bounds-nodes-from
offset_bounds-nodes-from c = omega (arith, c.first_of.ensures, c.second_of.ensures, children-room c.requires.0 c.requires.1, c.requires.0.table.room)

pub slice_bounds-result-end : goal.slice_bounds-result-end
slice_bounds-result-end c = omega (arith, c.first_of.ensures, c.second_of.ensures, children-room c.requires.0 c.requires.1, c.requires.0.table.room)

pub returns : goal.returns
returns c = rw c.child_base.ensures (part-children c.args.nodes.now c.args.i c.first_of.result c.second_of.result c.first_of.ensures c.second_of.ensures)
