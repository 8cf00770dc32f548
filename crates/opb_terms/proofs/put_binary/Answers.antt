-- `opb_terms::put_binary` owes an operator over two nodes, which become child words. Assumes nothing.
use mathlib.Core.Path.{◌∙◌}
use Prim.Native.Nat.{◌+◌}
use native.Mathlib.Omega.{arith}
use lib.ListN.{set, length-set}
use Rattle.opb_terms.proofs.Putting.{binary-is}
use Rattle.opb_terms.proofs.put_binary.Goals as goal

pub bounds-nodes-k-2 : goal.bounds-nodes-k-2
bounds-nodes-k-2 c = rw length-set (omega (arith, c.requires))

pub put_node-requires : goal.put_node-requires
put_node-requires c = rw (length-set, length-set) c.requires.1

pub shape_of-nodes : goal.shape_of-nodes
shape_of-nodes c = c.put_node.auto.nodes ∙ length-set (set c.args.nodes.now (c.args.base + c.args.d) c.args.a) (c.args.base + c.args.d + 1) c.args.b ∙ length-set c.args.nodes.now (c.args.base + c.args.d) c.args.a

pub returns : goal.returns
returns c = binary-is c.args.nodes.now c.args.m c.args.d c.args.operator c.args.a c.args.b (omega (arith, c.requires)) (rw c.requires.5 at c.put_node.ensures)
