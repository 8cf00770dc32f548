-- `nodes::put_node` meets its contract: three stores, which is what `put` says.
use mathlib.Core.Path.{refl}
use native.Mathlib.Omega.{arith}
use lib.ListN.{length-set}
use Rattle.nodes.specs.Nodes.{put}
use Rattle.nodes.proofs.put_node.Goals as goal

pub bounds-nodes-i-2 : goal.bounds-nodes-i-2
bounds-nodes-i-2 c = simp length-set (omega arith)

pub bounds-nodes-i-3 : goal.bounds-nodes-i-3
bounds-nodes-i-3 c = simp length-set (omega arith)

pub returns : goal.returns
unfolding put
returns c = refl
