use Prim.Native.Nat.{◌+◌, ◌*◌}
use Rattle.nodes.proofs.Comparing.{Rest}
use Rattle.nodes.proofs.+equal_equal_list.Given as goal

abbrev pub decreases-equal : goal.decreases-equal
decreases-equal l = 2 * l.i + 1

abbrev pub decreases-equal_list : goal.decreases-equal_list
decreases-equal_list l = 2 * l.i

abbrev pub invariant-equal_list-loop-k : goal.invariant-equal_list-loop-k
invariant-equal_list-loop-k l = Rest l.nodes l.i l.a l.j l.b l.count l.k
