use Prim.Native.Nat.{◌+◌, ◌*◌}
use Rattle.normalize.specs.Flattening.{end_of}
use Rattle.normalize.proofs.Counting.{Counting}
use Rattle.normalize.proofs.+count_all_count_leaves.Given as goal

abbrev pub decreases-count_all : goal.decreases-count_all
decreases-count_all l = 2 * end_of l.args.now

abbrev pub decreases-count_leaves : goal.decreases-count_leaves
decreases-count_leaves l = 2 * l.i + 1

abbrev pub invariant-count_all-loop-arg : goal.invariant-count_all-loop-arg
invariant-count_all-loop-arg l = Counting l.nodes l.args l.n l.m l.arg-index
