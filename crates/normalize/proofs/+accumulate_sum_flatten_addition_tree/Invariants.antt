use Prim.Native.Nat.{◌+◌, ◌*◌}
use Rattle.normalize.specs.Flattening.{end_of}
use Rattle.normalize.proofs.Growing.{Summing}
use Rattle.normalize.proofs.+accumulate_sum_flatten_addition_tree.Given as goal

abbrev pub decreases-accumulate_sum : goal.decreases-accumulate_sum
decreases-accumulate_sum l = 2 * end_of l.args.now

abbrev pub decreases-flatten_addition_tree : goal.decreases-flatten_addition_tree
decreases-flatten_addition_tree l = 2 * l.i + 1

abbrev pub invariant-accumulate_sum-loop-arg : goal.invariant-accumulate_sum-loop-arg
invariant-accumulate_sum-loop-arg l = Summing l.nodes l.args l.s l.initial.coeffs l.initial.keys l.initial.b l.coeffs l.keys l.b l.arg-index
