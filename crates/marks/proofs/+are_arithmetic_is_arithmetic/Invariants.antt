use Prim.Native.Nat.{◌+◌, ◌*◌}
use lib.Seq.{slice}
use Rattle.calculus.specs.Truth.{are_arithmetic}
use Rattle.marks.proofs.Arguments.{end_of, Left}
use Rattle.marks.proofs.+are_arithmetic_is_arithmetic.Given as goal

abbrev pub decreases-are_arithmetic : goal.decreases-are_arithmetic
decreases-are_arithmetic l = 2 * end_of (slice l.from l.to l.nodes.now)

abbrev pub decreases-is_arithmetic : goal.decreases-is_arithmetic
decreases-is_arithmetic l = 2 * l.i + 1

abbrev pub invariant-are_arithmetic-loop-k : goal.invariant-are_arithmetic-loop-k
invariant-are_arithmetic-loop-k l = Left are_arithmetic l.nodes l.from l.to l.k
