use Prim.Native.Nat.{◌+◌, ◌*◌}
use Rattle.calculus.specs.Truth.{are_statements}
use Rattle.marks.proofs.Arguments.{end_of, Rest}
use Rattle.marks.proofs.+are_statements_is_statement.Given as goal

abbrev pub decreases-are_statements : goal.decreases-are_statements
decreases-are_statements l = 2 * end_of l.args.now

abbrev pub decreases-is_statement : goal.decreases-is_statement
decreases-is_statement l = 2 * l.i + 1

abbrev pub invariant-are_statements-loop-arg : goal.invariant-are_statements-loop-arg
invariant-are_statements-loop-arg l = Rest are_statements l.nodes l.args l.arg-index
