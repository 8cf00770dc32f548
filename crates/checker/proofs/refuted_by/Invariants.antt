use mathlib.Core.Bool.{false}
use Rattle.checker.specs.Runs.{RefutedIs}
use Rattle.checker.proofs.refuted_by.Given as goal

abbrev pub invariant-loop-k : goal.invariant-loop-k
invariant-loop-k l = RefutedIs l.nodes l.commands l.n l.marks l.k false
