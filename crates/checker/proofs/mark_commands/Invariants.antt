use Rattle.checker.specs.Runs.{MarksAre}
use Rattle.checker.proofs.mark_commands.Given as goal

abbrev pub invariant-loop-k : goal.invariant-loop-k
invariant-loop-k l = MarksAre l.text l.nodes l.commands l.n l.k l.plains l.marks
