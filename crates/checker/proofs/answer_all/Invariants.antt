use Rattle.checker.specs.Runs.{AnswersAre}
use Rattle.checker.proofs.Answering.{Left}
use Rattle.checker.proofs.answer_all.Given as goal

abbrev pub invariant-loop-k : goal.invariant-loop-k
invariant-loop-k l = AnswersAre l.nodes l.commands l.n l.k l.initial.numbers l.numbers l.plains × Left l.initial.numbers l.numbers l.k
