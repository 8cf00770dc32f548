-- `normalize::without_mark`: a refusal stays, and an acceptance is plain where it was and no one-argument `-` was met.
use mathlib.Core.Path.{ap}
use Rattle.calculus.specs.Words.{ok, bind}
use Rattle.normalize.specs.Rule.{marked_answer}
use Rattle.normalize.proofs.Returned.{passed}
use Rattle.normalize.proofs.without_mark.Goals as goal

pub returns-in_err-plain : goal.returns-in_err-plain
unfolding marked_answer bind
returns-in_err-plain c = rw (passed c.from_residual.result c.from_residual.ensures.1, c.in_err-plain.was)

pub returns : goal.returns
unfolding marked_answer bind
returns c = rw c.in_ok-plain.was (ap ok c.both.ensures)
