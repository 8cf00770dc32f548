-- `heads::clause_head` owes what stands as `(cl`: the second mark is expected behind the first. Assumes nothing.
use Rattle.heads.proofs.Laws.{clause-go, clause-off, step_in, step_from}
use Rattle.heads.proofs.Refusals.{passed_on}
use Rattle.heads.specs.Heads.{step_of}
use Rattle.calculus.specs.Grammar.{mark_number}
use mathlib.Core.Path.{ap}
use Rattle.heads.proofs.clause_head.Goals as goal

pub returns : goal.returns
unfolding mark_number
returns c = (clause-go c.args.text.now c.args.at _ (step_of c.expect.result) (step_of c.expect-2.result) c.expect.ensures.0 (ap step_of c.in_ok-t.was) c.expect-2.ensures.0, step_from c.args.text.now c.args.at _ (step_in c.args.text.now c.args.at _ (step_of c.expect.result) (ap step_of c.in_ok-t.was) c.expect.ensures.1).0 (step_of c.expect-2.result) c.expect-2.ensures.1)

pub returns-in_err-t : goal.returns-in_err-t
unfolding mark_number
returns-in_err-t c = rw (passed_on c.from_residual.result c.from_residual.ensures.1) (clause-off c.args.text.now c.args.at _ _ (step_of c.expect.result) c.expect.ensures.0 (ap step_of c.in_err-t.was), tt)
