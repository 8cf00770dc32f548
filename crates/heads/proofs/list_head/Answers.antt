-- `heads::list_head` owes the head of an optional list: the bracket is expected behind the keyword, which ends past 0. Assumes nothing.
use Rattle.heads.proofs.Laws.{list-none, list_go, list_in}
use Rattle.heads.proofs.Answers.{past-none, past-some, past_later, past-any}
use Rattle.heads.proofs.Refusals.{passed_on}
use Rattle.heads.specs.Heads.{Go, Off, opened, step_of, past_of}
use Rattle.calculus.specs.Grammar.{mark_number}
use mathlib.Core.Path.{sym, ap, ◌∙◌}
use Rattle.heads.proofs.list_head.Goals as goal

pub returns-in-None : goal.returns-in-None
returns-in-None c = (list-none c.args.text.now c.args.at _ (past_of c.past.result) (rw c.from.ensures at c.past.ensures.0) (past-none c.past.result c.in-None.is), tt)

pub returns-in_ok-expect-in-Some : goal.returns-in_ok-expect-in-Some
unfolding opened mark_number
returns-in_ok-expect-in-Some c =
    let h = past_later c.args.text.now c.args.at c.past.result c.past.ensures.1 c.in-Some.is in (
      list_go c.args.text.now c.args.at _ c.in-Some.u (step_of c.expect.result) (Go _) (sym (past-some c.args.text.now c.args.at c.past.result c.past.ensures.1 c.in-Some.is) ∙ (rw c.from.ensures at c.past.ensures.0)) (past-any c.args.text.now c.args.at c.past.result c.past.ensures.1 c.in-Some.is) c.expect.ensures.0 (ap step_of c.in_ok-expect-in-Some.was),
      list_in c.args.text.now c.args.at c.in-Some.u _ h.0 (step_of c.expect.result) (ap step_of c.in_ok-expect-in-Some.was) c.expect.ensures.1,
    )

pub returns-in_err-expect-in-Some : goal.returns-in_err-expect-in-Some
unfolding opened mark_number
returns-in_err-expect-in-Some c =
    rw (passed_on c.from_residual.result c.from_residual.ensures.1)
    (list_go c.args.text.now c.args.at _ c.in-Some.u (step_of c.expect.result) (Off _ _) (sym (past-some c.args.text.now c.args.at c.past.result c.past.ensures.1 c.in-Some.is) ∙ (rw c.from.ensures at c.past.ensures.0)) (past-any c.args.text.now c.args.at c.past.result c.past.ensures.1 c.in-Some.is) c.expect.ensures.0 (ap step_of c.in_err-expect-in-Some.was), tt)
