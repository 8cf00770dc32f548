-- `heads::operator` owes the operator behind a bracket: each arm of the token is one case of the definition. Assumes nothing.
use Rattle.heads.proofs.Laws.{operator-in, tilde-refused}
use Rattle.calculus.specs.Grammar.{on_operator, stop}
use Rattle.heads.specs.Heads.{head_of}
use Rattle.lexer.specs.Tokens.{token_of}
use mathlib.Core.Path.{refl, ap, ◌∙◌}
use Rattle.std.specs.Prelude.{Ok}
use Rattle.heads.proofs.Refusals.{passed_on, operator-off}
use Rattle.heads.proofs.operator.Goals as goal

pub returns-in-Op : goal.returns-in-Op
unfolding head_of on_operator token_of
returns-in-Op c = (rw (← c.next_token.ensures.0, (c.in_ok-o.was ∙ ap Ok c.in-Op.is)), operator-in c.args.text.now c.args.at c.next_token.result c.next_token.ensures.0 c.next_token.ensures.1 _ _ _ (c.in_ok-o.was ∙ ap Ok c.in-Op.is))

pub returns-in-Tilde : goal.returns-in-Tilde
unfolding head_of on_operator token_of
returns-in-Tilde c = (tilde-refused c.args.text.now c.args.at c.next_token.result c.next_token.ensures.0 c.next_token.ensures.1 on_operator (stop 5 _) _ _ (c.in_ok-o.was ∙ ap Ok c.in-Tilde.is) (λ x. refl) refl, tt)

pub returns-in-End : goal.returns-in-End
returns-in-End c = (operator-off c.args.text.now c.args.at c.next_token.result c.next_token.ensures.0 _ c.in_ok-o.was _ c.in-End.is, tt)

pub returns-in-End-2 : goal.returns-in-End-2
returns-in-End-2 c = (operator-off c.args.text.now c.args.at c.next_token.result c.next_token.ensures.0 _ c.in_ok-o.was _ c.in-End.is, tt)

pub returns-in-End-3 : goal.returns-in-End-3
returns-in-End-3 c = (operator-off c.args.text.now c.args.at c.next_token.result c.next_token.ensures.0 _ c.in_ok-o.was _ c.in-End.is, tt)

pub returns-in-End-4 : goal.returns-in-End-4
returns-in-End-4 c = (operator-off c.args.text.now c.args.at c.next_token.result c.next_token.ensures.0 _ c.in_ok-o.was _ c.in-End.is, tt)

pub returns-in_err-o : goal.returns-in_err-o
unfolding head_of on_operator token_of
returns-in_err-o c = rw (passed_on c.from_residual.result c.from_residual.ensures.1) (rw (← c.next_token.ensures.0, c.in_err-o.was), tt)
