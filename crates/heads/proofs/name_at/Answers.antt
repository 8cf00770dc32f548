-- `heads::name_at` owes the name that stands here: each arm of the token is one case of the definition. Assumes nothing.
use Rattle.heads.proofs.Laws.{named, tilde-refused}
use Rattle.heads.specs.Heads.{name_of, the_name}
use Rattle.calculus.specs.Grammar.{on_name, off}
use Rattle.lexer.specs.Tokens.{token_of}
use mathlib.Core.Path.{refl, ap, ◌∙◌}
use Rattle.std.specs.Prelude.{Ok}
use Rattle.heads.proofs.Refusals.{passed_on, name-off}
use Rattle.heads.proofs.name_at.Goals as goal

pub returns-in-Name : goal.returns-in-Name
returns-in-Name c = let h = named c.args.text.now c.args.at c.next_token.result c.next_token.ensures.0 c.next_token.ensures.1 _ _ (c.in_ok-from.was ∙ ap Ok c.in-Name.is) in h

pub returns-in-Tilde : goal.returns-in-Tilde
unfolding name_of the_name on_name token_of
returns-in-Tilde c = (tilde-refused c.args.text.now c.args.at c.next_token.result c.next_token.ensures.0 c.next_token.ensures.1 the_name (off 5 _) _ _ (c.in_ok-from.was ∙ ap Ok c.in-Tilde.is) (λ x. refl) refl, tt)

pub returns-in-End : goal.returns-in-End
returns-in-End c = (name-off c.args.text.now c.args.at c.next_token.result c.next_token.ensures.0 _ c.in_ok-from.was _ c.in-End.is, tt)

pub returns-in-End-2 : goal.returns-in-End-2
returns-in-End-2 c = (name-off c.args.text.now c.args.at c.next_token.result c.next_token.ensures.0 _ c.in_ok-from.was _ c.in-End.is, tt)

pub returns-in-End-3 : goal.returns-in-End-3
returns-in-End-3 c = (name-off c.args.text.now c.args.at c.next_token.result c.next_token.ensures.0 _ c.in_ok-from.was _ c.in-End.is, tt)

pub returns-in-End-4 : goal.returns-in-End-4
returns-in-End-4 c = (name-off c.args.text.now c.args.at c.next_token.result c.next_token.ensures.0 _ c.in_ok-from.was _ c.in-End.is, tt)

pub returns-in_err-from : goal.returns-in_err-from
unfolding name_of the_name on_name token_of
returns-in_err-from c = rw (passed_on c.from_residual.result c.from_residual.ensures.1) (rw (← c.next_token.ensures.0, c.in_err-from.was), tt)
