-- `heads::mark_at` owes what stands here as to marks: each arm of the token is one case of the definition. Assumes nothing.
use Rattle.heads.proofs.Laws.{seen-mark, tilde-refused}
use Rattle.heads.specs.Heads.{seen, Not}
use Rattle.lexer.specs.Tokens.{token_of}
use mathlib.Core.Path.{refl, ap, ◌∙◌}
use Rattle.std.specs.Prelude.{Ok}
use Rattle.heads.proofs.Refusals.{passed_on, seen-off}
use Rattle.heads.proofs.mark_at.Goals as goal

pub returns-in-Mark : goal.returns-in-Mark
returns-in-Mark c = seen-mark c.args.text.now c.args.at c.next_token.result c.next_token.ensures.0 c.next_token.ensures.1 _ _ _ (c.in_ok-k.was ∙ ap Ok c.in-Mark.is)

pub returns-in-Tilde : goal.returns-in-Tilde
unfolding seen token_of
returns-in-Tilde c = (tilde-refused c.args.text.now c.args.at c.next_token.result c.next_token.ensures.0 c.next_token.ensures.1 seen (Not 5 _) _ _ (c.in_ok-k.was ∙ ap Ok c.in-Tilde.is) (λ x. refl) refl, tt)

pub returns-in-End : goal.returns-in-End
returns-in-End c = (seen-off c.args.text.now c.args.at c.next_token.result c.next_token.ensures.0 _ c.in_ok-k.was _ c.in-End.is, tt)

pub returns-in-End-2 : goal.returns-in-End-2
returns-in-End-2 c = (seen-off c.args.text.now c.args.at c.next_token.result c.next_token.ensures.0 _ c.in_ok-k.was _ c.in-End.is, tt)

pub returns-in-End-3 : goal.returns-in-End-3
returns-in-End-3 c = (seen-off c.args.text.now c.args.at c.next_token.result c.next_token.ensures.0 _ c.in_ok-k.was _ c.in-End.is, tt)

pub returns-in-End-4 : goal.returns-in-End-4
returns-in-End-4 c = (seen-off c.args.text.now c.args.at c.next_token.result c.next_token.ensures.0 _ c.in_ok-k.was _ c.in-End.is, tt)

pub returns-in_err-k : goal.returns-in_err-k
unfolding seen token_of
returns-in_err-k c = rw (passed_on c.from_residual.result c.from_residual.ensures.1) (rw (← c.next_token.ensures.0, c.in_err-k.was), tt)
