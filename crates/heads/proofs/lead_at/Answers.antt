-- `heads::lead_at` owes what stands in the place of a command: each arm of the token is one case of the definition. Assumes nothing.
use Rattle.heads.proofs.Laws.{lead_not, lead-yes, lead_full, tilde-refused, ne_yes, ne_no}
use Rattle.heads.specs.Heads.{lead_of}
use Rattle.calculus.specs.Commands.{lead_at, on_lead, halt}
use Rattle.lexer.specs.Tokens.{token_of}
use mathlib.Core.Path.{refl, sym, ap, ◌∙◌}
use Rattle.std.specs.Prelude.{Ok}
use Rattle.heads.proofs.Refusals.{passed_on, lead-off}
use Rattle.heads.proofs.lead_at.Goals as goal

pub returns-then-ne : goal.returns-then-ne
returns-then-ne c = (lead_not c.args.text.now c.args.at c.next_token.result c.next_token.ensures.0 c.next_token.ensures.1 _ _ _ _ (c.in_ok-next_token.was ∙ ap Ok c.in-Mark.is) (ne_yes _ _ (sym c.ne.ensures ∙ c.if-ne.true)), tt)

pub returns-then-k-lt-MAX_COMMANDS : goal.returns-then-k-lt-MAX_COMMANDS
returns-then-k-lt-MAX_COMMANDS c = lead-yes c.args.text.now c.args.at c.next_token.result c.next_token.ensures.0 c.next_token.ensures.1 _ _ _ _ (c.in_ok-next_token.was ∙ ap Ok c.in-Mark.is) (ne_no _ _ (sym c.ne.ensures ∙ c.if-ne.false)) c.if-k-lt-MAX_COMMANDS.true

pub returns-in-End : goal.returns-in-End
unfolding lead_of lead_at on_lead token_of
returns-in-End c = (rw (← c.next_token.ensures.0, c.in_ok-next_token.was, c.in-End.is), tt)

pub returns-else-k-lt-MAX_COMMANDS : goal.returns-else-k-lt-MAX_COMMANDS
returns-else-k-lt-MAX_COMMANDS c = (lead_full c.args.text.now c.args.at c.next_token.result c.next_token.ensures.0 c.next_token.ensures.1 _ _ _ _ (c.in_ok-next_token.was ∙ ap Ok c.in-Mark.is) (ne_no _ _ (sym c.ne.ensures ∙ c.if-ne.false)) c.if-k-lt-MAX_COMMANDS.false, tt)

pub returns-in-Tilde : goal.returns-in-Tilde
unfolding lead_of lead_at on_lead token_of
returns-in-Tilde c = (tilde-refused c.args.text.now c.args.at c.next_token.result c.next_token.ensures.0 c.next_token.ensures.1 (on_lead c.args.k) (halt 5 _) _ _ (c.in_ok-next_token.was ∙ ap Ok c.in-Tilde.is) (λ x. refl) refl, tt)

pub returns-in-Op : goal.returns-in-Op
returns-in-Op c = (lead-off c.args.text.now c.args.at c.next_token.result c.next_token.ensures.0 _ c.in_ok-next_token.was _ c.args.k c.in-Op.is, tt)

pub returns-in-Op-2 : goal.returns-in-Op-2
returns-in-Op-2 c = (lead-off c.args.text.now c.args.at c.next_token.result c.next_token.ensures.0 _ c.in_ok-next_token.was _ c.args.k c.in-Op.is, tt)

pub returns-in-Op-3 : goal.returns-in-Op-3
returns-in-Op-3 c = (lead-off c.args.text.now c.args.at c.next_token.result c.next_token.ensures.0 _ c.in_ok-next_token.was _ c.args.k c.in-Op.is, tt)

pub returns-in_err-next_token : goal.returns-in_err-next_token
unfolding lead_of lead_at on_lead token_of
returns-in_err-next_token c = rw (passed_on c.from_residual.result c.from_residual.ensures.1) (rw (← c.next_token.ensures.0, c.in_err-next_token.was), tt)
