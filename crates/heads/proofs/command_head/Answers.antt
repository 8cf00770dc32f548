-- `heads::command_head` owes whether `assume`, `pol` or `step` stands here: each arm of the token is one case of the definition. Assumes nothing.
use Rattle.heads.specs.Heads.{kind_of, Neither}
use Rattle.heads.proofs.Laws.{kind-assume, kind-step, kind-none, kind-pol, kind-name, tilde-refused, eq_yes, eq_no}
use Rattle.heads.proofs.PolWords.{name_in}
use Rattle.lexer.specs.Tokens.{token_of}
use mathlib.Core.Path.{refl, sym, ap, ◌∙◌}
use Rattle.std.specs.Prelude.{Ok}
use Rattle.heads.proofs.Refusals.{passed_on, kind-off}
use Rattle.heads.proofs.command_head.Goals as goal

pub returns-then-eq : goal.returns-then-eq
returns-then-eq c = let h = kind-assume c.args.text.now c.args.at c.next_token.result c.next_token.ensures.0 c.next_token.ensures.1 _ _ _ (c.in_ok-k.was ∙ ap Ok c.in-Mark.is) (eq_yes _ _ (sym c.eq.ensures ∙ c.if-eq.true)) in (h.0, (h.1, h.2))

pub returns-then-eq-2 : goal.returns-then-eq-2
returns-then-eq-2 c = let h = kind-step c.args.text.now c.args.at c.next_token.result c.next_token.ensures.0 c.next_token.ensures.1 _ _ _ (c.in_ok-k.was ∙ ap Ok c.in-Mark.is) (eq_yes _ _ (sym c.eq-in-Mark.ensures ∙ c.if-eq-2.true)) in (h.0, (h.1, h.2))

pub is_pol-requires : goal.is_pol-requires
is_pol-requires c = name_in c.args.text.now c.args.at c.next_token.result c.next_token.ensures.0 c.next_token.ensures.1 _ _ (c.in_ok-k.was ∙ ap Ok c.in-Name.is)

pub returns-then-is_pol : goal.returns-then-is_pol
returns-then-is_pol c = let h = kind-pol c.args.text.now c.args.at c.next_token.result c.next_token.ensures.0 c.next_token.ensures.1 _ _ (c.in_ok-k.was ∙ ap Ok c.in-Name.is) (sym c.if-is_pol.true ∙ c.is_pol.ensures) in (h.0, (h.1, h.2))

pub returns-in-Tilde : goal.returns-in-Tilde
unfolding kind_of token_of
returns-in-Tilde c = (tilde-refused c.args.text.now c.args.at c.next_token.result c.next_token.ensures.0 c.next_token.ensures.1 kind_of (Neither 5 _) _ _ (c.in_ok-k.was ∙ ap Ok c.in-Tilde.is) (λ x. refl) refl, tt)

pub returns-else-eq-2 : goal.returns-else-eq-2
returns-else-eq-2 c = (kind-none c.args.text.now c.args.at c.next_token.result c.next_token.ensures.0 c.next_token.ensures.1 _ _ _ (c.in_ok-k.was ∙ ap Ok c.in-Mark.is) (eq_no _ _ (sym c.eq.ensures ∙ c.if-eq.false)) (eq_no _ _ (sym c.eq-in-Mark.ensures ∙ c.if-eq-2.false)), tt)

pub returns-else-is_pol : goal.returns-else-is_pol
returns-else-is_pol c = (kind-name c.args.text.now c.args.at c.next_token.result c.next_token.ensures.0 c.next_token.ensures.1 _ _ (c.in_ok-k.was ∙ ap Ok c.in-Name.is) (sym c.if-is_pol.false ∙ c.is_pol.ensures), tt)

pub returns-in-End : goal.returns-in-End
returns-in-End c = (kind-off c.args.text.now c.args.at c.next_token.result c.next_token.ensures.0 _ c.in_ok-k.was _ c.in-End.is, tt)

pub returns-in-End-2 : goal.returns-in-End-2
returns-in-End-2 c = (kind-off c.args.text.now c.args.at c.next_token.result c.next_token.ensures.0 _ c.in_ok-k.was _ c.in-End.is, tt)

pub returns-in-End-3 : goal.returns-in-End-3
returns-in-End-3 c = (kind-off c.args.text.now c.args.at c.next_token.result c.next_token.ensures.0 _ c.in_ok-k.was _ c.in-End.is, tt)

pub returns-in_err-k : goal.returns-in_err-k
unfolding kind_of token_of
returns-in_err-k c = rw (passed_on c.from_residual.result c.from_residual.ensures.1) (rw (← c.next_token.ensures.0, c.in_err-k.was), tt)
