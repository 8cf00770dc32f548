-- `heads::begin` owes how a term begins, with its ranges and the limits: each arm of the token is one case of the definition. Assumes nothing.
use Rattle.calculus.specs.Grammar.{head_at, on_term, stop}
use Rattle.lexer.specs.Tokens.{token_of}
use Rattle.heads.specs.Heads.{head_of}
use Rattle.heads.proofs.Laws.{mark-later, begin-not, begin-open, begin-full, begin-number, begin-number-full, begin-name, begin-name-full, tilde-refused, ne_yes, ne_no}
use mathlib.Core.Path.{refl, sym, ap, ◌∙◌}
use Rattle.std.specs.Prelude.{Ok}
use Rattle.heads.proofs.Refusals.{passed_on, begin-off}
use Rattle.heads.proofs.begin.Goals as goal

pub returns-then-ne : goal.returns-then-ne
returns-then-ne c = (begin-not c.args.text.now c.args.at c.next_token.result c.next_token.ensures.0 c.next_token.ensures.1 _ _ _ _ _ (c.in_ok-p.was ∙ ap Ok c.in-Mark.is) (ne_yes _ _ (sym c.ne.ensures ∙ c.if-ne.true)), tt)

pub operator-requires : goal.operator-requires
operator-requires c = (mark-later c.args.text.now c.args.at c.next_token.result c.next_token.ensures.0 c.next_token.ensures.1 _ _ _ (c.in_ok-p.was ∙ ap Ok c.in-Mark.is)).1

pub returns-then-room : goal.returns-then-room
returns-then-room c = begin-open c.args.text.now c.args.at c.next_token.result c.next_token.ensures.0 c.next_token.ensures.1 _ _ _ _ _ c.operator.result (c.in_ok-p.was ∙ ap Ok c.in-Mark.is) (ne_no _ _ (sym c.ne.ensures ∙ c.if-ne.false)) (sym c.if-room.true ∙ c.room.ensures) c.operator.ensures.0 c.operator.ensures.1

pub returns-then-room-2 : goal.returns-then-room-2
returns-then-room-2 c = begin-number c.args.text.now c.args.at c.next_token.result c.next_token.ensures.0 c.next_token.ensures.1 _ _ _ _ _ _ (c.in_ok-p.was ∙ ap Ok c.in-Num.is) (sym c.if-room-2.true ∙ c.room-in-Num.ensures)

pub returns-then-room-3 : goal.returns-then-room-3
returns-then-room-3 c = begin-name c.args.text.now c.args.at c.next_token.result c.next_token.ensures.0 c.next_token.ensures.1 _ _ _ _ (c.in_ok-p.was ∙ ap Ok c.in-Name.is) (sym c.if-room-3.true ∙ c.room-in-Name.ensures)

pub returns-in-Tilde : goal.returns-in-Tilde
unfolding head_of head_at on_term token_of
returns-in-Tilde c = (tilde-refused c.args.text.now c.args.at c.next_token.result c.next_token.ensures.0 c.next_token.ensures.1 (on_term c.args.text.now c.args.level c.args.n) (stop 5 _) _ _ (c.in_ok-p.was ∙ ap Ok c.in-Tilde.is) (λ x. refl) refl, tt)

pub returns-else-room : goal.returns-else-room
returns-else-room c = (begin-full c.args.text.now c.args.at c.next_token.result c.next_token.ensures.0 c.next_token.ensures.1 _ _ _ _ _ (c.in_ok-p.was ∙ ap Ok c.in-Mark.is) (ne_no _ _ (sym c.ne.ensures ∙ c.if-ne.false)) (sym c.if-room.false ∙ c.room.ensures), tt)

pub returns-else-room-2 : goal.returns-else-room-2
returns-else-room-2 c = (begin-number-full c.args.text.now c.args.at c.next_token.result c.next_token.ensures.0 c.next_token.ensures.1 _ _ _ _ _ _ (c.in_ok-p.was ∙ ap Ok c.in-Num.is) (sym c.if-room-2.false ∙ c.room-in-Num.ensures), tt)

pub returns-else-room-3 : goal.returns-else-room-3
returns-else-room-3 c = (begin-name-full c.args.text.now c.args.at c.next_token.result c.next_token.ensures.0 c.next_token.ensures.1 _ _ _ _ (c.in_ok-p.was ∙ ap Ok c.in-Name.is) (sym c.if-room-3.false ∙ c.room-in-Name.ensures), tt)

pub returns-in-End : goal.returns-in-End
returns-in-End c = (begin-off c.args.text.now c.args.at c.next_token.result c.next_token.ensures.0 _ c.in_ok-p.was _ c.args.level c.args.n c.in-End.is, tt)

pub returns-in-End-2 : goal.returns-in-End-2
returns-in-End-2 c = (begin-off c.args.text.now c.args.at c.next_token.result c.next_token.ensures.0 _ c.in_ok-p.was _ c.args.level c.args.n c.in-End.is, tt)

pub returns-in_err-p : goal.returns-in_err-p
unfolding head_of head_at on_term token_of
returns-in_err-p c = rw (passed_on c.from_residual.result c.from_residual.ensures.1) (rw (← c.next_token.ensures.0, c.in_err-p.was), tt)
