-- `heads::factor` owes the word that a numeral is with what stands behind it: each arm of the token is one case of the definition. Assumes nothing.
use Rattle.calculus.specs.PolGrammar.{on_factor}
use Rattle.lexer.specs.Tokens.{token_of}
use Rattle.heads.proofs.PolWords.{factor-times, factor-operator, factor_d, factor-name, factor_tilde, factor-bad, tilde_in, name_in}
use mathlib.Core.Path.{sym, ap, ◌∙◌}
use Rattle.std.specs.Prelude.{Ok}
use Rattle.heads.proofs.Refusals.{passed_on, factor-off}
use Rattle.heads.proofs.factor.Goals as goal

pub returns-then-o-eq-TIMES : goal.returns-then-o-eq-TIMES
returns-then-o-eq-TIMES c = factor-times c.args.text.now c.args.at c.next_token.result c.next_token.ensures.0 c.next_token.ensures.1 c.args.minus c.args.v _ _ _ (c.in_ok-p.was ∙ ap Ok c.in-Op.is) c.if-o-eq-TIMES.true

pub is_byte-requires : goal.is_byte-requires
is_byte-requires c = name_in c.args.text.now c.args.at c.next_token.result c.next_token.ensures.0 c.next_token.ensures.1 _ _ (c.in_ok-p.was ∙ ap Ok c.in-Name.is)

pub returns-then-is_byte : goal.returns-then-is_byte
returns-then-is_byte c = factor_d c.args.text.now c.args.at c.next_token.result c.next_token.ensures.0 c.next_token.ensures.1 c.args.minus c.args.v _ _ (c.in_ok-p.was ∙ ap Ok c.in-Name.is) (sym c.if-is_byte.true ∙ c.is_byte.ensures)

pub negates-requires : goal.negates-requires
negates-requires c = tilde_in c.args.text.now c.args.at c.next_token.result c.next_token.ensures.0 c.next_token.ensures.1 _ _ (c.in_ok-p.was ∙ ap Ok c.in-Tilde.is)

pub returns-then-negates : goal.returns-then-negates
returns-then-negates c = (factor_tilde c.args.text.now c.args.at c.next_token.result c.next_token.ensures.0 c.next_token.ensures.1 c.args.minus c.args.v _ _ (c.in_ok-p.was ∙ ap Ok c.in-Tilde.is) c.negates.result c.negates.ensures c.if-negates.true, tt)

pub returns-else-o-eq-TIMES : goal.returns-else-o-eq-TIMES
returns-else-o-eq-TIMES c = (factor-operator c.args.text.now c.args.at c.next_token.result c.next_token.ensures.0 c.next_token.ensures.1 c.args.minus c.args.v _ _ _ (c.in_ok-p.was ∙ ap Ok c.in-Op.is) c.if-o-eq-TIMES.false, tt)

pub returns-else-is_byte : goal.returns-else-is_byte
returns-else-is_byte c = (factor-name c.args.text.now c.args.at c.next_token.result c.next_token.ensures.0 c.next_token.ensures.1 c.args.minus c.args.v _ _ (c.in_ok-p.was ∙ ap Ok c.in-Name.is) (sym c.if-is_byte.false ∙ c.is_byte.ensures), tt)

pub returns-else-negates : goal.returns-else-negates
returns-else-negates c = (factor-bad c.args.text.now c.args.at c.next_token.result c.next_token.ensures.0 c.next_token.ensures.1 c.args.minus c.args.v _ _ (c.in_ok-p.was ∙ ap Ok c.in-Tilde.is) c.negates.result c.negates.ensures c.if-negates.false, tt)

pub returns-in-End : goal.returns-in-End
returns-in-End c = (factor-off c.args.text.now c.args.at c.next_token.result c.next_token.ensures.0 _ c.in_ok-p.was _ c.args.minus c.args.v c.in-End.is, tt)

pub returns-in-End-2 : goal.returns-in-End-2
returns-in-End-2 c = (factor-off c.args.text.now c.args.at c.next_token.result c.next_token.ensures.0 _ c.in_ok-p.was _ c.args.minus c.args.v c.in-End.is, tt)

pub returns-in-Num : goal.returns-in-Num
unfolding on_factor token_of
returns-in-Num c = (λ above n. rw (← c.next_token.ensures.0, c.in_ok-p.was, c.in-Num.is), tt)

pub returns-in_err-p : goal.returns-in_err-p
unfolding on_factor token_of
returns-in_err-p c = rw (passed_on c.from_residual.result c.from_residual.ensures.1) (λ above n. rw (← c.next_token.ensures.0, c.in_err-p.was), tt)
