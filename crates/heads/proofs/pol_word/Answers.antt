-- `heads::pol_word` owes the word of a pol line that stands here, whatever ids are above: each arm of the token is one case of the definition. Assumes nothing.
use Rattle.calculus.specs.PolGrammar.{on_word, word_at}
use Rattle.lexer.specs.Tokens.{token_of}
use Rattle.heads.proofs.PolWords.{word-add, word-operator, word_number, word-named, word-negated, word-bad, tilde_in, name_in, number_in}
use native.Mathlib.Omega.{arith}
use mathlib.Core.Path.{ap, ◌∙◌}
use Rattle.std.specs.Prelude.{Ok}
use Rattle.heads.proofs.Refusals.{passed_on, word-off}
use Rattle.heads.proofs.pol_word.Goals as goal

pub returns-then-o-eq-ADD : goal.returns-then-o-eq-ADD
returns-then-o-eq-ADD c = word-add c.args.text.now c.args.at c.next_token.result c.next_token.ensures.0 c.next_token.ensures.1 _ _ _ (c.in_ok-p.was ∙ ap Ok c.in-Op.is) c.if-o-eq-ADD.true

pub factor-requires : goal.factor-requires
factor-requires c = number_in c.args.text.now c.args.at c.next_token.result c.next_token.ensures.0 c.next_token.ensures.1 _ _ _ _ (c.in_ok-p.was ∙ ap Ok c.in-Num.is)

pub named_word-requires : goal.named_word-requires
named_word-requires c = name_in c.args.text.now c.args.at c.next_token.result c.next_token.ensures.0 c.next_token.ensures.1 _ _ (c.in_ok-p.was ∙ ap Ok c.in-Name.is)

pub negates-requires : goal.negates-requires
negates-requires c = tilde_in c.args.text.now c.args.at c.next_token.result c.next_token.ensures.0 c.next_token.ensures.1 _ _ (c.in_ok-p.was ∙ ap Ok c.in-Tilde.is)

pub overflow_add-result : goal.overflow_add-result
overflow_add-result c = omega (arith, (tilde_in c.args.text.now c.args.at c.next_token.result c.next_token.ensures.0 c.next_token.ensures.1 _ _ (c.in_ok-p.was ∙ ap Ok c.in-Tilde.is)).0, (tilde_in c.args.text.now c.args.at c.next_token.result c.next_token.ensures.0 c.next_token.ensures.1 _ _ (c.in_ok-p.was ∙ ap Ok c.in-Tilde.is)).1)

pub returns-then-negates : goal.returns-then-negates
returns-then-negates c = word-negated c.args.text.now c.args.at c.next_token.result c.next_token.ensures.0 c.next_token.ensures.1 _ _ (c.in_ok-p.was ∙ ap Ok c.in-Tilde.is) c.negates.result c.negates.ensures c.if-negates.true

pub returns-else-o-eq-ADD : goal.returns-else-o-eq-ADD
returns-else-o-eq-ADD c = (word-operator c.args.text.now c.args.at c.next_token.result c.next_token.ensures.0 c.next_token.ensures.1 _ _ _ (c.in_ok-p.was ∙ ap Ok c.in-Op.is) c.if-o-eq-ADD.false, tt)

pub returns-in-Num : goal.returns-in-Num
returns-in-Num c = word_number c.args.text.now c.args.at c.next_token.result c.next_token.ensures.0 c.next_token.ensures.1 _ _ _ _ (c.in_ok-p.was ∙ ap Ok c.in-Num.is) c.factor.result c.factor.ensures.0 c.factor.ensures.1

pub returns-in-Name : goal.returns-in-Name
returns-in-Name c = word-named c.args.text.now c.args.at c.next_token.result c.next_token.ensures.0 c.next_token.ensures.1 _ _ (c.in_ok-p.was ∙ ap Ok c.in-Name.is) c.named_word.result c.named_word.ensures.0 c.named_word.ensures.1

pub returns-else-negates : goal.returns-else-negates
returns-else-negates c = (word-bad c.args.text.now c.args.at c.next_token.result c.next_token.ensures.0 c.next_token.ensures.1 _ _ (c.in_ok-p.was ∙ ap Ok c.in-Tilde.is) c.negates.result c.negates.ensures c.if-negates.false, tt)

pub returns-in-End : goal.returns-in-End
returns-in-End c = (word-off c.args.text.now c.args.at c.next_token.result c.next_token.ensures.0 _ c.in_ok-p.was _ c.in-End.is, tt)

pub returns-in-End-2 : goal.returns-in-End-2
returns-in-End-2 c = (word-off c.args.text.now c.args.at c.next_token.result c.next_token.ensures.0 _ c.in_ok-p.was _ c.in-End.is, tt)

pub returns-in_err-p : goal.returns-in_err-p
unfolding word_at on_word token_of
returns-in_err-p c = rw (passed_on c.from_residual.result c.from_residual.ensures.1) (λ above n. rw (← c.next_token.ensures.0, c.in_err-p.was), tt)
