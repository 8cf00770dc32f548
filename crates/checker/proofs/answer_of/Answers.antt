-- An assumption is accepted; what the reader publishes of a step is what its rule needs, and the rule's answer is the line's.
use native.Mathlib.Omega.{arith}
use Rattle.checker.proofs.Answering.{given-of, by_assumption, by-step}
use Rattle.checker.proofs.answer_of.Goals as goal

pub returns-then-word_of-eq0 : goal.returns-then-word_of-eq0
returns-then-word_of-eq0 c = λ s f o. by_assumption f c.args.k (omega arith)

pub check_step-requires-clause-given : goal.check_step-requires-clause-given
check_step-requires-clause-given c = given-of c.requires.filed.0.1 c.args.k c.requires.filed.1 (omega arith)

pub returns : goal.returns
returns c = λ s f o. by-step f c.args.k c.check_step.result c.requires.filed.1 (omega arith) o c.check_step.ensures
