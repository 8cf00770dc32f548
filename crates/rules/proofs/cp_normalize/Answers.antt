-- The conclusion's count, then its term.
use native.Mathlib.Omega.{arith}
use Rattle.rules.proofs.Normalizing.{normalize-21, normalize-one}
use Rattle.rules.proofs.cp_normalize.Goals as goal

pub returns-then-conclusion-ne1 : goal.returns-then-conclusion-ne1
returns-then-conclusion-ne1 c = λ x I. normalize-21 c.args.nodes.now c.args.commands.now c.args.premises.now c.args.args.now c.args.conclusion.now x (λ e. omega arith)

pub returns : goal.returns
returns c = λ x I. normalize-one c.args.nodes.now c.args.commands.now c.args.premises.now c.args.args.now c.args.conclusion.now x _ (omega arith) (c.normalized.ensures.is x (I.conclusion 0 (omega arith)))
