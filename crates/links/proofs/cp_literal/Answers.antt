-- Each way out is one law of proofs/Literals.
use mathlib.Core.Path.{◌∙◌, sym}
use native.Mathlib.Omega.{arith}
use Rattle.links.proofs.Literals.{literal-21, literal-22, literal-33, literal-rest}
use Rattle.links.proofs.cp_literal.Goals as goal

pub returns-then-conclusion-ne1 : goal.returns-then-conclusion-ne1
returns-then-conclusion-ne1 c = λ x I. literal-21 c.args.nodes.now c.args.commands.now c.args.premises.now c.args.args.now c.args.conclusion.now x (λ e. omega arith)

pub returns-then-args-ne1 : goal.returns-then-args-ne1
returns-then-args-ne1 c = λ x I. literal-22 c.args.nodes.now c.args.commands.now c.args.premises.now c.args.args.now c.args.conclusion.now x (omega arith) (λ e. omega arith)

pub returns-then-not-is_literal : goal.returns-then-not-is_literal
returns-then-not-is_literal c = λ x I. literal-33 c.args.nodes.now c.args.commands.now c.args.premises.now c.args.args.now c.args.conclusion.now x (omega arith) (omega arith) (sym c.if-not-is_literal.true ∙ c.is_literal.ensures x.text)

pub returns : goal.returns
returns c = λ x I. literal-rest c.args.nodes.now c.args.commands.now c.args.premises.now c.args.args.now c.args.conclusion.now x (omega arith) (omega arith) _ (sym c.if-not-is_literal.false ∙ c.is_literal.ensures x.text) (c.literal_agrees.ensures x (I.arguments 0 (omega arith)) (I.conclusion 0 (omega arith)))
