-- Each count's way out is one law of proofs/Mapping.
use native.Mathlib.Omega.{arith}
use Rattle.rules.proofs.Mapping.{cap-20, cap-22, cap-premise, cap-conclusion, cap-all}
use Rattle.rules.proofs.capped_terms.Goals as goal

pub returns-then-premises-ne1 : goal.returns-then-premises-ne1
returns-then-premises-ne1 c = λ x. cap-20 c.args.nodes.now c.args.commands.now c.args.premises.now c.args.args.now c.args.conclusion.now x (λ e. omega arith)

pub returns-then-args-ne0 : goal.returns-then-args-ne0
returns-then-args-ne0 c = λ x. cap-22 c.args.nodes.now c.args.commands.now c.args.premises.now c.args.args.now c.args.conclusion.now x (omega arith) (λ e. omega arith)

pub returns-then-clause-ne1 : goal.returns-then-clause-ne1
returns-then-clause-ne1 c = λ x. cap-premise c.args.nodes.now c.args.commands.now c.args.premises.now c.args.args.now c.args.conclusion.now x (omega arith) (omega arith) c.clause_of-clause.result.now c.clause_of-clause.ensures (λ e. omega arith)

pub returns-then-conclusion-ne1 : goal.returns-then-conclusion-ne1
returns-then-conclusion-ne1 c = λ x. cap-conclusion c.args.nodes.now c.args.commands.now c.args.premises.now c.args.args.now c.args.conclusion.now x (omega arith) (omega arith) c.clause_of-clause.result.now c.clause_of-clause.ensures (omega arith) (λ e. omega arith)

pub returns : goal.returns
returns c = cap-all c.args.nodes.now c.args.commands.now c.args.premises.now c.args.args.now c.args.conclusion.now (omega arith) (omega arith) c.clause_of-clause.result.now c.clause_of-clause.ensures (omega arith) (omega arith) c.requires.step c.requires.all_nodes
