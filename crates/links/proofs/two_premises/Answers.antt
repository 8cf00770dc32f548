-- Each count's way out is one law of proofs/Fronts.
use native.Mathlib.Omega.{arith}
use Rattle.links.proofs.Fronts.{both-premises, both_left, both_right, both-arguments, both-conclusion, both-all}
use Rattle.links.proofs.two_premises.Goals as goal

pub returns-then-premises-ne2 : goal.returns-then-premises-ne2
returns-then-premises-ne2 c = both-premises c.args.nodes.now c.args.commands.now c.args.premises.now c.args.args.now c.args.conclusion.now (λ e. omega arith)

pub returns-then-left-ne1 : goal.returns-then-left-ne1
returns-then-left-ne1 c = both_left c.args.nodes.now c.args.commands.now c.args.premises.now c.args.args.now c.args.conclusion.now (omega arith) c.clause_of-left.result.now c.clause_of-left.ensures (λ e. omega arith)

pub returns-then-right-ne1 : goal.returns-then-right-ne1
returns-then-right-ne1 c = both_right c.args.nodes.now c.args.commands.now c.args.premises.now c.args.args.now c.args.conclusion.now (omega arith) c.clause_of-left.result.now c.clause_of-left.ensures (omega arith) c.clause_of-right.result.now c.clause_of-right.ensures (λ e. omega arith)

pub returns-then-args-ne0 : goal.returns-then-args-ne0
returns-then-args-ne0 c = both-arguments c.args.nodes.now c.args.commands.now c.args.premises.now c.args.args.now c.args.conclusion.now (omega arith) c.clause_of-left.result.now c.clause_of-left.ensures (omega arith) c.clause_of-right.result.now c.clause_of-right.ensures (omega arith) (λ e. omega arith)

pub returns-then-conclusion-ne1 : goal.returns-then-conclusion-ne1
returns-then-conclusion-ne1 c = both-conclusion c.args.nodes.now c.args.commands.now c.args.premises.now c.args.args.now c.args.conclusion.now (omega arith) c.clause_of-left.result.now c.clause_of-left.ensures (omega arith) c.clause_of-right.result.now c.clause_of-right.ensures (omega arith) (omega arith) (λ e. omega arith)

pub returns : goal.returns
returns c = both-all c.args.nodes.now c.args.commands.now c.args.premises.now c.args.args.now c.args.conclusion.now (omega arith) c.clause_of-left.result.now c.clause_of-left.ensures (omega arith) c.clause_of-right.result.now c.clause_of-right.ensures (omega arith) (omega arith) c.requires.step c.requires.all_nodes (omega arith)
