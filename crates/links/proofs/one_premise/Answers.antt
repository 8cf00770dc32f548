-- Each count's way out is one law of proofs/Fronts.
use native.Mathlib.Omega.{arith}
use Rattle.links.proofs.Fronts.{one-premises, one-clause, one-arguments, one-all}
use Rattle.links.proofs.one_premise.Goals as goal

pub returns-then-premises-ne1 : goal.returns-then-premises-ne1
returns-then-premises-ne1 c = one-premises c.args.nodes.now c.args.commands.now c.args.premises.now c.args.args.now (λ e. omega arith)

pub returns-then-clause-ne1 : goal.returns-then-clause-ne1
returns-then-clause-ne1 c = one-clause c.args.nodes.now c.args.commands.now c.args.premises.now c.args.args.now (omega arith) c.clause_of-clause.result.now c.clause_of-clause.ensures (λ e. omega arith)

pub returns-then-args-ne1 : goal.returns-then-args-ne1
returns-then-args-ne1 c = one-arguments c.args.nodes.now c.args.commands.now c.args.premises.now c.args.args.now (omega arith) c.clause_of-clause.result.now c.clause_of-clause.ensures (omega arith) (λ e. omega arith)

pub returns : goal.returns
returns c = one-all c.args.nodes.now c.args.commands.now c.args.premises.now c.args.args.now (omega arith) c.clause_of-clause.result.now c.clause_of-clause.ensures (omega arith) (c.requires) (omega arith)
