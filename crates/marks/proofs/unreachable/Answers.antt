-- Each way out is a law: no clause of one term, one within reach, one that is not read, one over other terms than names, and the test itself.
use native.Mathlib.Omega.{arith}
use Rattle.marks.proofs.Values.{read-keyed, clause-count, clause-reached, clause-refused, clause-terms, clause-beyond}
use Rattle.marks.proofs.unreachable.Goals as goal

pub returns-then-clause-ne1 : goal.returns-then-clause-ne1
returns-then-clause-ne1 c = clause-count c.args.nodes.now c.args.clause.now (λ e. omega (arith, e, c.if-clause-ne1.true))

pub returns-then-reached : goal.returns-then-reached
returns-then-reached c = clause-reached c.args.nodes.now c.args.clause.now (omega (arith, c.if-clause-ne1.false)) _ c.reached.ensures c.if-reached.true

pub returns-in_default : goal.returns-in_default
returns-in_default c = clause-refused c.args.nodes.now c.args.clause.now (omega (arith, c.if-clause-ne1.false)) (rw c.in_default.is at c.unwrap_pseudoboolean_inequality.ensures).0

pub all_names-requires : goal.all_names-requires
all_names-requires c = let r = rw c.in-Ok.is at c.unwrap_pseudoboolean_inequality.ensures in (λ i h. (r.0.fine.literals i h).node, (read-keyed c.requires.room r.1 r.0.fine).1, omega arith, r.0.fine.few)

pub returns-then-not-all_names : goal.returns-then-not-all_names
returns-then-not-all_names c = let r = rw c.in-Ok.is at c.unwrap_pseudoboolean_inequality.ensures in clause-terms c.args.nodes.now c.args.clause.now (omega (arith, c.if-clause-ne1.false)) r.0 c.all_names.ensures c.if-not-all_names.true

pub greatest-value-requires : goal.greatest-value-requires
greatest-value-requires c = let r = rw c.in-Ok.is at c.unwrap_pseudoboolean_inequality.ensures in let k = read-keyed c.requires.room r.1 r.0.fine in record {
  keyed = (k.0, k.2, r.0.few);
  bounded = r.0.bounded;
}

pub returns : goal.returns
returns c = clause-beyond c.args.nodes.now c.args.clause.now (omega (arith, c.if-clause-ne1.false)) (rw c.in-Ok.is at c.unwrap_pseudoboolean_inequality.ensures).0 c.all_names.ensures c.if-not-all_names.false c.greatest-value.ensures _ c.less.ensures
