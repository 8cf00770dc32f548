-- `pol::push_line` owes what a pushed id makes of the stack: 52, 54, 53 in that order.
use native.Mathlib.Omega.{arith}
use Rattle.matching.proofs.Matches.{kept}
use Rattle.pol.proofs.Pushing.{pushed_full, pushed_none, pushed_unread, pushed-other, pushed-kept}
use Rattle.pol.proofs.push_line.Goals as goal

pub returns-then-d-ge-STACK_ENTRIES : goal.returns-then-d-ge-STACK_ENTRIES
returns-then-d-ge-STACK_ENTRIES c = pushed_full _ _ _ _ _ (omega arith)

pub returns-then-clause-ne1 : goal.returns-then-clause-ne1
returns-then-clause-ne1 c = rw (← c.part_of-clause.ensures) (pushed_none _ _ _ _ _ (omega arith) (λ e. omega arith))

pub returns-in_default : goal.returns-in_default
returns-in_default c = rw (← c.part_of-clause.ensures) (pushed_unread _ _ _ _ _ (omega arith) (omega arith) (rw c.in_default.is at c.unwrap_pseudoboolean_inequality.ensures).0)

pub returns-then-not-all_names : goal.returns-then-not-all_names
returns-then-not-all_names c = rw (← c.part_of-clause.ensures) (pushed-other _ _ _ _ _ (omega arith) (omega arith) (rw c.in-Ok.is at c.unwrap_pseudoboolean_inequality.ensures).0 c.all_names.ensures c.if-not-all_names.true)

pub returns : goal.returns
returns c = let r = rw c.in-Ok.is at c.unwrap_pseudoboolean_inequality.ensures in rw (← c.part_of-clause.ensures) (pushed-kept _ _ _ _ _ (omega arith) (omega arith) r.0 r.1 (rw c.if-not-all_names.false at c.all_names.ensures) c.requires.stack.0 (rw (kept (omega arith) r.0.within) at c.keep.ensures))
