-- The loop's invariant: the first terms are summands over names.
use mathlib.Core.Path.{sym, ap, ◌∙◌}
use Prim.Native.Nat.{ℕ}
use native.Mathlib.Omega.{arith}
use Rattle.calculus.specs.Matching.{is_name}
use Rattle.nodes.specs.Nodes.{decode}
use Rattle.marks.proofs.Reaching.{walk_refused, walk-next, walk-other}
use Rattle.marks.proofs.other_terms.Goals as goal

pub returns-in_default : goal.returns-in_default
returns-in_default c = walk_refused c.loop-t.invariant (omega arith) _ (rw c.in_default.is at c.read_summand.ensures)

pub returns-then-not-is_name : goal.returns-then-not-is_name
returns-then-not-is_name c = walk-other c.loop-t.invariant (omega arith) (rw c.in-Ok.is at c.read_summand.ensures) (λ s. sym c.if-not-is_name.true ∙ c.is_name.ensures s ∙ ap (λ (v : ℕ). is_name (decode s c.args.nodes.now v)) c.variable_of.ensures)

pub loop-t-preserved : goal.loop-t-preserved
loop-t-preserved c = walk-next c.loop-t.invariant (omega arith) (rw c.in-Ok.is at c.read_summand.ensures)
