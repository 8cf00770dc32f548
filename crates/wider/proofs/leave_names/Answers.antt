-- `wider::leave_names` owes the index without the nodes from n on. The invariant: those before k are in it.
use mathlib.Core.Path.{◌≡◌, ◌∙◌}
use Prim.Native.Nat.{◌+◌, ◌-◌}
use native.Mathlib.Omega.{arith}
use Rattle.wider.proofs.Indexing.{names-left}
use Rattle.wider.proofs.leave_names.Goals as goal

pub loop-k-preserved : goal.loop-k-preserved
loop-k-preserved c = (
  omega arith,
  (let e : c.loop-k.k ≡ c.loop-k.k - 1 + 1 = omega arith in names-left (rw e at c.loop-k.invariant.1) (c.requires.4 (c.loop-k.k - 1) (omega arith) (omega arith)) (c.hash-h.ensures.0 ∙ rw (c.first_of.ensures, c.second_of.ensures)) c.leave.ensures),
)
