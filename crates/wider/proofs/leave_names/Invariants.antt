use Prim.Native.Nat.{◌≤◌}
use Rattle.terms.specs.Names.{Names}
use Rattle.wider.proofs.leave_names.Given as goal

abbrev pub invariant-loop-k : goal.invariant-loop-k
invariant-loop-k l = (l.n ≤ l.k) × Names l.text l.nodes l.names l.k
