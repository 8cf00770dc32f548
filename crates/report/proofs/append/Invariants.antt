use Prim.Native.Nat.{◌+◌}
use lib.ListN.{take}
use Rattle.report.specs.Written.{Wrote}
use Rattle.report.proofs.append.Given as goal

abbrev pub invariant-loop-k : goal.invariant-loop-k
invariant-loop-k l = Wrote l.initial.report l.at (take l.k l.src) l.report (l.at + l.k)
