use mathlib.Core.Path.{◌≡◌}
use mathlib.Core.List.{List}
use Prim.Native.Nat.{◌≤◌}
use lib.ListN.{take}
use Rattle.calculus.specs.Marks.{Line, refused_in}
use Rattle.report.specs.Lines.{Counted}
use Rattle.report.proofs.count_refused.Given as goal

abbrev pub invariant-loop-number : goal.invariant-loop-number
invariant-loop-number l = (l.refused ≤ l.number-index) × ((ls : List Line) → Counted l.numbers l.n ls → refused_in (take l.number-index ls) ≡ l.refused)
