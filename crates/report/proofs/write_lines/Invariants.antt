use mathlib.Core.List.{List}
use Prim.Native.Nat.{◌≤◌, ◌*◌}
use lib.ListN.{take}
use Rattle.calculus.specs.Marks.{Line}
use Rattle.report.specs.Written.{Wrote}
use Rattle.report.specs.Lines.{LinesAre, lines_text, line_room}
use Rattle.report.proofs.write_lines.Given as goal

abbrev pub invariant-loop-k : goal.invariant-loop-k
invariant-loop-k l = (l.at ≤ line_room * l.k) × ((ls : List Line) → LinesAre l.text l.commands l.numbers l.plains l.marks l.n ls → Wrote l.initial.report 0 (lines_text (take l.k ls)) l.report l.at)
