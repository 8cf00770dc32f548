use mathlib.Core.Path.{◌≡◌}
use lib.ListN.{drop}
use Rattle.checker.specs.Runs.{all_marked}
use Rattle.checker.proofs.all_hold.Given as goal

abbrev pub invariant-loop-premise : goal.invariant-loop-premise
invariant-loop-premise l = all_marked l.marks l.premises ≡ all_marked l.marks (drop l.premise-index l.premises)
