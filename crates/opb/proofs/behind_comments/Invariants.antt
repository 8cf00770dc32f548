use Prim.Native.Nat.{◌+◌}
use mathlib.Core.Path.{◌≡◌}
use lib.ListN.{drop}
use Rattle.calculus.specs.OpbWords.{gap, place_at}
use Rattle.opb.specs.Tokens.{place_of}
use Rattle.opb.proofs.behind_comments.Given as goal

abbrev pub invariant-loop-i : goal.invariant-loop-i
invariant-loop-i l = l.i + gap (place_of l.place) (drop l.i l.text) ≡ l.at + gap (place_at l.text l.at) (drop l.at l.text)
