use mathlib.Core.Path.{◌≡◌}
use Prim.Native.Nat.{◌-◌, ◌≤◌}
use lib.ListN.{length}
use Rattle.lines.proofs.Passing.{Pass}
use Rattle.lines.proofs.run_words.Given as goal

abbrev pub invariant-loop-head : goal.invariant-loop-head
invariant-loop-head l =
    Pass l.text l.initial.nodes l.nodes l.commands l.names l.coeffs l.keys l.slots l.all l.k l.from l.n l.i l.m l.d × (l.i ≤ length l.text) × (length l.nodes ≡ length l.initial.nodes) × (length l.names ≡ length l.initial.names) × (length l.coeffs ≡ length l.initial.coeffs) × (length l.keys ≡ length l.initial.keys) × (length l.slots ≡ length l.initial.slots)

abbrev pub decreases-loop-head : goal.decreases-loop-head
decreases-loop-head l = length l.text - l.i
