use Prim.Native.Nat.{◌-◌, ◌+◌, ◌*◌}
use lib.ListN.{length}
use Rattle.terms.proofs.Steps.{Inv}
use Rattle.terms.proofs.+read_items_read_term.Given as goal

abbrev pub decreases-read_items : goal.decreases-read_items
decreases-read_items l = 2 * (66 - l.around)

abbrev pub decreases-read_term : goal.decreases-read_term
decreases-read_term l = 2 * (65 - l.around) + 1

abbrev pub invariant-read_items-loop-term : goal.invariant-read_items-loop-term
invariant-read_items-loop-term l = Inv l.text l.at l.around l.initial.nodes l.initial.pending l.initial.names l.n l.c l.p l.nodes l.pending l.names l.i l.m l.d l.q

abbrev pub decreases-read_items-loop-term : goal.decreases-read_items-loop-term
decreases-read_items-loop-term l = length l.text - l.i
