-- The loop's invariant: the value so far and what the other entries add are together that of the whole.
use mathlib.Core.Path.{◌∙◌}
use native.Mathlib.Omega.{arith}
use Rattle.integer.proofs.Signed.{back}
use Rattle.matching.proofs.Matches.{kept}
use Rattle.marks.proofs.Values.{adding-next, adding_end}
use Rattle.marks.proofs.greatest.Goals as goal

pub loop-i-preserved : goal.loop-i-preserved
loop-i-preserved c = adding-next c.loop-i.invariant (omega arith) c.greatest_at.ensures _ (back c.add-value.result c.add-value.type_inv ∙ rw (kept (omega arith) c.greatest_at.ensures.within) at c.add-value.ensures)

pub returns : goal.returns
returns c = adding_end c.loop-i.invariant (omega arith) (omega arith) c.requires.keyed.2
