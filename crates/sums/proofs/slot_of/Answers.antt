-- `sums::slot_of` owes the key behind the first slot of its place.
use native.Mathlib.Omega.{arith}
use Rattle.sums.proofs.slot_of.Goals as goal

pub overflow_add-result : goal.overflow_add-result
overflow_add-result c = omega (arith, c.wide.ensures, c.requires, c.slots_of.ensures.1)

pub returns : goal.returns
returns c = (omega (arith, c.wide.ensures, c.slots_of.ensures.0), omega (arith, c.wide.ensures, c.requires, c.slots_of.ensures.1))
