-- `sums::slots_of` owes where the slots of a place begin.
use native.Mathlib.Omega.{arith}
use Rattle.sums.specs.Places.{key_room}
use Rattle.sums.proofs.Places.{slots-left, slots-other}
use Rattle.sums.proofs.slots_of.Goals as goal

pub returns-then-at-eq-LEFT : goal.returns-then-at-eq-LEFT
returns-then-at-eq-LEFT c = let z = slots-left (key_room c.args.slots.now) c.args.at (omega arith) in (omega (arith, z), omega arith)

pub returns : goal.returns
returns c = let z = slots-other (key_room c.args.slots.now) c.args.at (λ e. omega arith) in (omega (arith, z), omega arith)
