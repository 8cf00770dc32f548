-- `sums::append` owes one entry more and its slot. Three places are written, each inside the room.
use native.Mathlib.Omega.{arith}
use mir.Facts.{to_z-of_z}
use Rattle.sums.proofs.Places.{appended_at}
use Rattle.sums.proofs.append.Goals as goal

pub slot_of-slot-requires : goal.slot_of-slot-requires
slot_of-slot-requires c = c.requires.n_lt_max_entries.1

pub offset_bounds-slots-slot : goal.offset_bounds-slots-slot
offset_bounds-slots-slot c = omega (arith, c.slot_of-slot.ensures.1)

pub bounds-slots-slot : goal.bounds-slots-slot
bounds-slots-slot c = omega (arith, c.slot_of-slot.ensures.1)

pub returns : goal.returns
returns c = rw (c.slot_of-slot.ensures.0, to_z-of_z c.ranges.c) (appended_at c.args.at c.args.coeffs.now c.args.keys.now c.args.slots.now c.args.n c.args.key _ c.requires.at_le_max_place.1 c.requires.at_le_max_place.2 c.requires.n_lt_max_entries.0 c.requires.n_lt_max_entries.1)
