-- `sums::put` owes the definition's `put`, and that keys can still be looked up. A key that was found grows; another is appended, with its slot.
use native.Mathlib.Omega.{arith}
use mir.Facts.{to_z-of_z}
use Rattle.matching.specs.Places.{placed}
use Rattle.sums.proofs.Places.{elsewhere-coefficients, key_below}
use Rattle.sums.proofs.Putting.{put-added, put-appended}
use Rattle.sums.proofs.put.Goals as goal

pub find-i-requires : goal.find-i-requires
find-i-requires c = record {
  variable = c.requires.variable;
  keyed = record { few = c.requires.room.few; fine = c.requires.fine.0; keys = c.requires.room.keys; slots = c.requires.room.slots };
}

pub add_to-requires : goal.add_to-requires
add_to-requires c = record {
  max_entries_in_bounds = (c.requires.room.coefficients, c.requires.room.few, omega (arith, c.requires.fine.1));
  within = c.requires.bounded c.find-i.result (omega arith);
  within_2 = rw (to_z-of_z c.ranges.c) c.requires.within;
}

pub returns-then-i-n : goal.returns-then-i-n
returns-then-i-n c = let a = rw (to_z-of_z c.ranges.c) at c.add_to.ensures in (put-added (placed c.args.at c.args.coeffs.now) c.args.c c.find-i.ensures c.requires.fine.0 (placed c.args.at c.add_to.new.coeffs) (omega arith) a.0, elsewhere-coefficients c.args.at c.args.coeffs.now c.args.keys.now c.args.slots.now a.1)

pub append-requires : goal.append-requires
append-requires c = record {
  at_le_max_place = (c.requires.room.few, c.requires.room.coefficients, c.requires.room.keys);
  n_lt_max_entries = (c.requires.fine.1, key_below c.args.slots.now c.requires.room.slots c.requires.variable);
}

pub returns : goal.returns
returns c = let a = rw (to_z-of_z c.ranges.c) at c.append.ensures in (put-appended (placed c.args.at c.args.coeffs.now) c.args.c c.find-i.ensures c.requires.fine.0 _ _ _ _ (omega arith) c.requires.fine.1 c.requires.variable a.0, a.1)
