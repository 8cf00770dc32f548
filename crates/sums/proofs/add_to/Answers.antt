-- `sums::add_to` owes one coefficient grew, the others did not. The sum fits, and the one place is written.
use mathlib.Core.Path.{◌≡◌, ◌∙◌}
use native.Mathlib.Omega.{arith}
use lib.IntN.{pos, ◌+ℤ◌}
use lib.ListN.{get_or}
use mir.Facts.{to_z-of_z}
use mir.Syntax.{w64}
use mir.Val.{to_z, of_z}
use Rattle.integer.proofs.Fits.{within-add, fits-within}
use Rattle.integer.proofs.Signed.{back}
use Rattle.matching.proofs.Matches.{kept}
use Rattle.matching.specs.Places.{max_entries, placed}
use Rattle.matching.proofs.Places.{part-put, coefficient-at, others-set}
use Rattle.sums.proofs.add_to.Goals as goal

pub slice_copy_out-add : goal.slice_copy_out-add
slice_copy_out-add c = omega (arith, c.requires.max_entries_in_bounds.0, c.requires.max_entries_in_bounds.2)

pub add-sum-requires : goal.add-sum-requires
add-sum-requires c = let w = rw (coefficient-at c.args.at c.args.coeffs.now c.args.i c.requires.max_entries_in_bounds.2) at c.requires.within in rw (kept (omega arith) w, to_z-of_z c.ranges.c) (fits-within (omega arith) (within-add w c.requires.within_2))

pub bounds-coeffs-at : goal.bounds-coeffs-at
bounds-coeffs-at c = omega (arith, c.requires.max_entries_in_bounds.0, c.requires.max_entries_in_bounds.2)

pub returns : goal.returns
returns c = let w = rw (coefficient-at c.args.at c.args.coeffs.now c.args.i c.requires.max_entries_in_bounds.2) at c.requires.within in
    let e : to_z w64 (of_z w64 c.add-sum.result) ≡ get_or (placed c.args.at c.args.coeffs.now) c.args.i (pos 0) +ℤ c.args.c = back c.add-sum.result c.add-sum.type_inv ∙ rw (coefficient-at c.args.at c.args.coeffs.now c.args.i c.requires.max_entries_in_bounds.2) (rw (kept (omega arith) w, to_z-of_z c.ranges.c) at c.add-sum.ensures) in
    (rw e (part-put c.args.at max_entries c.args.coeffs.now (pos 0) c.args.i _ c.requires.max_entries_in_bounds.2 c.requires.max_entries_in_bounds.0), others-set c.args.at c.args.coeffs.now c.args.i _ c.requires.max_entries_in_bounds.2)
