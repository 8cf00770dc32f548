-- `pol::keep` owes a new entry of the stack, or 53 where it is too large.
use native.Mathlib.Omega.{arith}
use mir.Facts.{to_z-of_z}
use Rattle.matching.specs.Places.{placed}
use Rattle.pol.proofs.Ranges.{kept-beyond, kept-fits, kept-few}
use Rattle.pol.proofs.keep.Goals as goal

pub returns-then-not-fits_entry : goal.returns-then-not-fits_entry
returns-then-not-fits_entry c = record { number = kept-beyond (placed c.args.from c.args.coeffs.now) c.args.n c.args.constant (rw (to_z-of_z c.ranges.constant) at c.fits_entry.ensures) c.if-not-fits_entry.true; stored = λ e. let z : ⊥ = omega arith in absurd z }

pub store-requires : goal.store-requires
store-requires c = (c.requires.0, c.requires.1, kept-few (placed c.args.from c.args.coeffs.now) c.args.n c.args.constant (rw (to_z-of_z c.ranges.constant) at c.fits_entry.ensures) c.if-not-fits_entry.false, c.requires.3, c.requires.4, c.requires.5)

pub returns : goal.returns
returns c = record { number = kept-fits (placed c.args.from c.args.coeffs.now) c.args.n c.args.constant (rw (to_z-of_z c.ranges.constant) at c.fits_entry.ensures) c.if-not-fits_entry.false; stored = λ e. rw (to_z-of_z c.ranges.constant) at c.store.ensures }
