-- `pol::map_top` owes the map of the top, and 53 where that is too large an entry.
use Prim.Native.Nat.{◌-◌}
use native.Mathlib.Omega.{arith}
use Rattle.integer.proofs.Signed.{back}
use Rattle.pol.proofs.Tops.{top-beyond, top-fits}
use Rattle.pol.proofs.map_top.Goals as goal

pub map_entry-requires : goal.map_entry-requires
map_entry-requires c = let S = c.requires.stacked.0.1.each (c.args.d - 1) (omega arith) in record {
  by_is = c.requires.by_is;
  e_lt_max_stack = (omega (arith, c.requires.stacked.0.1.few), omega (arith, c.count_of-n.ensures, S.few), c.requires.stacked.0.1.coefficients, rw c.count_of-n.ensures S.within, S.constant);
}

pub fits_entry-requires : goal.fits_entry-requires
fits_entry-requires c = (omega (arith, c.requires.stacked.0.1.few), omega (arith, c.count_of-n.ensures, (c.requires.stacked.0.1.each (c.args.d - 1) (omega arith)).few), omega (arith, c.count_of-n.ensures, (c.requires.stacked.0.1.each (c.args.d - 1) (omega arith)).few, c.requires.stacked.0.1.few, c.requires.stacked.0.1.coefficients, c.map_entry.ensures.long))

pub returns-then-not-fits_entry : goal.returns-then-not-fits_entry
returns-then-not-fits_entry c = λ t K. top-beyond K c.requires.stacked.1 c.map_entry.ensures c.count_of-n.ensures c.constant_of-constant.ensures (rw (back c.constant_of-constant.result c.constant_of-constant.type_inv) at c.fits_entry.ensures) c.if-not-fits_entry.true

pub returns : goal.returns
returns c = λ t K. top-fits K c.requires.stacked.1 c.map_entry.ensures c.count_of-n.ensures c.constant_of-constant.ensures (rw (back c.constant_of-constant.result c.constant_of-constant.type_inv) at c.fits_entry.ensures) c.if-not-fits_entry.false
