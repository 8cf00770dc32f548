-- `ending::swap` owes that two neighbours are exchanged, in both arrays. Assumes nothing.
use mathlib.Core.Path.{refl}
use native.Mathlib.Omega.{arith}
use lib.IntN.{pos}
use lib.ListN.{length-set}
use Rattle.integer.proofs.Signed.{back}
use Rattle.ending.proofs.Sorting.{swapped}
use Rattle.ending.proofs.swap.Goals as goal

pub bounds-coeffs-j-2 : goal.bounds-coeffs-j-2
bounds-coeffs-j-2 c = simp length-set (omega arith)

pub bounds-keys-j-4 : goal.bounds-keys-j-4
bounds-keys-j-4 c = simp length-set (omega arith)

pub returns : goal.returns
returns c = (swapped (pos 0) c.args.coeffs.now c.args.j (omega arith) (back _ c.c-1.given) (back _ c.d-1.given), swapped 0 c.args.keys.now c.args.j (omega arith) refl refl)
