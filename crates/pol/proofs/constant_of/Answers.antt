-- `pol::constant_of` owes the constant of an entry, behind its literals.
use native.Mathlib.Omega.{arith}
use lib.IntN.{pos}
use Rattle.integer.proofs.Signed.{back}
use Rattle.pol.proofs.Windows.{window-get}
use Rattle.pol.proofs.constant_of.Goals as goal

pub returns : goal.returns
returns c = rw (window-get c.args.e c.args.coeffs.now (pos 0) 64 (omega arith)) (back _ c.result-1.given)
