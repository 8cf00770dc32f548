-- `pol::fits_entry` owes whether an entry is not too large: how many literals, then the constant, then each coefficient.
use mathlib.Core.Path.{sym, ◌∙◌}
use native.Mathlib.Omega.{arith}
use mir.Facts.{to_z-of_z}
use Rattle.matching.specs.Places.{placed}
use Rattle.pol.proofs.Ranges.{fits-many, fits-constant, fits-rest}
use Rattle.pol.proofs.fits_entry.Goals as goal

pub returns-then-n-gt-LITERALS : goal.returns-then-n-gt-LITERALS
returns-then-n-gt-LITERALS c = fits-many (placed c.args.from c.args.coeffs.now) c.args.n _ (omega arith)

pub returns-then-not-in_range : goal.returns-then-not-in_range
returns-then-not-in_range c = fits-constant (placed c.args.from c.args.coeffs.now) c.args.n c.args.constant (sym (rw (to_z-of_z c.ranges.constant) at c.in_range.ensures) ∙ c.if-not-in_range.true)

pub returns : goal.returns
returns c = fits-rest (placed c.args.from c.args.coeffs.now) c.args.n c.args.constant (omega arith) (sym (rw (to_z-of_z c.ranges.constant) at c.in_range.ensures) ∙ c.if-not-in_range.false) c.all_in_range.ensures
