-- `ending::keep_nonzero` owes an entry more, unless its coefficient is 0. Assumes nothing.
use mathlib.Core.Path.{sym, ◌∙◌}
use native.Mathlib.Omega.{arith}
use mir.Facts.{to_z-of_z}
use lib.IntN.{pos}
use Rattle.calculus.proofs.TermLaws.{same_integer-tests}
use Rattle.ending.proofs.Choosing.{kept-none, kept-some}
use Rattle.ending.proofs.keep_nonzero.Goals as goal

pub returns-then-is_zero : goal.returns-then-is_zero
returns-then-is_zero c = kept-none c.args.coeffs.now c.args.keys.now c.args.r c.args.c c.args.key (sym c.if-is_zero.true ∙ same_integer-tests c.args.c (pos 0) _ (rw (to_z-of_z c.ranges.c) at c.is_zero.ensures))

pub returns : goal.returns
returns c = rw (to_z-of_z c.ranges.c) (kept-some c.args.coeffs.now c.args.keys.now c.args.r c.args.c c.args.key (sym c.if-is_zero.false ∙ same_integer-tests c.args.c (pos 0) _ (rw (to_z-of_z c.ranges.c) at c.is_zero.ensures)) (omega arith) (omega arith))
