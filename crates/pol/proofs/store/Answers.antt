-- `pol::store` owes the copy of a sum to an entry of the stack. The invariant: so many of its literals are copied.
use mathlib.Core.Path.{◌≡◌, refl}
use native.Mathlib.Omega.{arith}
use mir.Facts.{to_z-of_z}
use Rattle.integer.proofs.Signed.{back}
use Rattle.pol.proofs.Storing.{copied_none, copied_more, copied_all}
use Rattle.pol.proofs.store.Goals as goal

pub loop-i-init : goal.loop-i-init
loop-i-init c = copied_none _ _ _ _ _

pub loop-i-preserved : goal.loop-i-preserved
loop-i-preserved c = copied_more c.loop-i.invariant (omega arith) c.requires.0 c.requires.1 (omega arith) (omega arith) (omega arith) (back _ c.c-1.given) refl

pub returns : goal.returns
returns c = let e : c.loop-i.i ≡ c.args.n = omega arith in rw (to_z-of_z c.ranges.constant) (copied_all c.args.d (rw e at c.loop-i.invariant) c.requires.2 c.requires.3 c.requires.4 c.requires.5 c.args.constant)
