-- `pol::all_in_range` owes the test of each coefficient. The invariant: the answer from entry i on is that for the whole.
use mathlib.Core.Path.{sym, ◌∙◌}
use native.Mathlib.Omega.{arith}
use Rattle.integer.proofs.Signed.{back}
use Rattle.matching.specs.Places.{placed}
use Rattle.matching.proofs.Places.{coefficient-at}
use Rattle.pol.proofs.Ranges.{ranging-start, ranging-more, ranging-stop, ranging_end}
use Rattle.pol.proofs.all_in_range.Goals as goal

pub loop-i-init : goal.loop-i-init
loop-i-init c = ranging-start (placed c.args.from c.args.coeffs.now) c.args.n 0 (omega arith)

pub returns-then-not-in_range : goal.returns-then-not-in_range
returns-then-not-in_range c = ranging-stop (placed c.args.from c.args.coeffs.now) c.args.n c.loop-i.i c.loop-i.invariant (omega arith) (rw (coefficient-at c.args.from c.args.coeffs.now c.loop-i.i (omega arith)) (sym (rw (back _ c.in_range-arg-1.given) at c.in_range.ensures) ∙ c.if-not-in_range.true))

pub loop-i-preserved : goal.loop-i-preserved
loop-i-preserved c = ranging-more (placed c.args.from c.args.coeffs.now) c.args.n c.loop-i.i c.loop-i.invariant (omega arith) (rw (coefficient-at c.args.from c.args.coeffs.now c.loop-i.i (omega arith)) (sym (rw (back _ c.in_range-arg-1.given) at c.in_range.ensures) ∙ c.if-not-in_range.false))

pub returns : goal.returns
returns c = ranging_end (placed c.args.from c.args.coeffs.now) c.args.n c.loop-i.i c.loop-i.invariant (omega arith)
