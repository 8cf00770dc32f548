-- The loop's invariant: all premises are marked where those from this one on are.
use mathlib.Core.Bool.{false}
use mathlib.Core.Path.{ap, sym, ◌∙◌}
use Prim.Native.Nat.{ℕ}
use native.Mathlib.Omega.{arith}
use lib.ListN.{get_or}
use Rattle.checker.proofs.Marking.{marked_more, marked-not, marked-end}
use Rattle.checker.proofs.all_hold.Goals as goal

pub returns-then-not-marks-p : goal.returns-then-not-marks-p
returns-then-not-marks-p c = marked-not c.args.marks.now c.args.premises.now c.loop-premise.premise-index (omega arith) (ap (λ (q : ℕ). get_or c.args.marks.now q false) (sym c.wide-p.ensures) ∙ c.if-not-marks-p.true) c.loop-premise.invariant

pub loop-premise-preserved : goal.loop-premise-preserved
loop-premise-preserved c = marked_more c.args.marks.now c.args.premises.now c.loop-premise.premise-index (omega arith) (ap (λ (q : ℕ). get_or c.args.marks.now q false) (sym c.wide-p.ensures) ∙ c.if-not-marks-p.false) c.loop-premise.invariant

pub returns : goal.returns
returns c = sym (c.loop-premise.invariant ∙ marked-end c.args.marks.now c.args.premises.now c.loop-premise.premise-index (omega arith))
