-- Joined, both texts stand in one string; an OPB text that is too long is refused before.
use native.Mathlib.Omega.{arith}
use lib.ListN.{length-replicate}
use Prim.Native.Nat.{ℕ}
use Rattle.checker.proofs.Joining.{both-ready}
use Rattle.checker.proofs.Reporting.{opb-long}
use Rattle.checker.proofs.report_both.Goals as goal

pub returns-then-opb-gt-MAX_TEXT : goal.returns-then-opb-gt-MAX_TEXT
returns-then-opb-gt-MAX_TEXT c = opb-long c.args.opb.now c.args.text.now c.if-opb-gt-MAX_TEXT.true (rw c.from.ensures at c.write_refusal.ensures)

pub join-size-requires : goal.join-size-requires
join-size-requires c = (omega (arith, length-replicate {A = ℕ} 67476 0), omega (arith, c.if-opb-gt-MAX_TEXT.false))

pub slice_bounds-report_joined-count : goal.slice_bounds-report_joined-count
slice_bounds-report_joined-count c = omega arith

pub slice_bounds-report_joined-start : goal.slice_bounds-report_joined-start
slice_bounds-report_joined-start c = omega arith

pub slice_bounds-report_joined-end : goal.slice_bounds-report_joined-end
slice_bounds-report_joined-end c = omega (arith, c.join-size.ensures.room, c.join-size.ensures.size, length-replicate {A = ℕ} 67476 0)

pub report_joined-requires : goal.report_joined-requires
report_joined-requires c = (c.requires.0, both-ready c.args.opb.now c.args.text.now _ _ (omega (arith, c.if-opb-gt-MAX_TEXT.false)) c.join-size.ensures c.requires.1 c.requires.2)
