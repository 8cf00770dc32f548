-- append: owes that the bytes of src stand from `at` on: the loop keeps that the first k of them do.
use native.Mathlib.Omega.{arith}
use mathlib.Core.Path.{◌≡◌}
use Prim.Native.Nat.{◌+◌}
use lib.ListN.{length}
use Rattle.report.proofs.Writing.{wrote_none, wrote-more, wrote-all}
use Rattle.report.proofs.append.Goals as goal

pub loop-k-init : goal.loop-k-init
loop-k-init c = let e : c.args.at + 0 ≡ c.args.at = omega arith in rw e (wrote_none c.args.report.now c.args.at (omega arith))

pub loop-k-preserved : goal.loop-k-preserved
loop-k-preserved c = let e : c.args.at + (c.loop-k.k + 1) ≡ c.args.at + c.loop-k.k + 1 = omega arith in rw e (wrote-more c.args.src.now c.loop-k.k c.loop-k.invariant (omega arith) (omega arith))

pub returns : goal.returns
returns c = let e : length c.args.src.now ≡ c.loop-k.k = omega arith in rw e (wrote-all c.args.src.now c.loop-k.k c.loop-k.invariant (omega arith))
