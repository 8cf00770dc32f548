-- `ending::name_before` owes byte order. The loop keeps that the rests from i and from j on answer for the whole. Assumes nothing.
use native.Mathlib.Omega.{arith}
use Rattle.ending.proofs.Naming.{before-shorter, before-differ, before_more, before-end}
use Rattle.ending.proofs.name_before.Goals as goal

pub returns-then-i-b : goal.returns-then-i-b
returns-then-i-b c = before-shorter c.args.text.now c.args.b c.args.d c.loop-j.i c.loop-j.j _ c.loop-j.invariant.1 (omega arith) (omega arith) (omega arith) (omega arith)

pub returns-then-x-y : goal.returns-then-x-y
returns-then-x-y c = before-differ c.args.text.now c.args.b c.args.d c.loop-j.i c.loop-j.j _ c.loop-j.invariant.1 (omega arith) (omega arith) (omega arith) (omega arith) c.if-x-y.true

pub loop-j-preserved : goal.loop-j-preserved
loop-j-preserved c = (omega arith, before_more c.args.text.now c.args.b c.args.d c.loop-j.i c.loop-j.j _ c.loop-j.invariant.1 (omega arith) (omega arith) (omega arith) (omega arith) c.if-x-y.false)

pub returns : goal.returns
returns c = before-end c.args.text.now c.args.b c.args.d c.loop-j.i c.loop-j.j _ c.loop-j.invariant.1 (omega arith) (omega arith) (omega arith)
