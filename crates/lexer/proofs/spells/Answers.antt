-- `lexer::spells` owes the test of equal bytes: of equally long parts the loop keeps that the rests answer for the whole. Assumes nothing.
use Rattle.std.proofs.Common.{rules, arith, refl, ◌≡◌, ◌+◌}
use Rattle.lexer.proofs.Bytes.{same-lengths, same-differ, same_more, same_end}
use Rattle.lexer.proofs.spells.Goals as goal

pub returns-then-b-a : goal.returns-then-b-a
returns-then-b-a c = same-lengths c.args.x.now c.args.y.now c.args.a c.args.b c.args.from c.args.to (search rules) (search rules) c.if-b-a.true

pub loop-i-init : goal.loop-i-init
loop-i-init c = let e : c.args.a + 0 ≡ c.args.a = omega arith in let f : c.args.from + 0 ≡ c.args.from = omega arith in rw (e, f) refl

pub returns-then-x-a : goal.returns-then-x-a
returns-then-x-a c = same-differ c.args.x.now c.args.y.now c.args.b c.args.to (c.args.a + c.loop-i.i) (c.args.from + c.loop-i.i) _ c.loop-i.invariant (search rules) (search rules) (omega arith) (omega arith) c.if-x-a.true

pub loop-i-preserved : goal.loop-i-preserved
loop-i-preserved c = let e : c.args.a + (c.loop-i.i + 1) ≡ c.args.a + c.loop-i.i + 1 = omega arith in let f : c.args.from + (c.loop-i.i + 1) ≡ c.args.from + c.loop-i.i + 1 = omega arith in
    rw (e, f) (same_more c.args.x.now c.args.y.now c.args.b c.args.to (c.args.a + c.loop-i.i) (c.args.from + c.loop-i.i) _ c.loop-i.invariant (search rules) (search rules) (omega arith) (omega arith) c.if-x-a.false)

pub returns : goal.returns
returns c = same_end c.args.x.now c.args.y.now c.args.b c.args.to (c.args.a + c.loop-i.i) (c.args.from + c.loop-i.i) _ c.loop-i.invariant (search rules) (search rules) (omega arith) (omega arith) (omega arith)
