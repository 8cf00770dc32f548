-- `lexer::run_end` owes the end of a run of bytes: the loop keeps that what is left of the run ends where the whole does. Assumes nothing.
use Rattle.std.proofs.Common.{arith, ◌≡◌, ◌∙◌, sym, ap, refl, length, ◌+◌}
use Rattle.lexer.proofs.Runs.{rest-byte, run-stop, run_more, run_end}
use Rattle.lexer.proofs.run_end.Goals as goal

pub loop-k-init : goal.loop-k-init
loop-k-init g c = λ p q. let e : c.args.at + 0 ≡ c.args.at = omega arith in rw e refl

pub returns-then-not-test : goal.returns-then-not-test
returns-then-not-test g c = λ p q. (run-stop p c.args.text.now (c.args.at + c.loop-k.k) _ (omega arith) (ap p (sym (rest-byte c.args.text.now c.args.at c.loop-k.k (omega arith))) ∙ sym (q _ _ c.test.ensures) ∙ c.if-not-test.true) (c.loop-k.invariant p q), omega arith)

pub loop-k-preserved : goal.loop-k-preserved
loop-k-preserved g c = λ p q. let e : c.args.at + (c.loop-k.k + 1) ≡ c.args.at + c.loop-k.k + 1 = omega arith in
    rw e (run_more p c.args.text.now (c.args.at + c.loop-k.k) _ (omega arith) (ap p (sym (rest-byte c.args.text.now c.args.at c.loop-k.k (omega arith))) ∙ sym (q _ _ c.test.ensures) ∙ c.if-not-test.false) (c.loop-k.invariant p q))

pub returns : goal.returns
returns g c = λ p q. let e : c.args.at + c.loop-k.k ≡ length c.args.text.now = omega arith in (sym e ∙ run_end p c.args.text.now (c.args.at + c.loop-k.k) _ (omega arith) (c.loop-k.invariant p q), omega arith)
