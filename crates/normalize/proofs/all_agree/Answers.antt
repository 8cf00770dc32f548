-- `normalize::all_agree`: from entry i on the answer is that for the whole.
use native.Mathlib.Omega.{arith}
use Rattle.normalize.proofs.Comparing.{lists_differ, agreeing-none, agreeing-more, agreeing-stop, agreeing_end, sides-nodes, sides-read}
use Rattle.normalize.proofs.all_agree.Goals as goal

pub returns-then-n-m : goal.returns-then-n-m
returns-then-n-m c = lists_differ (λ e. omega (arith, e, c.if-n-m.true))

pub loop-i-init : goal.loop-i-init
loop-i-init c = agreeing-none (omega (arith, c.if-n-m.false))

pub entries_agree-requires : goal.entries_agree-requires
entries_agree-requires c = sides-nodes c.requires c.loop-i-test.true c.if-n-m.false

pub returns-then-not-entries_agree : goal.returns-then-not-entries_agree
returns-then-not-entries_agree c = agreeing-stop c.loop-i.invariant c.if-n-m.false c.loop-i-test.true (sides-read c.requires c.loop-i-test.true c.if-n-m.false (rw c.if-not-entries_agree.true at c.entries_agree.ensures))

pub loop-i-preserved : goal.loop-i-preserved
loop-i-preserved c = agreeing-more c.loop-i.invariant c.if-n-m.false c.loop-i-test.true (sides-read c.requires c.loop-i-test.true c.if-n-m.false (rw c.if-not-entries_agree.false at c.entries_agree.ensures))

pub returns : goal.returns
returns c = agreeing_end c.loop-i.invariant c.loop-i-test.false
