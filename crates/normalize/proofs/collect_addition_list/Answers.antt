-- `normalize::collect_addition_list`: the first i summands are entries, in their order; a constant product refuses.
use native.Mathlib.Omega.{arith}
use mathlib.Core.Path.{◌≡◌}
use lib.ListN.{length}
use Rattle.matching.proofs.Matches.{kept}
use Rattle.normalize.proofs.Collecting.{collecting-none, collecting_end, collecting-node, collecting-constant, collecting-more}
use Rattle.normalize.proofs.collect_addition_list.Goals as goal

pub loop-i-init : goal.loop-i-init
loop-i-init c = collecting-none c.requires

pub term_to_ctv-requires : goal.term_to_ctv-requires
term_to_ctv-requires c = collecting-node c.requires c.loop-i.invariant c.loop-i-test.true

pub returns-in_default-clause-collect_is : goal.returns-in_default-clause-collect_is
returns-in_default-clause-collect_is c = (c.loop-i.i, collecting-constant c.requires c.loop-i.invariant c.loop-i-test.true (rw c.in_default.is at c.term_to_ctv.ensures))

pub loop-i-preserved : goal.loop-i-preserved
loop-i-preserved c =
    let found = rw c.in-Entry.is at c.term_to_ctv.ensures in
    collecting-more c.requires c.loop-i.invariant c.loop-i-test.true found (kept (omega arith) found.within)

pub returns-clause-collect_is : goal.returns-clause-collect_is
returns-clause-collect_is c =
    let e : c.loop-i.i ≡ length c.args.ts.now = omega arith in
    rw e at (collecting_end c.requires c.loop-i.invariant c.loop-i-test.false)
