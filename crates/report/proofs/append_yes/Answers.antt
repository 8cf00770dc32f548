-- append_yes: owes the bytes of a mark: one call for each of the two.
use mathlib.Core.Path.{ap}
use native.Mathlib.Omega.{arith}
use Rattle.calculus.specs.Report.{yes_no}
use Rattle.report.proofs.Writing.{wrote_as}
use Rattle.report.proofs.append_yes.Goals as goal

pub returns-then-yes : goal.returns-then-yes
unfolding yes_no
returns-then-yes c = record {
  wrote = wrote_as (ap yes_no c.if-yes.true) c.append.ensures;
  upper_bound = omega arith;
}

pub returns-else-yes : goal.returns-else-yes
unfolding yes_no
returns-else-yes c = record {
  wrote = wrote_as (ap yes_no c.if-yes.false) c.append-else-yes.ensures;
  upper_bound = omega arith;
}
