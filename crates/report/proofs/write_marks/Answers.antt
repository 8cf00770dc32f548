-- write_marks: owes the marks of a line and its line feed: its five pieces in order.
use native.Mathlib.Omega.{arith}
use Rattle.report.specs.Lines.{marks_text}
use Rattle.report.proofs.Writing.{◌⨟◌}
use Rattle.report.proofs.write_marks.Goals as goal

pub returns : goal.returns
unfolding marks_text
returns c = record {
  wrote = c.append-plain_at.ensures ⨟ c.append_yes-after_plain.ensures.wrote ⨟ c.append-holds_at.ensures ⨟ c.append_yes-after_holds.ensures.wrote ⨟ c.append.ensures;
  upper_bound = omega arith;
}
