-- write_line: owes a line's bytes, whatever the line with these parts is: its four parts in order.
use native.Mathlib.Omega.{arith}
use Rattle.report.proofs.Decimal.{decimal-byte}
use Rattle.report.proofs.Lines.{line_parts}
use Rattle.report.proofs.Writing.{wrote_as, ◌⨟◌}
use Rattle.report.proofs.write_line.Goals as goal

pub append_decimal-marks_at-requires : goal.append_decimal-marks_at-requires
append_decimal-marks_at-requires c = omega (arith, decimal-byte c.args.number c.ranges.number.fits)

pub write_marks-requires : goal.write_marks-requires
write_marks-requires c = omega (arith, decimal-byte c.args.number c.ranges.number.fits)

pub returns : goal.returns
returns c = record {
  wrote = λ l has. wrote_as (line_parts has) (c.write_start-answer_at.ensures.wrote ⨟ c.append-number_at.ensures ⨟ c.append_decimal-marks_at.ensures ⨟ c.write_marks.ensures.wrote);
  upper_bound = omega (arith, decimal-byte c.args.number c.ranges.number.fits);
}
