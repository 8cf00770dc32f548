-- write_refusal: owes the line of a refused file: its five pieces in order.
use native.Mathlib.Omega.{arith}
use Rattle.report.proofs.Decimal.{decimal-byte, decimal-place}
use Rattle.report.proofs.Lines.{refusal_parts}
use Rattle.report.proofs.Writing.{wrote_as, ◌⨟◌}
use Rattle.report.proofs.write_refusal.Goals as goal

pub append_decimal-after_number-requires : goal.append_decimal-after_number-requires
append_decimal-after_number-requires c = omega (arith, decimal-byte c.args.number c.ranges.number.fits)

pub append-byte_at-requires : goal.append-byte_at-requires
append-byte_at-requires c = omega (arith, decimal-byte c.args.number c.ranges.number.fits)

pub append_decimal-after_byte-requires : goal.append_decimal-after_byte-requires
append_decimal-after_byte-requires c = omega (arith, decimal-byte c.args.number c.ranges.number.fits, decimal-place c.args.byte c.ranges.byte.fits)

pub append-requires : goal.append-requires
append-requires c = omega (arith, decimal-byte c.args.number c.ranges.number.fits, decimal-place c.args.byte c.ranges.byte.fits)

pub returns : goal.returns
returns c = wrote_as (refusal_parts c.args.number c.args.byte) (c.append-number_at.ensures ⨟ c.append_decimal-after_number.ensures ⨟ c.append-byte_at.ensures ⨟ c.append_decimal-after_byte.ensures ⨟ c.append.ensures)
