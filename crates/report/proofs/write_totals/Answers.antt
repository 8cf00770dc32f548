-- write_totals: owes the totals and their line feed: its seven pieces in order.
use native.Mathlib.Omega.{arith}
use Rattle.report.proofs.Decimal.{decimal-count}
use Rattle.report.proofs.Lines.{totals_parts}
use Rattle.report.proofs.Writing.{wrote_as, ◌⨟◌}
use Rattle.report.proofs.write_totals.Goals as goal

pub append_decimal-after_count-requires : goal.append_decimal-after_count-requires
append_decimal-after_count-requires c = omega (arith, decimal-count c.args.n c.requires.n_le_max_commands)

pub append-refused_at-requires : goal.append-refused_at-requires
append-refused_at-requires c = omega (arith, decimal-count c.args.n c.requires.n_le_max_commands)

pub append_decimal-after_refused-requires : goal.append_decimal-after_refused-requires
append_decimal-after_refused-requires c = omega (arith, decimal-count c.args.n c.requires.n_le_max_commands, decimal-count c.args.refused (omega (arith, c.requires)))

pub append-refuted_at-requires : goal.append-refuted_at-requires
append-refuted_at-requires c = omega (arith, decimal-count c.args.n c.requires.n_le_max_commands, decimal-count c.args.refused (omega (arith, c.requires)))

pub append_yes-after_refuted-requires : goal.append_yes-after_refuted-requires
append_yes-after_refuted-requires c = omega (arith, decimal-count c.args.n c.requires.n_le_max_commands, decimal-count c.args.refused (omega (arith, c.requires)))

pub append-requires : goal.append-requires
append-requires c = omega (arith, decimal-count c.args.n c.requires.n_le_max_commands, decimal-count c.args.refused (omega (arith, c.requires)), c.requires.totals_room_in_bounds, c.append-count_at.ensures.next, c.append_decimal-after_count.ensures.next, c.append-refused_at.ensures.next)

pub returns : goal.returns
returns c = λ ls count refused refuted. wrote_as (totals_parts ls count refused refuted) (c.append-count_at.ensures ⨟ c.append_decimal-after_count.ensures ⨟ c.append-refused_at.ensures ⨟ c.append_decimal-after_refused.ensures ⨟ c.append-refuted_at.ensures ⨟ c.append_yes-after_refuted.ensures.wrote ⨟ c.append.ensures)
