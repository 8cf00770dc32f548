-- write_start: owes a line up to its rule: its four pieces in order, by the words that were read.
use native.Mathlib.Omega.{arith}
use Rattle.report.proofs.Lines.{start-parts}
use Rattle.report.proofs.Writing.{wrote_as, ◌⨟◌}
use Rattle.report.proofs.write_start.Goals as goal

pub returns : goal.returns
returns c = record {
  wrote = wrote_as (start-parts c.requires.id_shown c.wide_short.ensures c.wide_short-2.ensures c.word_of-kind.ensures) (c.append-id_at.ensures ⨟ c.append-after_id.ensures ⨟ c.append-rule_at.ensures ⨟ c.append_rule.ensures.wrote);
  upper_bound = omega arith;
}
