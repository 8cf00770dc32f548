-- write_report: owes the report's bytes: the lines, and then the totals over the same lines.
use Rattle.report.proofs.Lines.{report_parts}
use Rattle.report.proofs.Totals.{numbered}
use Rattle.report.proofs.Writing.{wrote_as, ◌⨟◌}
use Rattle.report.proofs.write_report.Goals as goal

pub returns : goal.returns
returns c = λ ls are refuted. wrote_as (report_parts ls) (c.write_lines-totals_at.ensures.wrote ls are ⨟ c.write_totals.ensures ls are.count (c.count_refused-refused.ensures.ls_value ls (numbered are)) refuted)
