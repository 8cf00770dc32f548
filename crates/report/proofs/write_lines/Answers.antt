-- write_lines: owes the lines before the totals: the loop keeps that those of the first k commands stand there, and that each took at most line_room bytes.
use native.Mathlib.Omega.{arith}
use Rattle.report.proofs.Lines.{named, lines_none, lines-turn, lines-all}
use Rattle.report.proofs.Writing.{wrote_as, wrote_none}
use Rattle.report.proofs.write_lines.Goals as goal

pub loop-k-init : goal.loop-k-init
loop-k-init c = (omega arith, λ ls are. wrote_as (lines_none ls) (wrote_none c.args.report.now 0 (omega arith)))

pub write_line-at-requires-clause-id_shown : goal.write_line-at-requires-clause-id_shown
write_line-at-requires-clause-id_shown c = named c.requires.printable c.loop-k.k c.loop-k-test.true

pub loop-k-preserved : goal.loop-k-preserved
loop-k-preserved c = (omega arith, λ ls are. lines-turn are c.loop-k-test.true (c.loop-k.invariant.1 ls are) c.write_line-at.ensures.wrote)

pub returns-clause-wrote : goal.returns-clause-wrote
returns-clause-wrote c ls are = lines-all are (omega arith) (c.loop-k.invariant.1 ls are)
