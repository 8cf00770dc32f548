-- `lines::run_line` owes a line's clause in the table, or its number.
use native.Mathlib.Omega.{arith}
use Rattle.matching.proofs.Matches.{kept}
use Rattle.lines.proofs.Leaving.{line_refused, clause-asked, line_done}
use Rattle.lines.proofs.run_line.Goals as goal

pub leave-left-requires : goal.leave-left-requires
leave-left-requires c = (record { c = c.args.c; running = c.requires.0; above = c.requires.1 }, c.requires.2, c.requires.3, c.requires.4, c.requires.5)

pub returns-then-left-ne0 : goal.returns-then-left-ne0
returns-then-left-ne0 c = line_refused c.leave-left.ensures c.requires.0.table c.requires.2 (λ e. omega (arith, c.if-left-ne0.true))

pub put_clause-m-requires : goal.put_clause-m-requires
put_clause-m-requires c = record {
  making = clause-asked c.leave-left.ensures c.requires.0.table c.requires.2 (omega (arith, c.if-left-ne0.false)) c.requires.0.text c.requires.6;
  within = rw (kept (omega arith) (c.leave-left.ensures.summands (omega (arith, c.if-left-ne0.false))).2) (c.leave-left.ensures.summands (omega (arith, c.if-left-ne0.false))).2;
}

pub returns : goal.returns
returns c = line_done c.leave-left.ensures c.requires.0.table c.requires.2 (omega (arith, c.if-left-ne0.false)) (rw (kept (omega arith) (c.leave-left.ensures.summands (omega (arith, c.if-left-ne0.false))).2) at c.put_clause-m.ensures)
