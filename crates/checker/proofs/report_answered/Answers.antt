-- The marks and the refutation are those of the file's lines, and so is the report that is made of them.
use mathlib.Core.Bool.{false}
use mathlib.Core.Path.{sym}
use native.Mathlib.Omega.{arith}
use lib.ListN.{length-replicate}
use Rattle.checker.specs.Runs.{command_lines}
use Rattle.checker.proofs.Reporting.{lines_are, printable}
use Rattle.checker.proofs.report_answered.Goals as goal

pub mark_commands-requires : goal.mark_commands-requires
mark_commands-requires c = record {
  file = c.requires.file.0;
  n_in_bounds = (c.requires.n_in_bounds.1, omega (arith, length-replicate 512 false, c.requires.file.0.commands.few));
}

pub refuted_by-refuted-requires : goal.refuted_by-refuted-requires
refuted_by-refuted-requires c = record {
  filed = ((c.args.text.now, c.requires.file.0), omega (arith, c.mark_commands.auto.marks, length-replicate 512 false, c.requires.file.0.commands.few));
  rooms = c.requires.rooms;
}

pub write_report-requires : goal.write_report-requires
write_report-requires c = record {
  printable = printable c.requires.file.0 c.requires.n_in_bounds.0 c.requires.n_in_bounds.1 (omega (arith, c.mark_commands.auto.marks, length-replicate 512 false, c.requires.file.0.commands.few));
  min_report_in_bounds = c.requires.file.1;
}

pub returns : goal.returns
returns c = let s = c.args.text.now in let f = c.requires.file.0 in let (a, p) = c.requires.answered_by in let m = c.mark_commands.ensures p in c.write_report.ensures (command_lines s c.args.nodes.now c.args.commands.now c.args.n) (lines_are f a p m) (sym (c.refuted_by-refuted.ensures s f m))
