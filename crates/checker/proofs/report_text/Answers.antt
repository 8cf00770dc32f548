-- What the reader answers decides: a file's report, without pol lines or with them, a refusal's line; and the tables are not too small.
use mathlib.Core.Path.{ap, ◌∙◌}
use Rattle.std.specs.Prelude.{Err}
use native.Mathlib.Omega.{arith}
use Rattle.reader.specs.Reading.{file_of}
use Rattle.checker.proofs.Taking.{taken_of}
use Rattle.checker.proofs.Filing.{file-plain, no-pols}
use Rattle.checker.proofs.Reporting.{report-all, report-refused, report-small}
use Rattle.checker.proofs.report_text.Goals as goal

pub report_plain-requires : goal.report_plain-requires
report_plain-requires c = let T = taken_of c.args.text.now c.args.nodes.now c.read_file.new.nodes c.args.commands.now c.read_file.new.commands (file_of c.read_file.result) _ _ _ _ c.read_file.ensures (ap file_of c.in-Ok.is) in (file-plain T (omega (arith, c.if-read-eq0.true)), no-pols T (omega (arith, c.if-read-eq0.true)), c.requires.0, omega (arith, c.read_file.auto.nodes, c.requires.1))

pub returns-then-read-eq0 : goal.returns-then-read-eq0
returns-then-read-eq0 c = report-all c.args.text.now c.args.nodes.now c.read_file.new.nodes c.args.commands.now c.read_file.new.commands (file_of c.read_file.result) c.read_file.ensures _ _ _ _ (ap file_of c.in-Ok.is) c.report_plain.ensures

pub report_pols-requires : goal.report_pols-requires
report_pols-requires c = ((_, taken_of c.args.text.now c.args.nodes.now c.read_file.new.nodes c.args.commands.now c.read_file.new.commands (file_of c.read_file.result) _ _ _ _ c.read_file.ensures (ap file_of c.in-Ok.is)), c.requires.0, omega (arith, c.read_file.auto.nodes, c.requires.1))

pub returns-else-read-eq0 : goal.returns-else-read-eq0
returns-else-read-eq0 c = report-all c.args.text.now c.args.nodes.now c.read_file.new.nodes c.args.commands.now c.read_file.new.commands (file_of c.read_file.result) c.read_file.ensures _ _ _ _ (ap file_of c.in-Ok.is) c.report_pols.ensures

pub returns-in-Err-Refused : goal.returns-in-Err-Refused
returns-in-Err-Refused c = report-refused c.args.text.now c.args.nodes.now c.read_file.new.nodes c.args.commands.now c.read_file.new.commands (file_of c.read_file.result) c.read_file.ensures _ _ (ap file_of (c.in-Err-Refused.is ∙ ap Err c.in-Err-Refused.field-0-is)) (rw c.from.ensures at c.write_refusal.ensures)

pub returns-in-Err-Small : goal.returns-in-Err-Small
returns-in-Err-Small c = report-small c.args.text.now c.args.nodes.now c.read_file.new.nodes c.args.commands.now c.read_file.new.commands (file_of c.read_file.result) c.read_file.ensures (ap file_of (c.in-Err-Small.is ∙ ap Err c.in-Err-Small.field-0-is)) c.requires.1 c.requires.2
