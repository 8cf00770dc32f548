-- What the reader of both texts answers decides: a file's report, without pol lines or with them, or a refusal's line.
use mathlib.Core.Path.{ap}
use native.Mathlib.Omega.{arith}
use Rattle.reader.specs.Reading.{whole_of}
use Rattle.checker.proofs.Taking.{taken-both}
use Rattle.checker.proofs.Filing.{file-plain, no-pols}
use Rattle.checker.proofs.Joining.{both_long}
use Rattle.checker.proofs.Reporting.{both-report, both-refusal}
use Rattle.checker.proofs.report_joined.Goals as goal

pub read_both-requires : goal.read_both-requires
read_both-requires c = c.requires.1

pub report_plain-requires : goal.report_plain-requires
report_plain-requires c = let T = taken-both c.args.opb.now c.args.text.now c.args.string.now c.read_both.new.nodes c.read_both.new.commands (whole_of c.read_both.result) _ _ _ _ (both_long c.requires.1) c.read_both.ensures (ap whole_of c.in-Ok.is) in (file-plain T (omega (arith, c.if-read-eq0.true)), no-pols T (omega (arith, c.if-read-eq0.true)), c.requires.0, omega (arith, c.read_both.auto.nodes, c.requires.1.room))

pub returns-then-read-eq0 : goal.returns-then-read-eq0
returns-then-read-eq0 c = both-report c.args.opb.now c.args.text.now c.args.string.now c.read_both.new.nodes c.read_both.new.commands (whole_of c.read_both.result) c.read_both.ensures _ _ _ _ (ap whole_of c.in-Ok.is) c.report_plain.ensures

pub report_pols-requires : goal.report_pols-requires
report_pols-requires c = ((_, taken-both c.args.opb.now c.args.text.now c.args.string.now c.read_both.new.nodes c.read_both.new.commands (whole_of c.read_both.result) _ _ _ _ (both_long c.requires.1) c.read_both.ensures (ap whole_of c.in-Ok.is)), c.requires.0, omega (arith, c.read_both.auto.nodes, c.requires.1.room))

pub returns-else-read-eq0 : goal.returns-else-read-eq0
returns-else-read-eq0 c = both-report c.args.opb.now c.args.text.now c.args.string.now c.read_both.new.nodes c.read_both.new.commands (whole_of c.read_both.result) c.read_both.ensures _ _ _ _ (ap whole_of c.in-Ok.is) c.report_pols.ensures

pub returns-in-Err : goal.returns-in-Err
returns-in-Err c = both-refusal c.args.opb.now c.args.text.now c.args.string.now c.read_both.new.nodes c.read_both.new.commands (whole_of c.read_both.result) c.read_both.ensures _ _ (ap whole_of c.in-Err.is) (rw c.from.ensures at c.write_refusal.ensures)
