-- Where too little is lent nothing is written; else the report is that of both texts, and sound by the theorem.
use mathlib.Core.Path.{refl, sym, ap, ◌∙◌}
use native.Mathlib.Omega.{arith}
use lib.ListN.{length}
use Rattle.report.proofs.Writing.{wrote-front, wrote-rest}
use Rattle.checker.proofs.Reporting.{both-enough, both-no-report, both-no-table, sound-both-report}
use Rattle.checker.proofs.cutting_planes_check_opb.Goals as goal

pub returns-then-report-lt-REPORT_BYTES : goal.returns-then-report-lt-REPORT_BYTES
returns-then-report-lt-REPORT_BYTES c = let r = length c.args.report.now in let n = length c.args.nodes.now in let e = both-no-report r n c.args.opb.now c.args.text.now (omega arith) in record {
  value = sym (ap length e);
  report_after = sym e;
  report_unchanged = refl;
  nodes_unchanged = λ h. refl;
  sound_both = sound-both-report r n c.args.opb.now c.args.text.now (sym e);
}

pub returns-then-nodes-lt-NODE_WORDS : goal.returns-then-nodes-lt-NODE_WORDS
returns-then-nodes-lt-NODE_WORDS c = let r = length c.args.report.now in let n = length c.args.nodes.now in let e = both-no-table r n c.args.opb.now c.args.text.now (omega arith) in record {
  value = sym (ap length e);
  report_after = sym e;
  report_unchanged = refl;
  nodes_unchanged = λ h. refl;
  sound_both = sound-both-report r n c.args.opb.now c.args.text.now (sym e);
}

pub returns : goal.returns
returns c = let r = length c.args.report.now in let n = length c.args.nodes.now in let e = both-enough r n c.args.opb.now c.args.text.now (omega arith) (omega arith) in let w = c.report_both.ensures in record {
  value = omega (arith, w.next, ap length e);
  report_after = wrote-front w ∙ sym e;
  report_unchanged = wrote-rest w;
  nodes_unchanged = λ h. absurd (h (omega arith) (omega arith));
  sound_both = sound-both-report r n c.args.opb.now c.args.text.now (wrote-front w ∙ sym e);
}
