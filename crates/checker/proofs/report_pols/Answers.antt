-- Over the larger table the lines are those of the tables as read: the pass leaves the same commands, each pol line with its clause and its number.
use mathlib.Core.Bool.{false}
use mathlib.Core.Path.{sym, ◌∙◌}
use Prim.Native.Nat.{ℕ}
use native.Mathlib.Omega.{arith}
use lib.IntN.{pos}
use lib.ListN.{length-replicate}
use Rattle.terms.proofs.Naming.{moved-firsts, moved_named}
use Rattle.checker.proofs.Filing.{wide-rooms, lines-ready, file-run, counted-run, lines-run}
use Rattle.checker.proofs.report_pols.Goals as goal

pub widen-requires : goal.widen-requires
widen-requires c = (c.requires.0.1.table, omega (arith, length-replicate {A = ℕ} 107264 0, c.requires.2), omega (arith, length-replicate {A = ℕ} 107264 0))

pub index_names-requires : goal.index_names-requires
index_names-requires c = (omega (arith, c.widen.auto.wider, length-replicate {A = ℕ} 107264 0), omega (arith, c.widen.auto.wider, length-replicate {A = ℕ} 107264 0, c.requires.0.1.table.few, c.requires.2), moved-firsts c.widen.ensures c.requires.0.1.firsts, moved_named c.widen.ensures c.requires.0.1.named, omega (arith, c.widen.auto.wider, length-replicate {A = ℕ} 107264 0, length-replicate {A = ℕ} 27840 0))

pub run_lines-requires : goal.run_lines-requires
run_lines-requires c = lines-ready c.requires.0.1 c.widen.ensures c.requires.2 (omega (arith, c.widen.auto.wider, length-replicate {A = ℕ} 107264 0)) (omega (arith, c.widen.auto.wider, length-replicate {A = ℕ} 107264 0)) c.index_names.ensures (wide-rooms (c.widen.auto.wider ∙ length-replicate {A = ℕ} 107264 0) (length-replicate 5152 (pos 0)) (length-replicate {A = ℕ} 5152 0) (length-replicate {A = ℕ} 107264 0)) (omega (arith, length-replicate 5152 (pos 0))) (omega (arith, length-replicate {A = ℕ} 5152 0)) (omega (arith, length-replicate {A = ℕ} 512 0, c.requires.0.1.commands.few))

pub answer_all-requires : goal.answer_all-requires
answer_all-requires c = record {
  filed = (c.args.text.now, file-run c.requires.0.1 c.widen.ensures c.requires.2 (omega (arith, c.widen.auto.wider, length-replicate {A = ℕ} 107264 0)) c.run_lines.ensures);
  n_in_bounds = (omega (arith, c.run_lines.auto.numbers, length-replicate {A = ℕ} 512 0, c.requires.0.1.commands.few), omega (arith, length-replicate 512 false, c.requires.0.1.commands.few));
  rooms = wide-rooms (c.run_lines.auto.nodes ∙ c.widen.auto.wider ∙ length-replicate {A = ℕ} 107264 0) (c.run_lines.auto.coeffs ∙ length-replicate 5152 (pos 0)) (c.run_lines.auto.keys ∙ length-replicate {A = ℕ} 5152 0) (c.run_lines.auto.slots ∙ length-replicate {A = ℕ} 107264 0);
}

pub report_answered-requires : goal.report_answered-requires
report_answered-requires c = record {
  file = (file-run c.requires.0.1 c.widen.ensures c.requires.2 (omega (arith, c.widen.auto.wider, length-replicate {A = ℕ} 107264 0)) c.run_lines.ensures, c.requires.1);
  rooms = wide-rooms (c.run_lines.auto.nodes ∙ c.widen.auto.wider ∙ length-replicate {A = ℕ} 107264 0) (c.answer_all.auto.coeffs ∙ c.run_lines.auto.coeffs ∙ length-replicate 5152 (pos 0)) (c.answer_all.auto.keys ∙ c.run_lines.auto.keys ∙ length-replicate {A = ℕ} 5152 0) (c.answer_all.auto.slots ∙ c.run_lines.auto.slots ∙ length-replicate {A = ℕ} 107264 0);
  n_in_bounds = (omega (arith, c.answer_all.auto.numbers, c.run_lines.auto.numbers, length-replicate {A = ℕ} 512 0, c.requires.0.1.commands.few), omega (arith, c.answer_all.auto.plains, length-replicate 512 false, c.requires.0.1.commands.few));
  answered_by = c.answer_all.ensures c.args.text.now (file-run c.requires.0.1 c.widen.ensures c.requires.2 (omega (arith, c.widen.auto.wider, length-replicate {A = ℕ} 107264 0)) c.run_lines.ensures) (counted-run c.requires.0.1 c.widen.ensures c.requires.2 (omega (arith, c.widen.auto.wider, length-replicate {A = ℕ} 107264 0)) c.run_lines.ensures);
}

pub returns : goal.returns
returns c = rw (sym (lines-run c.requires.0.1 c.widen.ensures c.requires.2 (omega (arith, c.widen.auto.wider, length-replicate {A = ℕ} 107264 0)) c.run_lines.ensures)) c.report_answered.ensures
