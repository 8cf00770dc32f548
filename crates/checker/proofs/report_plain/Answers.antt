-- Where there is no pol line, no number has to stand there before: the answers are those of the file's lines.
use mathlib.Core.Bool.{false}
use Prim.Native.Nat.{ℕ}
use native.Mathlib.Omega.{arith}
use lib.IntN.{pos}
use lib.ListN.{replicate, length-replicate}
use Rattle.sums.proofs.Places.{rooms-kept}
use Rattle.checker.proofs.Answering.{rooms-of}
use Rattle.checker.proofs.Filing.{counted_none}
use Rattle.checker.proofs.report_plain.Goals as goal

pub answer_all-requires : goal.answer_all-requires
answer_all-requires c = record {
  filed = (c.args.text.now, c.requires.0);
  n_in_bounds = (omega (arith, length-replicate {A = ℕ} 512 0, c.requires.0.commands.few), omega (arith, length-replicate 512 false, c.requires.0.commands.few));
  rooms = rooms-of _ (pos 0) 0 0 c.requires.3;
}

pub report_answered-requires : goal.report_answered-requires
report_answered-requires c = record {
  file = (c.requires.0, c.requires.2);
  rooms = rooms-kept c.answer_all.auto.coeffs c.answer_all.auto.keys c.answer_all.auto.slots (rooms-of _ (pos 0) 0 0 c.requires.3);
  n_in_bounds = (omega (arith, c.answer_all.auto.numbers, length-replicate {A = ℕ} 512 0, c.requires.0.commands.few), omega (arith, c.answer_all.auto.plains, length-replicate 512 false, c.requires.0.commands.few));
  answered_by = c.answer_all.ensures c.args.text.now c.requires.0 (counted_none c.args.text.now c.args.nodes.now c.args.commands.now c.args.n (replicate 512 0) c.requires.1);
}
