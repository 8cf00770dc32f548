-- `lines::run_commands` owes the clauses and numbers of all pol lines. The invariant: those of the first commands.
use native.Mathlib.Omega.{arith}
use Rattle.lines.proofs.Filing.{passed-running, passed-above, passed-room, passed-more, passed-all}
use Rattle.lines.proofs.Growing.{rooms_same}
use Rattle.lines.proofs.run_commands.Goals as goal

pub run_command-ran-requires : goal.run_command-ran-requires
run_command-ran-requires c = (
  passed-running c.loop-k.invariant (omega arith) c.requires.0.text (rooms_same c.requires.0.rooms c.loop-k.auto.coeffs c.loop-k.auto.keys c.loop-k.auto.slots) (omega (arith, c.requires.0.coefficients, c.loop-k.auto.coeffs)) (omega (arith, c.requires.0.keys, c.loop-k.auto.keys)),
  passed-above c.loop-k.invariant (omega arith),
  passed-room c.loop-k.invariant (omega arith) c.requires.0.room,
  omega arith,
  c.loop-k.invariant.commands.pols c.loop-k.k (omega arith),
  omega (arith, c.requires.1, c.loop-k.auto.summands),
  omega (arith, c.requires.2, c.loop-k.auto.pending),
  omega (arith, c.requires.0.answers, c.loop-k.auto.numbers),
)

pub loop-k-preserved : goal.loop-k-preserved
loop-k-preserved c = passed-more c.loop-k.invariant (omega arith) c.run_command-ran.ensures

pub returns : goal.returns
returns c = passed-all c.loop-k.invariant (omega arith)
