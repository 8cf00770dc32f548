-- `ending::put_words` owes the first r entries as summands. The invariant: the first q are written.
use mathlib.Core.Path.{◌≡◌}
use native.Mathlib.Omega.{arith}
use Rattle.ending.proofs.Wording.{written_none, gathered-less, written_next}
use Rattle.ending.proofs.put_words.Goals as goal

pub loop-q-init : goal.loop-q-init
loop-q-init c = written_none c.args.nodes.now c.args.coeffs.now c.args.keys.now c.args.summands.now c.requires.2

pub put_summand-requires : goal.put_summand-requires
put_summand-requires c = (gathered-less c.requires.0 (omega arith), λ i h. c.requires.1 i (omega arith), omega arith)

pub loop-q-preserved : goal.loop-q-preserved
loop-q-preserved c = written_next c.requires.0 c.loop-q.invariant (omega arith) (omega arith) c.put_summand.ensures

pub returns : goal.returns
returns c = let e : c.loop-q.q ≡ c.args.r = omega arith in rw e at c.loop-q.invariant
