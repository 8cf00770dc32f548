-- `opb::store_summand` owes the five words of a summand, while there is room. Assumes nothing.
use native.Mathlib.Omega.{arith}
use lib.ListN.{length-set}
use Rattle.opb.specs.Judged.{five_words}
use Rattle.opb.proofs.Storing.{put-none, put_five}
use Rattle.opb.proofs.store_summand.Goals as goal

pub returns-then-q-ge-STORED_SUMMANDS : goal.returns-then-q-ge-STORED_SUMMANDS
returns-then-q-ge-STORED_SUMMANDS c = put-none c.args.summands.now c.args.q c.args.m c.args.v c.args.d c.args.n c.args.t c.if-q-ge-STORED_SUMMANDS.true

pub bounds-summands-i-2 : goal.bounds-summands-i-2
bounds-summands-i-2 c = simp length-set (omega arith)

pub bounds-summands-i-3 : goal.bounds-summands-i-3
bounds-summands-i-3 c = simp length-set (omega arith)

pub bounds-summands-i-4 : goal.bounds-summands-i-4
bounds-summands-i-4 c = simp length-set (omega arith)

pub bounds-summands-i-5 : goal.bounds-summands-i-5
bounds-summands-i-5 c = simp length-set (omega arith)

pub returns : goal.returns
unfolding five_words
returns c = put_five c.args.summands.now c.args.q c.args.m c.args.v c.args.d c.args.n c.args.t c.bit.result c.bit-2.result c.bit.ensures c.bit-2.ensures c.if-q-ge-STORED_SUMMANDS.false
