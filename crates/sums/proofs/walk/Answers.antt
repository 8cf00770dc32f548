-- `sums::walk` owes the place of the first entry with this literal. The loop's invariant: the place in the whole is that from here on, behind what was passed.
use native.Mathlib.Omega.{arith}
use Rattle.matching.specs.Places.{placed}
use Rattle.matching.proofs.Places.{key-at}
use Rattle.sums.proofs.Slots.{walk_more, walk_here, walk_end}
use Rattle.sums.proofs.walk.Goals as goal

pub same_literal-requires-clause-node_2 : goal.same_literal-requires-clause-node_2
same_literal-requires-clause-node_2 c = (rw (key-at c.args.at c.args.keys.now c.loop-i.i (omega (arith, c.requires.literals.3))) at (c.requires.literals.0 c.loop-i.i (omega arith))).node

pub returns-then-same_literal : goal.returns-then-same_literal
returns-then-same_literal c = walk_here c.args.nodes.now (placed c.args.at c.args.keys.now) c.args.n c.args.key c.loop-i.i c.loop-i.invariant (omega arith) (key-at c.args.at c.args.keys.now c.loop-i.i (omega (arith, c.requires.literals.3))) c.if-same_literal.true c.same_literal.ensures

pub loop-i-preserved : goal.loop-i-preserved
loop-i-preserved c = walk_more c.args.nodes.now (placed c.args.at c.args.keys.now) c.args.n c.args.key c.loop-i.i c.loop-i.invariant (omega arith) (key-at c.args.at c.args.keys.now c.loop-i.i (omega (arith, c.requires.literals.3))) c.if-same_literal.false c.same_literal.ensures

pub returns : goal.returns
returns c = walk_end c.args.nodes.now (placed c.args.at c.args.keys.now) c.args.n c.args.key c.loop-i.i c.loop-i.invariant (omega arith)
