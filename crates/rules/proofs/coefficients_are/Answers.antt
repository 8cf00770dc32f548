-- The loop's invariant: the answer from entry i on is that for the whole.
use native.Mathlib.Omega.{arith}
use Rattle.integer.proofs.Signed.{back}
use Rattle.matching.specs.Places.{placed}
use Rattle.sums.specs.Places.{left_at, right_at, conclusion_at}
use Rattle.matching.proofs.Places.{key-at, coefficient-at}
use Rattle.rules.proofs.Adding.{are-more, are-stop, are-end}
use Rattle.rules.proofs.coefficients_are.Goals as goal

pub coefficient_is-requires-clause-variable : goal.coefficient_is-requires-clause-variable
coefficient_is-requires-clause-variable c = rw (key-at conclusion_at c.args.keys.now c.loop-i.i (omega (arith, c.requires.listed.most))) at (c.requires.listed.literals c.loop-i.i (omega arith))

pub returns-then-not-coefficient_is : goal.returns-then-not-coefficient_is
returns-then-not-coefficient_is c = are-stop c.args.nodes.now (placed right_at c.args.coeffs.now) (placed left_at c.args.keys.now) c.args.n (placed conclusion_at c.args.coeffs.now) (placed conclusion_at c.args.keys.now) c.args.m c.loop-i.i c.loop-i.invariant (omega arith) (rw (back _ c.c-1.given, ← (coefficient-at conclusion_at c.args.coeffs.now c.loop-i.i (omega (arith, c.requires.listed.most))), ← (key-at conclusion_at c.args.keys.now c.loop-i.i (omega (arith, c.requires.listed.most))), c.if-not-coefficient_is.true) at c.coefficient_is.ensures)

pub loop-i-preserved : goal.loop-i-preserved
loop-i-preserved c = are-more c.args.nodes.now (placed right_at c.args.coeffs.now) (placed left_at c.args.keys.now) c.args.n (placed conclusion_at c.args.coeffs.now) (placed conclusion_at c.args.keys.now) c.args.m c.loop-i.i c.loop-i.invariant (omega arith) (rw (back _ c.c-1.given, ← (coefficient-at conclusion_at c.args.coeffs.now c.loop-i.i (omega (arith, c.requires.listed.most))), ← (key-at conclusion_at c.args.keys.now c.loop-i.i (omega (arith, c.requires.listed.most))), c.if-not-coefficient_is.false) at c.coefficient_is.ensures)

pub returns : goal.returns
returns c = are-end c.args.nodes.now (placed right_at c.args.coeffs.now) (placed left_at c.args.keys.now) c.args.n (placed conclusion_at c.args.coeffs.now) (placed conclusion_at c.args.keys.now) c.args.m c.loop-i.i c.loop-i.invariant (omega arith)
