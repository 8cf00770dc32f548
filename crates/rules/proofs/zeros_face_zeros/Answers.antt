-- The loop's invariant: the answer from entry i on is that for the whole.
use native.Mathlib.Omega.{arith}
use Rattle.integer.proofs.Signed.{back}
use Rattle.matching.specs.Places.{placed}
use Rattle.sums.specs.Places.{left_at, right_at, conclusion_at}
use Rattle.matching.proofs.Places.{key-at, coefficient-at}
use Rattle.rules.proofs.Adding.{face-more, face-stop, face_end}
use Rattle.rules.proofs.zeros_face_zeros.Goals as goal

pub zero_faces_zero-requires-clause-variable : goal.zero_faces_zero-requires-clause-variable
zero_faces_zero-requires-clause-variable c = rw (key-at conclusion_at c.args.keys.now c.loop-i.i (omega (arith, c.requires.listed.most))) at (c.requires.listed.literals c.loop-i.i (omega arith))

pub returns-then-not-zero_faces_zero : goal.returns-then-not-zero_faces_zero
returns-then-not-zero_faces_zero c = face-stop c.args.nodes.now (placed right_at c.args.coeffs.now) (placed left_at c.args.keys.now) c.args.n (placed conclusion_at c.args.coeffs.now) (placed conclusion_at c.args.keys.now) c.args.m c.loop-i.i c.loop-i.invariant (omega arith) (rw (back _ c.c-1.given, ← (coefficient-at conclusion_at c.args.coeffs.now c.loop-i.i (omega (arith, c.requires.listed.most))), ← (key-at conclusion_at c.args.keys.now c.loop-i.i (omega (arith, c.requires.listed.most))), c.if-not-zero_faces_zero.true) at c.zero_faces_zero.ensures)

pub loop-i-preserved : goal.loop-i-preserved
loop-i-preserved c = face-more c.args.nodes.now (placed right_at c.args.coeffs.now) (placed left_at c.args.keys.now) c.args.n (placed conclusion_at c.args.coeffs.now) (placed conclusion_at c.args.keys.now) c.args.m c.loop-i.i c.loop-i.invariant (omega arith) (rw (back _ c.c-1.given, ← (coefficient-at conclusion_at c.args.coeffs.now c.loop-i.i (omega (arith, c.requires.listed.most))), ← (key-at conclusion_at c.args.keys.now c.loop-i.i (omega (arith, c.requires.listed.most))), c.if-not-zero_faces_zero.false) at c.zero_faces_zero.ensures)

pub returns : goal.returns
returns c = face_end c.args.nodes.now (placed right_at c.args.coeffs.now) (placed left_at c.args.keys.now) c.args.n (placed conclusion_at c.args.coeffs.now) (placed conclusion_at c.args.keys.now) c.args.m c.loop-i.i c.loop-i.invariant (omega arith)
