-- `opb::place_at` owes whether a byte is the first of its line. Assumes nothing.
use native.Mathlib.Omega.{arith}
use Rattle.opb.proofs.Comments.{place-start, place-line, place-later}
use Rattle.opb.proofs.place_at.Goals as goal

pub returns-then-at-eq0 : goal.returns-then-at-eq0
returns-then-at-eq0 c = place-start c.args.text.now c.args.at c.if-at-eq0.true

pub returns-in-10 : goal.returns-in-10
returns-in-10 c = place-line c.args.text.now c.args.at c.if-at-eq0.false c.in-10.is

pub returns-in_default : goal.returns-in_default
returns-in_default c = place-later c.args.text.now c.args.at c.if-at-eq0.false (λ e. omega (arith, e))
