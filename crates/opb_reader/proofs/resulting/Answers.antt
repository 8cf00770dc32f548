-- `opb_reader::resulting` owes the assumptions of a constraint.
use mathlib.Core.Path.{refl}
use native.Mathlib.Omega.{arith}
use Rattle.opb.specs.Counts.{resulting}
use Rattle.opb.specs.Tokens.{relation_of}
use Rattle.opb_reader.proofs.resulting.Goals as goal

pub returns-then-equal : goal.returns-then-equal
unfolding resulting relation_of
returns-then-equal c = (rw c.if-equal.true refl, omega arith)

pub returns-else-equal : goal.returns-else-equal
unfolding resulting relation_of
returns-else-equal c = (rw c.if-equal.false refl, omega arith)
