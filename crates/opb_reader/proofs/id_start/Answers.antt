-- `opb_reader::id_start` owes where an id begins, by the ranges of its number.
use native.Mathlib.Omega.{arith}
use Rattle.opb_reader.proofs.Ids.{start-one, start-two, start-three}
use Rattle.opb_reader.proofs.id_start.Goals as goal

pub returns-then-k-le9 : goal.returns-then-k-le9
returns-then-k-le9 c = start-one _ (omega arith)

pub returns-then-k-le99 : goal.returns-then-k-le99
returns-then-k-le99 c = start-two _ (omega arith) (omega arith)

pub returns : goal.returns
returns c = start-three _ (omega arith)
