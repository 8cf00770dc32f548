-- A line that is not marked refutes nothing; a marked one does where its clause is unreachable.
use mathlib.Core.Path.{sym, subst}
use native.Mathlib.Omega.{arith}
use Rattle.matching.specs.Matched.{AllNodes}
use Rattle.sums.proofs.Places.{room_of}
use Rattle.checker.proofs.Marking.{clause-part, clause-nodes, refutes_not, refutes-is}
use Rattle.checker.proofs.refutes.Goals as goal

pub returns-then-not-marks-k : goal.returns-then-not-marks-k
returns-then-not-marks-k c = λ s f m. refutes_not f c.args.k c.requires.filed.1 c.args.marks.now m c.if-not-marks-k.true

pub part_of-clause-requires : goal.part_of-clause-requires
part_of-clause-requires c = clause-part c.requires.filed.0.1 c.args.k c.requires.filed.1

pub unreachable-requires : goal.unreachable-requires
unreachable-requires c = record {
  all_nodes = subst (AllNodes c.args.nodes.now) (sym c.part_of-clause.ensures) (clause-nodes c.requires.filed.0.1 c.args.k c.requires.filed.1);
  room = room_of c.requires.rooms 0 (omega arith);
}

pub returns : goal.returns
returns c = λ s f m. refutes-is f c.args.k c.requires.filed.1 c.args.marks.now m c.unreachable.result c.if-not-marks-k.false c.part_of-clause.ensures c.unreachable.ensures
