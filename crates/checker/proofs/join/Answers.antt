-- `checker::join` owes the string of both texts: three pieces, or two.
use native.Mathlib.Omega.{arith}
use Rattle.calculus.specs.OpbWriting.{constraint_id}
use Rattle.calculus.specs.Words.{decimal, decimal_from}
use Rattle.opb_reader.specs.Ids.{ids_behind, ids}
use Rattle.report.proofs.Writing.{◌⨟◌}
use Rattle.checker.proofs.Joining.{wrote-all, wrote-cut}
use Rattle.checker.proofs.join.Goals as goal

pub append-ids-requires : goal.append-ids-requires
append-ids-requires c = omega (arith, c.requires.0, c.requires.1)

pub append-start-requires : goal.append-start-requires
append-start-requires c = omega (arith, c.requires.0, c.requires.1, c.append-ids.ensures.next, c.append-ids.ensures.size)

pub returns-then-text-gt-MAX_TEXT : goal.returns-then-text-gt-MAX_TEXT
unfolding ids ids_behind constraint_id decimal decimal_from
returns-then-text-gt-MAX_TEXT c = wrote-cut c.args.opb.now c.args.text.now c.if-text-gt-MAX_TEXT.true (c.append-ids.ensures ⨟ c.append-start.ensures)

pub append-requires : goal.append-requires
append-requires c = omega (arith, c.requires.0, c.requires.1, c.append-ids.ensures.next, c.append-ids.ensures.size, c.append-start.ensures.next, c.append-start.ensures.size, c.if-text-gt-MAX_TEXT.false)

pub returns : goal.returns
unfolding ids ids_behind constraint_id decimal decimal_from
returns c = wrote-all c.args.opb.now c.args.text.now (omega (arith, c.if-text-gt-MAX_TEXT.false)) (c.append-ids.ensures ⨟ c.append-start.ensures ⨟ c.append.ensures)
