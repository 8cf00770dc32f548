-- `opb_reader::put_assumption` owes one assumption more: its nodes, and its words with its id.
use native.Mathlib.Omega.{arith}
use borrow.Author.Rules.{rules}
use Rattle.opb_reader.proofs.Assuming.{some-node, making, start_fits, id-fits, commanding, assumed}
use Rattle.opb_reader.proofs.put_assumption.Goals as goal

pub put_inequality-m-requires : goal.put_inequality-m-requires
put_inequality-m-requires c = making (c.requires)

pub overflow_add-from : goal.overflow_add-from
overflow_add-from c = search (rules, start_fits (c.requires) _ c.id_start.ensures)

pub overflow_add-to : goal.overflow_add-to
overflow_add-to c = search (rules, id-fits (c.requires) _ _ c.id_start.ensures c.id_start-2.ensures)

pub overflow_sub-m : goal.overflow_sub-m
overflow_sub-m c = some-node c.put_inequality-m.ensures

pub put_command-requires : goal.put_command-requires
put_command-requires c = commanding (c.requires) _ _ c.id_start.ensures c.id_start-2.ensures _ (omega (arith, c.put_inequality-m.ensures.grown.table.few))

pub returns : goal.returns
returns c = assumed (c.requires) _ _ c.id_start.ensures c.id_start-2.ensures c.put_inequality-m.ensures c.put_command.ensures c.put_inequality-m.auto.pending
