-- `reader::read_arguments` owes the optional list of arguments. Assumes nothing.
use Rattle.calculus.specs.Grammar.{mark_number}
use mathlib.Core.Path.{ap, ◌∙◌}
use Rattle.std.specs.Prelude.{Ok}
use Rattle.heads.specs.Heads.{list_of}
use Rattle.terms.specs.Reading.{items_of}
use Rattle.heads.proofs.Refusals.{passed_on}
use Rattle.reader.proofs.Sections.{outside, arguments-asks, arguments-none, arguments-off, arguments-items}
use Rattle.reader.proofs.read_arguments.Goals as goal

pub read_items-requires : goal.read_items-requires
unfolding mark_number
read_items-requires c = outside c.requires _ (arguments-asks c.requires (list_of c.list_head.result) c.list_head.ensures.0 c.list_head.ensures.1 _ (ap list_of (c.in_ok-list_head.was ∙ ap Ok c.in-Some.is)))

pub returns-in-None : goal.returns-in-None
unfolding mark_number
returns-in-None c = arguments-none c.requires (list_of c.list_head.result) c.list_head.ensures.0 c.list_head.ensures.1 (ap list_of (c.in_ok-list_head.was ∙ ap Ok c.in-None.is))

pub returns-in_err-list_head : goal.returns-in_err-list_head
unfolding mark_number
returns-in_err-list_head c = rw (passed_on c.from_residual.result c.from_residual.ensures.1) (arguments-off c.requires (list_of c.list_head.result) c.list_head.ensures.0 c.list_head.ensures.1 _ _ (ap list_of c.in_err-list_head.was))

pub shape_of-nodes : goal.shape_of-nodes
shape_of-nodes c = c.read_items.auto.nodes

pub shape_of-pending : goal.shape_of-pending
shape_of-pending c = c.read_items.auto.pending

pub shape_of-names : goal.shape_of-names
shape_of-names c = c.read_items.auto.names

pub returns-in-Some : goal.returns-in-Some
unfolding mark_number
returns-in-Some c = arguments-items c.requires (list_of c.list_head.result) c.list_head.ensures.0 c.list_head.ensures.1 _ (ap list_of (c.in_ok-list_head.was ∙ ap Ok c.in-Some.is)) c.read_items.new.nodes c.read_items.new.pending c.read_items.new.names (items_of c.read_items.result) c.read_items.ensures
