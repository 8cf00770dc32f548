-- `reader::read_premises` owes the optional list of premises. Assumes nothing.
use Rattle.calculus.specs.Grammar.{mark_number}
use mathlib.Core.Path.{ap, ◌∙◌}
use Rattle.std.specs.Prelude.{Ok}
use Rattle.heads.specs.Heads.{list_of}
use Rattle.terms.specs.Reading.{items_of}
use Rattle.heads.proofs.Refusals.{passed_on}
use Rattle.reader.proofs.Citing.{premises-asks, premises-none, premises-off, premises-cited}
use Rattle.reader.proofs.read_premises.Goals as goal

pub cite-requires : goal.cite-requires
unfolding mark_number
cite-requires c = let H = premises-asks c.args.text.now c.args.commands.now c.args.k c.args.at c.args.nodes.now c.args.n c.args.c c.requires.3 c.requires.1 (list_of c.list_head.result) c.list_head.ensures.0 c.list_head.ensures.1 c.requires.0 _ (ap list_of (c.in_ok-list_head.was ∙ ap Ok c.in-Some.is)) in (H.0, H.1, c.requires.2, c.requires.3, c.requires.4)

pub returns-in-None : goal.returns-in-None
unfolding mark_number
returns-in-None c = premises-none c.args.text.now c.args.commands.now c.args.k c.args.at c.args.nodes.now c.args.n c.args.c c.requires.3 c.requires.1 (list_of c.list_head.result) c.list_head.ensures.0 c.list_head.ensures.1 (ap list_of (c.in_ok-list_head.was ∙ ap Ok c.in-None.is))

pub returns-in_err-list_head : goal.returns-in_err-list_head
unfolding mark_number
returns-in_err-list_head c = rw (passed_on c.from_residual.result c.from_residual.ensures.1) (premises-off c.args.text.now c.args.commands.now c.args.k c.args.at c.args.nodes.now c.args.n c.args.c c.requires.3 c.requires.1 (list_of c.list_head.result) c.list_head.ensures.0 c.list_head.ensures.1 _ _ (ap list_of c.in_err-list_head.was))

pub shape_of-nodes : goal.shape_of-nodes
shape_of-nodes c = c.cite.auto.nodes

pub shape_of-pending : goal.shape_of-pending
shape_of-pending c = c.cite.auto.pending

pub returns-in-Some : goal.returns-in-Some
unfolding mark_number
returns-in-Some c = premises-cited c.args.text.now c.args.commands.now c.args.k c.args.at c.args.nodes.now c.args.n c.args.c c.requires.3 c.requires.1 (list_of c.list_head.result) c.list_head.ensures.0 c.list_head.ensures.1 _ (ap list_of (c.in_ok-list_head.was ∙ ap Ok c.in-Some.is)) c.cite.new.nodes (items_of c.cite.result) c.cite.ensures
