-- `reader::read_command` owes a command, by its first word. Assumes nothing.
use mathlib.Core.Path.{ap, ◌∙◌}
use Rattle.std.specs.Prelude.{Ok}
use Rattle.heads.specs.Heads.{kind_read}
use Rattle.terms.specs.Reading.{read_of}
use Rattle.heads.proofs.Refusals.{passed_on}
use native.Mathlib.Omega.{arith}
use Rattle.reader.proofs.Composing.{assume-ready, pol-ready, derive-ready, neither, command_assumed, command_derived, command_lined}
use Rattle.reader.proofs.read_command.Goals as goal

pub read_assumption-requires : goal.read_assumption-requires
read_assumption-requires c = (assume-ready c.requires.0 _ c.command_head.ensures.1 _ (ap kind_read (c.in_ok-t.was ∙ ap Ok c.in-Assume.is)), c.requires.1, c.requires.2)

pub read_step-requires : goal.read_step-requires
read_step-requires c = (derive-ready c.requires.0 _ c.command_head.ensures.1 _ (ap kind_read (c.in_ok-t.was ∙ ap Ok c.in-Derive.is)), c.requires.1, c.requires.2)

pub read_pol-requires : goal.read_pol-requires
read_pol-requires c = let h = pol-ready c.requires.0 _ c.command_head.ensures.1 _ _ (ap kind_read (c.in_ok-t.was ∙ ap Ok c.in-Pol.is)) in (h.0, h.1, c.requires.1, c.requires.2, omega (arith, c.requires.0.whole, c.requires.0.table.few, c.requires.0.table.used))

pub returns-in_err-t : goal.returns-in_err-t
returns-in_err-t c = rw (passed_on c.from_residual.result c.from_residual.ensures.1) (neither c.args.text.now c.args.commands.now c.args.at c.args.n c.args.k c.args.pols (kind_read c.command_head.result) c.command_head.ensures.0 _ _ (ap kind_read c.in_err-t.was))

pub shape_of-commands-in-Assume : goal.shape_of-commands-in-Assume
shape_of-commands-in-Assume c = c.read_assumption.auto.commands

pub shape_of-nodes-in-Assume : goal.shape_of-nodes-in-Assume
shape_of-nodes-in-Assume c = c.read_assumption.auto.nodes

pub shape_of-pending-in-Assume : goal.shape_of-pending-in-Assume
shape_of-pending-in-Assume c = c.read_assumption.auto.pending

pub shape_of-names-in-Assume : goal.shape_of-names-in-Assume
shape_of-names-in-Assume c = c.read_assumption.auto.names

pub returns-in-Assume : goal.returns-in-Assume
returns-in-Assume c = command_assumed c.args.text.now c.args.nodes.now c.read_assumption.new.nodes c.args.commands.now c.read_assumption.new.commands c.read_assumption.new.names c.args.at c.args.n c.args.c c.args.k c.args.pols c.requires.0 (kind_read c.command_head.result) c.command_head.ensures.0 c.command_head.ensures.1 _ (ap kind_read (c.in_ok-t.was ∙ ap Ok c.in-Assume.is)) (read_of c.read_assumption.result) c.read_assumption.ensures

pub shape_of-commands-in-Derive : goal.shape_of-commands-in-Derive
shape_of-commands-in-Derive c = c.read_step.auto.commands

pub shape_of-nodes-in-Derive : goal.shape_of-nodes-in-Derive
shape_of-nodes-in-Derive c = c.read_step.auto.nodes

pub shape_of-pending-in-Derive : goal.shape_of-pending-in-Derive
shape_of-pending-in-Derive c = c.read_step.auto.pending

pub shape_of-names-in-Derive : goal.shape_of-names-in-Derive
shape_of-names-in-Derive c = c.read_step.auto.names

pub returns-in-Derive : goal.returns-in-Derive
returns-in-Derive c = command_derived c.args.text.now c.args.nodes.now c.read_step.new.nodes c.args.commands.now c.read_step.new.commands c.read_step.new.names c.args.at c.args.n c.args.c c.args.k c.args.pols c.requires.0 (kind_read c.command_head.result) c.command_head.ensures.0 c.command_head.ensures.1 _ (ap kind_read (c.in_ok-t.was ∙ ap Ok c.in-Derive.is)) (read_of c.read_step.result) c.read_step.ensures

pub shape_of-commands-in-Pol : goal.shape_of-commands-in-Pol
shape_of-commands-in-Pol c = c.read_pol.auto.commands

pub returns-in-Pol : goal.returns-in-Pol
returns-in-Pol c = command_lined c.args.text.now c.args.nodes.now c.args.commands.now c.read_pol.new.commands c.args.at c.args.n c.args.c c.args.k c.args.pols c.requires.0 (kind_read c.command_head.result) c.command_head.ensures.0 c.command_head.ensures.1 _ _ (ap kind_read (c.in_ok-t.was ∙ ap Ok c.in-Pol.is)) (read_of c.read_pol.result) c.read_pol.ensures
