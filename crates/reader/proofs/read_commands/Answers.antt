-- `reader::read_commands` owes the reading of what is left of the text, command by command. Assumes nothing.
use Rattle.std.specs.Prelude.{Ok}
use Rattle.terms.specs.Reading.{read_of}
use Rattle.heads.proofs.Refusals.{passed_on}
use mathlib.Core.Path.{ap, ◌∙◌}
use native.Mathlib.Omega.{arith}
use Rattle.reader.proofs.Filing.{file-start, file-finish, file-halt, file-ready, file-refused, file-later, file-counted, file_again}
use Rattle.reader.proofs.read_commands.Goals as goal

pub loop-t-init : goal.loop-t-init
loop-t-init c = file-start _ _ _ _ _ _ _ _ _ _ c.requires

pub lead_at-requires : goal.lead_at-requires
lead_at-requires c = c.loop-t.invariant.begun.ready.place

pub returns-in_default : goal.returns-in_default
returns-in_default c = file-finish c.loop-t.invariant c.lead_at.result c.lead_at.ensures.0 c.lead_at.ensures.1 (c.in_ok-t.was ∙ ap Ok c.in_default.is)

pub shape_of-nodes-in_err-t : goal.shape_of-nodes-in_err-t
shape_of-nodes-in_err-t c = c.loop-t.invariant.long

pub shape_of-commands-in_err-t : goal.shape_of-commands-in_err-t
shape_of-commands-in_err-t c = c.loop-t.invariant.same

pub shape_of-pending-in_err-t : goal.shape_of-pending-in_err-t
shape_of-pending-in_err-t c = c.loop-t.invariant.stack

pub shape_of-names-in_err-t : goal.shape_of-names-in_err-t
shape_of-names-in_err-t c = c.loop-t.invariant.tags

pub returns-in_err-t : goal.returns-in_err-t
returns-in_err-t c = rw (passed_on c.from_residual.result c.from_residual.ensures.1) (file-halt c.loop-t.invariant c.lead_at.result c.lead_at.ensures.0 c.lead_at.ensures.1 _ c.in_err-t.was)

pub read_command-requires : goal.read_command-requires
read_command-requires c = file-ready c.loop-t.invariant c.lead_at.result c.lead_at.ensures.0 c.lead_at.ensures.1 _ (c.in_ok-t.was ∙ ap Ok c.in-Some.is)

pub shape_of-nodes-in_err-command : goal.shape_of-nodes-in_err-command
shape_of-nodes-in_err-command c = c.read_command.auto.nodes ∙ c.loop-t.invariant.long

pub shape_of-commands-in_err-command : goal.shape_of-commands-in_err-command
shape_of-commands-in_err-command c = c.read_command.auto.commands ∙ c.loop-t.invariant.same

pub shape_of-pending-in_err-command : goal.shape_of-pending-in_err-command
shape_of-pending-in_err-command c = c.read_command.auto.pending ∙ c.loop-t.invariant.stack

pub shape_of-names-in_err-command : goal.shape_of-names-in_err-command
shape_of-names-in_err-command c = c.read_command.auto.names ∙ c.loop-t.invariant.tags

pub returns-in_err-command : goal.returns-in_err-command
returns-in_err-command c = rw (passed_on c.from_residual-in_err-command.result c.from_residual-in_err-command.ensures.1) (file-refused c.loop-t.invariant c.lead_at.result c.lead_at.ensures.0 c.lead_at.ensures.1 _ (c.in_ok-t.was ∙ ap Ok c.in-Some.is) c.read_command.new.nodes c.read_command.new.commands c.read_command.new.names (read_of c.read_command.result) c.read_command.ensures _ _ (ap read_of c.in_err-command.was))

pub counted-pols-requires : goal.counted-pols-requires
counted-pols-requires c = file-counted c.loop-t.invariant c.lead_at.result c.lead_at.ensures.0 c.lead_at.ensures.1 _ (c.in_ok-t.was ∙ ap Ok c.in-Some.is) c.read_command.new.nodes c.read_command.new.commands c.read_command.new.names (read_of c.read_command.result) c.read_command.ensures _ _ _ (ap read_of c.in_ok-command.was)

pub overflow_add-k : goal.overflow_add-k
overflow_add-k c = omega (arith, c.loop-t.invariant.begun.commands.few)

pub loop-t-smaller : goal.loop-t-smaller
loop-t-smaller c = let h = file-later c.loop-t.invariant c.lead_at.result c.lead_at.ensures.0 c.lead_at.ensures.1 _ (c.in_ok-t.was ∙ ap Ok c.in-Some.is) c.read_command.new.nodes c.read_command.new.commands c.read_command.new.names (read_of c.read_command.result) c.read_command.ensures _ _ _ (ap read_of c.in_ok-command.was) in omega (arith, h.0, h.1)

pub loop-t-preserved : goal.loop-t-preserved
loop-t-preserved c = file_again c.loop-t.invariant c.lead_at.result c.lead_at.ensures.0 c.lead_at.ensures.1 _ (c.in_ok-t.was ∙ ap Ok c.in-Some.is) c.read_command.new.nodes c.read_command.new.commands c.read_command.new.names (read_of c.read_command.result) c.read_command.ensures _ _ _ (ap read_of c.in_ok-command.was) _ c.counted-pols.result c.counted-pols.ensures c.read_command.auto.pending c.read_command.auto.names
