-- `opb_reader::read_opb` owes the assumptions of an OPB text, constraint by constraint.
use Rattle.heads.proofs.Refusals.{passed_on}
use mathlib.Core.Path.{◌∙◌, sym}
use native.Mathlib.Omega.{arith}
use Rattle.opb_reader.proofs.Looping.{opb-start, opb-finish, opb-fault, opb_counts, opb-later, opb-nodes, opb-commands, opb_making, opb_again}
use Rattle.opb_reader.proofs.read_opb.Goals as goal

pub loop-summands-init : goal.loop-summands-init
loop-summands-init c = opb-start (c.requires)

pub behind_comments-p-requires : goal.behind_comments-p-requires
behind_comments-p-requires c = c.loop-summands.invariant.place

pub shape_of-nodes-then-p-opb : goal.shape_of-nodes-then-p-opb
shape_of-nodes-then-p-opb c = c.loop-summands.invariant.long

pub shape_of-commands-then-p-opb : goal.shape_of-commands-then-p-opb
shape_of-commands-then-p-opb c = c.loop-summands.invariant.same

pub shape_of-pending-then-p-opb : goal.shape_of-pending-then-p-opb
shape_of-pending-then-p-opb c = c.loop-summands.invariant.stack

pub shape_of-names-then-p-opb : goal.shape_of-names-then-p-opb
shape_of-names-then-p-opb c = c.loop-summands.invariant.tags

pub returns-then-p-opb : goal.returns-then-p-opb
returns-then-p-opb c = opb-finish (c.requires) c.loop-summands.invariant _ c.behind_comments-p.ensures.0 c.if-p-opb.true

pub slice_bounds-judge-end : goal.slice_bounds-judge-end
slice_bounds-judge-end c = sym c.loop-summands.invariant.summands

pub judge-requires : goal.judge-requires
judge-requires c = (omega (arith, c.behind_comments-p.ensures.2, c.if-p-opb.false), c.requires.short, omega (arith, c.loop-summands.invariant.summands))

pub shape_of-nodes-in_err-judged : goal.shape_of-nodes-in_err-judged
shape_of-nodes-in_err-judged c = c.loop-summands.invariant.long

pub shape_of-commands-in_err-judged : goal.shape_of-commands-in_err-judged
shape_of-commands-in_err-judged c = c.loop-summands.invariant.same

pub shape_of-pending-in_err-judged : goal.shape_of-pending-in_err-judged
shape_of-pending-in_err-judged c = c.loop-summands.invariant.stack

pub shape_of-names-in_err-judged : goal.shape_of-names-in_err-judged
shape_of-names-in_err-judged c = c.loop-summands.invariant.tags

pub returns-in_err-judged : goal.returns-in_err-judged
returns-in_err-judged c = rw (passed_on c.from_residual.result c.from_residual.ensures.1) (opb-fault (c.requires) c.loop-summands.invariant _ c.behind_comments-p.ensures.0 (omega (arith, c.behind_comments-p.ensures.2, c.if-p-opb.false)) _ c.judge.result c.judge.ensures.0 _ c.in_err-judged.was)

pub resulting-more-requires : goal.resulting-more-requires
resulting-more-requires c = omega arith

pub needed-requires : goal.needed-requires
needed-requires c = opb_counts (c.requires) c.loop-summands.invariant _ c.behind_comments-p.ensures.0 (omega (arith, c.behind_comments-p.ensures.2, c.if-p-opb.false)) _ (rw c.in_ok-judged.was at c.judge.ensures.0)

pub overflow_add-n : goal.overflow_add-n
overflow_add-n c = omega (arith, c.loop-summands.invariant.standing.table.few, c.needed.ensures.1)

pub shape_of-nodes-then-n-needed-gt-MAX_NODES : goal.shape_of-nodes-then-n-needed-gt-MAX_NODES
shape_of-nodes-then-n-needed-gt-MAX_NODES c = c.loop-summands.invariant.long

pub shape_of-commands-then-n-needed-gt-MAX_NODES : goal.shape_of-commands-then-n-needed-gt-MAX_NODES
shape_of-commands-then-n-needed-gt-MAX_NODES c = c.loop-summands.invariant.same

pub shape_of-pending-then-n-needed-gt-MAX_NODES : goal.shape_of-pending-then-n-needed-gt-MAX_NODES
shape_of-pending-then-n-needed-gt-MAX_NODES c = c.loop-summands.invariant.stack

pub shape_of-names-then-n-needed-gt-MAX_NODES : goal.shape_of-names-then-n-needed-gt-MAX_NODES
shape_of-names-then-n-needed-gt-MAX_NODES c = c.loop-summands.invariant.tags

pub returns-then-n-needed-gt-MAX_NODES : goal.returns-then-n-needed-gt-MAX_NODES
returns-then-n-needed-gt-MAX_NODES c = opb-nodes (c.requires) c.loop-summands.invariant _ c.behind_comments-p.ensures.0 (omega (arith, c.behind_comments-p.ensures.2, c.if-p-opb.false)) _ (rw c.in_ok-judged.was at c.judge.ensures.0) (omega (arith, c.needed.ensures.0, c.if-n-needed-gt-MAX_NODES.true))

pub overflow_add-k : goal.overflow_add-k
overflow_add-k c = omega (arith, c.loop-summands.invariant.standing.commands.few, c.resulting-more.ensures.1)

pub shape_of-nodes-then-k-more-gt-MAX_COMMANDS : goal.shape_of-nodes-then-k-more-gt-MAX_COMMANDS
shape_of-nodes-then-k-more-gt-MAX_COMMANDS c = c.loop-summands.invariant.long

pub shape_of-commands-then-k-more-gt-MAX_COMMANDS : goal.shape_of-commands-then-k-more-gt-MAX_COMMANDS
shape_of-commands-then-k-more-gt-MAX_COMMANDS c = c.loop-summands.invariant.same

pub shape_of-pending-then-k-more-gt-MAX_COMMANDS : goal.shape_of-pending-then-k-more-gt-MAX_COMMANDS
shape_of-pending-then-k-more-gt-MAX_COMMANDS c = c.loop-summands.invariant.stack

pub shape_of-names-then-k-more-gt-MAX_COMMANDS : goal.shape_of-names-then-k-more-gt-MAX_COMMANDS
shape_of-names-then-k-more-gt-MAX_COMMANDS c = c.loop-summands.invariant.tags

pub returns-then-k-more-gt-MAX_COMMANDS : goal.returns-then-k-more-gt-MAX_COMMANDS
returns-then-k-more-gt-MAX_COMMANDS c = opb-commands (c.requires) c.loop-summands.invariant _ c.behind_comments-p.ensures.0 (omega (arith, c.behind_comments-p.ensures.2, c.if-p-opb.false)) _ (rw c.in_ok-judged.was at c.judge.ensures.0) (omega (arith, c.resulting-more.ensures.0, c.if-k-more-gt-MAX_COMMANDS.true))

pub slice_bounds-put_constraint-end : goal.slice_bounds-put_constraint-end
slice_bounds-put_constraint-end c = sym (c.judge.ensures.1 ∙ c.loop-summands.invariant.summands)

pub put_constraint-n-requires : goal.put_constraint-n-requires
put_constraint-n-requires c = opb_making (c.requires) c.loop-summands.invariant _ c.behind_comments-p.ensures.0 (omega (arith, c.behind_comments-p.ensures.2, c.if-p-opb.false)) _ (rw c.in_ok-judged.was at c.judge.ensures.0) (omega (arith, c.needed.ensures.0, c.if-n-needed-gt-MAX_NODES.false)) (omega (arith, c.resulting-more.ensures.0, c.if-k-more-gt-MAX_COMMANDS.false))

pub overflow_add-k-in-loop-summands : goal.overflow_add-k-in-loop-summands
overflow_add-k-in-loop-summands c = omega (arith, c.loop-summands.invariant.standing.commands.few, c.resulting-more.ensures.1)

pub loop-summands-smaller : goal.loop-summands-smaller
loop-summands-smaller c = let l = opb-later (c.requires) c.loop-summands.invariant _ c.behind_comments-p.ensures.0 (omega (arith, c.behind_comments-p.ensures.2, c.if-p-opb.false)) _ (rw c.in_ok-judged.was at c.judge.ensures.0) in omega (arith, l.0, l.1)

pub loop-summands-preserved : goal.loop-summands-preserved
loop-summands-preserved c = opb_again (c.requires) c.loop-summands.invariant _ c.behind_comments-p.ensures.0 (omega (arith, c.behind_comments-p.ensures.2, c.if-p-opb.false)) _ (rw c.in_ok-judged.was at c.judge.ensures.0) (omega (arith, c.needed.ensures.0, c.if-n-needed-gt-MAX_NODES.false)) (omega (arith, c.resulting-more.ensures.0, c.if-k-more-gt-MAX_COMMANDS.false)) c.put_constraint-n.ensures c.put_constraint-n.auto.nodes c.put_constraint-n.auto.commands c.put_constraint-n.auto.pending c.put_constraint-n.auto.names c.judge.ensures.1 _ (omega (arith, c.resulting-more.ensures.0))
