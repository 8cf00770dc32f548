-- `reader::cite` owes the premises up to the closing bracket: each is one node more, and its command waits among the pending. Assumes nothing.
use Rattle.heads.specs.Heads.{past_of}
use Rattle.heads.proofs.Answers.{past-none, past-some, past_later}
use Rattle.heads.proofs.Refusals.{passed_on}
use Rattle.reader.specs.Reading.{premise_of}
use mathlib.Core.Path.{sym, ap, ◌∙◌}
use native.Mathlib.Omega.{arith}
use Rattle.reader.proofs.Citing.{cite-start, cite-refused, cites, cite-behind, cite_again, cite_closed}
use Rattle.reader.proofs.cite.Goals as goal

pub loop-j-init : goal.loop-j-init
loop-j-init c = cite-start c.args.text.now c.args.commands.now c.args.k c.args.at c.args.nodes.now c.args.pending.now c.args.n c.args.c c.requires.0 c.requires.1 c.requires.3 c.requires.4

pub overflow_add-n : goal.overflow_add-n
overflow_add-n c = omega (arith, c.loop-j.invariant.table.few)

pub premise_at-requires : goal.premise_at-requires
premise_at-requires c = (c.loop-j.invariant.place, c.requires.2)

pub shape_of-nodes-in_err-j : goal.shape_of-nodes-in_err-j
shape_of-nodes-in_err-j c = c.loop-j.invariant.kept.long

pub shape_of-pending-in_err-j : goal.shape_of-pending-in_err-j
shape_of-pending-in_err-j c = c.loop-j.invariant.long

pub returns-in_err-j : goal.returns-in_err-j
returns-in_err-j c = rw (passed_on c.from_residual.result c.from_residual.ensures.1) (cite-refused c.args.text.now c.args.commands.now c.args.k c.args.at c.args.nodes.now c.args.pending.now c.args.n c.args.c c.loop-j.nodes c.loop-j.pending c.loop-j.i c.loop-j.q c.loop-j.invariant (premise_of c.premise_at.result) c.premise_at.ensures _ _ (ap premise_of c.in_err-j.was))

pub overflow_cast-j : goal.overflow_cast-j
overflow_cast-j c = let Q = cites c.args.text.now c.args.commands.now c.args.k c.args.at c.args.nodes.now c.args.pending.now c.args.n c.args.c c.loop-j.nodes c.loop-j.pending c.loop-j.i c.loop-j.q c.loop-j.invariant (premise_of c.premise_at.result) c.premise_at.ensures _ _ (ap premise_of c.in_ok-j.was) in omega (arith, Q.1, c.requires.2.few)

pub put_node-requires : goal.put_node-requires
put_node-requires c = let Q = cites c.args.text.now c.args.commands.now c.args.k c.args.at c.args.nodes.now c.args.pending.now c.args.n c.args.c c.loop-j.nodes c.loop-j.pending c.loop-j.i c.loop-j.q c.loop-j.invariant (premise_of c.premise_at.result) c.premise_at.ensures _ _ (ap premise_of c.in_ok-j.was) in omega (arith, c.loop-j.invariant.table.room, Q.4)

pub overflow_cast-pending : goal.overflow_cast-pending
overflow_cast-pending c = let Q = cites c.args.text.now c.args.commands.now c.args.k c.args.at c.args.nodes.now c.args.pending.now c.args.n c.args.c c.loop-j.nodes c.loop-j.pending c.loop-j.i c.loop-j.q c.loop-j.invariant (premise_of c.premise_at.result) c.premise_at.ensures _ _ (ap premise_of c.in_ok-j.was) in omega (arith, Q.1, c.requires.2.few)

pub offset_bounds-pending-q : goal.offset_bounds-pending-q
offset_bounds-pending-q c = let Q = cites c.args.text.now c.args.commands.now c.args.k c.args.at c.args.nodes.now c.args.pending.now c.args.n c.args.c c.loop-j.nodes c.loop-j.pending c.loop-j.i c.loop-j.q c.loop-j.invariant (premise_of c.premise_at.result) c.premise_at.ensures _ _ (ap premise_of c.in_ok-j.was) in omega (arith, Q.4)

pub bounds-pending-q : goal.bounds-pending-q
bounds-pending-q c = let Q = cites c.args.text.now c.args.commands.now c.args.k c.args.at c.args.nodes.now c.args.pending.now c.args.n c.args.c c.loop-j.nodes c.loop-j.pending c.loop-j.i c.loop-j.q c.loop-j.invariant (premise_of c.premise_at.result) c.premise_at.ensures _ _ (ap premise_of c.in_ok-j.was) in omega (arith, Q.4, c.loop-j.invariant.room)

pub overflow_add-q : goal.overflow_add-q
overflow_add-q c = let Q = cites c.args.text.now c.args.commands.now c.args.k c.args.at c.args.nodes.now c.args.pending.now c.args.n c.args.c c.loop-j.nodes c.loop-j.pending c.loop-j.i c.loop-j.q c.loop-j.invariant (premise_of c.premise_at.result) c.premise_at.ensures _ _ (ap premise_of c.in_ok-j.was) in omega (arith, Q.4)

pub closes-requires : goal.closes-requires
closes-requires c = let Q = cites c.args.text.now c.args.commands.now c.args.k c.args.at c.args.nodes.now c.args.pending.now c.args.n c.args.c c.loop-j.nodes c.loop-j.pending c.loop-j.i c.loop-j.q c.loop-j.invariant (premise_of c.premise_at.result) c.premise_at.ensures _ _ (ap premise_of c.in_ok-j.was) in Q.3

pub put_children-requires : goal.put_children-requires
put_children-requires c = let B = cite-behind c.args.text.now c.args.commands.now c.args.k c.args.at c.args.nodes.now c.args.pending.now c.args.n c.args.c c.loop-j.nodes c.loop-j.pending c.loop-j.i c.loop-j.q c.loop-j.invariant (premise_of c.premise_at.result) c.premise_at.ensures _ _ (cites c.args.text.now c.args.commands.now c.args.k c.args.at c.args.nodes.now c.args.pending.now c.args.n c.args.c c.loop-j.nodes c.loop-j.pending c.loop-j.i c.loop-j.q c.loop-j.invariant (premise_of c.premise_at.result) c.premise_at.ensures _ _ (ap premise_of c.in_ok-j.was)) c.requires.2.few _ c.put_node.ensures in (omega arith, omega (arith, B.room, B.limit), omega (arith, c.requires.3.used, B.table.few))

pub overflow_add-result : goal.overflow_add-result
overflow_add-result c = let B = cite-behind c.args.text.now c.args.commands.now c.args.k c.args.at c.args.nodes.now c.args.pending.now c.args.n c.args.c c.loop-j.nodes c.loop-j.pending c.loop-j.i c.loop-j.q c.loop-j.invariant (premise_of c.premise_at.result) c.premise_at.ensures _ _ (cites c.args.text.now c.args.commands.now c.args.k c.args.at c.args.nodes.now c.args.pending.now c.args.n c.args.c c.loop-j.nodes c.loop-j.pending c.loop-j.i c.loop-j.q c.loop-j.invariant (premise_of c.premise_at.result) c.premise_at.ensures _ _ (ap premise_of c.in_ok-j.was)) c.requires.2.few _ c.put_node.ensures in omega (arith, B.table.few)

pub shape_of-nodes-in-Some : goal.shape_of-nodes-in-Some
shape_of-nodes-in-Some c = let B = cite-behind c.args.text.now c.args.commands.now c.args.k c.args.at c.args.nodes.now c.args.pending.now c.args.n c.args.c c.loop-j.nodes c.loop-j.pending c.loop-j.i c.loop-j.q c.loop-j.invariant (premise_of c.premise_at.result) c.premise_at.ensures _ _ (cites c.args.text.now c.args.commands.now c.args.k c.args.at c.args.nodes.now c.args.pending.now c.args.n c.args.c c.loop-j.nodes c.loop-j.pending c.loop-j.i c.loop-j.q c.loop-j.invariant (premise_of c.premise_at.result) c.premise_at.ensures _ _ (ap premise_of c.in_ok-j.was)) c.requires.2.few _ c.put_node.ensures in c.put_children.auto.nodes ∙ B.kept.long

pub shape_of-pending-in-Some : goal.shape_of-pending-in-Some
shape_of-pending-in-Some c = let B = cite-behind c.args.text.now c.args.commands.now c.args.k c.args.at c.args.nodes.now c.args.pending.now c.args.n c.args.c c.loop-j.nodes c.loop-j.pending c.loop-j.i c.loop-j.q c.loop-j.invariant (premise_of c.premise_at.result) c.premise_at.ensures _ _ (cites c.args.text.now c.args.commands.now c.args.k c.args.at c.args.nodes.now c.args.pending.now c.args.n c.args.c c.loop-j.nodes c.loop-j.pending c.loop-j.i c.loop-j.q c.loop-j.invariant (premise_of c.premise_at.result) c.premise_at.ensures _ _ (ap premise_of c.in_ok-j.was)) c.requires.2.few _ c.put_node.ensures in B.long

pub returns-in-Some : goal.returns-in-Some
returns-in-Some c = let B = cite-behind c.args.text.now c.args.commands.now c.args.k c.args.at c.args.nodes.now c.args.pending.now c.args.n c.args.c c.loop-j.nodes c.loop-j.pending c.loop-j.i c.loop-j.q c.loop-j.invariant (premise_of c.premise_at.result) c.premise_at.ensures _ _ (cites c.args.text.now c.args.commands.now c.args.k c.args.at c.args.nodes.now c.args.pending.now c.args.n c.args.c c.loop-j.nodes c.loop-j.pending c.loop-j.i c.loop-j.q c.loop-j.invariant (premise_of c.premise_at.result) c.premise_at.ensures _ _ (ap premise_of c.in_ok-j.was)) c.requires.2.few _ c.put_node.ensures in let H = past_later c.args.text.now _ c.closes.result c.closes.ensures.1 c.in-Some.is in cite_closed c.args.text.now c.args.commands.now c.args.k c.args.at c.args.nodes.now c.args.pending.now c.args.n c.args.c _ _ _ _ B _ _ (sym (past-some _ _ c.closes.result c.closes.ensures.1 c.in-Some.is) ∙ c.closes.ensures.0) H.0 H.1 c.requires.3.used c.put_children.ensures

pub loop-j-smaller : goal.loop-j-smaller
loop-j-smaller c = let Q = cites c.args.text.now c.args.commands.now c.args.k c.args.at c.args.nodes.now c.args.pending.now c.args.n c.args.c c.loop-j.nodes c.loop-j.pending c.loop-j.i c.loop-j.q c.loop-j.invariant (premise_of c.premise_at.result) c.premise_at.ensures _ _ (ap premise_of c.in_ok-j.was) in omega (arith, Q.2, Q.3)

pub loop-j-preserved : goal.loop-j-preserved
loop-j-preserved c = let B = cite-behind c.args.text.now c.args.commands.now c.args.k c.args.at c.args.nodes.now c.args.pending.now c.args.n c.args.c c.loop-j.nodes c.loop-j.pending c.loop-j.i c.loop-j.q c.loop-j.invariant (premise_of c.premise_at.result) c.premise_at.ensures _ _ (cites c.args.text.now c.args.commands.now c.args.k c.args.at c.args.nodes.now c.args.pending.now c.args.n c.args.c c.loop-j.nodes c.loop-j.pending c.loop-j.i c.loop-j.q c.loop-j.invariant (premise_of c.premise_at.result) c.premise_at.ensures _ _ (ap premise_of c.in_ok-j.was)) c.requires.2.few _ c.put_node.ensures in cite_again c.args.text.now c.args.commands.now c.args.k c.args.at c.args.nodes.now c.args.pending.now c.args.n c.args.c _ _ _ _ B (past_of c.closes.result) c.closes.ensures.0 (past-none c.closes.result c.in_default.is)
