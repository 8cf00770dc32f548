-- The cycle of `terms::read_items` and `terms::read_term`: each level of the text is one call, so that what falls is the room for levels. Assumes nothing.
use mathlib.Core.Path.{sym, ap, ◌∙◌}
use Rattle.std.specs.Prelude.{Ok}
use Rattle.heads.proofs.Answers.{past-some, past_later, past-none}
use Rattle.heads.proofs.Refusals.{passed_on}
use Rattle.terms.specs.Reading.{read_of, items_of}
use native.Mathlib.Omega.{arith}
use lib.ListN.{length-set}
use Rattle.terms.proofs.Steps.{term-stop, numeral-room, term-numeral, variable-room, term-variable, start_small, term-ready, term-off, term-listed, term-applied, step_start, step-ready, step-refused, read_done, step-behind, step-again, step-closed}
use Rattle.terms.proofs.+read_items_read_term.Goals as goal

pub read_items-loop-term-init : goal.read_items-loop-term-init
read_items-loop-term-init t c = step_start c.args.text.now c.args.at c.args.around c.args.nodes.now c.args.pending.now c.args.names.now c.args.n c.args.c c.args.p c.requires

pub read_items-read_term-requires : goal.read_items-read_term-requires
read_items-read_term-requires t c = (omega (arith, c.decreases, c.requires.depth), step-ready c.args.text.now c.args.at c.args.around c.args.nodes.now c.args.pending.now c.args.names.now c.args.n c.args.c c.args.p c.loop-term.nodes c.loop-term.pending c.loop-term.names c.loop-term.i c.loop-term.m c.loop-term.d c.loop-term.q c.loop-term.invariant c.requires.text c.requires.depth)

pub read_items-shape_of-nodes-in_err-term : goal.read_items-shape_of-nodes-in_err-term
read_items-shape_of-nodes-in_err-term t c = c.read_term.auto.nodes ∙ c.loop-term.invariant.have.grown.kept.long

pub read_items-shape_of-pending-in_err-term : goal.read_items-shape_of-pending-in_err-term
read_items-shape_of-pending-in_err-term t c = c.read_term.auto.pending ∙ c.loop-term.invariant.have.long

pub read_items-shape_of-names-in_err-term : goal.read_items-shape_of-names-in_err-term
read_items-shape_of-names-in_err-term t c = c.read_term.auto.names ∙ c.loop-term.invariant.have.same

pub read_items-returns-in_err-term : goal.read_items-returns-in_err-term
read_items-returns-in_err-term t c = rw (passed_on c.from_residual.result c.from_residual.ensures.1) (step-refused c.args.text.now c.args.at c.args.around c.args.nodes.now c.args.pending.now c.args.names.now c.args.n c.args.c c.args.p c.loop-term.nodes c.loop-term.pending c.loop-term.names c.loop-term.i c.loop-term.m c.loop-term.d c.loop-term.q c.loop-term.invariant (c.read_term.new.nodes) (c.read_term.new.pending) (c.read_term.new.names) (read_of c.read_term.result) (c.read_term.ensures) _ _ (ap read_of c.in_err-term.was))

pub read_items-overflow_sub-pending : goal.read_items-overflow_sub-pending
read_items-overflow_sub-pending t c = let D = read_done c.args.text.now c.loop-term.i c.args.around c.loop-term.nodes (c.read_term.new.nodes) c.loop-term.pending (c.read_term.new.pending) (c.read_term.new.names) c.loop-term.m c.loop-term.d c.loop-term.q (read_of c.read_term.result) (c.read_term.ensures) _ _ _ (ap read_of c.in_ok-term.was) in
    omega (arith, D.made)

pub read_items-overflow_cast-pending : goal.read_items-overflow_cast-pending
read_items-overflow_cast-pending t c = let D = read_done c.args.text.now c.loop-term.i c.args.around c.loop-term.nodes (c.read_term.new.nodes) c.loop-term.pending (c.read_term.new.pending) (c.read_term.new.names) c.loop-term.m c.loop-term.d c.loop-term.q (read_of c.read_term.result) (c.read_term.ensures) _ _ _ (ap read_of c.in_ok-term.was) in
    omega (arith, D.limit)

pub read_items-offset_bounds-pending-q : goal.read_items-offset_bounds-pending-q
read_items-offset_bounds-pending-q t c = let D = read_done c.args.text.now c.loop-term.i c.args.around c.loop-term.nodes (c.read_term.new.nodes) c.loop-term.pending (c.read_term.new.pending) (c.read_term.new.names) c.loop-term.m c.loop-term.d c.loop-term.q (read_of c.read_term.result) (c.read_term.ensures) _ _ _ (ap read_of c.in_ok-term.was) in
    omega (arith, D.limit, D.count)

pub read_items-bounds-pending-q : goal.read_items-bounds-pending-q
read_items-bounds-pending-q t c = let D = read_done c.args.text.now c.loop-term.i c.args.around c.loop-term.nodes (c.read_term.new.nodes) c.loop-term.pending (c.read_term.new.pending) (c.read_term.new.names) c.loop-term.m c.loop-term.d c.loop-term.q (read_of c.read_term.result) (c.read_term.ensures) _ _ _ (ap read_of c.in_ok-term.was) in
    omega (arith, D.limit, D.count, c.loop-term.invariant.have.room, c.read_term.auto.pending)

pub read_items-overflow_add-q : goal.read_items-overflow_add-q
read_items-overflow_add-q t c = let D = read_done c.args.text.now c.loop-term.i c.args.around c.loop-term.nodes (c.read_term.new.nodes) c.loop-term.pending (c.read_term.new.pending) (c.read_term.new.names) c.loop-term.m c.loop-term.d c.loop-term.q (read_of c.read_term.result) (c.read_term.ensures) _ _ _ (ap read_of c.in_ok-term.was) in
    omega (arith, D.limit, D.count)

pub read_items-closes-requires : goal.read_items-closes-requires
read_items-closes-requires t c = let D = read_done c.args.text.now c.loop-term.i c.args.around c.loop-term.nodes (c.read_term.new.nodes) c.loop-term.pending (c.read_term.new.pending) (c.read_term.new.names) c.loop-term.m c.loop-term.d c.loop-term.q (read_of c.read_term.result) (c.read_term.ensures) _ _ _ (ap read_of c.in_ok-term.was) in
    D.inside

pub read_items-put_children-requires : goal.read_items-put_children-requires
read_items-put_children-requires t c = let D = read_done c.args.text.now c.loop-term.i c.args.around c.loop-term.nodes (c.read_term.new.nodes) c.loop-term.pending (c.read_term.new.pending) (c.read_term.new.names) c.loop-term.m c.loop-term.d c.loop-term.q (read_of c.read_term.result) (c.read_term.ensures) _ _ _ (ap read_of c.in_ok-term.was) in
    (omega (arith, c.loop-term.invariant.have.up), rw length-set (omega (arith, c.loop-term.invariant.have.room, c.read_term.auto.pending, D.count, D.limit)), omega (arith, c.loop-term.invariant.have.up, D.count, D.limit, D.grown.table.room))

pub read_items-overflow_sub-result : goal.read_items-overflow_sub-result
read_items-overflow_sub-result t c = omega (arith, c.loop-term.invariant.have.up)

pub read_items-shape_of-nodes-in-Some : goal.read_items-shape_of-nodes-in-Some
read_items-shape_of-nodes-in-Some t c = c.put_children.auto.nodes ∙ c.read_term.auto.nodes ∙ c.loop-term.invariant.have.grown.kept.long

pub read_items-shape_of-pending-in-Some : goal.read_items-shape_of-pending-in-Some
read_items-shape_of-pending-in-Some t c = rw length-set (c.read_term.auto.pending ∙ c.loop-term.invariant.have.long)

pub read_items-shape_of-names-in-Some : goal.read_items-shape_of-names-in-Some
read_items-shape_of-names-in-Some t c = c.read_term.auto.names ∙ c.loop-term.invariant.have.same

pub read_items-returns-in-Some : goal.read_items-returns-in-Some
read_items-returns-in-Some t c = let B = step-behind c.args.text.now c.args.at c.args.around c.args.nodes.now c.args.pending.now c.args.names.now c.args.n c.args.c c.args.p c.loop-term.nodes c.loop-term.pending c.loop-term.names c.loop-term.i c.loop-term.m c.loop-term.d c.loop-term.q c.loop-term.invariant (c.read_term.new.nodes) (c.read_term.new.pending) (c.read_term.new.names) (read_of c.read_term.result) (c.read_term.ensures) _ _ _ (ap read_of c.in_ok-term.was) (c.read_term.auto.pending) (c.read_term.auto.names) in
    let H = past_later c.args.text.now _ c.closes.result c.closes.ensures.1 c.in-Some.is in
    step-closed c.args.text.now c.args.at c.args.around c.args.nodes.now c.args.pending.now c.args.names.now c.args.n c.args.c c.args.p _ _ _ _ _ _ _ B _ _ (sym (past-some _ _ c.closes.result c.closes.ensures.1 c.in-Some.is) ∙ c.closes.ensures.0) H.0 H.1 c.put_children.ensures

pub read_items-loop-term-smaller : goal.read_items-loop-term-smaller
read_items-loop-term-smaller t c = let D = read_done c.args.text.now c.loop-term.i c.args.around c.loop-term.nodes (c.read_term.new.nodes) c.loop-term.pending (c.read_term.new.pending) (c.read_term.new.names) c.loop-term.m c.loop-term.d c.loop-term.q (read_of c.read_term.result) (c.read_term.ensures) _ _ _ (ap read_of c.in_ok-term.was) in
    omega (arith, D.later, D.inside)

pub read_items-loop-term-preserved : goal.read_items-loop-term-preserved
read_items-loop-term-preserved t c = let B = step-behind c.args.text.now c.args.at c.args.around c.args.nodes.now c.args.pending.now c.args.names.now c.args.n c.args.c c.args.p c.loop-term.nodes c.loop-term.pending c.loop-term.names c.loop-term.i c.loop-term.m c.loop-term.d c.loop-term.q c.loop-term.invariant (c.read_term.new.nodes) (c.read_term.new.pending) (c.read_term.new.names) (read_of c.read_term.result) (c.read_term.ensures) _ _ _ (ap read_of c.in_ok-term.was) (c.read_term.auto.pending) (c.read_term.auto.names) in
    step-again c.args.text.now c.args.at c.args.around c.args.nodes.now c.args.pending.now c.args.names.now c.args.n c.args.c c.args.p _ _ _ _ _ _ _ B _ c.closes.ensures.0 (past-none c.closes.result c.in_default.is)

pub read_term-overflow_add-around : goal.read_term-overflow_add-around
read_term-overflow_add-around t c = omega (arith, c.requires.depth)

pub read_term-overflow_add-n : goal.read_term-overflow_add-n
read_term-overflow_add-n t c = omega (arith, c.requires.limit)

pub read_term-begin-requires : goal.read_term-begin-requires
read_term-begin-requires t c = c.requires.place

pub read_term-put_numeral-requires : goal.read_term-put_numeral-requires
read_term-put_numeral-requires t c = omega (arith, c.requires.table.room, numeral-room c.args.text.now c.args.at _ _ _ c.begin.ensures.0 c.begin.ensures.1 _ _ _ (c.in_ok-negative.was ∙ ap Ok c.in-Numeral.is))

pub read_term-overflow_add-result : goal.read_term-overflow_add-result
read_term-overflow_add-result t c = omega (arith, c.requires.limit)

pub read_term-put_variable-requires : goal.read_term-put_variable-requires
read_term-put_variable-requires t c = let (full, up, inside, short) = variable-room c.args.text.now c.args.at _ _ _ c.begin.ensures.0 c.begin.ensures.1 _ _ (c.in_ok-negative.was ∙ ap Ok c.in-Variable.is) in (c.requires.table.wide, omega (arith, c.requires.table.room), c.requires.names, c.requires.text, up, inside, short)

pub read_term-overflow_add-result-in-Variable : goal.read_term-overflow_add-result-in-Variable
read_term-overflow_add-result-in-Variable t c = omega (arith, c.requires.limit)

pub read_term-overflow_add-around-in-Start : goal.read_term-overflow_add-around-in-Start
read_term-overflow_add-around-in-Start t c = omega (arith, c.requires.depth)

pub read_term-read_items-requires : goal.read_term-read_items-requires
read_term-read_items-requires t c = let R = term-ready c.args.text.now c.args.at c.args.around c.args.nodes.now c.args.pending.now c.args.names.now c.args.n c.args.c c.args.p c.requires _ c.begin.ensures.0 c.begin.ensures.1 _ _ (c.in_ok-negative.was ∙ ap Ok c.in-Start.is) in
    (omega (arith, c.decreases, R.depth), R)

pub read_term-overflow_cast-operator : goal.read_term-overflow_cast-operator
read_term-overflow_cast-operator t c = omega (arith, start_small c.args.text.now c.args.at _ _ _ c.begin.ensures.0 c.begin.ensures.1 _ _ (c.in_ok-negative.was ∙ ap Ok c.in-Start.is))

pub read_term-overflow_cast-list : goal.read_term-overflow_cast-list
read_term-overflow_cast-list t c = let P = term-listed c.args.text.now c.args.at c.args.around c.args.nodes.now c.args.pending.now c.args.names.now c.args.n c.args.c c.args.p c.requires _ c.begin.ensures.0 c.begin.ensures.1 _ _ (c.in_ok-negative.was ∙ ap Ok c.in-Start.is) c.read_items.new.nodes c.read_items.new.pending c.read_items.new.names (items_of c.read_items.result) c.read_items.ensures _ _ _ _ (ap items_of c.in_ok-list-in-Start.was) in
    omega (arith, P.count, P.limit)

pub read_term-overflow_cast-list-in-Start : goal.read_term-overflow_cast-list-in-Start
read_term-overflow_cast-list-in-Start t c = let P = term-listed c.args.text.now c.args.at c.args.around c.args.nodes.now c.args.pending.now c.args.names.now c.args.n c.args.c c.args.p c.requires _ c.begin.ensures.0 c.begin.ensures.1 _ _ (c.in_ok-negative.was ∙ ap Ok c.in-Start.is) c.read_items.new.nodes c.read_items.new.pending c.read_items.new.names (items_of c.read_items.result) c.read_items.ensures _ _ _ _ (ap items_of c.in_ok-list-in-Start.was) in
    omega (arith, P.count, P.limit)

pub read_term-put_node-requires : goal.read_term-put_node-requires
read_term-put_node-requires t c = let P = term-listed c.args.text.now c.args.at c.args.around c.args.nodes.now c.args.pending.now c.args.names.now c.args.n c.args.c c.args.p c.requires _ c.begin.ensures.0 c.begin.ensures.1 _ _ (c.in_ok-negative.was ∙ ap Ok c.in-Start.is) c.read_items.new.nodes c.read_items.new.pending c.read_items.new.names (items_of c.read_items.result) c.read_items.ensures _ _ _ _ (ap items_of c.in_ok-list-in-Start.was) in
    omega (arith, P.grown.table.room, P.limit)

pub read_term-overflow_add-result-in-Start : goal.read_term-overflow_add-result-in-Start
read_term-overflow_add-result-in-Start t c = let P = term-listed c.args.text.now c.args.at c.args.around c.args.nodes.now c.args.pending.now c.args.names.now c.args.n c.args.c c.args.p c.requires _ c.begin.ensures.0 c.begin.ensures.1 _ _ (c.in_ok-negative.was ∙ ap Ok c.in-Start.is) c.read_items.new.nodes c.read_items.new.pending c.read_items.new.names (items_of c.read_items.result) c.read_items.ensures _ _ _ _ (ap items_of c.in_ok-list-in-Start.was) in
    omega (arith, P.limit)

pub read_term-overflow_add-result-in-Start-2 : goal.read_term-overflow_add-result-in-Start-2
read_term-overflow_add-result-in-Start-2 t c = let P = term-listed c.args.text.now c.args.at c.args.around c.args.nodes.now c.args.pending.now c.args.names.now c.args.n c.args.c c.args.p c.requires _ c.begin.ensures.0 c.begin.ensures.1 _ _ (c.in_ok-negative.was ∙ ap Ok c.in-Start.is) c.read_items.new.nodes c.read_items.new.pending c.read_items.new.names (items_of c.read_items.result) c.read_items.ensures _ _ _ _ (ap items_of c.in_ok-list-in-Start.was) in
    omega (arith, P.count, P.limit)

pub read_term-returns-in_err-negative : goal.read_term-returns-in_err-negative
read_term-returns-in_err-negative t c = rw (passed_on c.from_residual.result c.from_residual.ensures.1) (term-stop c.args.text.now c.args.at c.args.around c.args.nodes.now c.args.pending.now c.args.names.now c.args.n c.args.c c.args.p c.requires _ c.begin.ensures.0 c.begin.ensures.1 _ c.in_err-negative.was)

pub read_term-shape_of-nodes-in-Numeral : goal.read_term-shape_of-nodes-in-Numeral
read_term-shape_of-nodes-in-Numeral t c = c.put_numeral.auto.nodes

pub read_term-returns-in-Numeral : goal.read_term-returns-in-Numeral
read_term-returns-in-Numeral t c = term-numeral c.args.text.now c.args.at c.args.around c.args.nodes.now c.args.pending.now c.args.names.now c.args.n c.args.c c.args.p c.requires _ c.begin.ensures.0 c.begin.ensures.1 _ _ _ _ (c.in_ok-negative.was ∙ ap Ok c.in-Numeral.is) c.put_numeral.ensures

pub read_term-shape_of-nodes-in-Variable : goal.read_term-shape_of-nodes-in-Variable
read_term-shape_of-nodes-in-Variable t c = c.put_variable.auto.nodes

pub read_term-shape_of-names-in-Variable : goal.read_term-shape_of-names-in-Variable
read_term-shape_of-names-in-Variable t c = c.put_variable.auto.names

pub read_term-returns-in-Variable : goal.read_term-returns-in-Variable
read_term-returns-in-Variable t c = term-variable c.args.text.now c.args.at c.args.around c.args.nodes.now c.args.pending.now c.args.names.now c.args.n c.args.c c.args.p c.requires _ c.begin.ensures.0 c.begin.ensures.1 _ _ _ _ (c.in_ok-negative.was ∙ ap Ok c.in-Variable.is) c.put_variable.ensures

pub read_term-returns-in_err-list-in-Start : goal.read_term-returns-in_err-list-in-Start
read_term-returns-in_err-list-in-Start t c = rw (passed_on c.from_residual-in_err-list-in-Start.result c.from_residual-in_err-list-in-Start.ensures.1) (term-off c.args.text.now c.args.at c.args.around c.args.nodes.now c.args.pending.now c.args.names.now c.args.n c.args.c c.args.p c.requires _ c.begin.ensures.0 c.begin.ensures.1 _ _ (c.in_ok-negative.was ∙ ap Ok c.in-Start.is) c.read_items.new.nodes c.read_items.new.pending c.read_items.new.names (items_of c.read_items.result) c.read_items.ensures _ _ (ap items_of c.in_err-list-in-Start.was))

pub read_term-returns-in_ok-list-in-Start : goal.read_term-returns-in_ok-list-in-Start
read_term-returns-in_ok-list-in-Start t c = term-applied c.args.text.now c.args.at c.args.around c.args.nodes.now c.args.pending.now c.args.names.now c.args.n c.args.c c.args.p c.requires _ c.begin.ensures.0 c.begin.ensures.1 _ _ (c.in_ok-negative.was ∙ ap Ok c.in-Start.is) c.read_items.new.nodes c.read_items.new.pending c.read_items.new.names (items_of c.read_items.result) c.read_items.ensures _ _ _ _ _ (ap items_of c.in_ok-list-in-Start.was) c.put_node.ensures
