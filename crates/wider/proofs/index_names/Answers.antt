-- `wider::index_names` owes the index of the names of n nodes. The invariant: those of the first k are in it.
use mathlib.Core.Path.{sym, ◌∙◌}
use Rattle.wider.proofs.Indexing.{names-past, names-entered}
use Rattle.wider.proofs.index_names.Goals as goal
use Rattle.wider.proofs.index_names.Goals.{then-kind_of-k, else-kind_of-k}

pub loop-k-preserved : goal.loop-k-preserved
loop-k-preserved c =
    elim c.if-kind_of-k.branch [
      | then-kind_of-k w ↦ names-entered c.requires.2 c.requires.3 c.loop-k.invariant c.loop-k-test.true (sym c.kind_of.ensures ∙ w.if-kind_of-k.true) c.requires.1 (w.hash-h.ensures.0 ∙ rw (w.first_of.ensures, w.second_of.ensures)) (w.names-is ∙ w.enter.ensures)
      | else-kind_of-k w ↦ names-past c.requires.2 c.requires.3 c.loop-k.invariant c.loop-k-test.true (λ f. w.if-kind_of-k.false (c.kind_of.ensures ∙ f)) w.names-is
    ]
