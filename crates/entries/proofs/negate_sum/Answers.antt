-- `entries::negate_sum` owes the sum with each entry negated: those before the index are, the rest are as they were. Assumes nothing.
use Rattle.std.proofs.Common.{arith, ◌∙◌, sym, subst, ap, refl}
use lib.ListN.{set}
use mathlib.Core.List.{List}
use Rattle.entries.specs.declared.Entry.{Entry}
use Rattle.entries.specs.Entries.{Turns, negated}
use Rattle.entries.proofs.Partly.{partly, partly_turns, partly_more, partly-all, entry_at}
use Rattle.entries.proofs.negate_sum.Goals as goal

pub loop-entry-init : goal.loop-entry-init
unfolding partly
loop-entry-init c = refl

pub negate_ctv-requires : goal.negate_ctv-requires
negate_ctv-requires c = subst (λ (l : List Entry). Turns (entry_at l c.loop-entry.entry-index).coefficient) (sym c.loop-entry.invariant) (partly_turns c.loop-entry.entry-index c.args.sum.now c.requires (omega arith))

pub loop-entry-preserved : goal.loop-entry-preserved
loop-entry-preserved c =
    ap (λ (e : Entry). set c.loop-entry.sum c.loop-entry.entry-index e) c.negate_ctv.ensures
    ∙ ap (λ (l : List Entry). set l c.loop-entry.entry-index (negated (entry_at l c.loop-entry.entry-index))) c.loop-entry.invariant
    ∙ partly_more c.loop-entry.entry-index c.args.sum.now (omega arith)

pub returns : goal.returns
returns c = c.loop-entry.invariant ∙ partly-all c.loop-entry.entry-index c.args.sum.now (omega arith)
