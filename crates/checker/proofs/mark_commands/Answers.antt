-- The loop's invariant: the first k commands have their marks.
use mathlib.Core.Path.{refl}
use native.Mathlib.Omega.{arith}
use Rattle.checker.proofs.Marking.{marked-set}
use Rattle.checker.proofs.mark_commands.Goals as goal

pub loop-k-preserved : goal.loop-k-preserved
loop-k-preserved c = λ p.
    marked-set c.args.text.now c.args.nodes.now c.args.commands.now c.loop-k.marks c.loop-k.k c.holds-held.result
    (c.loop-k.invariant p) (omega (arith, c.requires.n_in_bounds.1, c.loop-k.auto.marks)) (c.holds-held.ensures (p c.loop-k.k (omega arith)) (c.loop-k.invariant p)) refl
