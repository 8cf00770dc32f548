-- The loop's invariant: the first coefficients are reduced, and the slack so far with that of the rest is that of the whole.
use mathlib.Core.Path.{◌∙◌}
use native.Mathlib.Omega.{arith}
use lib.IntN.{pos}
use Rattle.integer.proofs.Signed.{back}
use Rattle.matching.proofs.Matches.{kept}
use Rattle.matching.specs.Places.{max_entries}
use Rattle.matching.proofs.Places.{part-put, others-set, others-then}
use Rattle.sums.proofs.Reducing.{reduce-next, reduce_end}
use mir.Facts.{to_z-of_z}
use mir.Syntax.{w64}
use borrow.Author.Rules.{rules}
use Rattle.sums.proofs.reduce_pbsum.Goals as goal

pub loop-i-preserved : goal.loop-i-preserved
loop-i-preserved c = let k = rw (c.loop-i.invariant.1.there c.args.at c.requires.max_entries_in_bounds.2) at c.cancel-one.ensures in
    (reduce-next c.loop-i.invariant.0 (omega arith) k _ (rw (to_z-of_z {w = w64} {z = c.cancel-one.result.kept} (search rules)) (part-put c.args.into max_entries c.loop-i.coeffs (pos 0) c.loop-i.i _ (omega (arith, c.requires.keyed.0.fine.few)) (omega (arith, c.requires.max_entries_in_bounds.0, c.loop-i.invariant.1.long)))) _ (back c.add-slack.result c.add-slack.type_inv ∙ rw (kept (omega arith) k.within) at c.add-slack.ensures), others-then c.loop-i.invariant.1 (others-set c.args.into c.loop-i.coeffs c.loop-i.i _ (omega (arith, c.requires.keyed.0.fine.few))))

pub returns : goal.returns
returns c = (reduce_end c.loop-i.invariant.0 (omega arith) (omega arith) c.requires.keyed.0.fine.few, c.loop-i.invariant.1)
