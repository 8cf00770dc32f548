-- The sum of both, reduced, against the conclusion's: the definition's check by its parts.
use mathlib.Core.Path.{◌∙◌, ap}
use mathlib.Core.Bool.{Bool, ◌&&◌}
use native.Mathlib.Omega.{arith}
use Rattle.matching.proofs.Matches.{kept}
use Rattle.matching.specs.Places.{placed}
use Rattle.sums.specs.Places.{left_at, right_at, conclusion_at}
use Rattle.sums.proofs.Places.{rooms-still, keyed_of, long-enough, fine-still, left-aside}
use Rattle.rules.proofs.Adding.{added_is}
use Rattle.rules.proofs.added.Goals as goal

pub sums_agree-requires-clause-keyed_2 : goal.sums_agree-requires-clause-keyed_2
sums_agree-requires-clause-keyed_2 c = (keyed_of (rooms-still c.add_pbsums-both.ensures.1 c.requires.rooms) conclusion_at (omega arith) (fine-still c.add_pbsums-both.ensures.1 conclusion_at (λ i j a b q. omega arith) left-aside c.requires.fine_2.0), rw c.reduce_pbsum-slack.ensures.1.long (long-enough (rooms-still c.add_pbsums-both.ensures.1 c.requires.rooms) conclusion_at (omega arith) _ c.requires.fine_2.0.few))

pub returns : goal.returns
returns c = added_is c.args.nodes.now c.args.three (placed left_at c.args.coeffs.now) (placed left_at c.args.keys.now) (placed right_at c.args.coeffs.now) (placed right_at c.args.keys.now) (placed conclusion_at c.args.coeffs.now) (placed conclusion_at c.args.keys.now) c.add_pbsums-both.ensures.0 c.reduce_pbsum-slack.ensures.0 c.all_names.result c.all_names-2.result c.all_names-3.result c.both-names.result c.all_names.ensures c.all_names-2.ensures c.all_names-3.ensures (c.both-names.ensures ∙ ap (λ (b : Bool). b && c.all_names-3.result) c.both-premises.ensures) c.sums_agree.result (rw (kept (omega arith) c.reduce_pbsum-slack.ensures.0.within, c.reduce_pbsum-slack.ensures.1.there conclusion_at (λ i j a b q. omega arith), c.add_pbsums-both.ensures.1.coefficients.there conclusion_at (λ i j a b q. omega arith), c.add_pbsums-both.ensures.1.keys.there conclusion_at (λ i j a b q. omega arith)) at c.sums_agree.ensures)
