use Rattle.matching.specs.Places.{placed}
use Rattle.sums.proofs.Keys.{Subset}
use Rattle.sums.proofs.assert_pbsum_subset_keys.Given as goal

abbrev pub invariant-loop-i : goal.invariant-loop-i
invariant-loop-i l = Subset l.nodes (placed l.from l.coeffs) (placed l.at l.keys) l.n (placed l.at2 l.keys) l.m l.i
