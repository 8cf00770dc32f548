-- Both ways: the first that fails decides, else the second.
use mathlib.Core.Path.{subst}
use mathlib.Core.Bool.{Bool}
use native.Mathlib.Omega.{arith}
use Rattle.sums.specs.Found.{SubsetIs}
use Rattle.matching.specs.Places.{placed}
use Rattle.sums.proofs.Keys.{same-keys-first, same-keys-both}
use Rattle.sums.proofs.assert_pbsum_same_keys.Goals as goal

pub assert_pbsum_subset_keys-requires : goal.assert_pbsum_subset_keys-requires
assert_pbsum_subset_keys-requires c = record {
  listed = record { near = c.requires.keyed.2; few = c.requires.keyed.0.few; most = c.requires.keyed.0.fine.few; coefficients = c.requires.keyed.1; keys = omega (arith, c.requires.keyed.0.keys, c.requires.keyed.0.fine.few); literals = c.requires.keyed.0.fine.literals };
  keyed = c.requires.keyed_2.0;
}

pub returns-then-not-assert_pbsum_subset_keys : goal.returns-then-not-assert_pbsum_subset_keys
returns-then-not-assert_pbsum_subset_keys c = same-keys-first c.args.nodes.now (placed c.args.from c.args.coeffs.now) (placed c.args.at c.args.keys.now) c.args.n (placed c.args.at2 c.args.coeffs.now) (placed c.args.at2 c.args.keys.now) c.args.m (subst (λ (r : Bool). SubsetIs c.args.nodes.now (placed c.args.from c.args.coeffs.now) (placed c.args.at c.args.keys.now) c.args.n (placed c.args.at2 c.args.keys.now) c.args.m r) c.if-not-assert_pbsum_subset_keys.true c.assert_pbsum_subset_keys.ensures)

pub assert_pbsum_subset_keys-requires-2 : goal.assert_pbsum_subset_keys-requires-2
assert_pbsum_subset_keys-requires-2 c = record {
  listed = record { near = c.requires.keyed_2.0.few; few = c.requires.keyed_2.0.few; most = c.requires.keyed_2.0.fine.few; coefficients = c.requires.keyed_2.1; keys = omega (arith, c.requires.keyed_2.0.keys, c.requires.keyed_2.0.fine.few); literals = c.requires.keyed_2.0.fine.literals };
  keyed = c.requires.keyed.0;
}

pub returns : goal.returns
returns c = same-keys-both c.args.nodes.now (placed c.args.from c.args.coeffs.now) (placed c.args.at c.args.keys.now) c.args.n (placed c.args.at2 c.args.coeffs.now) (placed c.args.at2 c.args.keys.now) c.args.m c.assert_pbsum_subset_keys-2.result (subst (λ (r : Bool). SubsetIs c.args.nodes.now (placed c.args.from c.args.coeffs.now) (placed c.args.at c.args.keys.now) c.args.n (placed c.args.at2 c.args.keys.now) c.args.m r) c.if-not-assert_pbsum_subset_keys.false c.assert_pbsum_subset_keys.ensures) c.assert_pbsum_subset_keys-2.ensures
