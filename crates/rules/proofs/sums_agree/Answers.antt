-- Each check's way out is one law of proofs/Adding.
use mathlib.Core.Path.{◌∙◌, sym, ap₂}
use native.Mathlib.Omega.{arith}
use lib.IntN.{◌+ℤ◌}
use mir.Facts.{to_z-of_z}
use Rattle.matching.proofs.Matches.{kept}
use Rattle.integer.proofs.Signed.{back}
use Rattle.calculus.specs.Terms.{same_integer}
use Rattle.matching.specs.Entries.{entries}
use Rattle.matching.specs.Matched.{term}
use Rattle.matching.specs.Places.{placed}
use Rattle.sums.specs.Places.{left_at, right_at, conclusion_at}
use Rattle.rules.proofs.Adding.{sums-29, sums-30, sums-31, sums-all}
use Rattle.rules.proofs.sums_agree.Goals as goal

pub returns-then-not-same_integer : goal.returns-then-not-same_integer
returns-then-not-same_integer c = λ x u v. sums-29 c.args.three.total c.args.slack (entries (term x) (placed right_at c.args.coeffs.now) (placed left_at c.args.keys.now) c.args.n) c.args.three.constant (entries (term x) (placed conclusion_at c.args.coeffs.now) (placed conclusion_at c.args.keys.now) c.args.three.count3) c.args.names (sym c.if-not-same_integer.true ∙ (c.same_integer.ensures ∙ ap₂ same_integer (kept (omega arith) c.requires.within.1) (back c.add.result c.add.type_inv ∙ c.add.ensures ∙ ap₂ ◌+ℤ◌ (kept (omega arith) c.requires.within.0) (to_z-of_z c.ranges.slack))))

pub returns-then-not-assert_pbsum_same_keys : goal.returns-then-not-assert_pbsum_same_keys
returns-then-not-assert_pbsum_same_keys c = λ x u v. sums-30 c.args.three.total c.args.slack (entries (term x) (placed right_at c.args.coeffs.now) (placed left_at c.args.keys.now) c.args.n) c.args.three.constant (entries (term x) (placed conclusion_at c.args.coeffs.now) (placed conclusion_at c.args.keys.now) c.args.three.count3) c.args.names (sym c.if-not-same_integer.false ∙ (c.same_integer.ensures ∙ ap₂ same_integer (kept (omega arith) c.requires.within.1) (back c.add.result c.add.type_inv ∙ c.add.ensures ∙ ap₂ ◌+ℤ◌ (kept (omega arith) c.requires.within.0) (to_z-of_z c.ranges.slack)))) (sym c.if-not-assert_pbsum_same_keys.true ∙ c.assert_pbsum_same_keys.ensures x u v)

pub returns-then-not-coefficients_are : goal.returns-then-not-coefficients_are
returns-then-not-coefficients_are c = λ x u v. sums-31 c.args.three.total c.args.slack (entries (term x) (placed right_at c.args.coeffs.now) (placed left_at c.args.keys.now) c.args.n) c.args.three.constant (entries (term x) (placed conclusion_at c.args.coeffs.now) (placed conclusion_at c.args.keys.now) c.args.three.count3) c.args.names (sym c.if-not-same_integer.false ∙ (c.same_integer.ensures ∙ ap₂ same_integer (kept (omega arith) c.requires.within.1) (back c.add.result c.add.type_inv ∙ c.add.ensures ∙ ap₂ ◌+ℤ◌ (kept (omega arith) c.requires.within.0) (to_z-of_z c.ranges.slack)))) (sym c.if-not-assert_pbsum_same_keys.false ∙ c.assert_pbsum_same_keys.ensures x u v) (sym c.if-not-coefficients_are.true ∙ c.coefficients_are.ensures x u v)

pub returns : goal.returns
returns c = λ x u v. sums-all c.args.three.total c.args.slack (entries (term x) (placed right_at c.args.coeffs.now) (placed left_at c.args.keys.now) c.args.n) c.args.three.constant (entries (term x) (placed conclusion_at c.args.coeffs.now) (placed conclusion_at c.args.keys.now) c.args.three.count3) c.args.names (sym c.if-not-same_integer.false ∙ (c.same_integer.ensures ∙ ap₂ same_integer (kept (omega arith) c.requires.within.1) (back c.add.result c.add.type_inv ∙ c.add.ensures ∙ ap₂ ◌+ℤ◌ (kept (omega arith) c.requires.within.0) (to_z-of_z c.ranges.slack)))) (sym c.if-not-assert_pbsum_same_keys.false ∙ c.assert_pbsum_same_keys.ensures x u v) _ c.zeros_face_zeros.result (sym c.if-not-coefficients_are.false ∙ c.coefficients_are.ensures x u v) c.both.ensures (c.zeros_face_zeros.ensures x u v)
