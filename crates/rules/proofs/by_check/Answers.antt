-- Each check's way out is one law of proofs/Mapping.
use mathlib.Core.Path.{◌∙◌, sym, ap, ap₂}
use mathlib.Core.Bool.{◌&&◌}
use native.Mathlib.Omega.{arith}
use Rattle.integer.proofs.Signed.{back}
use Rattle.calculus.specs.Terms.{same_integer}
use Rattle.matching.specs.Entries.{entries}
use Rattle.matching.specs.Matched.{term}
use Rattle.matching.proofs.Matches.{kept}
use Rattle.rules.specs.Checked.{map_of, inequality}
use Rattle.matching.specs.Places.{placed}
use Rattle.sums.specs.Places.{left_at, conclusion_at}
use Rattle.rules.proofs.Mapping.{by-29, by-30, by-31, by_all}
use Rattle.rules.proofs.by_check.Goals as goal

pub returns-then-not-same_integer : goal.returns-then-not-same_integer
returns-then-not-same_integer c = λ x u v. by-29 (map_of c.args.by) (inequality (entries (term x) (placed left_at c.args.coeffs.now) (placed left_at c.args.keys.now) c.args.premise.count) c.args.premise.constant) (inequality (entries (term x) (placed conclusion_at c.args.coeffs.now) (placed conclusion_at c.args.keys.now) c.args.conclusion.count) c.args.conclusion.constant) (sym c.if-not-same_integer.true ∙ (c.same_integer.ensures ∙ ap₂ same_integer (back c.apply.result c.apply.type_inv ∙ c.apply.ensures ∙ ap (map_of c.args.by) (kept (omega arith) c.requires.by_is.1)) (kept (omega arith) c.requires.by_is.2)))

pub returns-then-not-assert_pbsum_same_keys : goal.returns-then-not-assert_pbsum_same_keys
returns-then-not-assert_pbsum_same_keys c = λ x u v. by-30 (map_of c.args.by) (inequality (entries (term x) (placed left_at c.args.coeffs.now) (placed left_at c.args.keys.now) c.args.premise.count) c.args.premise.constant) (inequality (entries (term x) (placed conclusion_at c.args.coeffs.now) (placed conclusion_at c.args.keys.now) c.args.conclusion.count) c.args.conclusion.constant) (sym c.if-not-same_integer.false ∙ (c.same_integer.ensures ∙ ap₂ same_integer (back c.apply.result c.apply.type_inv ∙ c.apply.ensures ∙ ap (map_of c.args.by) (kept (omega arith) c.requires.by_is.1)) (kept (omega arith) c.requires.by_is.2))) (sym c.if-not-assert_pbsum_same_keys.true ∙ c.assert_pbsum_same_keys.ensures x u v)

pub returns-then-not-coefficients_agree : goal.returns-then-not-coefficients_agree
returns-then-not-coefficients_agree c = λ x u v. by-31 (map_of c.args.by) (inequality (entries (term x) (placed left_at c.args.coeffs.now) (placed left_at c.args.keys.now) c.args.premise.count) c.args.premise.constant) (inequality (entries (term x) (placed conclusion_at c.args.coeffs.now) (placed conclusion_at c.args.keys.now) c.args.conclusion.count) c.args.conclusion.constant) (sym c.if-not-same_integer.false ∙ (c.same_integer.ensures ∙ ap₂ same_integer (back c.apply.result c.apply.type_inv ∙ c.apply.ensures ∙ ap (map_of c.args.by) (kept (omega arith) c.requires.by_is.1)) (kept (omega arith) c.requires.by_is.2))) (sym c.if-not-assert_pbsum_same_keys.false ∙ c.assert_pbsum_same_keys.ensures x u v) (sym c.if-not-coefficients_agree.true ∙ c.coefficients_agree.ensures x u v)

pub all_names-requires : goal.all_names-requires
all_names-requires c = (λ i h. (c.requires.keyed.0.fine.literals i h).node, omega (arith, c.requires.keyed.0.fine.few, c.requires.keyed.0.keys), omega arith, c.requires.keyed.0.fine.few)

pub all_names-requires-2 : goal.all_names-requires-2
all_names-requires-2 c = (λ i h. (c.requires.keyed_2.0.fine.literals i h).node, omega (arith, c.requires.keyed_2.0.fine.few, c.requires.keyed_2.0.keys), omega arith, c.requires.keyed_2.0.fine.few)

pub returns : goal.returns
returns c = λ x u v. by_all (map_of c.args.by) (inequality (entries (term x) (placed left_at c.args.coeffs.now) (placed left_at c.args.keys.now) c.args.premise.count) c.args.premise.constant) (inequality (entries (term x) (placed conclusion_at c.args.coeffs.now) (placed conclusion_at c.args.keys.now) c.args.conclusion.count) c.args.conclusion.constant) (sym c.if-not-same_integer.false ∙ (c.same_integer.ensures ∙ ap₂ same_integer (back c.apply.result c.apply.type_inv ∙ c.apply.ensures ∙ ap (map_of c.args.by) (kept (omega arith) c.requires.by_is.1)) (kept (omega arith) c.requires.by_is.2))) (sym c.if-not-assert_pbsum_same_keys.false ∙ c.assert_pbsum_same_keys.ensures x u v) _ (sym c.if-not-coefficients_agree.false ∙ c.coefficients_agree.ensures x u v) (c.both.ensures ∙ ap₂ ◌&&◌ (c.all_names.ensures x.text (placed left_at c.args.coeffs.now)) (c.all_names-2.ensures x.text (placed conclusion_at c.args.coeffs.now)))
