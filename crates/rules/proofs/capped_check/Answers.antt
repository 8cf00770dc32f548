-- Each check's way out is one law of proofs/Mapping.
use mathlib.Core.Path.{◌∙◌, sym}
use native.Mathlib.Omega.{arith}
use Rattle.matching.specs.Entries.{entries}
use Rattle.matching.specs.Matched.{term}
use Rattle.matching.proofs.Matches.{kept}
use Rattle.rules.specs.Checked.{inequality}
use Rattle.matching.specs.Places.{placed}
use Rattle.sums.specs.Places.{left_at, conclusion_at}
use Rattle.rules.proofs.Mapping.{sat-constant, sat-coefficient, sat-rest}
use Rattle.rules.proofs.capped_check.Goals as goal

pub returns-then-less : goal.returns-then-less
returns-then-less c = λ x u v. sat-constant (inequality (entries (term x) (placed left_at c.args.coeffs.now) (placed left_at c.args.keys.now) c.args.premise.count) c.args.premise.constant) (inequality (entries (term x) (placed conclusion_at c.args.coeffs.now) (placed conclusion_at c.args.keys.now) c.args.conclusion.count) c.args.conclusion.constant) (sym (rw (kept (omega arith) c.requires.within.0) at c.less.ensures) ∙ c.if-less.true)

pub returns-then-not-nonnegative : goal.returns-then-not-nonnegative
returns-then-not-nonnegative c = λ x u v. sat-coefficient (inequality (entries (term x) (placed left_at c.args.coeffs.now) (placed left_at c.args.keys.now) c.args.premise.count) c.args.premise.constant) (inequality (entries (term x) (placed conclusion_at c.args.coeffs.now) (placed conclusion_at c.args.keys.now) c.args.conclusion.count) c.args.conclusion.constant) (sym (rw (kept (omega arith) c.requires.within.0) at c.less.ensures) ∙ c.if-less.false) (sym c.if-not-nonnegative.true ∙ c.nonnegative.ensures (term x) (placed left_at c.args.keys.now))

pub returns : goal.returns
returns c = λ x u v. sat-rest (inequality (entries (term x) (placed left_at c.args.coeffs.now) (placed left_at c.args.keys.now) c.args.premise.count) c.args.premise.constant) (inequality (entries (term x) (placed conclusion_at c.args.coeffs.now) (placed conclusion_at c.args.keys.now) c.args.conclusion.count) c.args.conclusion.constant) (sym (rw (kept (omega arith) c.requires.within.0) at c.less.ensures) ∙ c.if-less.false) _ (sym c.if-not-nonnegative.false ∙ c.nonnegative.ensures (term x) (placed left_at c.args.keys.now)) ((rw (kept (omega arith) c.requires.within.0) at c.by_check.ensures) x u v)
