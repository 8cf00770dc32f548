-- What was found is the coefficient, else 0.
use mathlib.Core.Path.{refl, sym, ◌∙◌}
use native.Mathlib.Omega.{arith}
use Rattle.integer.proofs.Signed.{back}
use Rattle.matching.specs.Places.{placed}
use Rattle.sums.specs.Places.{left_at, right_at}
use Rattle.matching.proofs.Places.{coefficient-at}
use Rattle.rules.proofs.Adding.{at-found, at_none}
use Rattle.rules.proofs.coefficient_at.Goals as goal

pub find-j-requires : goal.find-j-requires
find-j-requires c = record {
  variable = c.requires.variable;
  keyed = c.requires.keyed.0;
}

pub returns-then-j-n : goal.returns-then-j-n
returns-then-j-n c = at-found (placed right_at c.args.coeffs.now) (placed left_at c.args.keys.now) c.args.n c.args.key c.find-j.result c.find-j.ensures _ (omega arith) (back _ c.result-1.given ∙ sym (coefficient-at right_at c.args.coeffs.now c.find-j.result (omega (arith, c.requires.keyed.0.fine.few))))

pub returns-else-j-n : goal.returns-else-j-n
returns-else-j-n c = at_none (placed right_at c.args.coeffs.now) (placed left_at c.args.keys.now) c.args.n c.args.key c.find-j.result c.find-j.ensures _ (omega arith) refl
