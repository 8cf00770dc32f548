-- Where the literal is found, its coefficient is compared.
use Rattle.rules.specs.Checked.{map_of}
use mathlib.Core.Path.{◌∙◌, sym, ap, ap₂, subst}
use Prim.Native.Nat.{ℕ}
use native.Mathlib.Omega.{arith}
use Rattle.calculus.specs.Terms.{same_integer}
use Rattle.integer.proofs.Signed.{back}
use Rattle.matching.specs.Places.{placed}
use Rattle.sums.specs.Places.{left_at, conclusion_at}
use Rattle.sums.specs.Found.{FindIs}
use Rattle.matching.proofs.Places.{key-at, coefficient-at}
use Rattle.rules.proofs.Mapping.{agrees-none, agrees-found}
use Rattle.rules.proofs.coefficient_agrees.Goals as goal

pub find-j-requires : goal.find-j-requires
find-j-requires c = record {
  variable = rw (key-at left_at c.args.keys.now c.args.i c.requires.i_lt_max_entries.0) at c.requires.i_lt_max_entries.3;
  keyed = c.requires.keyed.0;
}

pub returns-then-j-m : goal.returns-then-j-m
returns-then-j-m c = agrees-none (map_of c.args.by) (placed left_at c.args.coeffs.now) (placed left_at c.args.keys.now) c.args.i (placed conclusion_at c.args.coeffs.now) (placed conclusion_at c.args.keys.now) c.args.m c.find-j.result (subst (λ (k : ℕ). FindIs c.args.nodes.now (placed conclusion_at c.args.keys.now) c.args.m k c.find-j.result) (sym (key-at left_at c.args.keys.now c.args.i c.requires.i_lt_max_entries.0)) c.find-j.ensures) (omega arith)

pub apply-requires : goal.apply-requires
apply-requires c = record {
  by_is = c.requires.by_is;
  within = rw (back _ c.apply-arg-1.given) (rw (coefficient-at left_at c.args.coeffs.now c.args.i c.requires.i_lt_max_entries.0) at c.requires.i_lt_max_entries.4);
}

pub returns : goal.returns
returns c = agrees-found (map_of c.args.by) (placed left_at c.args.coeffs.now) (placed left_at c.args.keys.now) c.args.i (placed conclusion_at c.args.coeffs.now) (placed conclusion_at c.args.keys.now) c.args.m c.find-j.result (subst (λ (k : ℕ). FindIs c.args.nodes.now (placed conclusion_at c.args.keys.now) c.args.m k c.find-j.result) (sym (key-at left_at c.args.keys.now c.args.i c.requires.i_lt_max_entries.0)) c.find-j.ensures) (omega arith) _ (rw ((coefficient-at left_at c.args.coeffs.now c.args.i c.requires.i_lt_max_entries.0), (coefficient-at conclusion_at c.args.coeffs.now c.find-j.result (omega (arith, c.requires.keyed.0.fine.few)))) (c.same_integer.ensures ∙ ap₂ same_integer (back c.apply.result c.apply.type_inv ∙ c.apply.ensures ∙ ap (map_of c.args.by) (back _ c.apply-arg-1.given)) (back _ c.same_integer-arg-1.given)))
