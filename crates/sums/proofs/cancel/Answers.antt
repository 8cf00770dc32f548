-- The opposite literal's entry, if there is one, says what is kept and, at the plain literal, what the slack gains.
use mathlib.Core.Path.{refl, sym, ◌∙◌}
use mathlib.Core.Bool.{not}
use Prim.Native.Nat.{◌+◌}
use native.Mathlib.Omega.{arith}
use lib.ListN.{get_or}
use Rattle.integer.proofs.Signed.{back}
use Rattle.matching.specs.Matched.{variable_of, negated_of}
use Rattle.matching.proofs.Matches.{node-few, kept, key-variable}
use Rattle.matching.specs.Places.{placed}
use Rattle.matching.proofs.Places.{key-at, coefficient-at}
use Rattle.sums.proofs.Reducing.{cancel-none, cancel-negated, cancel-plain}
use Rattle.sums.proofs.cancel.Goals as goal

pub opposite-requires : goal.opposite-requires
opposite-requires c = node-few (rw (key-at c.args.at c.args.keys.now c.args.i (omega (arith, c.requires.keyed.2, c.requires.keyed.0.fine.few))) at (c.requires.keyed.0.fine.literals c.args.i c.requires.keyed.2)).node

pub find-j-requires : goal.find-j-requires
find-j-requires c = record {
  variable = rw (c.opposite.ensures, key-variable (variable_of (get_or c.args.keys.now (c.args.at + c.args.i) 0)) (not (negated_of (get_or c.args.keys.now (c.args.at + c.args.i) 0)))) (rw (key-at c.args.at c.args.keys.now c.args.i (omega (arith, c.requires.keyed.2, c.requires.keyed.0.fine.few))) at (c.requires.keyed.0.fine.literals c.args.i c.requires.keyed.2));
  keyed = c.requires.keyed.0;
}

pub returns-then-j-n : goal.returns-then-j-n
returns-then-j-n c = let x = rw (coefficient-at c.args.at c.args.coeffs.now c.args.i (omega (arith, c.requires.keyed.2, c.requires.keyed.0.fine.few))) at (c.requires.bounded c.args.i c.requires.keyed.2) in cancel-none (placed c.args.at c.args.coeffs.now) c.args.i c.opposite.result (rw (key-at c.args.at c.args.keys.now c.args.i (omega (arith, c.requires.keyed.2, c.requires.keyed.0.fine.few))) c.opposite.ensures) c.find-j.ensures c.requires.keyed.2 c.requires.bounded (omega arith) _ _ (kept (omega arith) x ∙ sym (coefficient-at c.args.at c.args.coeffs.now c.args.i (omega (arith, c.requires.keyed.2, c.requires.keyed.0.fine.few)))) refl

pub keep_of-kept-requires : goal.keep_of-kept-requires
keep_of-kept-requires c = let x = rw (coefficient-at c.args.at c.args.coeffs.now c.args.i (omega (arith, c.requires.keyed.2, c.requires.keyed.0.fine.few))) at (c.requires.bounded c.args.i c.requires.keyed.2) in let y = rw (coefficient-at c.args.at c.args.coeffs.now c.find-j.result (omega (arith, c.requires.keyed.0.fine.few))) at (c.requires.bounded c.find-j.result (omega arith)) in rw (kept (omega arith) x, kept (omega arith) y) record {
  within = x;
  within_2 = y;
}

pub returns-then-negated_of : goal.returns-then-negated_of
returns-then-negated_of c = let x = rw (coefficient-at c.args.at c.args.coeffs.now c.args.i (omega (arith, c.requires.keyed.2, c.requires.keyed.0.fine.few))) at (c.requires.bounded c.args.i c.requires.keyed.2) in let y = rw (coefficient-at c.args.at c.args.coeffs.now c.find-j.result (omega (arith, c.requires.keyed.0.fine.few))) at (c.requires.bounded c.find-j.result (omega arith)) in
    cancel-negated (placed c.args.at c.args.coeffs.now) c.args.i c.opposite.result (rw (key-at c.args.at c.args.keys.now c.args.i (omega (arith, c.requires.keyed.2, c.requires.keyed.0.fine.few))) c.opposite.ensures) c.find-j.ensures c.requires.keyed.2 c.requires.bounded (omega arith) _ _ (rw ((coefficient-at c.args.at c.args.coeffs.now c.args.i (omega (arith, c.requires.keyed.2, c.requires.keyed.0.fine.few))), (coefficient-at c.args.at c.args.coeffs.now c.find-j.result (omega (arith, c.requires.keyed.0.fine.few)))) (back c.keep_of-kept.result c.keep_of-kept.type_inv ∙ rw (kept (omega arith) x, kept (omega arith) y) at c.keep_of-kept.ensures)) (rw (key-at c.args.at c.args.keys.now c.args.i (omega (arith, c.requires.keyed.2, c.requires.keyed.0.fine.few))) (sym c.negated_of.ensures ∙ c.if-negated_of.true)) refl

pub returns : goal.returns
returns c = let x = rw (coefficient-at c.args.at c.args.coeffs.now c.args.i (omega (arith, c.requires.keyed.2, c.requires.keyed.0.fine.few))) at (c.requires.bounded c.args.i c.requires.keyed.2) in let y = rw (coefficient-at c.args.at c.args.coeffs.now c.find-j.result (omega (arith, c.requires.keyed.0.fine.few))) at (c.requires.bounded c.find-j.result (omega arith)) in
    cancel-plain (placed c.args.at c.args.coeffs.now) c.args.i c.opposite.result (rw (key-at c.args.at c.args.keys.now c.args.i (omega (arith, c.requires.keyed.2, c.requires.keyed.0.fine.few))) c.opposite.ensures) c.find-j.ensures c.requires.keyed.2 c.requires.bounded (omega arith) _ _ (rw ((coefficient-at c.args.at c.args.coeffs.now c.args.i (omega (arith, c.requires.keyed.2, c.requires.keyed.0.fine.few))), (coefficient-at c.args.at c.args.coeffs.now c.find-j.result (omega (arith, c.requires.keyed.0.fine.few)))) (back c.keep_of-kept.result c.keep_of-kept.type_inv ∙ rw (kept (omega arith) x, kept (omega arith) y) at c.keep_of-kept.ensures)) (rw (key-at c.args.at c.args.keys.now c.args.i (omega (arith, c.requires.keyed.2, c.requires.keyed.0.fine.few))) (sym c.negated_of.ensures ∙ c.if-negated_of.false)) (rw ((coefficient-at c.args.at c.args.coeffs.now c.args.i (omega (arith, c.requires.keyed.2, c.requires.keyed.0.fine.few))), (coefficient-at c.args.at c.args.coeffs.now c.find-j.result (omega (arith, c.requires.keyed.0.fine.few)))) (back c.smaller.result c.smaller.type_inv ∙ rw (kept (omega arith) x, kept (omega arith) y) at c.smaller.ensures))
