-- The opposite literal's entry, if there is one, says which of both is larger; of the two the plain one counts.
use mathlib.Core.Path.{refl, sym, ◌∙◌}
use native.Mathlib.Omega.{arith}
use Rattle.integer.proofs.Signed.{back}
use Rattle.matching.proofs.Matches.{node-few}
use Rattle.marks.proofs.Values.{variable-at, opposite_at, alone_at, negated-at, plain_at}
use Rattle.marks.proofs.greatest_at.Goals as goal

pub opposite-requires : goal.opposite-requires
opposite-requires c = node-few (variable-at c.requires.keyed.0 c.args.i c.requires.keyed.2).node

pub find-j-requires : goal.find-j-requires
find-j-requires c = record {
  variable = opposite_at c.requires.keyed.0 c.args.i c.requires.keyed.2 _ c.opposite.ensures;
  keyed = c.requires.keyed.0;
}

pub returns-then-j-n : goal.returns-then-j-n
returns-then-j-n c = alone_at c.args.at c.args.coeffs.now c.args.keys.now c.requires.keyed.0.fine.few c.requires.keyed.2 c.opposite.ensures c.find-j.ensures c.requires.bounded (omega arith) (back c.larger.result c.larger.type_inv) c.larger.ensures

pub returns-then-negated_of : goal.returns-then-negated_of
returns-then-negated_of c = negated-at c.args.at c.args.coeffs.now c.args.keys.now c.requires.keyed.0.fine.few c.requires.keyed.2 c.opposite.ensures c.find-j.ensures c.requires.bounded (omega arith) (sym c.negated_of.ensures ∙ c.if-negated_of.true) refl

pub returns : goal.returns
returns c = plain_at c.args.at c.args.coeffs.now c.args.keys.now c.requires.keyed.0.fine.few c.requires.keyed.2 c.opposite.ensures c.find-j.ensures c.requires.bounded (omega arith) (sym c.negated_of.ensures ∙ c.if-negated_of.false) (back c.larger-2.result c.larger-2.type_inv) c.larger-2.ensures
