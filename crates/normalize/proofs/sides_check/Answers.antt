-- `normalize::sides_check`: the leaves are counted, both sides are flattened into one list, and the relation is checked on it.
use mathlib.Core.Path.{refl, ◌∙◌, ap}
use mathlib.Core.List.{[]}
use native.Mathlib.Omega.{arith}
use lib.IntN.{neg_ℤ}
use Rattle.integer.proofs.Signed.{back}
use Rattle.matching.proofs.Matches.{kept}
use Rattle.normalize.proofs.Relating.{sides-long, right-ready, sides-marked, good-constant}
use Rattle.normalize.proofs.sides_check.Goals as goal

pub count_leaves-requires-2 : goal.count_leaves-requires-2
count_leaves-requires-2 c = (c.requires.right, omega (arith, c.count_leaves.ensures []))

pub returns-then-count_leaves-gt-MAX_SUMMANDS : goal.returns-then-count_leaves-gt-MAX_SUMMANDS
returns-then-count_leaves-gt-MAX_SUMMANDS c = sides-long c.requires c.count_leaves.ensures c.count_leaves-2.ensures c.if-count_leaves-gt-MAX_SUMMANDS.true

pub flatten_addition_tree-sum-requires : goal.flatten_addition_tree-sum-requires
flatten_addition_tree-sum-requires c = right-ready c.requires c.count_leaves.ensures c.count_leaves-2.ensures c.if-count_leaves-gt-MAX_SUMMANDS.false (refl, (refl, (refl, refl))) c.flatten_addition_tree-left.ensures

pub returns : goal.returns
returns c =
    let good = c.flatten_addition_tree-sum.ensures.good in
    let minus = back c.negate-constant.result c.negate-constant.type_inv ∙ c.negate-constant.ensures ∙ ap neg_ℤ (kept (omega arith) (good-constant good)) in
    sides-marked c.requires c.count_leaves.ensures c.count_leaves-2.ensures c.if-count_leaves-gt-MAX_SUMMANDS.false (refl, (refl, (refl, refl))) c.flatten_addition_tree-left.ensures c.flatten_addition_tree-sum.ensures c.without_mark.result minus c.relation_check-r.ensures c.without_mark.ensures
