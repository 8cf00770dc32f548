-- `opb::item_at` owes what a constraint goes on with: each arm of the token is one case of the definition, and behind a number stands a literal. Assumes nothing.
use Rattle.opb.proofs.Parts.{passed, item-refused, relation-compared, number-placed, number-summand, number-alone, no-item}
use Rattle.opb.proofs.item_at.Goals as goal

pub returns-in_err-m : goal.returns-in_err-m
returns-in_err-m c = rw (passed c.from_residual.result c.from_residual.ensures.1) (item-refused c.args.text.now c.args.at _ (rw c.in_err-m.was at c.inside_token.ensures).0)

pub literal_at-requires : goal.literal_at-requires
literal_at-requires c = (let T = rw c.in_ok-m.was at c.inside_token.ensures in number-placed c.args.text.now c.args.at _ T.0 T.1 _ _ _ _ c.in-Number.is).4

pub returns-in_err-d-in-Number : goal.returns-in_err-d-in-Number
returns-in_err-d-in-Number c = let T = rw c.in_ok-m.was at c.inside_token.ensures in rw (passed c.from_residual-in_err-d-in-Number.result c.from_residual-in_err-d-in-Number.ensures.1) (number-alone c.args.text.now c.args.at _ T.0 T.1 _ _ _ _ c.in-Number.is _ (rw c.in_err-d-in-Number.was at c.literal_at.ensures))

pub returns-in_ok-d-in-Number : goal.returns-in_ok-d-in-Number
returns-in_ok-d-in-Number c = let T = rw c.in_ok-m.was at c.inside_token.ensures in number-summand c.args.text.now c.args.at _ T.0 T.1 _ _ _ _ c.in-Number.is _ _ _ (rw c.in_ok-d-in-Number.was at c.literal_at.ensures)

pub returns-in-Relation : goal.returns-in-Relation
returns-in-Relation c = let T = rw c.in_ok-m.was at c.inside_token.ensures in relation-compared c.args.text.now c.args.at _ T.0 T.1 _ _ _ c.in-Relation.is

pub returns-in-End : goal.returns-in-End
returns-in-End c = let T = rw c.in_ok-m.was at c.inside_token.ensures in no-item c.args.text.now c.args.at _ T.0 T.1 _ c.in-End.is

pub returns-in-End-2 : goal.returns-in-End-2
returns-in-End-2 c = let T = rw c.in_ok-m.was at c.inside_token.ensures in no-item c.args.text.now c.args.at _ T.0 T.1 _ c.in-End.is

pub returns-in-End-3 : goal.returns-in-End-3
returns-in-End-3 c = let T = rw c.in_ok-m.was at c.inside_token.ensures in no-item c.args.text.now c.args.at _ T.0 T.1 _ c.in-End.is
