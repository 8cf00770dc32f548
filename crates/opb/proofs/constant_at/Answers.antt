-- `opb::constant_at` owes the constant and the `;` that stand here: each arm of the token is one case of the definition. Assumes nothing.
use Rattle.opb.proofs.Parts.{passed, constant-refused, number-placed, number-last, number-open, no-constant}
use Rattle.opb.proofs.constant_at.Goals as goal

pub returns-in_err-m : goal.returns-in_err-m
returns-in_err-m c = rw (passed c.from_residual.result c.from_residual.ensures.1) (constant-refused c.args.text.now c.args.at _ (rw c.in_err-m.was at c.inside_token.ensures).0)

pub closed_at-requires : goal.closed_at-requires
closed_at-requires c = (let T = rw c.in_ok-m.was at c.inside_token.ensures in number-placed c.args.text.now c.args.at _ T.0 T.1 _ _ _ _ c.in-Number.is).4

pub returns-in_err-closed_at-in-Number : goal.returns-in_err-closed_at-in-Number
returns-in_err-closed_at-in-Number c = let T = rw c.in_ok-m.was at c.inside_token.ensures in rw (passed c.from_residual-in_err-closed_at-in-Number.result c.from_residual-in_err-closed_at-in-Number.ensures.1) (number-open c.args.text.now c.args.at _ T.0 T.1 _ _ _ _ c.in-Number.is _ (rw c.in_err-closed_at-in-Number.was at c.closed_at.ensures))

pub returns-in_ok-closed_at-in-Number : goal.returns-in_ok-closed_at-in-Number
returns-in_ok-closed_at-in-Number c = let T = rw c.in_ok-m.was at c.inside_token.ensures in number-last c.args.text.now c.args.at _ T.0 T.1 _ _ _ _ c.in-Number.is _ (rw c.in_ok-closed_at-in-Number.was at c.closed_at.ensures)

pub returns-in-End : goal.returns-in-End
returns-in-End c = let T = rw c.in_ok-m.was at c.inside_token.ensures in no-constant c.args.text.now c.args.at _ T.0 T.1 _ c.in-End.is

pub returns-in-End-2 : goal.returns-in-End-2
returns-in-End-2 c = let T = rw c.in_ok-m.was at c.inside_token.ensures in no-constant c.args.text.now c.args.at _ T.0 T.1 _ c.in-End.is

pub returns-in-End-3 : goal.returns-in-End-3
returns-in-End-3 c = let T = rw c.in_ok-m.was at c.inside_token.ensures in no-constant c.args.text.now c.args.at _ T.0 T.1 _ c.in-End.is

pub returns-in-End-4 : goal.returns-in-End-4
returns-in-End-4 c = let T = rw c.in_ok-m.was at c.inside_token.ensures in no-constant c.args.text.now c.args.at _ T.0 T.1 _ c.in-End.is
