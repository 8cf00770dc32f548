-- `opb::literal_at` owes the literal that stands here: each arm of the token is one case of the definition. Assumes nothing.
use Rattle.opb.proofs.Parts.{passed, literal-refused, literal-named, no-literal}
use Rattle.opb.proofs.literal_at.Goals as goal

pub returns-in_err-d : goal.returns-in_err-d
returns-in_err-d c = rw (passed c.from_residual.result c.from_residual.ensures.1) (literal-refused c.args.text.now c.args.at _ (rw c.in_err-d.was at c.inside_token.ensures).0)

pub returns-in-Literal : goal.returns-in-Literal
returns-in-Literal c = let T = rw c.in_ok-d.was at c.inside_token.ensures in literal-named c.args.text.now c.args.at _ T.0 T.1 _ _ _ _ c.in-Literal.is

pub returns-in-End : goal.returns-in-End
returns-in-End c = let T = rw c.in_ok-d.was at c.inside_token.ensures in no-literal c.args.text.now c.args.at _ T.0 T.1 _ c.in-End.is

pub returns-in-End-2 : goal.returns-in-End-2
returns-in-End-2 c = let T = rw c.in_ok-d.was at c.inside_token.ensures in no-literal c.args.text.now c.args.at _ T.0 T.1 _ c.in-End.is

pub returns-in-End-3 : goal.returns-in-End-3
returns-in-End-3 c = let T = rw c.in_ok-d.was at c.inside_token.ensures in no-literal c.args.text.now c.args.at _ T.0 T.1 _ c.in-End.is

pub returns-in-End-4 : goal.returns-in-End-4
returns-in-End-4 c = let T = rw c.in_ok-d.was at c.inside_token.ensures in no-literal c.args.text.now c.args.at _ T.0 T.1 _ c.in-End.is
