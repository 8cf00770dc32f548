-- `opb::closed_at` owes the `;` that stands here: each arm of the token is one case of the definition. Assumes nothing.
use native.Mathlib.Omega.{arith}
use Rattle.opb.proofs.Parts.{passed, semicolon-refused, semicolon-closed, semicolon-placed, no-semicolon}
use Rattle.opb.proofs.closed_at.Goals as goal

pub returns-in_err-p : goal.returns-in_err-p
returns-in_err-p c = rw (passed c.from_residual.result c.from_residual.ensures.1) (semicolon-refused c.args.text.now c.args.at _ (rw c.in_err-p.was at c.inside_token.ensures).0)

pub overflow_add-result : goal.overflow_add-result
overflow_add-result c = let T = rw c.in_ok-p.was at c.inside_token.ensures in omega (arith, semicolon-placed c.args.text.now c.args.at _ T.0 T.1 _ c.in-Semicolon.is)

pub returns-in-Semicolon : goal.returns-in-Semicolon
returns-in-Semicolon c = let T = rw c.in_ok-p.was at c.inside_token.ensures in semicolon-closed c.args.text.now c.args.at _ T.0 T.1 _ c.in-Semicolon.is

pub returns-in-End : goal.returns-in-End
returns-in-End c = let T = rw c.in_ok-p.was at c.inside_token.ensures in no-semicolon c.args.text.now c.args.at _ T.0 T.1 _ c.in-End.is

pub returns-in-End-2 : goal.returns-in-End-2
returns-in-End-2 c = let T = rw c.in_ok-p.was at c.inside_token.ensures in no-semicolon c.args.text.now c.args.at _ T.0 T.1 _ c.in-End.is

pub returns-in-End-3 : goal.returns-in-End-3
returns-in-End-3 c = let T = rw c.in_ok-p.was at c.inside_token.ensures in no-semicolon c.args.text.now c.args.at _ T.0 T.1 _ c.in-End.is

pub returns-in-End-4 : goal.returns-in-End-4
returns-in-End-4 c = let T = rw c.in_ok-p.was at c.inside_token.ensures in no-semicolon c.args.text.now c.args.at _ T.0 T.1 _ c.in-End.is
