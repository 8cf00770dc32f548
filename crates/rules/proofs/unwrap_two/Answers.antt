-- Both were read, or the first that was not says the number.
use borrow.Author.Rules.{rules}
use native.Mathlib.Omega.{arith}
use Rattle.sums.specs.Places.{left_at}
use Rattle.sums.proofs.Reading.{passed}
use Rattle.sums.proofs.Places.{rooms-still, inequality-still, conclusion-aside}
use Rattle.rules.proofs.Unread.{two-unread}
use Rattle.rules.proofs.unwrap_two.Goals as goal

pub returns-in_err-p : goal.returns-in_err-p
returns-in_err-p c = rw (passed c.from_residual.result c.from_residual.ensures.1) (two-unread _ _ _ _ _ _ _ _ _ c.unwrap_pseudoboolean_inequality-first.ensures _ _ _ _ _ c.unwrap_pseudoboolean_inequality-second.ensures c.requires.rooms _ (search rules))

pub returns-in_err-c : goal.returns-in_err-c
returns-in_err-c c = rw (passed c.from_residual-in_err-c.result c.from_residual-in_err-c.ensures.1) (two-unread _ _ _ _ _ _ _ _ _ c.unwrap_pseudoboolean_inequality-first.ensures _ _ _ _ _ c.unwrap_pseudoboolean_inequality-second.ensures c.requires.rooms _ (search rules))

pub returns : goal.returns
returns c = let e = rw c.in_ok-p.was at c.unwrap_pseudoboolean_inequality-first.ensures in let d = rw c.in_ok-c.was at c.unwrap_pseudoboolean_inequality-second.ensures in
    (record { first = inequality-still d.1 left_at (λ i j a b q. omega arith) conclusion-aside e.0; second = d.0 }, rooms-still d.1 (rooms-still e.1 c.requires.rooms))
