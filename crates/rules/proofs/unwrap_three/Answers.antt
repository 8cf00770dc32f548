-- All three were read, or the first that was not says the number.
use borrow.Author.Rules.{rules}
use native.Mathlib.Omega.{arith}
use Rattle.integer.proofs.Fits.{within-add}
use Rattle.integer.proofs.Signed.{back}
use Rattle.matching.proofs.Matches.{kept}
use Rattle.sums.specs.Places.{left_at, right_at}
use Rattle.sums.proofs.Reading.{passed}
use Rattle.sums.proofs.Places.{rooms-still, inequality-still, inequality-past, conclusion-aside, right-aside}
use Rattle.rules.proofs.Unread.{three-unread}
use Rattle.rules.proofs.unwrap_three.Goals as goal

pub returns-in_err-l : goal.returns-in_err-l
returns-in_err-l c = rw (passed c.from_residual.result c.from_residual.ensures.1)
    (three-unread _ _ _ _ _ _ _ _ _ c.unwrap_pseudoboolean_inequality-first.ensures _ _ _ _ _ c.unwrap_pseudoboolean_inequality-second.ensures _ _ _ _ _ c.unwrap_pseudoboolean_inequality-third.ensures c.requires.rooms _ (search rules))

pub returns-in_err-r : goal.returns-in_err-r
returns-in_err-r c = rw (passed c.from_residual-in_err-r.result c.from_residual-in_err-r.ensures.1)
    (three-unread _ _ _ _ _ _ _ _ _ c.unwrap_pseudoboolean_inequality-first.ensures _ _ _ _ _ c.unwrap_pseudoboolean_inequality-second.ensures _ _ _ _ _ c.unwrap_pseudoboolean_inequality-third.ensures c.requires.rooms _ (search rules))

pub returns-in_err-c : goal.returns-in_err-c
returns-in_err-c c = rw (passed c.from_residual-in_err-c.result c.from_residual-in_err-c.ensures.1)
    (three-unread _ _ _ _ _ _ _ _ _ c.unwrap_pseudoboolean_inequality-first.ensures _ _ _ _ _ c.unwrap_pseudoboolean_inequality-second.ensures _ _ _ _ _ c.unwrap_pseudoboolean_inequality-third.ensures c.requires.rooms _ (search rules))

pub returns : goal.returns
returns c = let l = rw c.in_ok-l.was at c.unwrap_pseudoboolean_inequality-first.ensures in let r = rw c.in_ok-r.was at c.unwrap_pseudoboolean_inequality-second.ensures in let d = rw c.in_ok-c.was at c.unwrap_pseudoboolean_inequality-third.ensures in
    let t = rw (kept (omega arith) l.0.within, kept (omega arith) r.0.within) at c.add-total.ensures in
    (rw (kept (omega arith) d.0.within, back c.add-total.result c.add-total.type_inv) (record { k = c.in_ok-l.l.constant; l = c.in_ok-r.r.constant; left = inequality-still d.1 left_at (λ i j a b q. omega arith) conclusion-aside (inequality-still r.1 left_at (λ i j a b q. omega arith) right-aside l.0); past = _; right = inequality-past d.1 right_at (λ i j a b q. omega arith) r.0; conclusion = d.0; total = t; small = rw t (within-add l.0.within r.0.within) }), rooms-still d.1 (rooms-still r.1 (rooms-still l.1 c.requires.rooms)))
