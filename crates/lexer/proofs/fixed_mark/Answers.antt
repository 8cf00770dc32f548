-- `lexer::fixed_mark` owes the mark of a number: each arm computes. Assumes nothing.
use Rattle.std.proofs.Common.{arith, ◌≡◌}
use Rattle.calculus.specs.Grammar.{mark_of}
use Rattle.lexer.proofs.fixed_mark.Goals as goal

pub returns-in-9 : goal.returns-in-9
unfolding mark_of
returns-in-9 c = let e : c.args.k ≡ 9 = omega arith in rw e

pub returns-in-10 : goal.returns-in-10
unfolding mark_of
returns-in-10 c = let e : c.args.k ≡ 10 = omega arith in rw e

pub returns-in-11 : goal.returns-in-11
unfolding mark_of
returns-in-11 c = let e : c.args.k ≡ 11 = omega arith in rw e

pub returns-in-12 : goal.returns-in-12
unfolding mark_of
returns-in-12 c = let e : c.args.k ≡ 12 = omega arith in rw e

pub returns-in-13 : goal.returns-in-13
unfolding mark_of
returns-in-13 c = let e : c.args.k ≡ 13 = omega arith in rw e

pub returns-in_default : goal.returns-in_default
unfolding mark_of
returns-in_default c = let e : c.args.k ≡ 14 = omega arith in rw e
