-- A list of one is a numeral where its one term is; any other list is none.
use native.Mathlib.Omega.{arith}
use Rattle.sums.proofs.Reading.{lone_is, lone_not}
use Rattle.sums.proofs.lone_constant.Goals as goal

pub returns-then-ts-eq1 : goal.returns-then-ts-eq1
returns-then-ts-eq1 c = lone_is _ _ c.as_constant.result (omega arith) c.as_constant.ensures

pub returns-else-ts-eq1 : goal.returns-else-ts-eq1
returns-else-ts-eq1 c = lone_not _ c.args.ts.now (λ e. c.if-ts-eq1.false e)
