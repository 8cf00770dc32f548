-- append_decimal: owes the decimal digits of n: those of its tenth, and then its last; n falls.
use mathlib.Core.Path.{◌≡◌, ap}
use native.Mathlib.Omega.{arith}
use lib.ListN.{length}
use Rattle.calculus.specs.Words.{decimal}
use Rattle.report.proofs.Writing.{wrote_as, ◌⨟◌}
use Rattle.report.proofs.Decimal.{decimal-small, decimal-more, decimal-long}
use Rattle.report.proofs.+append_decimal.Goals as goal

pub overflow_add-n : goal.overflow_add-n
overflow_add-n t c = omega arith

pub overflow_cast-n : goal.overflow_cast-n
overflow_cast-n t c = omega arith

pub append_byte-requires : goal.append_byte-requires
append_byte-requires t c = let h : length (decimal c.args.n) ≡ 1 = ap length (decimal-small c.args.n c.if-n-lt-BASE.true) in omega (arith, h)

pub append_decimal-next-requires : goal.append_decimal-next-requires
append_decimal-next-requires t c = (omega arith, omega (arith, decimal-long c.args.n c.if-n-lt-BASE.false))

pub overflow_add-n-else-n-lt-BASE : goal.overflow_add-n-else-n-lt-BASE
overflow_add-n-else-n-lt-BASE t c = omega arith

pub overflow_cast-n-else-n-lt-BASE : goal.overflow_cast-n-else-n-lt-BASE
overflow_cast-n-else-n-lt-BASE t c = omega arith

pub append_byte-requires-else-n-lt-BASE : goal.append_byte-requires-else-n-lt-BASE
append_byte-requires-else-n-lt-BASE t c = omega (arith, decimal-long c.args.n c.if-n-lt-BASE.false, c.requires)

pub shape_of-report-then-n-lt-BASE : goal.shape_of-report-then-n-lt-BASE
shape_of-report-then-n-lt-BASE t c = omega arith

pub returns-then-n-lt-BASE : goal.returns-then-n-lt-BASE
returns-then-n-lt-BASE t c = wrote_as (decimal-small c.args.n c.if-n-lt-BASE.true) c.append_byte.ensures

pub shape_of-report-else-n-lt-BASE : goal.shape_of-report-else-n-lt-BASE
shape_of-report-else-n-lt-BASE t c = omega arith

pub returns-else-n-lt-BASE : goal.returns-else-n-lt-BASE
returns-else-n-lt-BASE t c = wrote_as (decimal-more c.args.n c.if-n-lt-BASE.false) (c.append_decimal-next.ensures ⨟ c.append_byte-else-n-lt-BASE.ensures)
