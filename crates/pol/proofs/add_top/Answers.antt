-- `pol::add_top` owes what `+` makes of the stack: 52 where there are not two entries, else their sum as the new top, or 53.
use native.Mathlib.Omega.{arith}
use Rattle.pol.proofs.Working.{two-short, two-worked}
use borrow.Author.Rules.{rules}
use mir.Facts.{to_z-of_z}
use mir.Syntax.{w64}
use Rattle.pol.proofs.add_top.Goals as goal

pub returns-then-d-lt2 : goal.returns-then-d-lt2
returns-then-d-lt2 c = two-short _ _ _ _ _ (omega arith)

pub keep-requires : goal.keep-requires
keep-requires c = (omega arith, omega arith, c.sum_of_two-sum.ensures.few, omega (arith, c.requires.stack.few), omega (arith, c.requires.stack.coefficients, c.sum_of_two-sum.ensures.long), omega (arith, c.requires.stack.keys, c.sum_of_two-sum.ensures.same))

pub returns : goal.returns
returns c = two-worked c.requires.stack (omega arith) c.sum_of_two-sum.ensures (rw (to_z-of_z {w = w64} {z = c.sum_of_two-sum.result.constant} (search rules)) at c.keep.ensures)
