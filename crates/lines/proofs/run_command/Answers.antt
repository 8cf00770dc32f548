-- `lines::run_command` owes a pol line's clause and number; any other command stays as it is.
use mathlib.Core.Path.{◌≡◌}
use native.Mathlib.Omega.{arith}
use Rattle.reader.specs.Commands.{word_at, kind_word, pol_kind}
use Rattle.lines.proofs.Filing.{run-other, run-done, run-refused}
use Rattle.lines.proofs.run_command.Goals as goal

pub returns-then-word_of-ne-POL_KIND : goal.returns-then-word_of-ne-POL_KIND
returns-then-word_of-ne-POL_KIND c = run-other c.requires.0.table c.requires.0.names (λ e. omega (arith, c.word_of.ensures, c.if-word_of-ne-POL_KIND.true, e))

pub run_line-ran-requires : goal.run_line-ran-requires
run_line-ran-requires c = let e : word_at c.args.commands.now c.args.k kind_word ≡ pol_kind = omega (arith, c.word_of.ensures, c.if-word_of-ne-POL_KIND.false) in (c.requires.0, c.requires.1, c.requires.2, c.requires.3, c.requires.4 e, c.requires.5, c.requires.6)

pub bounds-numbers-k : goal.bounds-numbers-k
bounds-numbers-k c = omega (arith, c.requires.3, c.requires.7)

pub overflow_sub-ran : goal.overflow_sub-ran
overflow_sub-ran c = c.run_line-ran.ensures.some (omega (arith, c.if-ran-eq0.true))

pub put_part-requires : goal.put_part-requires
put_part-requires c = (c.requires.1.ids.room, omega (arith, c.requires.3, c.requires.1.ids.few), omega (arith, c.run_line-ran.ensures.grown.table.used, c.run_line-ran.ensures.grown.table.few, c.run_line-ran.ensures.grown.table.wide), omega arith)

pub put_part-requires-else-ran-eq0 : goal.put_part-requires-else-ran-eq0
put_part-requires-else-ran-eq0 c = (c.requires.1.ids.room, omega (arith, c.requires.3, c.requires.1.ids.few), omega (arith, c.run_line-ran.ensures.grown.table.used, c.run_line-ran.ensures.grown.table.few, c.run_line-ran.ensures.grown.table.wide), omega arith)

pub returns-then-ran-eq0 : goal.returns-then-ran-eq0
returns-then-ran-eq0 c = let e : word_at c.args.commands.now c.args.k kind_word ≡ pol_kind = omega (arith, c.word_of.ensures, c.if-word_of-ne-POL_KIND.false) in run-done c.run_line-ran.ensures e (omega (arith, c.requires.3, c.requires.7)) (omega (arith, c.if-ran-eq0.true)) c.put_part.ensures

pub returns-else-ran-eq0 : goal.returns-else-ran-eq0
returns-else-ran-eq0 c = let e : word_at c.args.commands.now c.args.k kind_word ≡ pol_kind = omega (arith, c.word_of.ensures, c.if-word_of-ne-POL_KIND.false) in run-refused c.run_line-ran.ensures e (omega (arith, c.requires.3, c.requires.7)) (λ z. omega (arith, c.if-ran-eq0.false, z)) c.put_part-else-ran-eq0.ensures
