-- `lines::leave` owes what the words of a line leave, with the names that it brought out of the index again.
use mathlib.Core.Path.{ap}
use Prim.Native.Nat.{ℕ, ◌-◌}
use native.Mathlib.Omega.{arith}
use lib.ListN.{length}
use Rattle.integer.proofs.Signed.{back}
use Rattle.lines.proofs.Leaving.{left-failed, left-done}
use Rattle.lines.proofs.leave.Goals as goal

pub overflow_sub-from : goal.overflow_sub-from
overflow_sub-from c = omega (arith, c.wide_short.ensures, c.requires.0.above.ids.spans.up c.args.k c.requires.2, c.requires.0.above.ids.spans.inside c.args.k c.requires.2)

pub leave_names-requires : goal.leave_names-requires
leave_names-requires c = let G = c.run_words-ran.ensures.longer.grown c.requires.0.c c.requires.0.running.table in (G.table.wide, G.more, G.table.few, G.names, c.run_words-ran.ensures.longer.first)

pub returns-then-ran-ne0 : goal.returns-then-ran-ne0
returns-then-ran-ne0 c = left-failed c.run_words-ran.ensures c.requires.3 (ap (λ (i : ℕ). length c.args.text.now - i) c.wide_short.ensures) c.leave_names.ensures (λ e. omega (arith, c.if-ran-ne0.true))

pub finish-count-requires : goal.finish-count-requires
finish-count-requires c = let G = c.run_words-ran.ensures.longer.grown c.requires.0.c c.requires.0.running.table in let S = c.run_words-ran.ensures.stack (omega (arith, c.if-ran-ne0.false)) in (S.0, record { n = c.run_words-ran.result.nodes; named = G.names.named; under = S.1 }, omega (arith, c.requires.0.running.text), c.requires.4)

pub leave_names-requires-2 : goal.leave_names-requires-2
leave_names-requires-2 c = let G = c.run_words-ran.ensures.longer.grown c.requires.0.c c.requires.0.running.table in (G.table.wide, G.more, G.table.few, G.names, c.run_words-ran.ensures.longer.first)

pub constant_of-constant-requires : goal.constant_of-constant-requires
constant_of-constant-requires c = (omega arith, omega (arith, (c.run_words-ran.ensures.stack (omega (arith, c.if-ran-ne0.false))).0.coefficients, c.finish-count.auto.coeffs))

pub returns : goal.returns
returns c = rw (back c.constant_of-constant.result c.constant_of-constant.type_inv) (left-done c.run_words-ran.ensures c.requires.3 (ap (λ (i : ℕ). length c.args.text.now - i) c.wide_short.ensures) c.leave_names-2.ensures (omega (arith, c.if-ran-ne0.false)) c.finish-count.ensures c.constant_of-constant.ensures)
