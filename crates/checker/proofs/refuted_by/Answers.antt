-- The loop's invariant: the first k commands do not refute.
use mathlib.Core.Path.{◌≡◌, sym, ap, ◌∙◌}
use Prim.Native.Nat.{ℕ}
use native.Mathlib.Omega.{arith}
use Rattle.calculus.specs.Marks.{refuted_by}
use Rattle.sums.proofs.Places.{rooms-kept}
use Rattle.checker.specs.Runs.{command_lines}
use Rattle.checker.proofs.Lining.{refuted-none}
use Rattle.checker.proofs.Marking.{refuted-found, refuted-next}
use Rattle.checker.proofs.refuted_by.Goals as goal

pub loop-k-init : goal.loop-k-init
loop-k-init c = λ s f m. sym (refuted-none s c.args.nodes.now c.args.commands.now)

pub refutes-requires-clause-rooms : goal.refutes-requires-clause-rooms
refutes-requires-clause-rooms c = rooms-kept c.loop-k.auto.coeffs c.loop-k.auto.keys c.loop-k.auto.slots c.requires.rooms

pub returns-then-refutes : goal.returns-then-refutes
returns-then-refutes c = λ s f m. refuted-found s c.args.nodes.now c.args.commands.now c.loop-k.k (sym (c.loop-k.invariant s f m)) c.args.n (omega arith) (sym c.if-refutes.true ∙ c.refutes.ensures s f m)

pub loop-k-preserved : goal.loop-k-preserved
loop-k-preserved c = λ s f m. sym (refuted-next s c.args.nodes.now c.args.commands.now c.loop-k.k (sym (c.loop-k.invariant s f m)) (sym c.if-refutes.false ∙ c.refutes.ensures s f m))

pub returns : goal.returns
returns c = λ s f m. let e : c.loop-k.k ≡ c.args.n = omega arith in c.loop-k.invariant s f m ∙ ap (λ (k : ℕ). refuted_by (command_lines s c.args.nodes.now c.args.commands.now k)) e
