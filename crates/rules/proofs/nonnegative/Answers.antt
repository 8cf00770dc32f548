-- The loop's invariant: the answer from entry i on is that for the whole.
use mathlib.Core.Path.{◌≡◌, ◌∙◌, sym}
use mathlib.Core.List.{List}
use Prim.Native.Nat.{ℕ, ◌+◌, ◌-◌, ◌≤◌, ◌<◌}
use native.Mathlib.Omega.{arith}
use lib.IntN.{ℤ, pos}
use lib.ListN.{get_or, take, drop}
use lib.Seq.{get_or-take, get_or-drop}
use Rattle.integer.proofs.Signed.{back}
use Rattle.matching.specs.Places.{placed, max_entries}
use Rattle.matching.proofs.Places.{coefficient-at}
use Rattle.rules.proofs.Mapping.{nonnegative-more, nonnegative-stop, nonnegative_end}
use Rattle.rules.proofs.nonnegative.Goals as goal

-- an element of the part that the loop goes over
item : (at n : ℕ) (cs : List ℤ) (i : ℕ) → i < n → n ≤ max_entries → get_or (placed at cs) i (pos 0) ≡ get_or (take (at + n - at) (drop at cs)) i (pos 0)
item at n cs i h few = coefficient-at at cs i (omega arith) ∙ sym (get_or-take (at + n - at) (drop at cs) i (pos 0) (omega arith) ∙ get_or-drop at cs i (pos 0))

pub returns-then-less : goal.returns-then-less
returns-then-less c = nonnegative-stop (placed c.args.at c.args.coeffs.now) c.args.n c.loop-c.c-index c.loop-c.invariant (omega arith) (rw (item c.args.at c.args.n c.args.coeffs.now c.loop-c.c-index (omega arith) c.requires.2) (sym (rw (back _ c.less-arg-1.given) at c.less.ensures) ∙ c.if-less.true))

pub loop-c-preserved : goal.loop-c-preserved
loop-c-preserved c = nonnegative-more (placed c.args.at c.args.coeffs.now) c.args.n c.loop-c.c-index c.loop-c.invariant (omega arith) (rw (item c.args.at c.args.n c.args.coeffs.now c.loop-c.c-index (omega arith) c.requires.2) (sym (rw (back _ c.less-arg-1.given) at c.less.ensures) ∙ c.if-less.false))

pub returns : goal.returns
returns c = nonnegative_end (placed c.args.at c.args.coeffs.now) c.args.n c.loop-c.c-index c.loop-c.invariant (omega arith)
