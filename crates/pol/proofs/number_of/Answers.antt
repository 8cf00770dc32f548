-- `pol::number_of` owes the number of a name, and a node more where no node has it.
use mathlib.Core.Path.{◌∙◌, ap}
use Prim.Native.Nat.{ℕ, ◌-◌}
use native.Mathlib.Omega.{arith}
use Rattle.pol.proofs.Literals.{numbered-high, numbered-new, numbered-old}
use Rattle.pol.proofs.number_of.Goals as goal

pub overflow_sub-kind_of : goal.overflow_sub-kind_of
overflow_sub-kind_of c = rw c.kind_of.ensures (numbered-high c.requires.1 c.put_variable.ensures)

pub returns-then-v-n : goal.returns-then-v-n
returns-then-v-n c = numbered-new c.requires.1 c.put_variable.ensures (c.wide-v.ensures ∙ ap (λ (k : ℕ). k - 11) c.kind_of.ensures) (omega arith)

pub returns : goal.returns
returns c = numbered-old c.requires.1 c.put_variable.ensures (c.wide-v.ensures ∙ ap (λ (k : ℕ). k - 11) c.kind_of.ensures) (λ e. omega arith)
