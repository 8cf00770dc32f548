-- What two copies of words make of a table.
use mathlib.Core.Path.{◌≡◌, ap, ◌∙◌}
use mathlib.Core.List.{List}
use Prim.Native.Nat.{ℕ, ◌+◌, ◌*◌, ◌≤◌}
use native.Mathlib.Omega.{arith}
use lib.ListN.{get_or}
use Rattle.nodes.specs.Nodes.{capacity, child_base, Table, Moved}
use Rattle.wider.specs.Widening.{Copied}

-- ---- the nodes, and then the child words
pub moved_by : {t u v w : List ℕ} {n c a b : ℕ} → Table t n c → capacity t ≤ capacity u → Copied t u 0 0 (3 * n) v → a ≡ child_base t → b ≡ child_base v → Copied t v a b c w → Moved t w n c
moved_by {t} {u} {v} {w} {n} {c} {a} {b} T room N p q C = record {
  nodes = λ j h.
      let z : 0 + j ≡ j = omega arith in
      C.below j (omega (arith, T.few, N.long)) ∙ (rw z at (N.words j h));
  children = λ j h.
      let d : child_base w + j ≡ b + j = omega (arith, C.long) in
      let e : a + j ≡ child_base t + j = omega arith in
      ap (λ (k : ℕ). get_or w k 0) d ∙ C.words j h ∙ ap (λ (k : ℕ). get_or t k 0) e;
}
