-- How many lines are refused, line by line.
use mathlib.Core.Path.{◌≡◌, refl, sym, ap, ◌∙◌}
use mathlib.Core.Bool.{Bool, true, false, cond}
use mathlib.Core.List.{List, [], ◌∷◌, ◌++◌}
use Prim.Native.Nat.{ℕ, suc, ◌+◌, ◌≤◌, ◌<◌}
use native.Mathlib.Omega.{arith}
use lib.Dec.{eqb}
use lib.ListN.{get_or, take}
use lib.Seq.{take_all}
use borrow.Author.Tests.{eq-eqb, ne_eqb}
use Rattle.calculus.specs.Marks.{Line, number_of, no_line, refused_in}
use Rattle.report.specs.Lines.{LinesAre, Counted}
use Rattle.report.proofs.Lines.{taken_more}

-- the numbers of the lines
pub numbered : {s w numbers : List ℕ} {plains marks : List Bool} {n : ℕ} {ls : List Line} → LinesAre s w numbers plains marks n ls → Counted numbers n ls
numbered are = record { count = are.count; each = λ k h. (are.each k h).number }

-- one line more
refused-append : (ls : List Line) (l : Line) → refused_in (ls ++ (l ∷ [])) ≡ refused_in ls + cond (eqb (number_of l.answer) 0) 0 1
unfolding refused_in
refused-append [] l = go (eqb (number_of l.answer) 0)
  where
    go : (b : Bool) → cond b 0 1 ≡ 0 + cond b 0 1
    go true = refl
    go false = refl
refused-append (m ∷ ls) l = go (refused_in ls) (cond (eqb (number_of l.answer) 0) 0 1) (eqb (number_of m.answer) 0) (refused-append ls l)
  where
    go : {x : ℕ} (y z : ℕ) (b : Bool) → x ≡ y + z → cond b x (suc x) ≡ cond b y (suc y) + z
    go y z true e = e
    go y z false e = omega arith

module _ {numbers : List ℕ} {n : ℕ} {ls : List Line} (are : Counted numbers n ls) where
  more : {k : ℕ} → k < n → refused_in (take (k + 1) ls) ≡ refused_in (take k ls) + cond (eqb (get_or numbers k 0) 0) 0 1
  more {k} h =
      ap refused_in (taken_more ls k (omega (arith, are.count)))
      ∙ refused-append (take k ls) (get_or ls k no_line)
      ∙ ap (λ (x : ℕ). refused_in (take k ls) + cond (eqb x 0) 0 1) (are.each k h)

  pub refused-one : {k x : ℕ} → k < n → refused_in (take k ls) ≡ x → (get_or numbers k 0 ≡ 0 → ⊥) → refused_in (take (k + 1) ls) ≡ x + 1
  refused-one {k} {x} h e f =
      let g : refused_in (take (k + 1) ls) ≡ refused_in (take k ls) + cond false 0 1 =
      more h ∙ ap (λ (b : Bool). refused_in (take k ls) + cond b 0 1) (ne_eqb (get_or numbers k 0) 0 f) in
      omega arith

  pub refused-same : {k x : ℕ} → k < n → refused_in (take k ls) ≡ x → get_or numbers k 0 ≡ 0 → refused_in (take (k + 1) ls) ≡ x
  refused-same {k} {x} h e f =
      let g : refused_in (take (k + 1) ls) ≡ refused_in (take k ls) + cond true 0 1 =
      more h ∙ ap (λ (b : Bool). refused_in (take k ls) + cond b 0 1) (eq-eqb (get_or numbers k 0) 0 f) in
      omega arith

  pub refused_all : {k x : ℕ} → n ≤ k → refused_in (take k ls) ≡ x → refused_in ls ≡ x
  refused_all {k} h e = ap refused_in (sym (take_all k ls (omega (arith, are.count)))) ∙ e

pub refused_none : (ls : List Line) → refused_in (take 0 ls) ≡ 0
unfolding refused_in
refused_none ls = refl
