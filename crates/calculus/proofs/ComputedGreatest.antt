-- Request No. 6: texts, and whether a line that holds refutes them, from bytes, by computation.
use mathlib.Core.Path.{◌≡◌, refl}
use mathlib.Core.Bool.{Bool, true, false}
use mathlib.Core.List.{List, [], ◌∷◌}
use Prim.Native.String.{String}
use Rattle.calculus.specs.Commands.{Read, whole, refused, read_file}
use Rattle.calculus.specs.Marks.{refuted_by, run}
use Rattle.calculus.specs.OpbReport.{read_both}
use Rattle.calculus.proofs.Computing.{computing}
use Rattle.calculus.proofs.Examples.{lines}

-- what the totals say
abbrev pub refutes : Read → Bool
refutes (whole cs) = refuted_by (run [] cs)
refutes (refused n p) = false

-- assumptions, each a text of its own
pub assumed : List String → List Bool
assumed [] = []
assumed (t ∷ ts) = refutes (read_file (lines (t ∷ []))) ∷ assumed ts

-- the greatest value is below the constant
pub below : assumed (
    "(assume a (>= (+ (* 2 x) (* 1 y)) 4))" ∷
    "(assume a (>= (* 1 x) 2))" ∷
    "(assume a (>= 0 1))" ∷
    "(assume a (>= (+ 0) 1))" ∷
    "(assume a (>= (* -1 x) 1))" ∷
    "(assume a (>= (* -2 (- 1 x)) 1))" ∷
    "(assume a (>= (+ (* 3 x) (* 2 (- 1 x))) 4))" ∷
    "(assume a (>= (+ (* 2 (- 1 x)) (* 3 x)) 4))" ∷
    "(assume a (>= (+ (* -3 x) (* -2 (- 1 x))) -1))" ∷
    "(assume a (>= (+ (* 1 x) (* 1 x) (* -1 y) (* 1 (- 1 y))) 4))" ∷
    "(assume a (>= (+ (* 1 x) (* -1 x)) 1))" ∷
    "(assume a (>= (* 0 x) 1))" ∷ []) ≡
    true ∷ true ∷ true ∷ true ∷ true ∷ true ∷ true ∷ true ∷ true ∷ true ∷ true ∷ true ∷ []
unfolding computing assumed
below = refl

-- it is reached, or section 2 reads no sum over names
pub reached : assumed (
    "(assume a (>= (+ (* 2 x) (* 1 y)) 3))" ∷
    "(assume a (>= (* 1 x) 1))" ∷
    "(assume a (>= 0 0))" ∷
    "(assume a (>= (* -1 x) 0))" ∷
    "(assume a (>= (* -2 (- 1 x)) 0))" ∷
    "(assume a (>= (+ (* 3 x) (* 2 (- 1 x))) 3))" ∷
    "(assume a (>= (+ (* 2 (- 1 x)) (* 3 x)) 3))" ∷
    "(assume a (>= (+ (* -3 x) (* -2 (- 1 x))) -2))" ∷
    "(assume a (>= (+ (* 1 x) (* 1 x) (* -1 y) (* 1 (- 1 y))) 3))" ∷
    "(assume a (>= (+ (* 3 x) (* -2 y)) 2))" ∷
    "(assume a (>= (+ (* 1 x) (* 1 x)) 2))" ∷
    "(assume a (>= (+ (* 99999999 x) (* 99999999 y)) 99999999))" ∷
    "(assume a (>= x 2))" ∷
    "(assume a (>= 1 2))" ∷
    "(assume a (> (* 1 x) 1))" ∷
    "(assume a (>= (* 1 (+ x y)) 5))" ∷
    "(assume a (>= (+ (* 1 x) (* 0 (* x y))) 2))" ∷
    "(assume a (>= (* 1 1) 2))" ∷
    "(assume a (= (* 1 x) 2))" ∷
    "(assume a (and (>= 0 1)))" ∷ []) ≡
    false ∷ false ∷ false ∷ false ∷ false ∷ false ∷ false ∷ false ∷ false ∷ false ∷ false ∷ false ∷ false ∷ false ∷ false ∷ false ∷ false ∷ false ∷ false ∷ false ∷ []
unfolding computing assumed
reached = refl

-- a step, where it holds and where it does not; a pol line behind an OPB text, and a constraint of its own
pub lines-refute :
    refutes (read_file (lines ("(assume a (>= (* 1 x) 1))" ∷ "(step t (cl (>= (* 2 x) 3)) :rule cp_multiplication :premises (a) :args (2))" ∷ []))) ∷
    refutes (read_file (lines ("(assume a (>= (+ (* 2 x) (* 1 y)) 3))" ∷ "(assume b (>= (* 1 (- 1 y)) 1))" ∷ "(step t (cl (>= (* 2 x) 3)) :rule cp_addition :premises (a b))" ∷ []))) ∷
    refutes (read_both (lines ("2 x1 1 x2 >= 3 ;" ∷ "1 ~x2 >= 1 ;" ∷ [])) (lines ("(pol p c1 c2 +)" ∷ []))) ∷
    refutes (read_both (lines ("2 x1 1 x2 >= 4 ;" ∷ [])) []) ∷
    refutes (read_both (lines ("2 x1 1 x2 >= 3 ;" ∷ [])) []) ∷
    refutes (read_both (lines ("1 x1 >= 2 ;" ∷ [])) []) ∷
    refutes (read_file (lines ("(step a (cl (>= 0 1) (>= 0 1)) :rule cp_literal :args (x))" ∷ []))) ∷ [] ≡
    false ∷ true ∷ true ∷ true ∷ false ∷ true ∷ false ∷ []
unfolding computing
lines-refute = refl
