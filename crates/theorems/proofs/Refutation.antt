-- The claim at work: a small refutation, from the bytes of its text and of its report to the fact that its assumptions have no common solution.
use mathlib.Core.Path.{◌≡◌, refl}
use mathlib.Core.List.{List, [], ◌∷◌}
use Prim.Native.Nat.{ℕ}
use lib.IntN.{pos}
use Rattle.calculus.specs.Bytes.{bytes}
use Rattle.calculus.specs.Terms.{Term, num, var, app, nil, cons, sub, mul, ge, addition, Command, assume, step}
use Rattle.calculus.specs.Truth.{Assignment, Models}
use Rattle.calculus.specs.Claim.{EndsIn, lines_of, last_line, refuted_yes}
use Rattle.calculus.specs.Commands.{whole, read_file}
use Rattle.calculus.specs.Report.{report_of}
use Rattle.calculus.proofs.Computing.{computing}
use Rattle.calculus.proofs.Examples.{lines}
use Rattle.theorems.proofs.FaithfulFile.{faithful}
use Rattle.theorems.proofs.Soundness.{sound_file}

-- x and 1 - x cannot both be at least 1
text : List ℕ
text = lines (
    "(assume a (>= (* 1 x) 1))" ∷
    "(assume b (>= (* 1 (- 1 x)) 1))" ∷
    "(step t (cl (>= 0 1)) :rule cp_addition :premises (a b))" ∷ [])

x : Term
x = app mul (cons (num (pos 1)) (cons (var (bytes "x")) nil))

not_x : Term
not_x = app mul (cons (num (pos 1)) (cons (app sub (cons (num (pos 1)) (cons (var (bytes "x")) nil))) nil))

pub commands : List Command
commands =
    assume (bytes "a") (app ge (cons x (cons (num (pos 1)) nil))) ∷
    assume (bytes "b") (app ge (cons not_x (cons (num (pos 1)) nil))) ∷
    step (bytes "t") (app ge (cons (num (pos 0)) (cons (num (pos 1)) nil)) ∷ []) addition (bytes "a" ∷ bytes "b" ∷ []) [] ∷ []

read : read_file text ≡ whole commands
unfolding computing text x not_x commands
read = refl

reported : report_of text ≡ lines (
    "id=a rule=assume answer=0 plain=yes holds=yes" ∷
    "id=b rule=assume answer=0 plain=yes holds=yes" ∷
    "id=t rule=cp_addition answer=0 plain=yes holds=yes" ∷
    "commands=3 refused=0 refuted=yes" ∷ [])
unfolding computing text
reported = refl

last_says : EndsIn (last_line (lines_of (report_of text))) refuted_yes
unfolding computing text
last_says = (bytes "commands=3 refused=0", refl)

-- no assignment of 0 and 1 satisfies the two assumptions
pub unsolvable : (σ : Assignment) → ¬ (Models σ commands)
unsolvable = (sound_file text commands (faithful text commands read)).refuted last_says
