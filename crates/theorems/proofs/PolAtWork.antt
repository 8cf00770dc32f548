-- The claim at work on pol lines: from the bytes of a text and of its report to what its marked pol line says, and to the fact that a larger text's assumptions have no common solution.
use mathlib.Core.Path.{◌≡◌, refl, subst}
use mathlib.Core.List.{List, [], ◌∷◌}
use Prim.Native.Nat.{ℕ, ◌<◌}
use native.Mathlib.Omega.{arith}
use lib.IntN.{pos}
use lib.ListN.{length, get_or}
use Rattle.calculus.specs.Bytes.{bytes}
use Rattle.calculus.specs.Claim.{EndsIn, lines_of, last_line, holds_yes, refuted_yes}
use Rattle.calculus.specs.Clauses.{clauses_of}
use Rattle.calculus.specs.Commands.{whole, read_file}
use Rattle.calculus.specs.Report.{report_of}
use Rattle.calculus.specs.Terms.{Term, num, var, app, nil, cons, add, sub, mul, ge, line_word, plus-word, over_word, Command, assume, pol}
use Rattle.calculus.specs.Truth.{Assignment, Models, Satisfies}
use Rattle.calculus.proofs.Computing.{computing}
use Rattle.calculus.proofs.Examples.{lines}
use Rattle.theorems.proofs.FaithfulFile.{faithful}
use Rattle.theorems.proofs.Soundness.{sound_file}

-- ---- 2 x + y >= 2 and not y: x
text : List ℕ
text = lines (
    "(assume a (>= (+ (* 2 x) (* 1 y)) 2))" ∷
    "(assume b (>= (* 1 (- 1 y)) 1))" ∷
    "(pol p a b + 2 d)" ∷ [])

pub times : ℕ → Term → Term
times k v = app mul (cons (num (pos k)) (cons v nil))

pub x : Term
x = var (bytes "x")

y : Term
y = var (bytes "y")

pub least : Term → ℕ → Term
least s k = app ge (cons s (cons (num (pos k)) nil))

negated : Term → Term
negated v = app sub (cons (num (pos 1)) (cons v nil))

pub commands : List Command
commands =
    assume (bytes "a") (least (app add (cons (times 2 x) (cons (times 1 y) nil))) 2) ∷
    assume (bytes "b") (least (times 1 (negated y)) 1) ∷
    pol (bytes "p") (line_word (bytes "a") ∷ line_word (bytes "b") ∷ plus-word ∷ over_word (pos 2) ∷ []) ∷ []

read : read_file text ≡ whole commands
unfolding computing text x y times least negated commands
read = refl

-- what the pol line says: x >= 1
said : get_or (clauses_of commands) 2 [] ≡ least (times 1 x) 1 ∷ []
unfolding computing x y times least negated commands
said = refl

marked : EndsIn (get_or (lines_of (report_of text)) 2 []) holds_yes
unfolding computing text
marked = (bytes "id=p rule=pol answer=0 plain=yes", refl)

third : 2 < length (clauses_of commands)
unfolding computing commands
third = omega arith

-- so every assignment that satisfies a and b satisfies x >= 1
pub implied : (σ : Assignment) → Models σ commands → Satisfies σ (least (times 1 x) 1 ∷ [])
implied σ m = subst (Satisfies σ) said ((sound_file text commands (faithful text commands read)).marked 2 third marked σ m)

-- ---- and not x: no assignment satisfies all three
larger : List ℕ
larger = lines (
    "(assume a (>= (+ (* 2 x) (* 1 y)) 2))" ∷
    "(assume b (>= (* 1 (- 1 y)) 1))" ∷
    "(assume c (>= (* 1 (- 1 x)) 1))" ∷
    "(pol p a b + 2 d c +)" ∷ [])

pub more : List Command
more =
    assume (bytes "a") (least (app add (cons (times 2 x) (cons (times 1 y) nil))) 2) ∷
    assume (bytes "b") (least (times 1 (negated y)) 1) ∷
    assume (bytes "c") (least (times 1 (negated x)) 1) ∷
    pol (bytes "p") (line_word (bytes "a") ∷ line_word (bytes "b") ∷ plus-word ∷ over_word (pos 2) ∷ line_word (bytes "c") ∷ plus-word ∷ []) ∷ []

read_more : read_file larger ≡ whole more
unfolding computing larger x y times least negated more
read_more = refl

last_says : EndsIn (last_line (lines_of (report_of larger))) refuted_yes
unfolding computing larger
last_says = (bytes "commands=4 refused=0", refl)

-- `Models` asks nothing of pol lines: no belief in the stack machine
pub unsolvable : (σ : Assignment) → ¬ (Models σ more)
unsolvable = (sound_file larger more (faithful larger more read_more)).refuted last_says
