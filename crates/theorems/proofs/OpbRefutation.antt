-- The claim at work on two texts: from the bytes of a small OPB text, of a refutation behind it and of their report to the fact that the constraints have no solution.
use mathlib.Core.Path.{◌≡◌, refl, sym, subst}
use mathlib.Core.List.{List, [], ◌∷◌, ◌++◌}
use Prim.Native.Nat.{ℕ}
use lib.IntN.{pos}
use Rattle.calculus.specs.Bytes.{bytes}
use Rattle.calculus.specs.Claim.{SoundBy, EndsIn, lines_of, last_line, refuted_yes}
use Rattle.calculus.specs.Commands.{whole, read_behind}
use Rattle.calculus.specs.Terms.{app, num, nil, cons, ge, addition, Command, step}
use Rattle.calculus.specs.Truth.{Assignment, Models}
use Rattle.calculus.specs.Writing.{IsReadBehind}
use Rattle.calculus.specs.OpbWords.{plain, negated, at_least}
use Rattle.calculus.specs.OpbWriting.{times, Constraint, compare, assumptions, IsOpb}
use Rattle.calculus.specs.OpbTruth.{Solves}
use Rattle.calculus.specs.Clauses.{SoundBoth}
use Rattle.calculus.specs.OpbReading.{constraints, read_opb}
use Rattle.calculus.specs.OpbReport.{report_both}
use Rattle.calculus.proofs.Computing.{computing}
use Rattle.calculus.proofs.Examples.{lines}
use Rattle.theorems.proofs.FaithfulFile.{faithful-behind}
use Rattle.theorems.proofs.OpbFaithful.{opb_faithful}
use Rattle.theorems.proofs.OpbSoundness.{sound-both}
use Rattle.theorems.proofs.ReadableFile.{append-same}

-- x1 and 1 - x1 cannot both be at least 1
opb : List ℕ
opb = lines ("* two constraints" ∷ "1 x1 >= 1 ;" ∷ "+1 ~x1 >= 1 ;" ∷ [])

text : List ℕ
text = lines ("(step t (cl (>= 0 1)) :rule cp_addition :premises (c1 c2))" ∷ [])

pub two : List Constraint
two = compare (times (pos 1) (plain (bytes "x1")) ∷ []) at_least (pos 1) ∷ compare (times (pos 1) (negated (bytes "x1")) ∷ []) at_least (pos 1) ∷ []

pub commands : List Command
commands = step (bytes "t") (app ge (cons (num (pos 0)) (cons (num (pos 1)) nil)) ∷ []) addition (bytes "c1" ∷ bytes "c2" ∷ []) [] ∷ []

opb-read : read_opb opb ≡ constraints two
unfolding computing opb two
opb-read = refl

text-read : read_behind (assumptions two) text ≡ whole (assumptions two ++ commands)
unfolding computing text two commands
text-read = refl

is-opb : IsOpb opb two
is-opb = opb_faithful opb two opb-read

is-file : IsReadBehind (assumptions two) text commands
is-file =
    let (cs, g, r) = faithful-behind (assumptions two) text (assumptions two ++ commands) is-opb.nodes is-opb.commands text-read in
    subst (IsReadBehind (assumptions two) text) (sym (append-same (assumptions two) commands cs g)) r

last_says : EndsIn (last_line (lines_of (report_both opb text))) refuted_yes
unfolding computing opb text
last_says = (bytes "commands=3 refused=0", refl)

-- no assignment of 0 and 1 solves the two constraints
pub unsolvable : (σ : Assignment) → ¬ (Solves σ two)
unfolding SoundBoth SoundBy Models commands
unsolvable σ h = (sound-both opb text two commands is-opb is-file).refuted last_says σ (h, tt)
