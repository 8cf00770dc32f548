-- The claim at work on an OPB text and pol lines behind it: from the bytes of both and of their report to what every solution satisfies, and to the fact that there is none.
use mathlib.Core.Path.{◌≡◌, refl, sym, subst}
use mathlib.Core.List.{List, [], ◌∷◌, ◌++◌}
use Prim.Native.Nat.{ℕ, ◌<◌}
use native.Mathlib.Omega.{arith}
use lib.IntN.{pos}
use lib.ListN.{length, get_or}
use Rattle.calculus.specs.Bytes.{bytes}
use Rattle.calculus.specs.Claim.{SoundBy, EndsIn, lines_of, last_line, holds_yes, refuted_yes}
use Rattle.calculus.specs.Clauses.{SoundBoth, clauses_of}
use Rattle.calculus.specs.Commands.{whole, read_behind}
use Rattle.calculus.specs.Terms.{Term, app, num, var, nil, cons, ge, mul, Command, pol, line_word, plus-word, over_word}
use Rattle.calculus.specs.Truth.{Assignment, Models, Satisfies}
use Rattle.calculus.specs.Writing.{IsReadBehind}
use Rattle.calculus.specs.OpbWords.{plain, negated, at_least, equal}
use Rattle.calculus.specs.OpbWriting.{times, Constraint, compare, assumptions, IsOpb}
use Rattle.calculus.specs.OpbTruth.{Solves}
use Rattle.calculus.specs.OpbReading.{constraints, read_opb}
use Rattle.calculus.specs.OpbReport.{report_both}
use Rattle.calculus.proofs.Computing.{computing}
use Rattle.calculus.proofs.Examples.{lines}
use Rattle.theorems.proofs.FaithfulFile.{faithful-behind}
use Rattle.theorems.proofs.OpbFaithful.{opb_faithful}
use Rattle.theorems.proofs.OpbSoundness.{sound-both}
use Rattle.theorems.proofs.ReadableFile.{append-same}

-- 2 x1 + x2 = 2, not x2, not x1
opb : List ℕ
opb = lines ("+2 x1 +1 x2 = +2 ;" ∷ "+1 ~x2 >= +1 ;" ∷ "+1 ~x1 >= +1 ;" ∷ [])

text : List ℕ
text = lines ("(pol p c1 c3 + 2 d)" ∷ "(pol q p c4 +)" ∷ [])

pub three : List Constraint
three =
    compare (times (pos 2) (plain (bytes "x1")) ∷ times (pos 1) (plain (bytes "x2")) ∷ []) equal (pos 2) ∷
    compare (times (pos 1) (negated (bytes "x2")) ∷ []) at_least (pos 1) ∷
    compare (times (pos 1) (negated (bytes "x1")) ∷ []) at_least (pos 1) ∷ []

pub commands : List Command
commands =
    pol (bytes "p") (line_word (bytes "c1") ∷ line_word (bytes "c3") ∷ plus-word ∷ over_word (pos 2) ∷ []) ∷
    pol (bytes "q") (line_word (bytes "p") ∷ line_word (bytes "c4") ∷ plus-word ∷ []) ∷ []

opb-read : read_opb opb ≡ constraints three
unfolding computing opb three
opb-read = refl

text-read : read_behind (assumptions three) text ≡ whole (assumptions three ++ commands)
unfolding computing text three commands
text-read = refl

is-opb : IsOpb opb three
is-opb = opb_faithful opb three opb-read

is-file : IsReadBehind (assumptions three) text commands
is-file =
    let (cs, g, r) = faithful-behind (assumptions three) text (assumptions three ++ commands) is-opb.nodes is-opb.commands text-read in
    subst (IsReadBehind (assumptions three) text) (sym (append-same (assumptions three) commands cs g)) r

-- ---- a marked pol line: x1 is at least 1
pub first : Term
first = app ge (cons (app mul (cons (num (pos 1)) (cons (var (bytes "x1")) nil))) (cons (num (pos 1)) nil))

said : get_or (clauses_of (assumptions three ++ commands)) 4 [] ≡ first ∷ []
unfolding computing three commands first
said = refl

marked : EndsIn (get_or (lines_of (report_both opb text)) 4 []) holds_yes
unfolding computing opb text
marked = (bytes "id=p rule=pol answer=0 plain=yes", refl)

fifth : 4 < length (clauses_of (assumptions three ++ commands))
unfolding computing three commands
fifth = omega arith

-- so every solution of the three constraints satisfies it
pub implied : (σ : Assignment) → Solves σ three → Satisfies σ (first ∷ [])
unfolding SoundBoth SoundBy Models commands
implied σ h = subst (Satisfies σ) said ((sound-both opb text three commands is-opb is-file).marked 4 fifth marked σ (h, tt))

-- ---- and the next one says that 0 is at least 1
last_says : EndsIn (last_line (lines_of (report_both opb text))) refuted_yes
unfolding computing opb text
last_says = (bytes "commands=6 refused=0", refl)

-- no assignment of 0 and 1 solves the three constraints: no belief in the stack machine
pub unsolvable : (σ : Assignment) → ¬ (Solves σ three)
unfolding SoundBoth SoundBy Models commands
unsolvable σ h = (sound-both opb text three commands is-opb is-file).refuted last_says σ (h, tt)
