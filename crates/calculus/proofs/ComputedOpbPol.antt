-- OPB texts and proof texts with pol lines behind them, each pair with the report of both, by computation (02, No. 1 and No. 2).
use mathlib.Core.Path.{◌≡◌, refl}
use mathlib.Core.List.{List, [], ◌∷◌, ◌++◌, map}
use Prim.Native.Nat.{ℕ}
use lib.IntN.{pos}
use Rattle.calculus.specs.Bytes.{bytes}
use Rattle.calculus.specs.Commands.{command_at}
use Rattle.calculus.specs.Grammar.{got, off}
use Rattle.calculus.specs.OpbWords.{at_least}
use Rattle.calculus.specs.OpbWriting.{compare, assumptions}
use Rattle.calculus.specs.Terms.{pol, line_word}
use Rattle.calculus.proofs.Computing.{computing}
use Rattle.calculus.proofs.ComputedOpb.{Pair, reported, stated}
use Rattle.calculus.proofs.ComputedPolTexts.{above}

pub pairs : List Pair
pairs =
    -- a pol line pushes c1 and c2 and refutes the constraints alone
    record {
      opb = "1 x1 >= 1 ;" ∷ "1 ~x1 >= 1 ;" ∷ [];
      text = "(pol p c1 c2 +)" ∷ [];
      report = "id=c1 rule=assume answer=0 plain=yes holds=yes" ∷ "id=c2 rule=assume answer=0 plain=yes holds=yes" ∷ "id=p rule=pol answer=0 plain=yes holds=yes" ∷ "commands=3 refused=0 refuted=yes" ∷ [];
    } ∷
    -- with the proof text's own assumption: 2 x1 + x2 = 2 and ~x2 give x1, over 2; c2 is the half with all signs turned
    record {
      opb = "* two constraints, three assumptions" ∷ "+2 x1 +1 x2 = +2 ;" ∷ "+1 ~x2 >= +1 ;" ∷ [];
      text =
          "(assume a (>= (* 1 (- 1 x1)) 1))" ∷
          "(pol p c1 c3 + 2 d)" ∷
          "(step t (cl (>= (* 1 x1) 1)) :rule cp_multiplication :premises (p) :args (1))" ∷
          "(pol q c2)" ∷
          "(step u (cl (>= (+ (* -2 x1) (* -1 x2)) -2)) :rule cp_multiplication :premises (q) :args (1))" ∷
          "(pol r p a +)" ∷ [];
      report =
          "id=c1 rule=assume answer=0 plain=yes holds=yes" ∷
          "id=c2 rule=assume answer=0 plain=yes holds=yes" ∷
          "id=c3 rule=assume answer=0 plain=yes holds=yes" ∷
          "id=a rule=assume answer=0 plain=yes holds=yes" ∷
          "id=p rule=pol answer=0 plain=yes holds=yes" ∷
          "id=t rule=cp_multiplication answer=0 plain=yes holds=yes" ∷
          "id=q rule=pol answer=0 plain=yes holds=yes" ∷
          "id=u rule=cp_multiplication answer=0 plain=yes holds=yes" ∷
          "id=r rule=pol answer=0 plain=yes holds=yes" ∷
          "commands=9 refused=0 refuted=yes" ∷ [];
    } ∷
    -- both write one shape: cp_transfer finds c1, and the line that pushes it, equal to one term; a sum of one, and of none, too
    record {
      opb = "+2 x1 -3 ~x2 >= -1 ;" ∷ "5 ~x07 >= 0 ;" ∷ ">= -3 ;" ∷ [];
      text =
          "(assume e (= (>= (+ (* 2 x1) (* -3 (- 1 x2))) -1) (>= 0 0)))" ∷
          "(assume f (= (>= (* 5 (- 1 x07)) 0) (>= 0 0)))" ∷
          "(assume g (= (>= 0 -3) (>= 0 0)))" ∷
          "(pol p c1)" ∷
          "(pol q c2)" ∷
          "(pol r c3)" ∷
          "(step t1 (cl (>= 0 0)) :rule cp_transfer :premises (c1 e))" ∷
          "(step t2 (cl (>= 0 0)) :rule cp_transfer :premises (p e))" ∷
          "(step t3 (cl (>= 0 0)) :rule cp_transfer :premises (q f))" ∷
          "(step t4 (cl (>= 0 0)) :rule cp_transfer :premises (r g))" ∷ [];
      report =
          "id=c1 rule=assume answer=0 plain=yes holds=yes" ∷
          "id=c2 rule=assume answer=0 plain=yes holds=yes" ∷
          "id=c3 rule=assume answer=0 plain=yes holds=yes" ∷
          "id=e rule=assume answer=0 plain=yes holds=yes" ∷
          "id=f rule=assume answer=0 plain=yes holds=yes" ∷
          "id=g rule=assume answer=0 plain=yes holds=yes" ∷
          "id=p rule=pol answer=0 plain=yes holds=yes" ∷
          "id=q rule=pol answer=0 plain=yes holds=yes" ∷
          "id=r rule=pol answer=0 plain=yes holds=yes" ∷
          "id=t1 rule=cp_transfer answer=0 plain=yes holds=yes" ∷
          "id=t2 rule=cp_transfer answer=0 plain=yes holds=yes" ∷
          "id=t3 rule=cp_transfer answer=0 plain=yes holds=yes" ∷
          "id=t4 rule=cp_transfer answer=0 plain=yes holds=yes" ∷
          "commands=13 refused=0 refuted=no" ∷ [];
    } ∷
    -- `c2` is an id where the OPB text gives two assumptions, and a literal where it gives one; `~c1` is a literal in any case
    record {
      opb = "1 x1 >= 1 ;" ∷ [];
      text =
          "(pol p c1 c2 + ~c1 +)" ∷
          "(step t (cl (>= (+ (* 1 c2) (* 1 (- 1 c1)) (* 1 x1)) 1)) :rule cp_multiplication :premises (p) :args (1))" ∷ [];
      report = "id=c1 rule=assume answer=0 plain=yes holds=yes" ∷ "id=p rule=pol answer=0 plain=yes holds=yes" ∷ "id=t rule=cp_multiplication answer=0 plain=yes holds=yes" ∷ "commands=3 refused=0 refuted=no" ∷ [];
    } ∷
    -- a constraint with a literal twice: the push adds up, and 99999999 and 1 are 53
    record {
      opb = "99999999 x1 1 x1 >= 0 ;" ∷ "1 x1 1 x1 >= 1 ;" ∷ [];
      text = "(pol p c1)" ∷ "(pol q c2)" ∷ "(pol r c2 x1 -1 *)" ∷ "(pol s c2 c2)" ∷ [];
      report =
          "id=c1 rule=assume answer=0 plain=yes holds=yes" ∷
          "id=c2 rule=assume answer=0 plain=yes holds=yes" ∷
          "id=p rule=pol answer=53 plain=no holds=no" ∷
          "id=q rule=pol answer=0 plain=yes holds=yes" ∷
          "id=r rule=pol answer=54 plain=no holds=no" ∷
          "id=s rule=pol answer=52 plain=no holds=no" ∷
          "commands=6 refused=3 refuted=no" ∷ [];
    } ∷
    -- an id of the OPB text is used; a refusal of the OPB text comes before the pol line's
    record { opb = "1 x1 >= 1 ;" ∷ []; text = "(pol c1 x1)" ∷ []; report = "refused=8 byte=5" ∷ [] } ∷
    record { opb = "1 x1 >= ;" ∷ []; text = "(pol p *)" ∷ []; report = "refused=51 byte=8" ∷ [] } ∷
    record { opb = "1 x1 >= 1 ;" ∷ []; text = "(pol p c1 2)" ∷ []; report = "refused=6 byte=11" ∷ [] } ∷
    []

pub reported-both-pols : map reported pairs ≡ map stated pairs
unfolding computing pairs
reported-both-pols = refl

-- behind an assumption of an OPB text, too, a 64th pol line is read and a 65th is 7 at `pol`
pub pol-limits-behind : map (λ (n : ℕ). command_at (assumptions (compare [] at_least (pos 0) ∷ []) ++ above n) (bytes "(pol p c1)") 1 3) (63 ∷ 64 ∷ []) ≡ got (pol (bytes "p") (line_word (bytes "c1") ∷ [])) 10 3 ∷ off 7 1 ∷ []
unfolding computing
pol-limits-behind = refl
