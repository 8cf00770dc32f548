-- Texts with pol lines and their reports, from bytes to bytes, by computation (02, No. 2); the clauses of their commands, and the limit of 64 lines.
use mathlib.Core.Path.{◌≡◌, refl}
use mathlib.Core.List.{List, [], ◌∷◌, map}
use Prim.Native.Nat.{ℕ, zero, suc}
use lib.IntN.{pos}
use Rattle.calculus.specs.Bytes.{bytes}
use Rattle.calculus.specs.Clauses.{clauses_of}
use Rattle.calculus.specs.Commands.{command_at, Read, whole, refused, read_file}
use Rattle.calculus.specs.Grammar.{got, off}
use Rattle.calculus.specs.Terms.{Term, num, var, app, nil, cons, add, mul, ge, Command, pol, plain_word}
use Rattle.calculus.proofs.Computing.{computing}
use Rattle.calculus.proofs.Examples.{lines, Example, ◌⟼◌, reported, stated}

-- ---- from bytes to bytes
pub pols : List Example
pols =
    -- a pol line adds and reduces; its clause `(>= 0 1)` is a contradiction
    ("(assume a (>= (* 1 x) 1))" ∷
    "(assume b (>= (* 1 (- 1 x)) 1))" ∷
    "(pol p a b +)" ∷ []) ⟼
    ("id=a rule=assume answer=0 plain=yes holds=yes" ∷
    "id=b rule=assume answer=0 plain=yes holds=yes" ∷
    "id=p rule=pol answer=0 plain=yes holds=yes" ∷
    "commands=3 refused=0 refuted=yes" ∷ []) ∷
    -- all operations: 2 x + y >= 2 and y's axiom, times 3, over 2, saturated
    ("(assume a (>= (+ (* 2 x) (* 1 y)) 2))" ∷
    "(pol p a y + 3 * 2 d s)" ∷ []) ⟼
    ("id=a rule=assume answer=0 plain=yes holds=yes" ∷
    "id=p rule=pol answer=0 plain=yes holds=yes" ∷
    "commands=2 refused=0 refuted=no" ∷ []) ∷
    -- a step may cite a pol line, and its clause is the one that the request writes: names in byte order, plain before negated, zeros left out
    ("(assume a (>= (+ (* 2 x) (* 1 y)) 2))" ∷
    "(pol p ~z a + x + y 0 * +)" ∷
    "(step t (cl (>= (+ (* 3 x) (* 1 y) (* 1 (- 1 z))) 2)) :rule cp_multiplication :premises (p) :args (1))" ∷
    "(step u (cl (>= (+ (* 3 x) (* 1 y) (* 1 (- 1 z))) 2)) :rule cp_transfer :premises (p p))" ∷ []) ⟼
    ("id=a rule=assume answer=0 plain=yes holds=yes" ∷
    "id=p rule=pol answer=0 plain=yes holds=yes" ∷
    "id=t rule=cp_multiplication answer=0 plain=yes holds=yes" ∷
    "id=u rule=cp_transfer answer=41 plain=no holds=no" ∷
    "commands=4 refused=1 refuted=no" ∷ []) ∷
    -- the clause of a pol line as a term: cp_transfer compares it as it stands
    ("(assume a (>= (* 1 y) 1))" ∷
    "(assume e (= (>= (+ (* 1 x) (* 1 y)) 1) (>= 0 0)))" ∷
    "(pol p a x +)" ∷
    "(step t (cl (>= 0 0)) :rule cp_transfer :premises (p e))" ∷ []) ⟼
    ("id=a rule=assume answer=0 plain=yes holds=yes" ∷
    "id=e rule=assume answer=0 plain=yes holds=yes" ∷
    "id=p rule=pol answer=0 plain=yes holds=yes" ∷
    "id=t rule=cp_transfer answer=0 plain=yes holds=yes" ∷
    "commands=4 refused=0 refuted=no" ∷ []) ∷
    -- a sum of one is the bare `(* k v)`
    ("(assume e (= (>= (* 2 (- 1 x)) 0) (>= 0 0)))" ∷
    "(pol p ~x 2 *)" ∷
    "(step t (cl (>= 0 0)) :rule cp_transfer :premises (p e))" ∷ []) ⟼
    ("id=e rule=assume answer=0 plain=yes holds=yes" ∷
    "id=p rule=pol answer=0 plain=yes holds=yes" ∷
    "id=t rule=cp_transfer answer=0 plain=yes holds=yes" ∷
    "commands=3 refused=0 refuted=no" ∷ []) ∷
    -- of none `0`
    ("(assume e (= (>= 0 0) (>= 1 0)))" ∷
    "(pol p x 0 *)" ∷
    "(step t (cl (>= 1 0)) :rule cp_transfer :premises (p e))" ∷ []) ⟼
    ("id=e rule=assume answer=0 plain=yes holds=yes" ∷
    "id=p rule=pol answer=0 plain=yes holds=yes" ∷
    "id=t rule=cp_transfer answer=0 plain=yes holds=yes" ∷
    "commands=3 refused=0 refuted=no" ∷ []) ∷
    -- a pol line may push a pol line
    ("(pol p x y +)" ∷
    "(pol q p 3 *)" ∷
    "(pol r q p + s)" ∷ []) ⟼
    ("id=p rule=pol answer=0 plain=yes holds=yes" ∷
    "id=q rule=pol answer=0 plain=yes holds=yes" ∷
    "id=r rule=pol answer=0 plain=yes holds=yes" ∷
    "commands=3 refused=0 refuted=no" ∷ []) ∷
    -- pushing does not reduce: both literals stay until the next `+`
    ("(assume a (>= (+ (* 3 x) (* 2 (- 1 x))) 3))" ∷
    "(assume e (= (>= (+ (* 3 x) (* 2 (- 1 x))) 3) (>= 0 0)))" ∷
    "(pol p a)" ∷
    "(step t (cl (>= 0 0)) :rule cp_transfer :premises (p e))" ∷
    "(assume f (= (>= (+ (* 1 x) (* 1 y)) 1) (>= 0 0)))" ∷
    "(pol q a y +)" ∷
    "(step u (cl (>= 0 0)) :rule cp_transfer :premises (q f))" ∷ []) ⟼
    ("id=a rule=assume answer=0 plain=yes holds=yes" ∷
    "id=e rule=assume answer=0 plain=yes holds=yes" ∷
    "id=p rule=pol answer=0 plain=yes holds=yes" ∷
    "id=t rule=cp_transfer answer=0 plain=yes holds=yes" ∷
    "id=f rule=assume answer=0 plain=yes holds=yes" ∷
    "id=q rule=pol answer=0 plain=yes holds=yes" ∷
    "id=u rule=cp_transfer answer=0 plain=yes holds=yes" ∷
    "commands=7 refused=0 refuted=no" ∷ []) ∷
    -- a zero key stays on the stack and changes later reductions
    ("(assume a (>= (* -1 x) -1))" ∷
    "(assume e (= (>= (* -1 x) -1) (>= 0 0)))" ∷
    "(pol p a y 0 * +)" ∷
    "(step t (cl (>= 0 0)) :rule cp_transfer :premises (p e))" ∷
    "(assume f (= (>= (* 1 (- 1 x)) 0) (>= 0 0)))" ∷
    "(pol q a ~x 0 * +)" ∷
    "(step u (cl (>= 0 0)) :rule cp_transfer :premises (q f))" ∷ []) ⟼
    ("id=a rule=assume answer=0 plain=yes holds=yes" ∷
    "id=e rule=assume answer=0 plain=yes holds=yes" ∷
    "id=p rule=pol answer=0 plain=yes holds=yes" ∷
    "id=t rule=cp_transfer answer=0 plain=yes holds=yes" ∷
    "id=f rule=assume answer=0 plain=yes holds=yes" ∷
    "id=q rule=pol answer=0 plain=yes holds=yes" ∷
    "id=u rule=cp_transfer answer=0 plain=yes holds=yes" ∷
    "commands=7 refused=0 refuted=no" ∷ []) ∷
    -- it does not hold where an id that it pushed does not
    ("(assume a (>= (* 1 x) 1))" ∷
    "(step t (cl (>= (* 1 x) 2)) :rule cp_addition :premises (a a))" ∷
    "(pol p a t +)" ∷ []) ⟼
    ("id=a rule=assume answer=0 plain=yes holds=yes" ∷
    "id=t rule=cp_addition answer=31 plain=no holds=no" ∷
    "id=p rule=pol answer=0 plain=yes holds=no" ∷
    "commands=3 refused=1 refuted=no" ∷ []) ∷
    -- a refused pol line has a clause of no terms, so a step that cites it is refused by its 21, and a pol line by 54
    ("(pol p +)" ∷
    "(step t (cl (>= 0 0)) :rule cp_multiplication :premises (p) :args (1))" ∷
    "(pol q p)" ∷ []) ⟼
    ("id=p rule=pol answer=52 plain=no holds=no" ∷
    "id=t rule=cp_multiplication answer=21 plain=no holds=no" ∷
    "id=q rule=pol answer=54 plain=no holds=no" ∷
    "commands=3 refused=3 refuted=no" ∷ []) ∷
    -- 52: the stack runs short
    ("(pol p x +)" ∷
    "(pol q s)" ∷
    "(pol r 2 *)" ∷
    "(pol u 2 d)" ∷ []) ⟼
    ("id=p rule=pol answer=52 plain=no holds=no" ∷
    "id=q rule=pol answer=52 plain=no holds=no" ∷
    "id=r rule=pol answer=52 plain=no holds=no" ∷
    "id=u rule=pol answer=52 plain=no holds=no" ∷
    "commands=4 refused=4 refuted=no" ∷ []) ∷
    -- 52 when after all words it has not one entry
    ("(pol p x y)" ∷ []) ⟼
    ("id=p rule=pol answer=52 plain=no holds=no" ∷
    "commands=1 refused=1 refuted=no" ∷ []) ∷
    -- 52 when it overflows: 33 pushes
    ("(pol p x x x x x x x x x x x x x x x x x x x x x x x x x x x x x x x x x)" ∷ []) ⟼
    ("id=p rule=pol answer=52 plain=no holds=no" ∷
    "commands=1 refused=1 refuted=no" ∷ []) ∷
    -- but 32 fit
    ("(pol p x x x x x x x x x x x x x x x x x x x x x x x x x x x x x x x x + + + + + + + + + + + + + + + + + + + + + + + + + + + + + + +)" ∷ []) ⟼
    ("id=p rule=pol answer=0 plain=yes holds=yes" ∷
    "commands=1 refused=0 refuted=no" ∷ []) ∷
    -- 54: a pushed id is not one inequality over names that section 2 reads
    ("(assume a (>= x 0))" ∷
    "(assume b (= (* 1 x) 1))" ∷
    "(assume c (>= (* 1 (+ x y)) 0))" ∷
    "(step t (cl) :rule cp_part)" ∷
    "(pol p a)" ∷
    "(pol q b)" ∷
    "(pol r c)" ∷
    "(pol u t)" ∷ []) ⟼
    ("id=a rule=assume answer=0 plain=yes holds=yes" ∷
    "id=b rule=assume answer=0 plain=yes holds=yes" ∷
    "id=c rule=assume answer=0 plain=yes holds=yes" ∷
    "id=t rule=cp_part answer=20 plain=no holds=no" ∷
    "id=p rule=pol answer=54 plain=no holds=no" ∷
    "id=q rule=pol answer=54 plain=no holds=no" ∷
    "id=r rule=pol answer=54 plain=no holds=no" ∷
    "id=u rule=pol answer=54 plain=no holds=no" ∷
    "commands=8 refused=5 refuted=no" ∷ []) ∷
    -- 54: a rule's sign check, a zero divisor included
    ("(assume a (>= (* -1 x) -1))" ∷
    "(pol p x -1 *)" ∷
    "(pol q x -2 d)" ∷
    "(pol r x 0 d)" ∷
    "(pol u a s)" ∷ []) ⟼
    ("id=a rule=assume answer=0 plain=yes holds=yes" ∷
    "id=p rule=pol answer=54 plain=no holds=no" ∷
    "id=q rule=pol answer=54 plain=no holds=no" ∷
    "id=r rule=pol answer=54 plain=no holds=no" ∷
    "id=u rule=pol answer=54 plain=no holds=no" ∷
    "commands=5 refused=4 refuted=no" ∷ []) ∷
    -- saturation asks its constant too
    ("(assume a (>= (* 1 x) -1))" ∷
    "(pol p a s)" ∷ []) ⟼
    ("id=a rule=assume answer=0 plain=yes holds=yes" ∷
    "id=p rule=pol answer=54 plain=no holds=no" ∷
    "commands=2 refused=1 refuted=no" ∷ []) ∷
    -- 53: a number beyond the numeral range
    ("(pol p x 99999999 *)" ∷
    "(pol q p x +)" ∷
    "(assume a (>= (* 1 x) 99999999))" ∷
    "(pol r a a +)" ∷
    "(pol u a -1 *)" ∷ []) ⟼
    ("id=p rule=pol answer=0 plain=yes holds=yes" ∷
    "id=q rule=pol answer=53 plain=no holds=no" ∷
    "id=a rule=assume answer=0 plain=yes holds=yes" ∷
    "id=r rule=pol answer=53 plain=no holds=no" ∷
    "id=u rule=pol answer=54 plain=no holds=no" ∷
    "commands=5 refused=3 refuted=yes" ∷ []) ∷
    -- 53 also at a push, where equal literals add up
    ("(assume a (>= (+ (* 99999999 x) (* 1 x)) 0))" ∷
    "(pol p a)" ∷ []) ⟼
    ("id=a rule=assume answer=0 plain=yes holds=yes" ∷
    "id=p rule=pol answer=53 plain=no holds=no" ∷
    "commands=2 refused=1 refuted=no" ∷ []) ∷
    -- numbers are judged after the reduction: these cancel
    ("(pol p x 99999999 * ~x 99999999 * +)" ∷ []) ⟼
    ("id=p rule=pol answer=0 plain=yes holds=yes" ∷
    "commands=1 refused=0 refuted=no" ∷ []) ∷
    -- at one word 54 comes before 53, and the first word that fails decides
    ("(pol p x 99999999 * x + -1 *)" ∷
    "(pol q x -1 * +)" ∷
    "(pol r + x -1 *)" ∷ []) ⟼
    ("id=p rule=pol answer=53 plain=no holds=no" ∷
    "id=q rule=pol answer=54 plain=no holds=no" ∷
    "id=r rule=pol answer=52 plain=no holds=no" ∷
    "commands=3 refused=3 refuted=no" ∷ []) ∷
    -- 6: a numeral without `*` or `d` after it, at the next token
    ("(pol p x 2)" ∷ []) ⟼
    ("refused=6 byte=10" ∷ []) ∷
    -- also before a word
    ("(pol p x 2 x)" ∷ []) ⟼
    ("refused=6 byte=11" ∷ []) ∷
    -- also before another numeral
    ("(pol p x 2 3 *)" ∷ []) ⟼
    ("refused=6 byte=11" ∷ []) ∷
    -- `*` without a numeral before it, at itself
    ("(pol p x *)" ∷ []) ⟼
    ("refused=6 byte=9" ∷ []) ∷
    -- also `d`, which is no id here even where one is defined above
    ("(assume d (>= (* 1 x) 0))" ∷
    "(pol p d)" ∷ []) ⟼
    ("refused=6 byte=33" ∷ []) ∷
    -- there are words
    ("(pol p)" ∷ []) ⟼
    ("refused=6 byte=6" ∷ []) ∷
    -- other operators and reserved words are 6
    ("(pol p x -)" ∷ []) ⟼
    ("refused=6 byte=9" ∷ []) ∷
    -- also
    ("(pol p and)" ∷ []) ⟼
    ("refused=6 byte=7" ∷ []) ∷
    -- and at the end of the text
    ("(pol p x" ∷ []) ⟼
    ("refused=6 byte=9" ∷ []) ∷
    -- `~x` as the id of a pol line is 5
    ("(pol ~p x)" ∷ []) ⟼
    ("refused=5 byte=5" ∷ []) ∷
    -- `~` before a word that is no name is 5
    ("(pol p ~cl)" ∷ []) ⟼
    ("refused=5 byte=7" ∷ []) ∷
    -- also
    ("(pol p ~5)" ∷ []) ⟼
    ("refused=5 byte=7" ∷ []) ∷
    -- also
    ("(pol p ~)" ∷ []) ⟼
    ("refused=5 byte=7" ∷ []) ∷
    -- `~d` and `~s` are literals, and so is the line's own id
    ("(pol p ~d ~s + p +)" ∷ []) ⟼
    ("id=p rule=pol answer=0 plain=yes holds=yes" ∷
    "commands=1 refused=0 refuted=no" ∷ []) ∷
    -- `d` and `s` may be ids, and are then never pushed
    ("(pol d x)" ∷
    "(pol s ~d)" ∷
    "(pol p s)" ∷ []) ⟼
    ("id=d rule=pol answer=0 plain=yes holds=yes" ∷
    "id=s rule=pol answer=0 plain=yes holds=yes" ∷
    "id=p rule=pol answer=52 plain=no holds=no" ∷
    "commands=3 refused=1 refuted=no" ∷ []) ∷
    -- `pol` is not reserved
    ("(assume pol (>= (* 1 pol) 0))" ∷
    "(pol x pol)" ∷ []) ⟼
    ("id=pol rule=assume answer=0 plain=yes holds=yes" ∷
    "id=x rule=pol answer=0 plain=yes holds=yes" ∷
    "commands=2 refused=0 refuted=no" ∷ []) ∷
    -- an id is used once
    ("(pol p x)" ∷
    "(pol p x)" ∷ []) ⟼
    ("refused=8 byte=15" ∷ []) ∷
    -- a numeral is judged first
    ("(pol p x 007 *)" ∷ []) ⟼
    ("refused=4 byte=9" ∷ []) ∷
    -- a pol line is not cited before it stands
    ("(step t (cl) :rule cp_part :premises (p))" ∷
    "(pol p x)" ∷ []) ⟼
    ("refused=8 byte=38" ∷ []) ∷
    []

pub reported-pols : map reported pols ≡ map stated pols
unfolding computing pols
reported-pols = refl

-- so many pol lines above
abbrev pub above : ℕ → List Command
above zero = []
above (suc n) = pol [] [] ∷ above n

-- a 64th pol line is read, a 65th is 7 at `pol`; no node is counted
pub pol-limits : map (λ (n : ℕ). command_at (above n) (bytes "(pol p x)") 1 4096) (63 ∷ 64 ∷ []) ≡ got (pol (bytes "p") (plain_word (bytes "x") ∷ [])) 9 4096 ∷ off 7 1 ∷ []
unfolding computing
pol-limits = refl

-- ---- the clauses of a text's commands: of a pol line the one that its words give, of one that fails no terms
abbrev clauses_in : List ℕ → List (List Term)
clauses_in s = go (read_file s)
  where
    go : Read → List (List Term)
    go (whole cs) = clauses_of cs
    go (refused n p) = []

-- (* k x), and what is at least k
abbrev product : ℕ → List ℕ → Term
product k x = app mul (cons (num (pos k)) (cons (var x) nil))

abbrev least : Term → ℕ → List Term
least t k = app ge (cons t (cons (num (pos k)) nil)) ∷ []

pub pol-clauses : clauses_in (lines ("(assume a (>= (* 1 x) 1))" ∷ "(pol p a y +)" ∷ "(pol q p 2 *)" ∷ "(pol r +)" ∷ [])) ≡
    least (product 1 (bytes "x")) 1 ∷
    least (app add (cons (product 1 (bytes "x")) (cons (product 1 (bytes "y")) nil))) 1 ∷
    least (app add (cons (product 2 (bytes "x")) (cons (product 2 (bytes "y")) nil))) 2 ∷
    [] ∷ []
unfolding computing
pol-clauses = refl
