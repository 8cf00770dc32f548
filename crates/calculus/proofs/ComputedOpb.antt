-- OPB texts, alone and with a proof text behind them, by computation (02, No. 1): the reports of both, what constraints become, each refusal and each limit where it stands, solutions.
use mathlib.Core.Path.{◌≡◌, refl, sym, ap, subst}
use mathlib.Core.Bool.{true}
use mathlib.Core.List.{List, [], ◌∷◌, ◌++◌, map}
use Prim.Native.Nat.{ℕ, zero, suc}
use Prim.Native.String.{String}
use native.Mathlib.Omega.{arith}
use lib.IntN.{pos, nat_abs}
use Rattle.calculus.specs.Bytes.{bytes}
use Rattle.calculus.specs.Claim.{Claim, SoundBy, lines_of}
use Rattle.calculus.specs.Clauses.{clauses_of, SoundBoth}
use Rattle.calculus.specs.Commands.{enough, Read, whole, refused, read_behind, read_file}
use Rattle.calculus.specs.Terms.{Command}
use Rattle.calculus.specs.Truth.{Models}
use Rattle.calculus.specs.Writing.{IsReadBehind}
use Rattle.calculus.specs.OpbWords.{plain, negated, at_least, equal, number_word, literal-word, word, inside_at}
use Rattle.calculus.specs.OpbWriting.{Summand, times, Constraint, compare, assumptions, HasInside, IsOpb}
use Rattle.calculus.specs.OpbTruth.{sum_value, MakesTrue, Solves}
use Rattle.calculus.specs.OpbReading.{OpbRead, constraints, refused_at, constraints_from, read_opb}
use Rattle.calculus.specs.OpbReport.{report_both}
use Rattle.calculus.proofs.Computing.{computing}
use Rattle.calculus.proofs.Examples.{lines}

-- ---- the report of both
-- the lines of the OPB text, of the proof text, and of the report that is stated
pub record Pair : Type 0 where
  pub opb : List String
  pub text : List String
  pub report : List String

abbrev pub reported : Pair → List ℕ
reported e = report_both (lines e.opb) (lines e.text)

abbrev pub stated : Pair → List ℕ
stated e = lines e.report

pub pairs : List Pair
pairs =
    -- comments, signs, several summands, one, none; `=` gives two assumptions; each may be cited
    record {
      opb = "* #variable= 2 #constraint= 3" ∷ "+2 x1 -3 ~x2 >= -1 ;" ∷ "1 x1 = +1;" ∷ "* a comment" ∷ ">= 0 ;" ∷ [];
      text =
          "(step t1 (cl (>= (+ (* 4 x1) (* -6 (- 1 x2))) -2)) :rule cp_multiplication :premises (c1) :args (2))" ∷
          "(step t2 (cl (>= (* -1 x1) -1)) :rule cp_multiplication :premises (c3) :args (1))" ∷
          "(step t3 (cl (>= 0 0)) :rule cp_addition :premises (c2 c3))" ∷
          "(step t4 (cl (>= 0 0)) :rule cp_multiplication :premises (c4) :args (5))" ∷ [];
      report =
          "id=c1 rule=assume answer=0 plain=yes holds=yes" ∷
          "id=c2 rule=assume answer=0 plain=yes holds=yes" ∷
          "id=c3 rule=assume answer=0 plain=yes holds=yes" ∷
          "id=c4 rule=assume answer=0 plain=yes holds=yes" ∷
          "id=t1 rule=cp_multiplication answer=0 plain=yes holds=yes" ∷
          "id=t2 rule=cp_multiplication answer=0 plain=yes holds=yes" ∷
          "id=t3 rule=cp_addition answer=0 plain=yes holds=yes" ∷
          "id=t4 rule=cp_multiplication answer=0 plain=yes holds=yes" ∷
          "commands=8 refused=0 refuted=no" ∷ [];
    } ∷
    -- a refutation of the constraints alone
    record {
      opb = "1 x1 >= 1 ;" ∷ "1 ~x1 >= 1 ;" ∷ [];
      text = "(step t (cl (>= 0 1)) :rule cp_addition :premises (c1 c2))" ∷ [];
      report = "id=c1 rule=assume answer=0 plain=yes holds=yes" ∷ "id=c2 rule=assume answer=0 plain=yes holds=yes" ∷ "id=t rule=cp_addition answer=0 plain=yes holds=yes" ∷ "commands=3 refused=0 refuted=yes" ∷ [];
    } ∷
    -- an empty OPB text
    record { opb = []; text = "(assume a (>= x 0))" ∷ []; report = "id=a rule=assume answer=0 plain=yes holds=yes" ∷ "commands=1 refused=0 refuted=no" ∷ [] } ∷
    -- a refusal of the proof text has its byte there
    record { opb = ">= 0 ;" ∷ []; text = "(assume a 1x)" ∷ []; report = "refused=4 byte=10" ∷ [] } ∷
    []

pub reported-both : map reported pairs ≡ map stated pairs
unfolding computing pairs
reported-both = refl

-- the OPB text is judged first
pub judged-first : report_both (lines ("1 1" ∷ [])) (lines ("(assume a 1x)" ∷ [])) ≡ lines ("refused=51 byte=2" ∷ [])
unfolding computing
judged-first = refl

-- the ids of its assumptions are used
pub ids-used : report_both (lines ("= 0 ;" ∷ [])) (lines ("(assume c3 x)" ∷ "(assume c2 x)" ∷ [])) ≡ lines ("refused=8 byte=22" ∷ [])
unfolding computing
ids-used = refl

-- ---- the assumptions that constraints become, and the same written out
abbrev pub assumed : String → Read
assumed o = go (read_opb (bytes o))
  where
    go : OpbRead → Read
    go (constraints ks) = whole (assumptions ks)
    go (refused_at n p) = refused n p

abbrev pub written : String → Read
written s = read_file (bytes s)

pub ids-counted : assumed ">= 0; = 0; >= 0;" ≡ written "(assume c1 (>= 0 0)) (assume c2 (>= 0 0)) (assume c3 (>= 0 0)) (assume c4 (>= 0 0))"
unfolding computing
ids-counted = refl

-- sums of several summands, of one and of none
pub shapes : assumed "2 x1 -3 x02 >= -1; 5 x7 >= 4; >= 0;" ≡ written "(assume c1 (>= (+ (* 2 x1) (* -3 x02)) -1)) (assume c2 (>= (* 5 x7) 4)) (assume c3 (>= 0 0))"
unfolding computing
shapes = refl

pub negated-shape : assumed "2 ~x1 1 x1 >= 1;" ≡ written "(assume c1 (>= (+ (* 2 (- 1 x1)) (* 1 x1)) 1))"
unfolding computing
negated-shape = refl

-- the second half of `=` has all signs turned: those of the summands, and that of the constant
pub summands-turned : assumed "1 x1 -2 x2 = 0;" ≡ written "(assume c1 (>= (+ (* 1 x1) (* -2 x2)) 0)) (assume c2 (>= (+ (* -1 x1) (* 2 x2)) 0))"
unfolding computing
summands-turned = refl

pub constant-turned : assumed "= 3;" ≡ written "(assume c1 (>= 0 3)) (assume c2 (>= 0 -3))"
unfolding computing
constant-turned = refl

-- `;` needs no blank before it or behind it
pub semicolons : read_opb (bytes ">= 1;>= 2 ;") ≡ constraints (compare [] at_least (pos 1) ∷ compare [] at_least (pos 2) ∷ [])
unfolding computing
semicolons = refl

-- ---- refusals
-- an OPB text, its number and its byte
infix 70 ◌is◌at◌
pub data Refusal : Type 0 where
  ◌is◌at◌ : String → ℕ → ℕ → Refusal

abbrev pub judged : Refusal → OpbRead
judged (o is n at p) = read_opb (bytes o)

abbrev pub named : Refusal → OpbRead
named (o is n at p) = refused_at n p

-- the theorem of a list of them
abbrev pub Refused : List Refusal → Type 0
Refused rs = map judged rs ≡ map named rs

-- -0, 007, 100000000 and 1x are no numbers
pub numbers : Refused (("-0 x1 >= 1;" is 4 at 0) ∷ ("007 x1 >= 1;" is 4 at 0) ∷ ("1 x1 >= 100000000;" is 4 at 8) ∷ ("1x >= 0;" is 4 at 0) ∷ [])
unfolding computing
numbers = refl

-- +0 is 0
pub plus_signs : Refused (("+0 x1 >= +99999999; x" is 5 at 20) ∷ ("+007 x1 >= 1;" is 4 at 0) ∷ ("1 +x1 >= 1;" is 5 at 2) ∷ [])
unfolding computing
plus_signs = refl

-- words of no kind; only blanks, brackets and `;` part words
pub words : Refused (("1 x1>=1;" is 5 at 2) ∷ ("1 ~~x1 >= 1;" is 5 at 2) ∷ ("1 x1 <= 1;" is 5 at 5) ∷ ("1 x >= 1;" is 5 at 2) ∷ [])
unfolding computing
words = refl

-- a variable's name has at most 32 bytes
pub long-name : Refused (("1 x0000000000000000000000000000001 >= 1; 1 x00000000000000000000000000000001 >= 1;" is 5 at 43) ∷ [])
unfolding computing
long-name = refl

-- 50 wherever a word stands
pub objectives : Refused (("1 min: x1 >= 1;" is 50 at 2) ∷ ("max: 1 x1;" is 50 at 0) ∷ [])
unfolding computing
objectives = refl

-- a comment's `*` is the first byte of its line
pub comment-lines : Refused ((" * no comment" is 5 at 1) ∷ (">= 0; * no comment" is 5 at 6) ∷ (">= 0;* no comment" is 5 at 5) ∷ [])
unfolding computing
comment-lines = refl

-- and stands outside constraints
pub comments-inside : Refused (("1\n* c\nx1 >= 0;" is 5 at 2) ∷ ("1 x1\n* c\n>= 0;" is 5 at 5) ∷ (">=\n* c\n0;" is 5 at 3) ∷ (">= 0\n* c\n;" is 5 at 5) ∷ [])
unfolding computing
comments-inside = refl

-- so that no words of a constraint stand around one
pub no-comment-inside : (e : ℕ) → ¬ (HasInside (bytes "1\n* c\nx1 >= 0;") 0 (number_word (pos 1) ∷ literal-word (plain (bytes "x1")) ∷ []) e)
unfolding computing HasInside
no-comment-inside e (b, t, first, (c, u, second, end)) =
    let one : 1 ≡ t = cc in
    let there : inside_at (bytes "1\n* c\nx1 >= 0;") 1 ≡ word (literal-word (plain (bytes "x1"))) c u = subst (λ (i : ℕ). inside_at (bytes "1\n* c\nx1 >= 0;") i ≡ word (literal-word (plain (bytes "x1"))) c u) (sym one) second in
    let z : ◌≡◌ {A = ℕ} 0 1 = cc in
    omega arith

-- a known word or the end breaks the format
pub order : Refused ((";" is 51 at 0) ∷ ("1 1 x1 >= 1;" is 51 at 2) ∷ ("1 x1 x2 >= 1;" is 51 at 5) ∷ ("1 x1 >= ;" is 51 at 8) ∷ ("1 x1 >= 1 = 1;" is 51 at 10) ∷ ("* a comment\n1 x1 >= 1\n" is 51 at 22) ∷ [])
unfolding computing
order = refl

-- and so does a bracket
pub brackets : Refused (("1 (x1) >= 1;" is 51 at 2) ∷ (")" is 51 at 0) ∷ [])
unfolding computing
brackets = refl

-- a bad byte in a comment and in a word's place; no other byte of a comment is refused
pub bad-bytes : read_opb (42 ∷ 40 ∷ 127 ∷ []) ∷ read_opb (49 ∷ 9 ∷ 0 ∷ []) ∷ read_opb (42 ∷ 40 ∷ []) ∷ [] ≡ refused_at 3 2 ∷ refused_at 3 2 ∷ constraints [] ∷ []
unfolding computing
bad-bytes = refl

-- ---- the limits
-- behind n nodes and c assumptions: the number of the refusal, and its byte
abbrev pub number_of : OpbRead → ℕ
number_of (constraints ks) = 0
number_of (refused_at n p) = n

abbrev pub place_of : OpbRead → ℕ
place_of (constraints ks) = 0
place_of (refused_at n p) = p

abbrev pub behind : ℕ → ℕ → String → OpbRead
behind n c o = constraints_from enough (bytes o) 0 n c []

-- the 4,096th node and the 4,097th; `=` has twice as many
pub node-limit : map number_of (behind 4093 0 ">= 0;" ∷ behind 4094 0 ">= 0;" ∷ behind 4090 0 "= 0;" ∷ behind 4091 0 "= 0;" ∷ []) ≡ 0 ∷ 7 ∷ 0 ∷ 7 ∷ []
unfolding computing
node-limit = refl

-- the 512th assumption and the 513th; `=` gives two
pub command-limit : map number_of (behind 0 511 ">= 0;" ∷ behind 0 512 ">= 0;" ∷ behind 0 510 "= 0;" ∷ behind 0 511 "= 0;" ∷ []) ≡ 0 ∷ 7 ∷ 0 ∷ 7 ∷ []
unfolding computing
command-limit = refl

-- 7 stands at the first token of the constraint, which is read to its end before
pub limit-place : map place_of (behind 4092 0 "* c\n >= 0; >= 0; >= 0;" ∷ behind 4096 0 "1 x1 >= x;" ∷ []) ≡ 11 ∷ 8 ∷ []
unfolding computing
limit-place = refl

-- the nodes of both texts are counted together: behind 4,095 of the OPB text there is room for one
abbrev pub many : ℕ → List Summand
many zero = []
many (suc n) = times (pos 1) (plain (bytes "x1")) ∷ many n

abbrev pub number_behind : String → ℕ
number_behind s = number (read_behind (assumptions (compare (many 1364) at_least (pos 0) ∷ [])) (bytes s))
  where
    number : Read → ℕ
    number (whole cs) = 0
    number (refused n p) = n

pub both-node-limit : map number_behind ("(assume a x)" ∷ "(assume a (- x))" ∷ []) ≡ 0 ∷ 7 ∷ []
unfolding computing
both-node-limit = refl

-- ---- solutions, and the claim about them
-- with both variables 1
pub negated-value : sum_value (λ x. true) (times (pos 3) (negated (bytes "x1")) ∷ times (pos 2) (plain (bytes "x2")) ∷ []) ≡ pos 2
unfolding computing
negated-value = refl

-- 1 is at least 0 and not equal to it
pub equal-is-both : ¬ (MakesTrue (λ x. true) (compare (times (pos 1) (plain (bytes "x1")) ∷ []) equal (pos 0)))
unfolding computing MakesTrue
equal-is-both e = omega (arith, ap nat_abs e)

-- the claim, written out
pub claim-is : (o s r : List ℕ) →
    SoundBoth o s r ≡ ((ks : List Constraint) (cs : List Command) → IsOpb o ks → IsReadBehind (assumptions ks) s cs → Claim (λ σ. Solves σ ks × Models σ cs) (clauses_of (assumptions ks ++ cs)) (lines_of r))
unfolding SoundBoth SoundBy
claim-is o s r = refl
