-- The answers of a file's commands: each is its line's, and stands in the slices behind those above.
use mathlib.Core.Path.{◌≡◌, refl, sym, ap, ◌∙◌}
use mathlib.Core.Bool.{Bool, true, false}
use mathlib.Core.List.{List}
use Prim.Native.Nat.{ℕ, zero, suc, ◌+◌, ◌-◌, ◌≤◌, ◌<◌}
use native.Mathlib.Omega.{arith}
use borrow.Author.Count.{below_more}
use lib.Dec.{eqb, eqb-suc-zero}
use lib.IntN.{ℤ}
use lib.ListN.{length, get_or, set, replicate, length-replicate}
use lib.Seq.{get_or-set_same, get_or-set_other}
use Rattle.std.specs.Prelude.{Result}
use Rattle.calculus.specs.Answers.{among, pol_numbers}
use Rattle.calculus.specs.Entries.{Inequality}
use Rattle.calculus.specs.Marks.{number_of, plain_of, line_at}
use Rattle.calculus.specs.Pol.{pol_result, given_answer}
use Rattle.calculus.specs.Terms.{Term, PolWord}
use Rattle.calculus.specs.Words.{Res, ok, bad}
use Rattle.calculus.specs.Limits.{max_nodes}
use Rattle.theorems.proofs.RefusedNumbers.{refused-pol}
use Rattle.nodes.specs.Nodes.{capacity}
use Rattle.nodes.proofs.Tables.{by-node}
use Rattle.matching.specs.Matched.{answer_of}
use Rattle.matching.specs.declared.Refusal.{Refusal}
use Rattle.reader.specs.Commands.{word_at, kind_word, pol_kind, pol_words_of}
use Rattle.sums.specs.Places.{Rooms}
use Rattle.steps.specs.Answers.{Given, StepIs}
use Rattle.steps.proofs.Stepping.{in_all}
use Rattle.checker.specs.Runs.{File, command_lines, command_line, NumberedBy, AnswerIs, AnswersAre}
use Rattle.checker.proofs.Lining.{assumed-answer, step-answer, pol-answer, clauses-above}

-- ---- a pol line's number
-- a refusal has one that is not 0
plain-number : (at : List ℕ → List Term) (ws : List PolWord) (r : Res Inequality) → pol_result at ws ≡ r → eqb (number_of (given_answer r)) 0 ≡ plain_of (given_answer r)
unfolding number_of plain_of given_answer among pol_numbers
plain-number at ws (ok q) e = refl
plain-number at ws (bad zero) e = absurd (refused-pol at ws 0 e)
plain-number at ws (bad (suc n)) e = eqb-suc-zero n

-- ---- one command
module _ {s t w : List ℕ} {n : ℕ} (f : File s t w n) where
  pub given-of : (k : ℕ) → k < n → 1 ≤ word_at w k kind_word → Given t w k
  given-of k h i = record {
    n = f.nodes;
    c = f.children;
    table = f.table;
    firsts = f.firsts;
    room = f.commands.room;
    few = omega (arith, f.commands.few);
    each = λ j g. f.commands.each j (omega arith);
    step = i;
  }

  -- an assumption is accepted
  pub by_assumption : (k : ℕ) → word_at w k kind_word ≡ 0 → ok true ≡ (command_line s t w k).answer
  by_assumption k e = sym (assumed-answer f k e)

  -- a step is answered by its rule
  pub by-step : (k : ℕ) (r : Result Bool Refusal) → k < n → 1 ≤ word_at w k kind_word → (word_at w k kind_word ≡ pol_kind → ⊥) → StepIs t w k r → answer_of r ≡ (command_line s t w k).answer
  unfolding given-of
  by-step k r h i other q =
      q (record { text = s; n = f.nodes; named = f.named }) (in_all (given-of k h i) f.nodes (omega arith))
      ∙ sym (step-answer f k (word_at w k kind_word - 1) h (omega arith) other)

  -- a pol line has its number before, and is plain where that is 0
  pub pol-number : (k number : ℕ) → k < n → word_at w k kind_word ≡ pol_kind → NumberedBy s t w k number → number ≡ number_of (command_line s t w k).answer
  pol-number k number h e g = g e (λ d. (line_at (command_lines s t w k) d).clause) (clauses-above f k (omega arith)) ∙ ap number_of (sym (pol-answer f k e))

  pub pol-plain : (k : ℕ) → word_at w k kind_word ≡ pol_kind → eqb (number_of (command_line s t w k).answer) 0 ≡ plain_of (command_line s t w k).answer
  pol-plain k e =
      ap (λ (a : Res Bool). eqb (number_of a) 0) (pol-answer f k e)
      ∙ plain-number (λ d. (line_at (command_lines s t w k) d).clause) (pol_words_of s w k) _ refl ∙ ap plain_of (sym (pol-answer f k e))

-- ---- the answers so far
-- the first places of a slice hold the values of g, and so does the next that is set
pub first_more : {A : Type 0} (l : List A) (d : A) (g : ℕ → A) (k : ℕ) (a : A) {m : List A} → ((j : ℕ) → j < k → get_or l j d ≡ g j) → k < length l → a ≡ g k → m ≡ set l k a
    → (j : ℕ) → j < k + 1 → get_or m j d ≡ g j
first_more {A} l d g k a {m} f h e q j i =
    by-node {i = j} {n = k} i
    (λ b. ap (λ (v : List A). get_or v j d) q ∙ get_or-set_other l k j a d (λ z. let v : ⊥ = omega (arith, z) in v) ∙ f j b)
    (λ z. ap (λ (v : List A). get_or v j d) q ∙ ap (λ (v : ℕ). get_or (set l k a) v d) z ∙ get_or-set_same l k a d h ∙ e ∙ ap g (sym z))

-- the numbers from k on are those that were there before
abbrev pub Left : (bs ns : List ℕ) (k : ℕ) → Type 0
Left bs ns k = (j : ℕ) → k ≤ j → get_or ns j 0 ≡ get_or bs j 0

pub left-more : (bs ns : List ℕ) (k a : ℕ) {ms : List ℕ} → Left bs ns k → ms ≡ set ns k a → Left bs ms (k + 1)
left-more bs ns k a L q j h = ap (λ (v : List ℕ). get_or v j 0) q ∙ get_or-set_other ns k j a 0 (λ z. let v : ⊥ = omega (arith, z) in v) ∙ L j (omega arith)

pub answers-more : (t w bs ns : List ℕ) (n : ℕ) (ps : List Bool) (k : ℕ) (r : Result Bool Refusal) {ms : List ℕ} {qs : List Bool} → AnswersAre t w n k bs ns ps → k < length ns → k < length ps → (word_at w k kind_word ≡ pol_kind → ⊥)
    → AnswerIs t w n k r → ms ≡ set ns k (number_of (answer_of r)) → qs ≡ set ps k (plain_of (answer_of r)) → AnswersAre t w n (k + 1) bs ms qs
answers-more t w bs ns n ps k r A g h o e m q s f c =
    let (numbers, plains) = A s f c in (
      first_more ns 0 (λ (j : ℕ). number_of (command_line s t w j).answer) k (number_of (answer_of r)) numbers g (ap number_of (e s f o)) m,
      first_more ps false (λ (j : ℕ). plain_of (command_line s t w j).answer) k (plain_of (answer_of r)) plains h (ap plain_of (e s f o)) q,
    )

-- behind a pol line, of which the number stands there
pub pols-more : (t w bs ns : List ℕ) (n : ℕ) (ps : List Bool) (k : ℕ) {qs : List Bool} → AnswersAre t w n k bs ns ps → get_or ns k 0 ≡ get_or bs k 0 → k < n → k < length ps → word_at w k kind_word ≡ pol_kind
    → qs ≡ set ps k (eqb (get_or ns k 0) 0) → AnswersAre t w n (k + 1) bs ns qs
pols-more t w bs ns n ps k A z i h e q s f c =
    let (numbers, plains) = A s f c in
    let number : get_or ns k 0 ≡ number_of (command_line s t w k).answer = z ∙ pol-number f k (get_or bs k 0) i e (c k i) in (
      below_more (λ (j : ℕ). get_or ns j 0 ≡ number_of (command_line s t w j).answer) k numbers number,
      first_more ps false (λ (j : ℕ). plain_of (command_line s t w j).answer) k (eqb (get_or ns k 0) 0) plains h (ap (λ (m : ℕ). eqb m 0) number ∙ pol-plain f k e) q,
    )

pub answers-all : (t w bs ns : List ℕ) (n : ℕ) (ps : List Bool) (k : ℕ) → AnswersAre t w n k bs ns ps → n ≤ k → AnswersAre t w n n bs ns ps
answers-all t w bs ns n ps k A h s f c = let (numbers, plains) = A s f c in (λ j i. numbers j (omega arith), λ j i. plains j (omega arith))

-- ---- the room of every sum
pub rooms-of : (t : List ℕ) (z : ℤ) (a b : ℕ) → capacity t ≤ max_nodes → Rooms t (replicate 3072 z) (replicate 3072 a) (replicate 16384 b)
rooms-of t z a b h = record {
  coefficients = omega (arith, length-replicate 3072 z);
  keys = omega (arith, length-replicate 3072 a);
  slots = omega (arith, length-replicate 16384 b);
}
