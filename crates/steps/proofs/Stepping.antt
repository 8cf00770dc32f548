-- What a rule is given of a step follows from what the reader publishes of its command and of those above it.
use mathlib.Core.Path.{◌≡◌, sym, subst}
use mathlib.Core.Bool.{Bool}
use mathlib.Core.List.{List}
use Prim.Native.Nat.{ℕ, ◌+◌, ◌-◌, ◌≤◌, ◌<◌}
use native.Mathlib.Omega.{arith}
use lib.IntN.{ℤ}
use lib.ListN.{length, get_or}
use Rattle.std.specs.Prelude.{Result}
use Rattle.calculus.specs.Limits.{max_commands}
use Rattle.nodes.specs.Nodes.{Below, Table, Firsts}
use Rattle.nodes.proofs.Tables.{below_at}
use Rattle.matching.specs.declared.Refusal.{Refusal}
use Rattle.matching.specs.Matched.{AllNodes}
use Rattle.normalize.specs.Lists.{Room as Lines}
use Rattle.reader.specs.Commands.{all_words, word_at, kind_word, clause_word, premises_word, arguments_word, part_at}
use Rattle.sums.specs.Places.{Rooms}
use Rattle.links.specs.Steps.{AllUnder, Part, Clause, Step, In}
use Rattle.steps.specs.Answers.{Given, NumberIs, StepIs}

-- ---- what is published of a table
module _ {t : List ℕ} {n c : ℕ} (table : Table t n c) where
  -- child words in use are a part of it
  pub part-used : {w : List ℕ} (i j : ℕ) → all_words ≤ length w → i < max_commands → j ≤ arguments_word → word_at w i j + word_at w i (j + 1) ≤ c → Part t w i j
  part-used i j r f h m = record { words = omega arith; inside = omega (arith, table.room, table.few, table.used) }

  -- what is below the nodes in use is a node
  pub nodes-used : Firsts t n → (l : List ℕ) → Below n l → AllNodes t l
  nodes-used firsts l b i h = record { n = n; c = c; table = table; firsts = firsts; below = below_at l i b h }

-- ---- what is given of a step
module _ {t w : List ℕ} {k : ℕ} (g : Given t w k) where
  part_in : (i j : ℕ) → i ≤ k → j ≤ arguments_word → word_at w i j + word_at w i (j + 1) ≤ g.c → Part t w i j
  part_in i j l h m = part-used g.table i j g.room (omega (arith, g.few)) h m

  pub clause-in : Part t w k clause_word
  clause-in = part_in k clause_word (omega arith) (omega arith) (g.each k (omega arith)).clause

  pub premises-in : Part t w k premises_word
  premises-in = part_in k premises_word (omega arith) (omega arith) (g.each k (omega arith)).premises

  pub arguments-in : Part t w k arguments_word
  arguments-in = part_in k arguments_word (omega arith) (omega arith) (g.each k (omega arith)).arguments

  -- the clause of a command above
  clause-of : (j : ℕ) → j ≤ k → Clause t w j
  clause-of j h = record {
    part = part_in j clause_word h (omega arith) (g.each j h).clause;
    terms = nodes-used g.table g.firsts (part_at t w j clause_word) (g.each j h).terms;
  }

  above : (i : ℕ) → i < length (part_at t w k premises_word) → get_or (part_at t w k premises_word) i 0 ≤ k
  above i h = omega (arith, below_at (part_at t w k premises_word) i (g.each k (omega arith)).above h)

  step_given : Step t w (part_at t w k premises_word) (part_at t w k arguments_word)
  step_given = record {
    premises = λ i h. clause-of (get_or (part_at t w k premises_word) i 0) (above i h);
    arguments = nodes-used g.table g.firsts (part_at t w k arguments_word) (g.each k (omega arith)).given;
  }

  pub step_in : (ps xs : List ℕ) → ps ≡ part_at t w k premises_word → xs ≡ part_at t w k arguments_word → Step t w ps xs
  step_in ps xs e f = subst (λ (p : List ℕ). Step t w p xs) (sym e) (subst (λ (a : List ℕ). Step t w (part_at t w k premises_word) a) (sym f) step_given)

  pub conclusion-in : (cs : List ℕ) → cs ≡ part_at t w k clause_word → AllNodes t cs
  conclusion-in cs e = subst (AllNodes t) (sym e) (clause-of k (omega arith)).terms

  under : (m : ℕ) → g.n ≤ m → (l : List ℕ) → Below g.n l → AllUnder m l
  under m h l b i j = omega (arith, below_at l i b j)

  -- every term of the step stands before the end of the nodes in use
  pub in_all : (m : ℕ) → g.n ≤ m → In m t w (part_at t w k premises_word) (part_at t w k arguments_word) (part_at t w k clause_word)
  in_all m h = record {
    premises = λ i j. under m h (part_at t w (get_or (part_at t w k premises_word) i 0) clause_word) (g.each (get_or (part_at t w k premises_word) i 0) (above i j)).terms;
    arguments = under m h (part_at t w k arguments_word) (g.each k (omega arith)).given;
    conclusion = under m h (part_at t w k clause_word) (g.each k (omega arith)).terms;
  }

-- ---- the arrays of normalization
pub lines-in : {t : List ℕ} {cs : List ℤ} {ks sl : List ℕ} → Rooms t cs ks sl → Lines cs ks
lines-in r = record { coeffs = omega (arith, r.coefficients); keys = omega (arith, r.keys) }

-- ---- the answer over the parts is the step's
pub step_is : (t w : List ℕ) (k number : ℕ) (ps xs cs : List ℕ) (r : Result Bool Refusal) → ps ≡ part_at t w k premises_word → xs ≡ part_at t w k arguments_word → cs ≡ part_at t w k clause_word → number ≡ word_at w k kind_word → NumberIs (number - 1) t w ps xs cs r → StepIs t w k r
step_is t w k number ps xs cs r e f h i q =
    subst (λ (n : ℕ). NumberIs (n - 1) t w (part_at t w k premises_word) (part_at t w k arguments_word) (part_at t w k clause_word) r) i
    (subst (λ (c : List ℕ). NumberIs (number - 1) t w (part_at t w k premises_word) (part_at t w k arguments_word) c r) h
    (subst (λ (a : List ℕ). NumberIs (number - 1) t w (part_at t w k premises_word) a cs r) f
    (subst (λ (p : List ℕ). NumberIs (number - 1) t w p xs cs r) e q)))
