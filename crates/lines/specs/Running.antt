-- What is known while a pol line runs (02, No. 2), and what its parts answer: word by word, the whole line, all lines of a file.
use Rattle.std.specs.Prelude.{◌≡◌, Result, Ok, Err, Bool, false, cond, ◌||◌, List, [], ◌∷◌, map, ℕ, ◌+◌, ◌≤◌, ◌<◌, T, ℤ, length}
use Rattle.calculus.specs.Commands.{enough}
use Rattle.calculus.specs.Entries.{Lit, Inequality}
use Rattle.calculus.specs.Grammar.{got}
use Rattle.calculus.specs.Pol.{pol_step, pol_result}
use Rattle.calculus.specs.PolGrammar.{words_at}
use Rattle.calculus.specs.Sums.{has}
use Rattle.calculus.specs.Terms.{Term, PolWord, plain_word, negated_word}
use Rattle.nodes.specs.Nodes.{decode, Table}
use Rattle.terms.specs.Names.{Names}
use Rattle.terms.specs.Reading.{Grown}
use Rattle.terms.specs.Spans.{max_joined, string_at}
use Rattle.wider.specs.Widening.{AllFirst}
use Rattle.reader.specs.Commands.{word_at, clause_word, part_at, above_in}
use Rattle.reader.specs.Reading.{Ids}
use Rattle.links.specs.Steps.{AllUnder, Clause}
use Rattle.lexer.specs.declared.Fault.{Fault}
use Rattle.heads.specs.PolHeads.{pol_word_of, PolHeadIn}
use Rattle.heads.specs.declared.PolHead.{PolHead}
use Rattle.heads.specs.declared.PolHead.TheVariants.{Plain, Negated, Add, Saturate, Times, Over}
use Rattle.sums.specs.Lists.{res_of}
use Rattle.sums.specs.Places.{Rooms}
use Rattle.pol.specs.Stack.{window, inequality_of, stack_of, Stack, StackUnder}
use Rattle.lines.specs.declared.Worked.{Worked}

-- ---- the commands above
-- the ids of all commands stand in w; k of them are above, and their clauses are terms among n nodes and c child words of the table t
pub record Above (s t w : List ℕ) (all k n c : ℕ) : Type 0 where
  pub ids : Ids s w all
  pub few : k ≤ all
  pub clauses : (j : ℕ) → j < k → Clause t w j
  pub inside : (j : ℕ) → j < k → word_at w j clause_word + word_at w j (clause_word + 1) ≤ c
  pub under : (j : ℕ) → j < k → AllUnder n (part_at t w j clause_word)

-- `at` gives their clauses
abbrev pub ClausesAre : (at : List ℕ → List Term) (s t w : List ℕ) (k : ℕ) → Type 0
ClausesAre at s t w k = (j : ℕ) → j < k → at (string_at s w j) ≡ map (decode s t) (part_at t w j clause_word)

-- ---- literals on the stack
-- one of its entries has the literal k
unfoldable pub held_in : Lit → List Inequality → Bool
held_in k [] = false
held_in k (q ∷ S) = has k q.sum || held_in k S

-- each of the nodes from n on has one, where f gives the term of a node
abbrev pub AllHeld : (f : ℕ → Term) (cs : List ℤ) (ks : List ℕ) (n m d : ℕ) → Type 0
AllHeld f cs ks n m d = (k : ℕ) → n ≤ k → k < m → (b : Bool) × T (held_in (record { variable = f k; negated = b }) (stack_of f cs ks d))

-- ---- the stack over a table that grows
-- d entries stand in the arrays, over m nodes and c child words that are in use
pub record Running (s t y : List ℕ) (cs : List ℤ) (ks sl : List ℕ) (m c d : ℕ) : Type 0 where
  pub text : length s ≤ max_joined
  pub table : Table t m c
  pub names : Names s t y m
  pub stack : Stack t cs ks d
  pub under : StackUnder m ks d
  pub rooms : Rooms t cs ks sl

-- a line runs below k of all commands
pub record Going (s t w y : List ℕ) (cs : List ℤ) (ks sl : List ℕ) (all k m d : ℕ) : Type 0 where
  pub c : ℕ
  pub running : Running s t y cs ks sl m c d
  pub above : Above s t w all k m c

-- the table t with m nodes in use became u with l, of which the new ones are names that no node had
pub record Longer (s t u y : List ℕ) (m l : ℕ) : Type 0 where
  pub grown : (c : ℕ) → Table t m c → Grown s t u y m c l c
  pub first : AllFirst u m l

-- ---- what is answered
-- the word of a literal over the name x
unfoldable pub literal_word : Bool → List ℕ → PolWord
literal_word b x = cond b (negated_word x) (plain_word x)

-- the head is the word of a literal, up to byte `to`
abbrev pub LiteralHead : (s w : List ℕ) (k : ℕ) (head : PolHead) (b : Bool) (x : List ℕ) (to : ℕ) → Type 0
LiteralHead s w k head b x to = (n : ℕ) → pol_word_of (above_in s w k) s n head ≡ got (literal_word b x) to n

-- a word of the text was done: the machine's answer, and where it is no number the stack goes on
pub record WordDone (s t u w y : List ℕ) (k : ℕ) (head : PolHead) (cs : List ℤ) (ks : List ℕ) (m d : ℕ) (ds : List ℤ) (ls tl : List ℕ) (r : Worked) : Type 0 where
  pub is : (at : List ℕ → List Term) → ClausesAre at s t w k → (x : PolWord) (next n : ℕ) → pol_word_of (above_in s w k) s n head ≡ got x next n
      → pol_step at x (stack_of (decode s t) cs ks d) ≡ res_of r.number (stack_of (decode s u) ds ls r.entries)
  pub longer : Longer s t u y m r.nodes
  pub held : r.number ≡ 0 → (n : ℕ) → AllHeld (decode s t) cs ks n m d → AllHeld (decode s u) ds ls n r.nodes r.entries
  pub running : (c : ℕ) → Table t m c → r.number ≡ 0 → Running s u y ds ls tl r.nodes c r.entries

-- the literal over the name x was done, whatever head it has
abbrev pub LiteralDone : (s t u y : List ℕ) (b : Bool) (x : List ℕ) (cs : List ℤ) (ks : List ℕ) (m d : ℕ) (ds : List ℤ) (ls sl : List ℕ) → Worked → Type 0
LiteralDone s t u y b x cs ks m d ds ls sl r = (w : List ℕ) (k to : ℕ) (head : PolHead) → LiteralHead s w k head b x to → WordDone s t u w y k head cs ks m d ds ls sl r

-- its parts lie in the text
abbrev pub HeadIn : List ℕ → PolHead → Type 0
HeadIn s head = (at : ℕ) × PolHeadIn s at (Ok head)

-- the same of a stack that runs with some slots and some child words
abbrev pub Runs : (s t y : List ℕ) (cs : List ℤ) (ks : List ℕ) (m d : ℕ) → Type 0
Runs s t y cs ks m d = (c : ℕ) × (sl : List ℕ) × Running s t y cs ks sl m c d

abbrev pub LiteralRun : (s t u y z : List ℕ) (b : Bool) (x : List ℕ) (cs : List ℤ) (ks : List ℕ) (m d : ℕ) (ds : List ℤ) (ls : List ℕ) → Worked → Type 0
LiteralRun s t u y z b x cs ks m d ds ls r = (c : ℕ) (sl : List ℕ) → Running s t y cs ks sl m c d → LiteralDone s t u z b x cs ks m d ds ls sl r

-- ---- a line
-- where the text goes on behind a head
abbrev pub behind_of : PolHead → ℕ
behind_of (Plain p t) = t
behind_of (Negated p t) = t
behind_of (Add t) = t
behind_of (Saturate t) = t
behind_of (Times m v t) = t
behind_of (Over m v t) = t

-- behind a word; 0 where none stands
abbrev pub behind_word : Result PolHead Fault → ℕ
behind_word (Ok head) = behind_of head
behind_word (Err fault) = 0

-- room for the names that a line can bring: one for each literal on the stack
abbrev pub max_names : ℕ
max_names = 2048

-- the words from byte `from` on were run, over n nodes: what the machine leaves of them, in entry 0, or its number
pub record WordsRun (s t u w y : List ℕ) (k from n : ℕ) (ds : List ℤ) (ls : List ℕ) (r : Worked) : Type 0 where
  pub is : (at : List ℕ → List Term) → ClausesAre at s t w k → (ws : List PolWord) (e m : ℕ) → words_at enough (above_in s w k) s from 0 ≡ got ws e m
      → pol_result at ws ≡ res_of r.number (inequality_of (decode s u) (window 0 ds) (window 0 ls))
  pub longer : Longer s t u y n r.nodes
  pub stack : r.number ≡ 0 → Stack u ds ls 1 × StackUnder r.nodes ls 1
