-- All pol lines of a file (02, No. 2): what the pass over them asks, and what it leaves. The clause of each stands in the table as that of any command.
use Rattle.std.specs.Prelude.{◌≡◌, List, [], map, ℕ, ◌+◌, ◌-◌, ◌*◌, ◌≤◌, ◌<◌, ℤ, length, get_or}
use Rattle.integer.specs.Integers.{Within}
use Rattle.calculus.specs.Entries.{Inequality}
use Rattle.calculus.specs.Limits.{max_commands, pol_lines}
use Rattle.calculus.specs.Marks.{number_of}
use Rattle.calculus.specs.OpbWriting.{entries_of}
use Rattle.calculus.specs.Pol.{max_literals, pol_result, finished, given_clause, given_answer}
use Rattle.calculus.specs.Terms.{Term}
use Rattle.calculus.specs.Words.{max_numeral}
use Rattle.nodes.specs.Nodes.{capacity, children_at, decode, Below, Table, Firsts, Named}
use Rattle.terms.specs.Index.{Indexed}
use Rattle.terms.specs.Names.{Names}
use Rattle.terms.specs.Reading.{Grown}
use Rattle.terms.specs.Spans.{max_joined}
use Rattle.opb.specs.Summands.{summands_of, SummandsIn}
use Rattle.reader.specs.Commands.{id_words, id_index, word_at, kind_word, clause_word, part_at, pol_kind, one_pol, pol_words_of, commands_of, Commands}
use Rattle.sums.specs.Lists.{res_of}
use Rattle.sums.specs.Places.{Rooms}
use Rattle.pol.specs.Stack.{stack_words}
use Rattle.lines.specs.Running.{ClausesAre, max_names}
use Rattle.lines.specs.declared.Left.{Left}
use Rattle.lines.specs.declared.Ran.{Ran}

-- the most nodes of a line's clause: 64 summands, their sum, its constant and `>=`
abbrev pub clause_nodes : ℕ
clause_nodes = 323

-- pol line j: its clause stands in the table t by the words w, and its number among the numbers
pub record LineIs (s t w numbers : List ℕ) (j : ℕ) : Type 0 where
  pub clause : (at : List ℕ → List Term) → ClausesAre at s t w j → map (decode s t) (part_at t w j clause_word) ≡ given_clause (pol_result at (pol_words_of s w j))
  pub number : (at : List ℕ → List Term) → ClausesAre at s t w j → get_or numbers j 0 ≡ number_of (given_answer (pol_result at (pol_words_of s w j)))

-- ---- one line
-- the words of line k were run and its names are out of the index again: what is left are summand words and a constant, or its number
pub record LeftIs (s t u w y a : List ℕ) (k n : ℕ) (r : Left) : Type 0 where
  pub is : (at : List ℕ → List Term) → ClausesAre at s t w k
      → (q : Inequality) × (pol_result at (pol_words_of s w k) ≡ res_of r.number q) × (r.number ≡ 0 → ((finished q).sum ≡ entries_of (summands_of s a r.count)) × (q.const ≡ r.constant))
  pub grown : (c : ℕ) → Table t n c → Grown s t u y n c n c
  pub summands : r.number ≡ 0 → SummandsIn s a r.count × (r.count ≤ max_literals) × Within max_numeral r.constant

-- line k was run behind n nodes and c child words: its clause is the last child word, or it has a number and no clause
pub record LineRun (s t u w y : List ℕ) (k n c : ℕ) (r : Ran) : Type 0 where
  pub grown : Grown s t u y n c r.nodes r.children
  pub small : r.nodes ≤ n + clause_nodes
  pub number : (at : List ℕ → List Term) → ClausesAre at s t w k → r.number ≡ number_of (given_answer (pol_result at (pol_words_of s w k)))
  pub clause : r.number ≡ 0 → (at : List ℕ → List Term) → ClausesAre at s t w k → map (decode s u) (children_at u (r.children - 1) 1) ≡ given_clause (pol_result at (pol_words_of s w k))
  pub below : r.number ≡ 0 → Below r.nodes (children_at u (r.children - 1) 1)
  pub some : r.number ≡ 0 → 1 ≤ r.children
  pub refused : (r.number ≡ 0 → ⊥) → (at : List ℕ → List Term) → ClausesAre at s t w k → given_clause (pol_result at (pol_words_of s w k)) ≡ []

-- ---- the words of a command
-- the words x are w but for the clause of command k
pub record Reworded (w x : List ℕ) (k : ℕ) : Type 0 where
  pub long : length x ≡ length w
  pub ids : (j : ℕ) → j < id_words → get_or x j 0 ≡ get_or w j 0
  pub index : (j : ℕ) → id_index ≤ j → get_or x j 0 ≡ get_or w j 0
  pub others : (j i : ℕ) → j < max_commands → i < 7 → (j ≡ k → ⊥) → word_at x j i ≡ word_at w j i
  pub kept : (i : ℕ) → i < 7 → (i ≡ clause_word → ⊥) → (i ≡ clause_word + 1 → ⊥) → word_at x k i ≡ word_at w k i

-- which is b child words from number a on
pub record PartPut (w x : List ℕ) (k a b : ℕ) : Type 0 where
  pub words : Reworded w x k
  pub first : word_at x k clause_word ≡ a
  pub count : word_at x k (clause_word + 1) ≡ b

-- command k was run behind n nodes and c child words: a pol line has its clause and its number, any other command is as it was
pub record CommandRun (s t u w x y numbers news : List ℕ) (k n c : ℕ) (r : Ran) : Type 0 where
  pub grown : Grown s t u y n c r.nodes r.children
  pub words : Reworded w x k
  pub other : (word_at w k kind_word ≡ pol_kind → ⊥) → (i : ℕ) → i < 7 → word_at x k i ≡ word_at w k i
  pub inside : word_at w k kind_word ≡ pol_kind → word_at x k clause_word + word_at x k (clause_word + 1) ≤ r.children
  pub below : word_at w k kind_word ≡ pol_kind → Below r.nodes (part_at u x k clause_word)
  pub clause : word_at w k kind_word ≡ pol_kind → (at : List ℕ → List Term) → ClausesAre at s t w k → map (decode s u) (part_at u x k clause_word) ≡ given_clause (pol_result at (pol_words_of s w k))
  pub number : word_at w k kind_word ≡ pol_kind → (at : List ℕ → List Term) → ClausesAre at s t w k → get_or news k 0 ≡ number_of (given_answer (pol_result at (pol_words_of s w k)))
  pub numbers-same : (j : ℕ) → (j ≡ k → ⊥) → get_or news j 0 ≡ get_or numbers j 0
  pub long : length news ≡ length numbers
  pub small : r.nodes ≤ n + clause_nodes * one_pol (word_at w k kind_word)

-- ---- what the pass asks
-- all commands stand in the tables t and w, with n nodes and c child words in use, and there is room for what pol lines leave
pub record LinesReady (s t w y : List ℕ) (cs : List ℤ) (ks sl numbers : List ℕ) (all n c : ℕ) : Type 0 where
  pub text : length s ≤ max_joined
  pub table : Table t n c
  pub names : Names s t y n
  pub commands : Commands s t w all n c
  pub indexed : Indexed s w id_index all
  pub room : n + clause_nodes * pol_lines (commands_of s t w all) + max_names ≤ capacity t
  pub rooms : Rooms t cs ks sl
  pub coefficients : stack_words ≤ length cs
  pub keys : stack_words ≤ length ks
  pub answers : all ≤ length numbers

-- ---- what it leaves
-- the tables t and w became u and x: the same commands, and each pol line with its clause and its number
pub record LinesRun (s t u w x numbers : List ℕ) (all : ℕ) : Type 0 where
  pub nodes : ℕ
  pub children : ℕ
  pub table : Table u nodes children
  pub firsts : Firsts u nodes
  pub named : Named s u nodes
  pub commands : Commands s u x all nodes children
  pub same : (k : ℕ) → k ≤ all → commands_of s u x k ≡ commands_of s t w k
  pub ids : (j : ℕ) → j < 2 * all → get_or x j 0 ≡ get_or w j 0
  pub indexed : Indexed s x id_index all
  pub lines : (j : ℕ) → j < all → word_at x j kind_word ≡ pol_kind → LineIs s u x numbers j
