-- What the reader made of a text is a file: at once where it has no pol line, else in the larger table in which their clauses stand.
use mathlib.Core.Path.{◌≡◌, refl, sym, ap, ap₂, ◌∙◌}
use mathlib.Core.List.{List, [], ◌∷◌, ◌++◌}
use Prim.Native.Nat.{ℕ, zero, suc, ◌+◌, ◌≤◌, ◌<◌}
use native.Mathlib.Omega.{arith}
use lib.IntN.{ℤ}
use lib.ListN.{length}
use Rattle.calculus.specs.Limits.{max_nodes, pol_lines}
use Rattle.calculus.specs.Marks.{run}
use Rattle.calculus.specs.Terms.{Command}
use Rattle.nodes.specs.Nodes.{capacity, max_capacity, Table, Moved}
use Rattle.nodes.proofs.Tables.{children-length, moved_kids, moved_map, moved-table}
use Rattle.terms.specs.Names.{Names}
use Rattle.reader.specs.Commands.{word_at, clause_word, premises_word, arguments_word, part_at, command_of, commands_of, CommandIn, Commands}
use Rattle.reader.proofs.Words.{none-pol}
use Rattle.sums.specs.Places.{Rooms}
use Rattle.pol.specs.Stack.{stack_words}
use Rattle.lines.specs.Lines.{LinesReady, LinesRun}
use Rattle.checker.specs.Runs.{Taken, File, NoPols, Counted, command_lines}

-- ---- no pol line
module _ {s t w : List ℕ} {n m c p : ℕ} (T : Taken s t w n m c p) (none : p ≡ 0) where
  pub file-plain : File s t w n
  file-plain = record {
    nodes = m;
    children = c;
    table = T.table;
    firsts = T.firsts;
    named = T.named;
    commands = T.commands;
    indexed = T.indexed;
    clauses = λ j h e at C. absurd (none-pol s t w n (sym T.pols ∙ none) j h e);
  }

  pub no-pols : NoPols w n
  no-pols = none-pol s t w n (sym T.pols ∙ none)

pub counted_none : (s t w : List ℕ) (n : ℕ) (numbers : List ℕ) → NoPols w n → Counted s t w n numbers
counted_none s t w n numbers none j h e at C = absurd (none j h e)

-- ---- the tables in a larger one
module _ (s : List ℕ) {t u : List ℕ} (w : List ℕ) {m c : ℕ} (T : Table t m c) (M : Moved t u m c) (room : capacity t ≤ capacity u) where
  part_moved : (j i : ℕ) → word_at w j i + word_at w j (i + 1) ≤ c → part_at u w j i ≡ part_at t w j i
  unfolding part_at
  part_moved j i h =
      moved_kids M (word_at w j i) (word_at w j (i + 1)) h
      (children-length u (word_at w j i) (word_at w j (i + 1)) (omega (arith, T.used, T.few))
      ∙ sym (children-length t (word_at w j i) (word_at w j (i + 1)) (omega (arith, T.used, T.few))))

  command_moved : (j : ℕ) → CommandIn t w j m c → command_of s u w j ≡ command_of s t w j
  unfolding command_of
  command_moved j C =
      rw (
        part_moved j clause_word C.clause,
        part_moved j premises_word C.premises,
        part_moved j arguments_word C.arguments,
        moved_map T M room s (part_at t w j clause_word) C.terms,
        moved_map T M room s (part_at t w j arguments_word) C.given,
      ) refl

  in_moved : (j : ℕ) → CommandIn t w j m c → CommandIn u w j m c
  in_moved j C = record {
    kind = C.kind;
    one = C.one;
    clause = C.clause;
    premises = C.premises;
    arguments = C.arguments;
    terms = rw (part_moved j clause_word C.clause) C.terms;
    above = rw (part_moved j premises_word C.premises) C.above;
    given = rw (part_moved j arguments_word C.arguments) C.given;
  }

  pub all_moved : (k : ℕ) → ((j : ℕ) → j < k → CommandIn t w j m c) → commands_of s u w k ≡ commands_of s t w k
  unfolding commands_of
  all_moved zero C = refl
  all_moved (suc k) C = ap₂ (λ (cs : List Command) (d : Command). cs ++ (d ∷ [])) (all_moved k (λ j h. C j (omega arith))) (command_moved k (C k (omega arith)))

  commands-moved : {n : ℕ} → Commands s t w n m c → Commands s u w n m c
  commands-moved C = record {
    room = C.room;
    few = C.few;
    ids = C.ids;
    short = C.short;
    each = λ j h. in_moved j (C.each j h);
    pols = C.pols;
  }

-- ---- the arrays of pol lines
pub wide-rooms : {t : List ℕ} {cs : List ℤ} {ks sl : List ℕ} → length t ≡ 107264 → length cs ≡ 5152 → length ks ≡ 5152 → length sl ≡ 107264 → Rooms t cs ks sl
wide-rooms a b c d = record { coefficients = omega (arith, b); keys = omega (arith, c); slots = omega (arith, a, d) }

-- ---- pol lines
module _ {s t u w : List ℕ} {n m c p : ℕ} (T : Taken s t w n m c p) (M : Moved t u m c) (small : capacity t ≤ max_nodes) (wide : 26816 ≤ capacity u) where
  -- what the pass over them asks
  pub lines-ready : {y : List ℕ} {cs : List ℤ} {ks sl numbers : List ℕ} → capacity u ≤ max_capacity → Names s u y m → Rooms u cs ks sl → stack_words ≤ length cs → stack_words ≤ length ks → n ≤ length numbers → LinesReady s u w y cs ks sl numbers n m c
  lines-ready most N R a b d = record {
    text = T.text;
    table = moved-table T.table M (omega arith) most;
    names = N;
    commands = commands-moved s w T.table M (omega arith) T.commands;
    indexed = T.indexed;
    room =
        let e : pol_lines (commands_of s u w n) ≡ p = ap pol_lines (all_moved s w T.table M (omega arith) n T.commands.each) ∙ sym T.pols in
        omega (arith, e, T.few, T.table.few);
    rooms = R;
    coefficients = a;
    keys = b;
    answers = d;
  }

  -- what it leaves
  module _ {v x numbers : List ℕ} (R : LinesRun s u v w x numbers n) where
    pub file-run : File s v x n
    file-run = record {
      nodes = R.nodes;
      children = R.children;
      table = R.table;
      firsts = R.firsts;
      named = R.named;
      commands = R.commands;
      indexed = R.indexed;
      clauses = λ j h e. (R.lines j h e).clause;
    }

    pub counted-run : Counted s v x n numbers
    counted-run j h e = (R.lines j h e).number

    -- the lines are those of the tables as read
    pub lines-run : command_lines s v x n ≡ command_lines s t w n
    unfolding command_lines
    lines-run = ap (run []) (R.same n (omega arith) ∙ all_moved s w T.table M (omega arith) n T.commands.each)
