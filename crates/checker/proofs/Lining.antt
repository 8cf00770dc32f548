-- The lines of a file in the reader's tables: each is that of its command, and a cited premise is found by its id.
use mathlib.Core.Path.{◌≡◌, refl, sym, ap, ap₂, subst, ◌∙◌}
use mathlib.Core.Bool.{Bool, true, false, not, ◌&&◌, ◌||◌, or_assoc, or-false}
use mathlib.Core.List.{List, [], ◌∷◌, ◌++◌, map}
use Prim.Native.Nat.{ℕ, zero, suc, ◌+◌, ◌≤◌, ◌<◌}
use native.Mathlib.Decide.{ℕ_discrete}
use native.Mathlib.Nat.{not-suc-le-zero}
use native.Mathlib.Omega.{arith}
use lib.Dec.{T, ltb, ltb→lt, nltb→le}
use lib.IntN.{pos}
use lib.ListN.{length, get_or, length-append, get_or-append}
use Rattle.calculus.specs.Greatest.{unreachable}
use Rattle.calculus.specs.Marks.{Line, line_of, run, no_line, pick, line_at, clauses_at, all_hold, pol_answer, refuted_by, apply_rule, plain_of}
use Rattle.calculus.specs.Pol.{pol_result, given_answer, pushed_ids}
use Rattle.calculus.specs.Terms.{Term, num, Command, assume, step, pol, id_of, same_name}
use Rattle.calculus.specs.Truth.{is_statement}
use Rattle.calculus.specs.Words.{ok}
use Rattle.calculus.proofs.Booleans.{is_true}
use Rattle.calculus.proofs.TermLaws.{same_name_refl}
use Rattle.heads.specs.Heads.{rule_named}
use Rattle.nodes.specs.Nodes.{decode, Below}
use Rattle.nodes.proofs.Tables.{children-length, by-node}
use Rattle.reader.specs.Commands.{command_of, commands_of, word_at, kind_word, clause_word, premises_word, arguments_word, part_at, pol_kind, pol_words_of, command_as}
use Rattle.reader.proofs.Words.{command-pol, command-other, command-id}
use Rattle.lines.specs.Running.{ClausesAre}
use Rattle.links.specs.Steps.{clauses}
use Rattle.ending.proofs.Naming.{other_name}
use Rattle.terms.specs.Spans.{string_at}
use Rattle.checker.specs.Runs.{File, command_lines, command_line, HoldBy, Marked, all_marked}

-- ---- one line more
run-append : (ls : List Line) (cs : List Command) (c : Command) → run ls (cs ++ (c ∷ [])) ≡ run ls cs ++ (line_of (run ls cs) c ∷ [])
unfolding run
run-append ls [] c = refl
run-append ls (d ∷ cs) c = run-append (ls ++ (line_of ls d ∷ [])) cs c

-- the last of a list
get_or-last : (ls : List Line) (l : Line) → get_or (ls ++ (l ∷ [])) (length ls) no_line ≡ l
get_or-last [] l = refl
get_or-last (m ∷ ls) l = get_or-last ls l

module _ (s t w : List ℕ) where
  pub lines_none : command_lines s t w 0 ≡ []
  unfolding command_lines commands_of run
  lines_none = refl

  pub lines_more : (k : ℕ) → command_lines s t w (suc k) ≡ command_lines s t w k ++ (command_line s t w k ∷ [])
  unfolding command_lines command_line commands_of
  lines_more k = run-append [] (commands_of s t w k) (command_of s t w k)

  pub lines_long : (k : ℕ) → length (command_lines s t w k) ≡ k
  lines_long zero = ap length lines_none
  lines_long (suc k) =
      ap length (lines_more k) ∙ length-append (command_lines s t w k) (command_line s t w k ∷ []) ∙ omega (arith, lines_long k)

  -- line j of the first k
  pub line_in : (k j : ℕ) → j < k → get_or (command_lines s t w k) j no_line ≡ command_line s t w j
  line_in zero j h = absurd (not-suc-le-zero h)
  line_in (suc k) j h = ap (λ (ls : List Line). get_or ls j no_line) (lines_more k) ∙ go (ltb j k) (ltb→lt j k) (nltb→le j k) (line_in k j)
    where
      go : (b : Bool) → (T b → j < k) → (T (not b) → k ≤ j) → (j < k → get_or (command_lines s t w k) j no_line ≡ command_line s t w j)
          → get_or (command_lines s t w k ++ (command_line s t w k ∷ [])) j no_line ≡ command_line s t w j
      go true f g ih = get_or-append (command_lines s t w k) (command_line s t w k ∷ []) no_line j (omega (arith, f tt, lines_long k)) ∙ ih (f tt)
      go false f g ih =
          let e : j ≡ k = omega (arith, g tt) in
          ap (λ (i : ℕ). get_or (command_lines s t w k ++ (command_line s t w k ∷ [])) i no_line) (e ∙ sym (lines_long k))
          ∙ get_or-last (command_lines s t w k) (command_line s t w k)
          ∙ ap (λ (i : ℕ). command_line s t w i) (sym e)

-- ---- the line of an id: the first that has it
line-found : (ls : List Line) (d : List ℕ) (j : ℕ) → j < length ls → ((i : ℕ) → i < j → same_name (get_or ls i no_line).id d ≡ false) → same_name (get_or ls j no_line).id d ≡ true
    → line_at ls d ≡ get_or ls j no_line
unfolding line_at
line-found [] d j h g e = absurd (not-suc-le-zero h)
line-found (l ∷ ls) d zero h g e = ap (λ (b : Bool). pick b l (line_at ls d)) e
line-found (l ∷ ls) d (suc j) h g e = ap (λ (b : Bool). pick b l (line_at ls d)) (g 0 (omega arith)) ∙ line-found ls d j (omega arith) (λ i k. g (suc i) (omega arith)) e

-- ---- a line's parts
-- an assumption's one term is its clause
one-term : (f : ℕ → Term) (l : List ℕ) → length l ≡ 1 → get_or (map f l) 0 (num (pos 0)) ∷ [] ≡ map f l
one-term f [] e = let z : ⊥ = omega arith in absurd z
one-term f (x ∷ []) e = refl
one-term f (x ∷ (y ∷ l)) e = let z : ⊥ = omega arith in absurd z

first-term : (f : ℕ → Term) (l : List ℕ) → length l ≡ 1 → get_or (map f l) 0 (num (pos 0)) ≡ f (get_or l 0 0)
first-term f [] e = let z : ⊥ = omega arith in absurd z
first-term f (x ∷ l) e = refl

line-id : (ls : List Line) (c : Command) → (line_of ls c).id ≡ id_of c
unfolding line_of id_of
line-id ls (assume d x) = refl
line-id ls (step d c r ds xs) = refl
line-id ls (pol d ws) = refl

line-clause : (ls : List Line) (d : List ℕ) (kind : ℕ) (f : ℕ → Term) (l : List ℕ) (ds : List (List ℕ)) (xs : List Term) → (kind ≡ 0 → length l ≡ 1)
    → (line_of ls (command_as d kind (map f l) ds xs)).clause ≡ map f l
unfolding line_of command_as
line-clause ls d zero f l ds xs h = one-term f l (h refl)
line-clause ls d (suc r) f l ds xs h = refl

module _ {s t w : List ℕ} {n : ℕ} (f : File s t w n) where
  -- its clause has one term where it is an assumption
  pub clause-one : (j : ℕ) → j < n → word_at w j kind_word ≡ 0 → length (part_at t w j clause_word) ≡ 1
  unfolding part_at
  clause-one j h e =
      let i = f.commands.each j h in
      children-length t (word_at w j clause_word) (word_at w j (clause_word + 1)) (omega (arith, f.table.room, f.table.few, f.table.used, i.clause))
      ∙ i.one e

  pub id-is : (j : ℕ) → (command_line s t w j).id ≡ string_at s w j
  unfolding command_line
  id-is j = line-id (command_lines s t w j) (command_of s t w j) ∙ command-id s t w j

  -- its line by its kind
  line-pol : (k : ℕ) → word_at w k kind_word ≡ pol_kind → command_line s t w k ≡ line_of (command_lines s t w k) (pol (string_at s w k) (pol_words_of s w k))
  unfolding command_line
  line-pol k e = ap (line_of (command_lines s t w k)) (command-pol s t w k e)

  line_other : (k : ℕ) → (word_at w k kind_word ≡ pol_kind → ⊥) → command_line s t w k
      ≡ line_of (command_lines s t w k) (command_as (string_at s w k) (word_at w k kind_word) (map (decode s t) (part_at t w k clause_word))
      (map (string_at s w) (part_at t w k premises_word)) (map (decode s t) (part_at t w k arguments_word)))
  unfolding command_line
  line_other k e = ap (line_of (command_lines s t w k)) (command-other s t w k e)

  -- ---- a cited premise
  pub line-cited : (k j : ℕ) → k ≤ n → j < k → line_at (command_lines s t w k) (string_at s w j) ≡ command_line s t w j
  line-cited k j a h =
      line-found (command_lines s t w k) (string_at s w j) j (omega (arith, lines_long s t w k)) others
      (ap (λ (l : Line). same_name l.id (string_at s w j)) (line_in s t w k j h) ∙ ap (λ (d : List ℕ). same_name d (string_at s w j)) (id-is j) ∙ is_true (same_name (string_at s w j) (string_at s w j)) (same_name_refl (string_at s w j)))
      ∙ line_in s t w k j h
    where
      others : (i : ℕ) → i < j → same_name (get_or (command_lines s t w k) i no_line).id (string_at s w j) ≡ false
      others i g =
          ap (λ (l : Line). same_name l.id (string_at s w j)) (line_in s t w k i (omega arith))
          ∙ ap (λ (d : List ℕ). same_name d (string_at s w j)) (id-is i)
          ∙ other_name (string_at s w i) (string_at s w j) (f.indexed.apart j (omega arith) i g)

  -- ---- clauses
  -- they are the table's, from above to below: that of a pol line by those above it
  pol-clause : (k : ℕ) → k < n → word_at w k kind_word ≡ pol_kind → ((j : ℕ) → j < k → (command_line s t w j).clause ≡ map (decode s t) (part_at t w j clause_word)) → (command_line s t w k).clause ≡ map (decode s t) (part_at t w k clause_word)
  unfolding line_of pol_answer
  pol-clause k h e g =
      ap (λ (l : Line). l.clause) (line-pol k e)
      ∙ sym (f.clauses k h e (λ d. (line_at (command_lines s t w k) d).clause) (λ j i. ap (λ (l : Line). l.clause) (line-cited k j (omega arith) i) ∙ g j i))

  other-clause : (k : ℕ) → k < n → (word_at w k kind_word ≡ pol_kind → ⊥) → (command_line s t w k).clause ≡ map (decode s t) (part_at t w k clause_word)
  other-clause k h e =
      ap (λ (l : Line). l.clause) (line_other k e)
      ∙ line-clause (command_lines s t w k) (string_at s w k) (word_at w k kind_word) (decode s t) (part_at t w k clause_word)
      (map (string_at s w) (part_at t w k premises_word)) (map (decode s t) (part_at t w k arguments_word)) (clause-one k h)

  clauses-below : (k : ℕ) → k ≤ n → (j : ℕ) → j < k → (command_line s t w j).clause ≡ map (decode s t) (part_at t w j clause_word)
  clauses-below zero h j i = absurd (not-suc-le-zero i)
  clauses-below (suc k) h j i =
      by-node {i = j} {n = k} (omega arith) (clauses-below k (omega arith) j)
      (λ e. subst (λ (m : ℕ). (command_line s t w m).clause ≡ map (decode s t) (part_at t w m clause_word)) (sym e) (go (ℕ_discrete (word_at w k kind_word) pol_kind) (clauses-below k (omega arith))))
    where
      go : Dec (word_at w k kind_word ≡ pol_kind) → ((j : ℕ) → j < k → (command_line s t w j).clause ≡ map (decode s t) (part_at t w j clause_word)) → (command_line s t w k).clause ≡ map (decode s t) (part_at t w k clause_word)
      go (yes e) g = pol-clause k h e g
      go (no e) g = other-clause k h e

  pub clause-is : (j : ℕ) → j < n → (command_line s t w j).clause ≡ map (decode s t) (part_at t w j clause_word)
  clause-is j h = clauses-below (suc j) h j (omega arith)

  -- what the lines above command k say
  pub clauses-above : (k : ℕ) → k ≤ n → ClausesAre (λ d. (line_at (command_lines s t w k) d).clause) s t w k
  clauses-above k h j i = ap (λ (l : Line). l.clause) (line-cited k j h i) ∙ clause-is j (omega arith)

  pub hold_by : (k : ℕ) → k ≤ n → (marks : List Bool) → Marked s t w k marks → HoldBy (command_lines s t w k) s w k marks
  hold_by k h marks m j i = ap (λ (l : Line). l.holds) (line-cited k j h i) ∙ sym (m j i)

  -- the clauses of cited premises are those of the tables
  pub cited-clauses : (k : ℕ) → k ≤ n → (ps : List ℕ) → Below k ps → clauses_at (command_lines s t w k) (map (string_at s w) ps) ≡ clauses (decode s t) t w ps
  unfolding clauses_at Below
  cited-clauses k h [] b = refl
  cited-clauses k h (p ∷ ps) b =
      ap₂ ◌∷◌ (ap (λ (l : Line). l.clause) (line-cited k p h b.0) ∙ clause-is p (omega (arith, b.0))) (cited-clauses k h ps b.1)

  -- each of them holds where each is marked
  pub cited-hold : (k : ℕ) → k ≤ n → (marks : List Bool) → Marked s t w k marks → (ps : List ℕ) → Below k ps → all_hold (command_lines s t w k) (map (string_at s w) ps) ≡ all_marked marks ps
  unfolding all_hold all_marked Below
  cited-hold k h marks m [] b = refl
  cited-hold k h marks m (p ∷ ps) b =
      ap₂ ◌&&◌ (ap (λ (l : Line). l.holds) (line-cited k p h b.0) ∙ sym (m p b.0)) (cited-hold k h marks m ps b.1)

  -- ---- an assumption
  pub assumed-answer : (k : ℕ) → word_at w k kind_word ≡ 0 → (command_line s t w k).answer ≡ ok true
  unfolding command_line command_of command_as line_of
  assumed-answer k e = rw e refl

  pub assumed_holds : (k : ℕ) → k < n → word_at w k kind_word ≡ 0 → (command_line s t w k).holds ≡ is_statement (decode s t (get_or (part_at t w k clause_word) 0 0))
  unfolding command_line command_of command_as line_of
  assumed_holds k h e =
      rw e (ap is_statement (first-term (decode s t) (part_at t w k clause_word) (clause-one k h e)))

  -- ---- a step
  pub step-answer : (k number : ℕ) → k < n → word_at w k kind_word ≡ suc number → (word_at w k kind_word ≡ pol_kind → ⊥)
      → (command_line s t w k).answer
      ≡ apply_rule (rule_named number) (clauses (decode s t) t w (part_at t w k premises_word)) (map (decode s t) (part_at t w k arguments_word)) (map (decode s t) (part_at t w k clause_word))
  unfolding command_as line_of
  step-answer k number h e other = rw (line_other k other, e, cited-clauses k (omega arith) (part_at t w k premises_word) (f.commands.each k h).above) refl

  pub step-holds : (k number : ℕ) (marks : List Bool) → k < n → word_at w k kind_word ≡ suc number → (word_at w k kind_word ≡ pol_kind → ⊥) → Marked s t w k marks
      → (command_line s t w k).holds ≡ (plain_of (command_line s t w k).answer && all_marked marks (part_at t w k premises_word))
  unfolding command_as line_of
  step-holds k number marks h e other m =
      rw (line_other k other, e, cited-hold k (omega arith) marks m (part_at t w k premises_word) (f.commands.each k h).above) refl

  -- ---- a pol line
  pub pol-answer : (k : ℕ) → word_at w k kind_word ≡ pol_kind → (command_line s t w k).answer ≡ given_answer (pol_result (λ d. (line_at (command_lines s t w k) d).clause) (pol_words_of s w k))
  unfolding line_of pol_answer
  pol-answer k e = ap (λ (l : Line). l.answer) (line-pol k e)

  pub pol-holds : (k : ℕ) → word_at w k kind_word ≡ pol_kind → (command_line s t w k).holds ≡ (plain_of (command_line s t w k).answer && all_hold (command_lines s t w k) (pushed_ids (pol_words_of s w k)))
  unfolding line_of
  pol-holds k e = rw (line-pol k e) refl

-- ---- refuted
refuted-append : (ls : List Line) (l : Line) → refuted_by (ls ++ (l ∷ [])) ≡ (refuted_by ls || (l.holds && unreachable l.clause))
unfolding refuted_by
refuted-append [] l = or-false (l.holds && unreachable l.clause)
refuted-append (m ∷ ls) l = ap (λ (b : Bool). (m.holds && unreachable m.clause) || b) (refuted-append ls l) ∙ sym (or_assoc (m.holds && unreachable m.clause) (refuted_by ls) (l.holds && unreachable l.clause))

pub refuted-none : (s t w : List ℕ) → refuted_by (command_lines s t w 0) ≡ false
unfolding refuted_by
refuted-none s t w = ap refuted_by (lines_none s t w)

pub refuted-more : (s t w : List ℕ) (k : ℕ) → refuted_by (command_lines s t w (suc k)) ≡ (refuted_by (command_lines s t w k) || ((command_line s t w k).holds && unreachable (command_line s t w k).clause))
refuted-more s t w k = ap refuted_by (lines_more s t w k) ∙ refuted-append (command_lines s t w k) (command_line s t w k)
