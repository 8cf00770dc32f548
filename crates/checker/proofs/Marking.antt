-- The marks of a file's commands: each is its line's, and an unreachable clause among the marked lines refutes.
use mathlib.Core.Path.{◌≡◌, refl, sym, ap, ap₂, subst, ◌∙◌}
use mathlib.Core.Bool.{Bool, true, false, ◌&&◌, ◌||◌}
use mathlib.Core.List.{List, [], ◌∷◌}
use Prim.Native.Nat.{ℕ, zero, suc, ◌+◌, ◌-◌, ◌≤◌, ◌<◌}
use native.Mathlib.Decide.{ℕ_discrete}
use native.Mathlib.Nat.{not-suc-le-zero}
use native.Mathlib.Omega.{arith}
use native.Mathlib.Numerals.{add-one}
use lib.ListN.{length, get_or, set, drop}
use lib.Seq.{drop-cons}
use Rattle.calculus.specs.Greatest.{unreachable}
use Rattle.calculus.specs.Marks.{plain_of, all_hold, refuted_by}
use Rattle.calculus.specs.Pol.{pushed_ids}
use Rattle.calculus.specs.Terms.{Term}
use Rattle.calculus.specs.Truth.{is_statement}
use Rattle.nodes.specs.Nodes.{decode}
use Rattle.nodes.proofs.Tables.{below_at, by-node}
use Rattle.matching.specs.Matched.{AllNodes}
use Rattle.reader.specs.Commands.{word_at, kind_word, clause_word, premises_word, arguments_word, part_at, pol_kind, pol_words_of}
use Rattle.reader.specs.Reading.{Ids}
use Rattle.links.specs.Steps.{Part}
use Rattle.marks.specs.Values.{UnreachableIs}
use Rattle.steps.proofs.Stepping.{part-used, nodes-used}
use Rattle.checker.specs.Runs.{File, command_lines, command_line, PushesAre, Marked, all_marked}
use Rattle.checker.proofs.Answering.{first_more}
use Rattle.checker.proofs.Lining.{clause-is, hold_by, assumed_holds, step-holds, pol-holds, refuted-more}

-- ---- whether all cited premises are marked, from premise j on
module _ (marks : List Bool) where
  pub marked_next : (ps : List ℕ) (j : ℕ) → j < length ps → all_marked marks (drop j ps) ≡ (get_or marks (get_or ps j 0) false && all_marked marks (drop (j + 1) ps))
  unfolding all_marked
  marked_next ps j h = ap (all_marked marks) (drop-cons ps j 0 h) ∙ ap (λ (k : ℕ). get_or marks (get_or ps j 0) false && all_marked marks (drop k ps)) (sym (add-one j))

  pub marked-end : (ps : List ℕ) (j : ℕ) → length ps ≤ j → all_marked marks (drop j ps) ≡ true
  unfolding all_marked
  marked-end [] zero h = refl
  marked-end [] (suc j) h = refl
  marked-end (p ∷ ps) zero h = absurd (not-suc-le-zero h)
  marked-end (p ∷ ps) (suc j) h = marked-end ps j (omega arith)

  -- a turn of the loop: premise j is marked
  pub marked_more : (ps : List ℕ) (j : ℕ) → j < length ps → get_or marks (get_or ps j 0) false ≡ true → all_marked marks ps ≡ all_marked marks (drop j ps) → all_marked marks ps ≡ all_marked marks (drop (j + 1) ps)
  marked_more ps j h e q = q ∙ marked_next ps j h ∙ ap (λ (b : Bool). b && all_marked marks (drop (j + 1) ps)) e

  -- premise j is not marked
  pub marked-not : (ps : List ℕ) (j : ℕ) → j < length ps → get_or marks (get_or ps j 0) false ≡ false → all_marked marks ps ≡ all_marked marks (drop j ps) → false ≡ all_marked marks ps
  marked-not ps j h e q = sym (q ∙ marked_next ps j h ∙ ap (λ (b : Bool). b && all_marked marks (drop (j + 1) ps)) e)

-- ---- one command
module _ {s t w : List ℕ} {n : ℕ} (f : File s t w n) where
  -- its parts are parts of the table
  part_in : (k : ℕ) → k < n → (j : ℕ) → j ≤ arguments_word → word_at w k j + word_at w k (j + 1) ≤ f.children → Part t w k j
  part_in k h j g i = part-used f.table k j f.commands.room (omega (arith, f.commands.few)) g i

  pub clause-part : (k : ℕ) → k < n → Part t w k clause_word
  clause-part k h = part_in k h 1 (omega arith) (f.commands.each k h).clause

  pub premises-part : (k : ℕ) → k < n → Part t w k premises_word
  premises-part k h = part_in k h 3 (omega arith) (f.commands.each k h).premises

  -- its clause's terms are nodes
  pub clause-nodes : (k : ℕ) → k < n → AllNodes t (part_at t w k clause_word)
  clause-nodes k h = nodes-used f.table f.firsts (part_at t w k clause_word) (f.commands.each k h).terms

  -- its premises stand above it
  pub premises-above : (k : ℕ) → k < n → (i : ℕ) → i < length (part_at t w k premises_word) → get_or (part_at t w k premises_word) i 0 < k
  premises-above k h i g = below_at (part_at t w k premises_word) i (f.commands.each k h).above g

  -- the ids stand in their index
  pub ids-of : Ids s w n
  ids-of = record { room = f.commands.room; few = f.commands.few; spans = f.commands.ids; indexed = f.indexed }

  module _ (k : ℕ) (h : k < n) where
    pub holds-assumed : (r : Bool) → word_at w k kind_word ≡ 0 → r ≡ is_statement (decode s t (get_or (part_at t w k clause_word) 0 0)) → r ≡ (command_line s t w k).holds
    holds-assumed r e q = q ∙ sym (assumed_holds f k h e)

    module _ (marks : List Bool) (m : Marked s t w k marks) (plain : Bool) (p : plain ≡ plain_of (command_line s t w k).answer) where
      holds-is : 1 ≤ word_at w k kind_word → (word_at w k kind_word ≡ pol_kind → ⊥) → (command_line s t w k).holds ≡ (plain && all_marked marks (part_at t w k premises_word))
      holds-is i other = step-holds f k (word_at w k kind_word - 1) marks h (omega arith) other m ∙ ap (λ (b : Bool). b && all_marked marks (part_at t w k premises_word)) (sym p)

      pol-is : word_at w k kind_word ≡ pol_kind → (command_line s t w k).holds ≡ (plain && all_hold (command_lines s t w k) (pushed_ids (pol_words_of s w k)))
      pol-is i = pol-holds f k i ∙ ap (λ (b : Bool). b && all_hold (command_lines s t w k) (pushed_ids (pol_words_of s w k))) (sym p)

      pub holds_not : 1 ≤ word_at w k kind_word → plain ≡ false → false ≡ (command_line s t w k).holds
      holds_not i e = go (ℕ_discrete (word_at w k kind_word) pol_kind)
        where
          go : Dec (word_at w k kind_word ≡ pol_kind) → false ≡ (command_line s t w k).holds
          go (yes z) = sym (pol-is z ∙ ap (λ (b : Bool). b && all_hold (command_lines s t w k) (pushed_ids (pol_words_of s w k))) e)
          go (no z) = sym (holds-is i z ∙ ap (λ (b : Bool). b && all_marked marks (part_at t w k premises_word)) e)

      pub holds_pushed : (r : Bool) → word_at w k kind_word ≡ pol_kind → plain ≡ true → PushesAre s w k marks r → r ≡ (command_line s t w k).holds
      holds_pushed r i e q =
          q (command_lines s t w k) (hold_by f k (omega arith) marks m)
          ∙ sym (pol-is i ∙ ap (λ (b : Bool). b && all_hold (command_lines s t w k) (pushed_ids (pol_words_of s w k))) e)

      pub holds-cited : (r : Bool) → 1 ≤ word_at w k kind_word → (word_at w k kind_word ≡ pol_kind → ⊥) → plain ≡ true → r ≡ all_marked marks (part_at t w k premises_word) → r ≡ (command_line s t w k).holds
      holds-cited r i other e q = q ∙ sym (holds-is i other ∙ ap (λ (b : Bool). b && all_marked marks (part_at t w k premises_word)) e)

    -- whether it refutes
    module _ (marks : List Bool) (m : Marked s t w n marks) where
      pub refutes_not : get_or marks k false ≡ false → false ≡ ((command_line s t w k).holds && unreachable (command_line s t w k).clause)
      refutes_not e = sym (ap (λ (b : Bool). b && unreachable (command_line s t w k).clause) (sym (m k h) ∙ e))

      pub refutes-is : (r : Bool) {l : List ℕ} → get_or marks k false ≡ true → l ≡ part_at t w k clause_word → UnreachableIs t l r → r ≡ ((command_line s t w k).holds && unreachable (command_line s t w k).clause)
      refutes-is r e q U =
          subst (λ (l : List ℕ). UnreachableIs t l r) q U (record { text = s; n = f.nodes; named = f.named }) (f.commands.each k h).terms
          ∙ sym (ap₂ (λ (b : Bool) (c : List Term). b && unreachable c) (sym (m k h) ∙ e) (clause-is f k h))

-- ---- the marks so far
pub marked-set : (s t w : List ℕ) (marks : List Bool) (k : ℕ) (b : Bool) {next : List Bool} → Marked s t w k marks → k < length marks → b ≡ (command_line s t w k).holds → next ≡ set marks k b → Marked s t w (k + 1) next
marked-set s t w marks k b m h e q = first_more marks false (λ (j : ℕ). (command_line s t w j).holds) k b m h e q

-- ---- refuted
-- from a refuting command on the lines stay refuted
refuted-kept : (s t w : List ℕ) (k n : ℕ) → refuted_by (command_lines s t w k) ≡ true → k ≤ n → refuted_by (command_lines s t w n) ≡ true
refuted-kept s t w k zero e h = let i : 0 ≡ k = omega arith in ap (λ (m : ℕ). refuted_by (command_lines s t w m)) i ∙ e
refuted-kept s t w k (suc n) e h =
    by-node {i = k} {n = suc n} (omega arith)
    (λ l. refuted-more s t w n ∙ ap (λ (b : Bool). b || ((command_line s t w n).holds && unreachable (command_line s t w n).clause)) (refuted-kept s t w k n e (omega arith)))
    (λ i. ap (λ (m : ℕ). refuted_by (command_lines s t w m)) (sym i) ∙ e)

module _ (s t w : List ℕ) (k : ℕ) (e : refuted_by (command_lines s t w k) ≡ false) where
  refuted-one : refuted_by (command_lines s t w (suc k)) ≡ ((command_line s t w k).holds && unreachable (command_line s t w k).clause)
  refuted-one = refuted-more s t w k ∙ ap (λ (b : Bool). b || ((command_line s t w k).holds && unreachable (command_line s t w k).clause)) e

  pub refuted-found : (n : ℕ) → k < n → true ≡ ((command_line s t w k).holds && unreachable (command_line s t w k).clause) → true ≡ refuted_by (command_lines s t w n)
  refuted-found n h q = sym (refuted-kept s t w (suc k) n (refuted-one ∙ sym q) h)

  pub refuted-next : false ≡ ((command_line s t w k).holds && unreachable (command_line s t w k).clause) → refuted_by (command_lines s t w (k + 1)) ≡ false
  refuted-next q = let i : k + 1 ≡ suc k = omega arith in ap (λ (m : ℕ). refuted_by (command_lines s t w m)) i ∙ refuted-one ∙ sym q
