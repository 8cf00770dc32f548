-- The commands of a file while the clauses of its pol lines are written, one after the other.
use mathlib.Core.Path.{◌≡◌, refl, sym, ap, ap₂, fun_ext, subst, ◌∙◌}
use mathlib.Core.List.{List, [], ◌∷◌, ◌++◌, map}
use Prim.Native.Nat.{ℕ, zero, suc, ◌+◌, ◌-◌, ◌*◌, ◌≤◌, ◌<◌}
use native.Mathlib.Decide.{dec_lt, ℕ_discrete}
use native.Mathlib.Omega.{arith}
use lib.IntN.{ℤ}
use lib.ListN.{length, get_or, set, length-set}
use lib.Seq.{get_or-set_same, get_or-set_other}
use Rattle.calculus.specs.Limits.{max_commands, pol_lines}
use Rattle.calculus.specs.Terms.{Term, pol}
use Rattle.nodes.specs.Nodes.{capacity, children_at, Below, Table}
use Rattle.nodes.proofs.Tables.{kept_refl, kept_trans, kids-same, map-kept, below_more, below_at}
use Rattle.terms.specs.Index.{Indexed}
use Rattle.terms.specs.Names.{Names}
use Rattle.terms.specs.Reading.{Grown}
use Rattle.terms.specs.Spans.{max_joined, string_at, strings}
use Rattle.terms.proofs.Index.{indexed-same}
use Rattle.reader.proofs.Words.{command-pol, command-other, pols-one-more}
use Rattle.reader.specs.Commands.{id_words, id_index, all_words, word_at, kind_word, clause_word, premises_word, arguments_word, part_at, pol_kind, one_pol, above_in, words_from, pol_words_of, PolRead, command_of, commands_of, CommandIn, Commands}
use Rattle.sums.specs.Places.{Rooms}
use Rattle.pol.specs.Stack.{stack_words}
use Rattle.lines.specs.Running.{Above, ClausesAre, Running, max_names}
use Rattle.lines.specs.Lines.{clause_nodes, LineIs, LineRun, Reworded, PartPut, CommandRun, LinesRun}
use Rattle.lines.specs.declared.Ran.{Ran}

-- ---- ids and words stay
module _ {w x : List ℕ} {k : ℕ} (W : Reworded w x k) (s : List ℕ) where
  string-same : (j : ℕ) → j < max_commands → string_at s x j ≡ string_at s w j
  unfolding string_at
  string-same j h = rw (W.ids (2 * j) (omega arith), W.ids (2 * j + 1) (omega arith))

  strings-same : (j n : ℕ) → j + n ≤ max_commands → strings s x j n ≡ strings s w j n
  unfolding strings
  strings-same j zero h = refl
  strings-same j (suc n) h = ap₂ ◌∷◌ (string-same j (omega arith)) (strings-same (j + 1) n (omega arith))

  all-strings : (m : ℕ) → m ≤ max_commands → (l : List ℕ) → Below m l → map (string_at s x) l ≡ map (string_at s w) l
  unfolding Below
  all-strings m h [] b = refl
  all-strings m h (j ∷ l) b = rw (string-same j (omega (arith, b.0)), all-strings m h l b.1)

  above_same : (j : ℕ) → j ≤ max_commands → above_in s x j ≡ above_in s w j
  unfolding above_in
  above_same j h = fun_ext (λ d. rw (strings-same 0 j (omega arith)))

  begins-same : (j : ℕ) → j < max_commands → words_from s x j ≡ words_from s w j
  begins-same j h = rw (W.ids (2 * j + 1) (omega arith))

  pol-same : (j : ℕ) → j < max_commands → pol_words_of s x j ≡ pol_words_of s w j
  unfolding pol_words_of
  pol-same j h = rw (above_same j (omega arith), begins-same j h)

  read_same : (j : ℕ) → j < max_commands → PolRead s w j → PolRead s x j
  read_same j h R = rw (above_same j (omega arith), begins-same j h) R

  kind-same : (j : ℕ) → j < max_commands → word_at x j kind_word ≡ word_at w j kind_word
  kind-same j h = go (ℕ_discrete j k)
    where
      go : Dec (j ≡ k) → word_at x j kind_word ≡ word_at w j kind_word
      go (yes e) = rw e (W.kept 0 (omega arith) (omega arith) (omega arith))
      go (no e) = W.others j 0 h (omega arith) e

-- ---- the commands
module _ {s t u w x y numbers news : List ℕ} {all k n c : ℕ} {r : Ran} (T : Table t n c) (C : Commands s t w all n c) (R : CommandRun s t u w x y numbers news k n c r) (low : k < all) where
  few : all ≤ max_commands
  few = C.few

  -- a word of a command that is not the clause's, or of one that is no pol line
  word_same : (j i : ℕ) → j < all → i < 7 → ((i ≡ clause_word → ⊥) × (i ≡ clause_word + 1 → ⊥)) → word_at x j i ≡ word_at w j i
  word_same j i h g f = go (ℕ_discrete j k)
    where
      go : Dec (j ≡ k) → word_at x j i ≡ word_at w j i
      go (yes e) = rw e (R.words.kept i g f.0 f.1)
      go (no e) = R.words.others j i (omega (arith, few)) g e

  plain-same : (j i : ℕ) → j < all → i < 7 → (word_at w j kind_word ≡ pol_kind → ⊥) → word_at x j i ≡ word_at w j i
  plain-same j i h g f = go (ℕ_discrete j k)
    where
      go : Dec (j ≡ k) → word_at x j i ≡ word_at w j i
      go (yes e) = rw e (R.other (λ q. f (ap (λ (m : ℕ). word_at w m kind_word) e ∙ q)) i g)
      go (no e) = R.words.others j i (omega (arith, few)) g e

  part_same : (j i : ℕ) → word_at x j i ≡ word_at w j i → word_at x j (i + 1) ≡ word_at w j (i + 1) → word_at w j i + word_at w j (i + 1) ≤ c → part_at u x j i ≡ part_at t w j i
  unfolding part_at
  part_same j i e f l = rw (e, f) (kids-same R.grown.kept (word_at w j i) (word_at w j (i + 1)) l)

  premises-same : (j : ℕ) → j < all → part_at u x j premises_word ≡ part_at t w j premises_word
  premises-same j h = part_same j premises_word (word_same j 3 h (omega arith) (omega arith, omega arith)) (word_same j 4 h (omega arith) (omega arith, omega arith)) (C.each j h).premises

  arguments-same : (j : ℕ) → j < all → part_at u x j arguments_word ≡ part_at t w j arguments_word
  arguments-same j h = part_same j arguments_word (word_same j 5 h (omega arith) (omega arith, omega arith)) (word_same j 6 h (omega arith) (omega arith, omega arith)) (C.each j h).arguments

  -- the clause of another command
  clause-same : (j : ℕ) → j < all → (j ≡ k → ⊥) → part_at u x j clause_word ≡ part_at t w j clause_word
  clause-same j h e = part_same j clause_word (R.words.others j 1 (omega (arith, few)) (omega arith) e) (R.words.others j 2 (omega (arith, few)) (omega arith) e) (C.each j h).clause

  -- or of one that is no pol line
  clause-plain : (j : ℕ) → j < all → (word_at w j kind_word ≡ pol_kind → ⊥) → part_at u x j clause_word ≡ part_at t w j clause_word
  clause-plain j h f = part_same j clause_word (plain-same j 1 h (omega arith) f) (plain-same j 2 h (omega arith) f) (C.each j h).clause

  pub filed_command : (j : ℕ) → j < all → command_of s u x j ≡ command_of s t w j
  filed_command j h = go (ℕ_discrete (word_at w j kind_word) pol_kind)
    where
      go : Dec (word_at w j kind_word ≡ pol_kind) → command_of s u x j ≡ command_of s t w j
      go (yes e) =
          command-pol s u x j (kind-same R.words s j (omega (arith, few)) ∙ e)
          ∙ ap₂ pol (string-same R.words s j (omega (arith, few))) (pol-same R.words s j (omega (arith, few)))
          ∙ sym (command-pol s t w j e)
      go (no e) =
          command-other s u x j (λ z. e (sym (kind-same R.words s j (omega (arith, few))) ∙ z))
          ∙ rw (
            string-same R.words s j (omega (arith, few)),
            kind-same R.words s j (omega (arith, few)),
            clause-plain j h e,
            premises-same j h,
            arguments-same j h,
            map-kept T R.grown.kept s (part_at t w j clause_word) (C.each j h).terms,
            map-kept T R.grown.kept s (part_at t w j arguments_word) (C.each j h).given,
            all-strings R.words s j (omega (arith, few)) (part_at t w j premises_word) (C.each j h).above,
          ) (sym (command-other s t w j e))

  pub filed-commands : (j : ℕ) → j ≤ all → commands_of s u x j ≡ commands_of s t w j
  unfolding commands_of
  filed-commands zero h = refl
  filed-commands (suc j) h = rw (filed-commands j (omega arith), filed_command j h)

  each : (j : ℕ) → j < all → CommandIn u x j r.nodes r.children
  each j h = record {
    kind = rw (kind-same R.words s j (omega (arith, few))) (C.each j h).kind;
    one = λ z. let q = sym (kind-same R.words s j (omega (arith, few))) ∙ z in plain-same j 2 h (omega arith) (λ p. omega (arith, p, q)) ∙ (C.each j h).one q;
    clause = inside (ℕ_discrete (word_at w j kind_word) pol_kind) (ℕ_discrete j k);
    premises = rw (word_same j 3 h (omega arith) (omega arith, omega arith), word_same j 4 h (omega arith) (omega arith, omega arith)) (omega (arith, (C.each j h).premises, R.grown.wider));
    arguments = rw (word_same j 5 h (omega arith) (omega arith, omega arith), word_same j 6 h (omega arith) (omega arith, omega arith)) (omega (arith, (C.each j h).arguments, R.grown.wider));
    terms = terms (ℕ_discrete (word_at w j kind_word) pol_kind) (ℕ_discrete j k);
    above = rw (premises-same j h) (C.each j h).above;
    given = rw (arguments-same j h) (below_more (part_at t w j arguments_word) (C.each j h).given R.grown.more);
  }
    where
      inside : Dec (word_at w j kind_word ≡ pol_kind) → Dec (j ≡ k) → word_at x j clause_word + word_at x j (clause_word + 1) ≤ r.children
      inside (yes p) (yes e) = rw e (R.inside (sym (ap (λ (m : ℕ). word_at w m kind_word) e) ∙ p))
      inside (yes p) (no e) = rw (R.words.others j 1 (omega (arith, few)) (omega arith) e, R.words.others j 2 (omega (arith, few)) (omega arith) e) (omega (arith, (C.each j h).clause, R.grown.wider))
      inside (no p) e = rw (plain-same j 1 h (omega arith) p, plain-same j 2 h (omega arith) p) (omega (arith, (C.each j h).clause, R.grown.wider))

      terms : Dec (word_at w j kind_word ≡ pol_kind) → Dec (j ≡ k) → Below r.nodes (part_at u x j clause_word)
      terms (yes p) (yes e) = rw e (R.below (sym (ap (λ (m : ℕ). word_at w m kind_word) e) ∙ p))
      terms (yes p) (no e) = rw (clause-same j h e) (below_more (part_at t w j clause_word) (C.each j h).terms R.grown.more)
      terms (no p) e = rw (clause-plain j h p) (below_more (part_at t w j clause_word) (C.each j h).terms R.grown.more)

  pub filed : Commands s u x all r.nodes r.children
  filed = record {
    room = rw R.words.long C.room;
    few = C.few;
    ids = record {
      room = rw R.words.long C.ids.room;
      up = λ j h. rw (R.words.ids (2 * j) (omega (arith, few)), R.words.ids (2 * j + 1) (omega (arith, few))) (C.ids.up j h);
      inside = λ j h. rw (R.words.ids (2 * j) (omega (arith, few))) (C.ids.inside j h);
    };
    short = λ j h. rw (R.words.ids (2 * j) (omega (arith, few)), R.words.ids (2 * j + 1) (omega (arith, few))) (C.short j h);
    each = each;
    pols = λ j h z. read_same R.words s j (omega (arith, few)) (C.pols j h (sym (kind-same R.words s j (omega (arith, few))) ∙ z));
  }

  pub filed-index : Indexed s w id_index all → Indexed s x id_index all
  filed-index I = indexed-same s w x all (λ j h. R.words.ids j (omega (arith, few))) id_index R.words.long R.words.index I

  -- the clauses above are those that were
  clauses-back : (at : List ℕ → List Term) (j : ℕ) → j ≤ k → ClausesAre at s u x j → ClausesAre at s t w j
  clauses-back at j l H i h =
      ap at (sym (string-same R.words s i (omega (arith, few)))) ∙ H i h
      ∙ rw (clause-same i (omega arith) (λ e. omega arith)) (map-kept T R.grown.kept s (part_at t w i clause_word) (C.each i (omega arith)).terms)

  -- a line above is what it was
  pub line_kept : (j : ℕ) → j < k → LineIs s t w numbers j → LineIs s u x news j
  line_kept j h L = record {
    clause = λ at H.
        rw (clause-same j (omega arith) (λ e. omega arith), pol-same R.words s j (omega (arith, few)), map-kept T R.grown.kept s (part_at t w j clause_word) (C.each j (omega arith)).terms)
        (L.clause at (clauses-back at j (omega arith) H));
    number = λ at H. R.numbers-same j (λ e. omega arith) ∙ rw (pol-same R.words s j (omega (arith, few))) (L.number at (clauses-back at j (omega arith) H));
  }

  -- and line k is what the run made it
  pub line-new : word_at x k kind_word ≡ pol_kind → LineIs s u x news k
  line-new z =
      let q = sym (kind-same R.words s k (omega (arith, few))) ∙ z in
      record {
        clause = λ at H. rw (pol-same R.words s k (omega (arith, few))) (R.clause q at (clauses-back at k (omega arith) H));
        number = λ at H. rw (pol-same R.words s k (omega (arith, few))) (R.number q at (clauses-back at k (omega arith) H));
      }

-- ---- the clause's words
pub part-put : (w : List ℕ) (k a b : ℕ) → all_words ≤ length w → k < max_commands → PartPut w (set (set w (id_words + (7 * k + clause_word)) a) (id_words + (7 * k + clause_word) + 1) b) k a b
part-put w k a b room low = record {
  words = record {
    long = length-set (set w (id_words + (7 * k + clause_word)) a) (id_words + (7 * k + clause_word) + 1) b ∙ length-set w (id_words + (7 * k + clause_word)) a;
    ids = λ j h. same j (λ e. omega arith) (λ e. omega arith);
    index = λ j h. same j (λ e. omega arith) (λ e. omega arith);
    others = λ j i h g f. same (id_words + (7 * j + i)) (λ e. f (omega arith)) (λ e. f (omega arith));
    kept = λ i g f h. same (id_words + (7 * k + i)) (λ e. f (omega arith)) (λ e. h (omega arith));
  };
  first = get_or-set_other (set w (id_words + (7 * k + clause_word)) a) (id_words + (7 * k + clause_word) + 1) (id_words + (7 * k + clause_word)) b 0 (λ e. omega arith) ∙ get_or-set_same w (id_words + (7 * k + clause_word)) a 0 (omega arith);
  count =
      let z : id_words + (7 * k + (clause_word + 1)) ≡ id_words + (7 * k + clause_word) + 1 = omega arith in
      ap (λ (i : ℕ). get_or (set (set w (id_words + (7 * k + clause_word)) a) (id_words + (7 * k + clause_word) + 1) b) i 0) z
      ∙ get_or-set_same (set w (id_words + (7 * k + clause_word)) a) (id_words + (7 * k + clause_word) + 1) b 0 (omega (arith, length-set w (id_words + (7 * k + clause_word)) a));
}
  where
    same : (j : ℕ) → (j ≡ id_words + (7 * k + clause_word) → ⊥) → (j ≡ id_words + (7 * k + clause_word) + 1 → ⊥) → get_or (set (set w (id_words + (7 * k + clause_word)) a) (id_words + (7 * k + clause_word) + 1) b) j 0 ≡ get_or w j 0
    same j f g = get_or-set_other (set w (id_words + (7 * k + clause_word)) a) (id_words + (7 * k + clause_word) + 1) j b 0 g ∙ get_or-set_other w (id_words + (7 * k + clause_word)) j a 0 f

-- the part that two words name
part-is : (u x : List ℕ) (k : ℕ) {a b : ℕ} → word_at x k clause_word ≡ a → word_at x k (clause_word + 1) ≡ b → part_at u x k clause_word ≡ children_at u a b
unfolding part_at
part-is u x k e f = rw (e, f)

no-children : (u : List ℕ) (a : ℕ) → children_at u a 0 ≡ []
unfolding children_at
no-children u a = refl

-- ---- a command that is run
module _ {s t w : List ℕ} {k n c : ℕ} where
  -- no pol line
  pub run-other : {y numbers : List ℕ} → Table t n c → Names s t y n → (word_at w k kind_word ≡ pol_kind → ⊥) → CommandRun s t t w w y numbers numbers k n c (record { number = 0; nodes = n; children = c })
  run-other T N f = record {
    grown = record { kept = kept_refl t n c; table = T; names = N; more = omega arith; wider = omega arith };
    words = record { long = refl; ids = λ j h. refl; index = λ j h. refl; others = λ j i h g e. refl; kept = λ i h g e. refl };
    other = λ g i h. refl;
    inside = λ e. absurd (f e);
    below = λ e. absurd (f e);
    clause = λ e. absurd (f e);
    number = λ e. absurd (f e);
    numbers-same = λ j e. refl;
    long = refl;
    small = omega arith;
  }

  line_small : {u y : List ℕ} {r : Ran} → LineRun s t u w y k n c r → word_at w k kind_word ≡ pol_kind → r.nodes ≤ n + clause_nodes * one_pol (word_at w k kind_word)
  unfolding one_pol
  line_small L is = rw is L.small

  module _ {u y numbers : List ℕ} {r : Ran} (L : LineRun s t u w y k n c r) (is : word_at w k kind_word ≡ pol_kind) (room : k < length numbers) where
    pub run-done : {x : List ℕ} → r.number ≡ 0 → PartPut w x k (r.children - 1) 1 → CommandRun s t u w x y numbers (set numbers k r.number) k n c r
    run-done {x} z P = record {
      grown = L.grown;
      words = P.words;
      other = λ f. absurd (f is);
      inside = λ e. omega (arith, P.first, P.count, L.some z);
      below = λ e. rw part (L.below z);
      clause = λ e at C. rw part (L.clause z at C);
      number = λ e at C. get_or-set_same numbers k r.number 0 room ∙ L.number at C;
      numbers-same = λ j e. get_or-set_other numbers k j r.number 0 e;
      long = length-set numbers k r.number;
      small = line_small L is;
    }
      where
        part : part_at u x k clause_word ≡ children_at u (r.children - 1) 1
        part = part-is u x k P.first P.count

    pub run-refused : {x : List ℕ} → (r.number ≡ 0 → ⊥) → PartPut w x k r.children 0 → CommandRun s t u w x y numbers (set numbers k r.number) k n c r
    unfolding Below
    run-refused {x} f P = record {
      grown = L.grown;
      words = P.words;
      other = λ f. absurd (f is);
      inside = λ e. omega (arith, P.first, P.count);
      below = λ e. rw part tt;
      clause = λ e at C. rw part (sym (L.refused f at C));
      number = λ e at C. get_or-set_same numbers k r.number 0 room ∙ L.number at C;
      numbers-same = λ j e. get_or-set_other numbers k j r.number 0 e;
      long = length-set numbers k r.number;
      small = line_small L is;
    }
      where
        part : part_at u x k clause_word ≡ []
        part = part-is u x k P.first P.count ∙ no-children u r.children

-- ---- the commands that are done
-- the first k commands are run: the tables t and w are now u and x, with m nodes and d child words in use
pub record Passed (s t u w x y numbers : List ℕ) (all n c k m d : ℕ) : Type 0 where
  pub grown : Grown s t u y n c m d
  pub commands : Commands s u x all m d
  pub indexed : Indexed s x id_index all
  pub same : (j : ℕ) → j ≤ all → commands_of s u x j ≡ commands_of s t w j
  pub ids : (j : ℕ) → j < 2 * all → get_or x j 0 ≡ get_or w j 0
  pub kinds : (j : ℕ) → j < all → word_at x j kind_word ≡ word_at w j kind_word
  pub lines : (j : ℕ) → j < k → word_at x j kind_word ≡ pol_kind → LineIs s u x numbers j
  pub small : m ≤ n + clause_nodes * pol_lines (commands_of s t w k)

-- pol lines among one command more
pols-more : (s t w : List ℕ) (k : ℕ) → pol_lines (commands_of s t w (k + 1)) ≡ pol_lines (commands_of s t w k) + one_pol (word_at w k kind_word)
unfolding commands_of
pols-more s t w k = let z : k + 1 ≡ suc k = omega arith in rw z (pols-one-more (commands_of s t w k) s t w k)

-- pol lines among fewer commands
pols-up : (s t w : List ℕ) (j k : ℕ) → j ≤ k → pol_lines (commands_of s t w j) ≤ pol_lines (commands_of s t w k)
unfolding commands_of
pols-up s t w j zero h = let z : j ≡ 0 = omega arith in rw z (omega arith)
pols-up s t w j (suc k) h = go (dec_lt j (suc k)) (pols-up s t w j k)
  where
    go : Dec (j < suc k) → (j ≤ k → pol_lines (commands_of s t w j) ≤ pol_lines (commands_of s t w k)) → pol_lines (commands_of s t w j) ≤ pol_lines (commands_of s t w k ++ (command_of s t w k ∷ []))
    go (yes l) ih = omega (arith, ih (omega arith), pols-one-more (commands_of s t w k) s t w k)
    go (no l) ih = let z : j ≡ suc k = omega arith in rw z (omega arith)

module _ {s t u w x y numbers : List ℕ} {all n c k m d : ℕ} (P : Passed s t u w x y numbers all n c k m d) (low : k < all) where
  -- there is room for one line more
  pub passed-room : n + clause_nodes * pol_lines (commands_of s t w all) + max_names ≤ capacity t → m + max_names ≤ capacity u
  passed-room room = omega (arith, room, P.small, pols-up s t w k all (omega arith), P.grown.kept.long)

  -- what the run of command k asks of those above
  pub passed-above : Above s u x all k m d
  passed-above = record {
    ids = record { room = P.commands.room; few = P.commands.few; spans = P.commands.ids; indexed = P.indexed };
    few = omega arith;
    clauses = λ j h.
        let C = P.commands.each j (omega arith) in
        record {
          part = record { words = omega (arith, P.commands.room, P.commands.few); inside = omega (arith, C.clause, P.grown.table.used, P.grown.table.few) };
          terms = λ i g. record { n = m; c = d; table = P.grown.table; firsts = P.grown.names.firsts; below = below_at (part_at u x j clause_word) i C.terms g };
        };
    inside = λ j h. (P.commands.each j (omega arith)).clause;
    under = λ j h i g. below_at (part_at u x j clause_word) i (P.commands.each j (omega arith)).terms g;
  }

  pub passed-running : length s ≤ max_joined → {cs : List ℤ} {ks sl : List ℕ} → Rooms t cs ks sl → stack_words ≤ length cs → stack_words ≤ length ks → Running s u y cs ks sl m d 0
  passed-running text R a b = record {
    text = text;
    table = P.grown.table;
    names = P.grown.names;
    stack = record { few = omega arith; coefficients = a; keys = b; each = λ e h. let z : ⊥ = omega arith in absurd z };
    under = λ e h. let z : ⊥ = omega arith in absurd z;
    rooms = record { coefficients = R.coefficients; keys = R.keys; slots = omega (arith, R.slots, P.grown.kept.long) };
  }

  -- one command more
  pub passed-more : {v z y' news : List ℕ} {r : Ran} → CommandRun s u v x z y' numbers news k m d r → Passed s t v w z y' news all n c (k + 1) r.nodes r.children
  passed-more {v} {z} {y'} {news} {r} R = record {
    grown = record {
      kept = kept_trans P.grown.kept R.grown.kept P.grown.more P.grown.wider;
      table = R.grown.table;
      names = R.grown.names;
      more = omega (arith, P.grown.more, R.grown.more);
      wider = omega (arith, P.grown.wider, R.grown.wider);
    };
    commands = filed P.grown.table P.commands R low;
    indexed = filed-index P.grown.table P.commands R low P.indexed;
    same = λ j h. filed-commands P.grown.table P.commands R low j h ∙ P.same j h;
    ids = λ j h. R.words.ids j (omega (arith, P.commands.few)) ∙ P.ids j h;
    kinds = λ j h. kind-same R.words s j (omega (arith, P.commands.few)) ∙ P.kinds j h;
    lines = λ j h q. line j (dec_lt j k) h q;
    small = omega (arith, P.small, R.small, more);
  }
    where
      line : (j : ℕ) → Dec (j < k) → j < k + 1 → word_at z j kind_word ≡ pol_kind → LineIs s v z news j
      line j (yes l) h q = line_kept P.grown.table P.commands R low j l (P.lines j l (sym (kind-same R.words s j (omega (arith, P.commands.few))) ∙ q))
      line j (no l) h q = let e : j ≡ k = omega arith in subst (λ (i : ℕ). word_at z i kind_word ≡ pol_kind → LineIs s v z news i) (sym e) (line-new P.grown.table P.commands R low) q

      more : pol_lines (commands_of s t w (k + 1)) ≡ pol_lines (commands_of s t w k) + one_pol (word_at x k kind_word)
      more = pols-more s t w k ∙ ap (λ (i : ℕ). pol_lines (commands_of s t w k) + one_pol i) (sym (P.kinds k low))

-- all of them
pub passed-all : {s t u w x y numbers : List ℕ} {all n c k m d : ℕ} → Passed s t u w x y numbers all n c k m d → all ≤ k → LinesRun s t u w x numbers all
passed-all {m = m} {d = d} P h = record {
  nodes = m;
  children = d;
  table = P.grown.table;
  firsts = P.grown.names.firsts;
  named = P.grown.names.named;
  commands = P.commands;
  same = P.same;
  ids = P.ids;
  indexed = P.indexed;
  lines = λ j l. P.lines j (omega arith);
}
