-- The words of a pol line, one after the other, over a table that grows.
use mathlib.Core.Path.{◌≡◌, refl, sym, ap, ◌∙◌}
use mathlib.Core.Bool.{Bool, true, false, false≢true}
use mathlib.Core.List.{List, [], ◌∷◌, ◌++◌}
use mathlib.Core.Logic.{◌⊎◌, inl, inr}
use Prim.Native.Nat.{ℕ, zero, suc, ◌+◌, ◌≤◌, ◌<◌}
use native.Mathlib.Decide.{dec_lt}
use native.Mathlib.Omega.{arith}
use lib.IntN.{ℤ}
use lib.ListN.{length}
use lib.Seq.{slice}
use Rattle.calculus.specs.Commands.{enough}
use Rattle.calculus.specs.Grammar.{got, close_at}
use Rattle.calculus.specs.Pol.{max_stack, pol_steps, last_entry, pol_result}
use Rattle.calculus.specs.PolGrammar.{words_at}
use Rattle.calculus.specs.Terms.{Term, PolWord, line_word, plain_word, negated_word, plus-word, saturate-word, times-word, over_word}
use Rattle.calculus.specs.Words.{ok, bad}
use Rattle.integer.specs.Integers.{signed}
use Rattle.nodes.specs.Nodes.{capacity, decode, Table, Below}
use Rattle.nodes.proofs.Tables.{kept_trans, kind-same, kids-same, map-kept}
use Rattle.terms.specs.Names.{First}
use Rattle.terms.specs.Reading.{Grown}
use Rattle.reader.specs.Commands.{clause_word, word_at as command_word, part_at, above_in}
use Rattle.links.specs.Steps.{AllUnder}
use Rattle.heads.specs.PolHeads.{pol_word_of, PolWordIs, PolHeadIn}
use Rattle.heads.specs.declared.PolHead.{PolHead}
use Rattle.heads.specs.declared.PolHead.TheVariants.{Plain, Negated, Add, Saturate, Times, Over}
use Rattle.lexer.specs.declared.Fault.{Fault}
use Rattle.std.specs.Prelude.{Option, Some, None, is_some, Ok, Err}
use Rattle.heads.specs.Heads.{past_of, PastIn}
use Rattle.sums.specs.Lists.{res_of}
use Rattle.pol.specs.Stack.{window, inequality_of, stack_of}
use Rattle.lines.specs.declared.Worked.{Worked}
use Rattle.lines.specs.Running.{Above, ClausesAre, AllHeld, Running, Going, Longer, WordDone, behind_of, max_names, WordsRun}
use Rattle.lines.proofs.Doing.{longer-none}
use Rattle.lines.proofs.Rooming.{names-few}
use Rattle.lines.proofs.Words.{Ahead, Behind, ahead-start, ahead-word, ahead-behind, behind-closed, behind_more, steps-more, steps_failed, steps-ended}

-- ---- heads
-- a head is a word, whatever is counted before it
pub by_head : {A : Type 0} (above : List ℕ → Bool) (s : List ℕ) (head : PolHead) → ((x : PolWord) → ((n : ℕ) → pol_word_of above s n head ≡ got x (behind_of head) n) → A) → A
unfolding pol_word_of
by_head {A} above s (Plain p t) some = go (above (slice p t s)) refl
  where
    go : (b : Bool) → above (slice p t s) ≡ b → A
    go true e = some (line_word (slice p t s)) (λ n. rw e)
    go false e = some (plain_word (slice p t s)) (λ n. rw e)
by_head above s (Negated p t) some = some (negated_word (slice p t s)) (λ n. refl)
by_head above s (Add t) some = some plus-word (λ n. refl)
by_head above s (Saturate t) some = some saturate-word (λ n. refl)
by_head above s (Times m v t) some = some (times-word (signed m v)) (λ n. refl)
by_head above s (Over m v t) some = some (over_word (signed m v)) (λ n. refl)

-- the end of a head of this kind
pub behind-plain : (head : PolHead) (t : ℕ) → ((p : ℕ) × (head ≡ Plain p t)) ⊎ ((p : ℕ) × (head ≡ Negated p t)) → t ≡ behind_of head
behind-plain head t (inl (p, e)) = sym (ap behind_of e)
behind-plain head t (inr (p, e)) = sym (ap behind_of e)

pub behind-operator : (head : PolHead) (t : ℕ) → (head ≡ Add t) ⊎ (head ≡ Saturate t) → t ≡ behind_of head
behind-operator head t (inl e) = sym (ap behind_of e)
behind-operator head t (inr e) = sym (ap behind_of e)

pub behind-factor : (head : PolHead) (t : ℕ) → ((m : Bool) × (v : ℕ) × (head ≡ Times m v t)) ⊎ ((m : Bool) × (v : ℕ) × (head ≡ Over m v t)) → t ≡ behind_of head
behind-factor head t (inl (m, v, e)) = sym (ap behind_of e)
behind-factor head t (inr (m, v, e)) = sym (ap behind_of e)

-- a head's end lies in the text
pub head-inside : (s : List ℕ) (at : ℕ) (head : PolHead) → PolHeadIn s at (Ok head) → behind_of head ≤ length s
head-inside s at (Plain p t) h = h.2
head-inside s at (Negated p t) h = h.2
head-inside s at (Add t) h = h.1
head-inside s at (Saturate t) h = h.1
head-inside s at (Times m v t) h = h.3
head-inside s at (Over m v t) h = h.3

-- a word's behind its beginning
pub head-later : (s : List ℕ) (at : ℕ) (head : PolHead) → PolHeadIn s at (Ok head) → at < behind_of head
head-later s at (Plain p t) h = omega (arith, h.0, h.1)
head-later s at (Negated p t) h = omega (arith, h.0, h.1)
head-later s at (Add t) h = h.0
head-later s at (Saturate t) h = h.0
head-later s at (Times m v t) h = h.2
head-later s at (Over m v t) h = h.2

-- ---- the end
-- past a closing bracket, or nothing
pub closed-yes : (s : List ℕ) (at : ℕ) (r : Option ℕ) → PastIn s at r → is_some r ≡ true → past_of r ≡ 0 → ⊥
closed-yes s at (Some t) h e z = omega (arith, h.0, z)
closed-yes s at None h e z = false≢true e

pub closed-no : (r : Option ℕ) → is_some r ≡ false → past_of r ≡ 0
closed-no (Some t) e = absurd (false≢true (sym e))
closed-no None e = refl

-- another number of entries than one
not-one : (f : ℕ → Term) (cs : List ℤ) (ks : List ℕ) (d : ℕ) → (d ≡ 1 → ⊥) → last_entry (stack_of f cs ks d) ≡ bad 52
unfolding stack_of last_entry
not-one f cs ks zero h = refl
not-one f cs ks (suc zero) h = absurd (h refl)
not-one f cs ks (suc (suc d)) h = refl

-- ---- a table that has grown
-- a number that is none
number_is : {A : Type 0} (a : A) (n : ℕ) → (n ≡ 0 → ⊥) → res_of n a ≡ bad n
unfolding res_of
number_is a zero f = absurd (f refl)
number_is a (suc n) f = refl

longer-then : {s t u v y z : List ℕ} {n m l c : ℕ} → Table u m c → Longer s t u y n m → Longer s u v z m l → n ≤ m → Longer s t v z n l
longer-then {s} {t} {u} {v} {y} {z} {n} {m} {l} {c} U A B up = record { grown = grown; first = λ k h g. go k h g (dec_lt k m) }
  where
    grown : (d : ℕ) → Table t n d → Grown s t v z n d l d
    grown d T =
        let G = A.grown d T in
        let H = B.grown d G.table in
        record { kept = kept_trans G.kept H.kept G.more (omega arith); table = H.table; names = H.names; more = omega (arith, G.more, H.more); wider = omega arith }

    go : (k : ℕ) → n ≤ k → k < l → Dec (k < m) → First v k
    go k h g (yes q) = kind-same (B.grown c U).kept k q ∙ A.first k h q
    go k h g (no q) = B.first k (omega arith) g

all-below : {m : ℕ} (p : List ℕ) → AllUnder m p → Below m p
unfolding Below
all-below [] U = tt
all-below (x ∷ p) U = (U 0 (omega arith), all-below p (λ i q. U (suc i) (omega arith)))

module _ {s t u w y : List ℕ} {all k m c l : ℕ} (A : Above s t w all k m c) (G : Grown s t u y m c l c) where
  part_same : (j : ℕ) → j < k → part_at u w j clause_word ≡ part_at t w j clause_word
  unfolding part_at
  part_same j h = kids-same G.kept (command_word w j clause_word) (command_word w j (clause_word + 1)) (A.inside j h)

  pub above-grown : Above s u w all k l c
  above-grown = record {
    ids = A.ids;
    few = A.few;
    clauses = λ j h. record {
      part = record { words = (A.clauses j h).part.words; inside = omega (arith, (A.clauses j h).part.inside, G.kept.long) };
      terms = rw (part_same j h) (λ i q. record { n = l; c = c; table = G.table; firsts = G.names.firsts; below = omega (arith, A.under j h i q, G.more) });
    };
    inside = A.inside;
    under = λ j h. rw (part_same j h) (λ i q. omega (arith, A.under j h i q, G.more));
  }

  pub clauses-grown : Table t m c → (at : List ℕ → List Term) → ClausesAre at s t w k → ClausesAre at s u w k
  clauses-grown T at C j h = C j h ∙ rw (part_same j h) (sym (map-kept T G.kept s (part_at t w j clause_word) (all-below (part_at t w j clause_word) (A.under j h))))

-- ---- the words that are done
-- over the table t, which was t₀ with n nodes in use: with a word at byte i, the stack has what the machine makes of the words before it
pub record Pass (s t₀ t w y : List ℕ) (cs : List ℤ) (ks sl : List ℕ) (all k from n i m d : ℕ) : Type 0 where
  pub going : Going s t w y cs ks sl all k m d
  pub longer : Longer s t₀ t y n m
  pub up : n ≤ m
  pub room : n + max_names ≤ capacity t
  pub held : AllHeld (decode s t) cs ks n m d
  pub clauses : (at : List ℕ → List Term) → ClausesAre at s t₀ w k → ClausesAre at s t w k
  pub read : (at : List ℕ → List Term) → ClausesAre at s t₀ w k → (words : List PolWord) (e p : ℕ) → words_at enough (above_in s w k) s from 0 ≡ got words e p
      → (ws : List PolWord) × Ahead (above_in s w k) s i ws words × (pol_steps at ws [] ≡ ok (stack_of (decode s t) cs ks d))

pub pass-start : {s t w y : List ℕ} {cs : List ℤ} {ks sl : List ℕ} {all k n : ℕ} (from : ℕ) → Going s t w y cs ks sl all k n 0 → n + max_names ≤ capacity t → Pass s t t w y cs ks sl all k from n from n 0
unfolding pol_steps stack_of
pass-start {s} {t} {w} {y} {cs} {ks} {sl} {all} {k} {n} from G room = record {
  going = G;
  longer = longer-none G.running.names;
  up = omega arith;
  room = room;
  held = λ i h l. let z : ⊥ = omega arith in absurd z;
  clauses = λ at C. C;
  read = λ at C words e p q. ([], ahead-start (above_in s w k) s enough from 0 words e p q, refl);
}

module _ {s t₀ t w y : List ℕ} {cs : List ℤ} {ks sl : List ℕ} {all k from n i m d : ℕ} (P : Pass s t₀ t w y cs ks sl all k from n i m d) where
  -- there is room for one name more
  pub pass-room : d < max_stack → m < capacity t
  pass-room h = omega (arith, P.room, names-few P.going.running P.longer.first P.held P.up)

  -- where no word stands
  pub pass-none : (fault : Fault) {e : ℕ} → PolWordIs s i (Err fault) → WordsRun s t₀ t w y k from n cs ks (record { number = 52; nodes = m; entries = e })
  pass-none fault H = record {
    is = λ at C words e p q. let g = P.read at C words e p q in absurd (ahead-word (above_in s w k) s g.1 (sym (H (above_in s w k) g.1.nodes)));
    longer = P.longer;
    stack = λ e. let f : ⊥ = omega arith in absurd f;
  }

  module _ {head : PolHead} (H : PolWordIs s i (Ok head)) {u z : List ℕ} {ds : List ℤ} {ls tl : List ℕ} {r : Worked} (W : WordDone s t u w z k head cs ks m d ds ls tl r) where
    abbrev above : List ℕ → Bool
    above = above_in s w k

    -- the word that stands there
    word-here : {B : Type 0} {ws words : List PolWord} → (A : Ahead (above_in s w k) s i ws words) → ((x : PolWord) → ((n : ℕ) → pol_word_of (above_in s w k) s n head ≡ got x (behind_of head) n) → Behind (above_in s w k) s (behind_of head) (ws ++ (x ∷ [])) words → B) → B
    word-here A f =
        by_head (above_in s w k) s head
        (λ x q. f x q (ahead-behind (above_in s w k) s A (sym (H (above_in s w k) A.nodes) ∙ q A.nodes)))

    longer : Longer s t₀ u z n r.nodes
    longer = longer-then P.going.running.table P.longer W.longer P.up

    -- a word that fails
    pub pass_failed : {e : ℕ} → (r.number ≡ 0 → ⊥) → WordsRun s t₀ u w z k from n ds ls (record { number = r.number; nodes = r.nodes; entries = e })
    pass_failed f = record {
      is = λ at C words e p q.
          let g = P.read at C words e p q in
          word-here g.1 (λ x h b. steps_failed at g.0 g.2 x b (W.is at (P.clauses at C) x (behind_of head) 0 (h 0) ∙ number_is (stack_of (decode s u) ds ls r.entries) r.number f) ∙ sym (number_is (inequality_of (decode s u) (window 0 ds) (window 0 ls)) r.number f));
      longer = longer;
      stack = λ e. absurd (f e);
    }

    module _ (zero_is : r.number ≡ 0) where
      goes : (c : ℕ) → Table t m c → Running s u z ds ls tl r.nodes c r.entries
      goes c T = W.running c T zero_is

      grown : Grown s t u z m P.going.c r.nodes P.going.c
      grown = W.longer.grown P.going.c P.going.running.table

      done : (at : List ℕ → List Term) → ClausesAre at s t₀ w k → (words : List PolWord) (e p : ℕ) → words_at enough (above_in s w k) s from 0 ≡ got words e p
          → (ws : List PolWord) × Behind (above_in s w k) s (behind_of head) ws words × (pol_steps at ws [] ≡ ok (stack_of (decode s u) ds ls r.entries))
      unfolding res_of
      done at C words e p q =
          let g = P.read at C words e p q in
          word-here g.1 (λ x h b. (g.0 ++ (x ∷ []), b, steps-more at g.0 g.2 x (rw zero_is at (W.is at (P.clauses at C) x (behind_of head) 0 (h 0)))))

      -- a word that succeeds, and more behind it
      pub pass-more : close_at s (behind_of head) ≡ 0 → Pass s t₀ u w z ds ls tl all k from n (behind_of head) r.nodes r.entries
      pass-more q = record {
        going = record { c = P.going.c; running = goes P.going.c P.going.running.table; above = above-grown P.going.above grown };
        longer = longer;
        up = omega (arith, P.up, grown.more);
        room = omega (arith, P.room, grown.kept.long);
        held = W.held zero_is n P.held;
        clauses = λ at C. clauses-grown P.going.above grown P.going.running.table at (P.clauses at C);
        read = λ at C words e p f. let g = done at C words e p f in (g.0, behind_more (above_in s w k) s g.1 q, g.2);
      }

      module _ {close : ℕ} (q : close_at s (behind_of head) ≡ close) (ends : close ≡ 0 → ⊥) where
        closed : (ws words : List PolWord) → Behind (above_in s w k) s (behind_of head) ws words → words ≡ ws
        closed ws words B = go close q ends
          where
            go : (c : ℕ) → close_at s (behind_of head) ≡ c → (c ≡ 0 → ⊥) → words ≡ ws
            go zero e f = absurd (f refl)
            go (suc c) e f = behind-closed (above_in s w k) s B e

        left : (at : List ℕ → List Term) → ClausesAre at s t₀ w k → (words : List PolWord) (e p : ℕ) → words_at enough (above_in s w k) s from 0 ≡ got words e p → pol_result at words ≡ last_entry (stack_of (decode s u) ds ls r.entries)
        left at C words e p f = let g = done at C words e p f in steps-ended at g.0 g.2 (closed g.0 words g.1)

        -- the last word, and one entry
        pub pass-ended : r.entries ≡ 1 → WordsRun s t₀ u w z k from n ds ls (record { number = 0; nodes = r.nodes; entries = r.entries })
        unfolding stack_of last_entry res_of
        pass-ended one = record {
          is = λ at C words e p f. left at C words e p f ∙ ap (λ (d : ℕ). last_entry (stack_of (decode s u) ds ls d)) one;
          longer = longer;
          stack = λ e. let G = goes P.going.c P.going.running.table in (rw one at G.stack, rw one at G.under);
        }

        -- or not one
        pub pass_uneven : (r.entries ≡ 1 → ⊥) → WordsRun s t₀ u w z k from n ds ls (record { number = 52; nodes = r.nodes; entries = r.entries })
        unfolding res_of
        pass_uneven other = record {
          is = λ at C words e p f. left at C words e p f ∙ not-one (decode s u) ds ls r.entries other;
          longer = longer;
          stack = λ e. let f : ⊥ = omega arith in absurd f;
        }
