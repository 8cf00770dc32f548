-- What a pol line pushes: its words one after the other, and whether each id among them is marked.
use mathlib.Core.Path.{◌≡◌, refl, sym, ap, ap₂, subst, ◌∙◌}
use mathlib.Core.Bool.{Bool, true, false, ◌&&◌}
use mathlib.Core.List.{List, [], ◌∷◌, ◌++◌}
use Prim.Native.Nat.{ℕ, zero, suc, ◌≤◌, ◌<◌}
use native.Mathlib.Omega.{arith}
use lib.ListN.{get_or}
use lib.Seq.{slice}
use Rattle.calculus.specs.Commands.{enough}
use Rattle.calculus.specs.Grammar.{Reads, got, off, close_at}
use Rattle.calculus.specs.Marks.{Line, line_at, all_hold}
use Rattle.calculus.specs.Pol.{pushed_ids}
use Rattle.calculus.specs.Terms.{PolWord, line_word, plain_word, negated_word, plus-word, saturate-word, times-word, over_word}
use Rattle.heads.specs.PolHeads.{pol_word_of, PolWordIs}
use Rattle.heads.specs.declared.PolHead.{PolHead}
use Rattle.std.specs.Prelude.{Ok, Err}
use Rattle.lexer.specs.declared.Fault.{Fault}
use Rattle.heads.specs.declared.PolHead.TheVariants.{Plain, Negated, Add, Saturate, Times, Over}
use Rattle.lexer.specs.Tokens.{place}
use Rattle.terms.specs.Spans.{strings}
use Rattle.terms.proofs.Places.{string-found}
use Rattle.reader.specs.Commands.{above_in, words_in, words_from, pol_words_of, PolRead}
use Rattle.reader.specs.Reading.{Ids}
use Rattle.lines.specs.Running.{behind_of}
use Rattle.lines.proofs.Doing.{among, not-among}
use Rattle.lines.proofs.Passing.{by_head}
use Rattle.lines.proofs.Words.{Ahead, Behind, ahead-start, ahead-word, ahead-behind, behind-closed, behind_more, behind-extends}
use Rattle.checker.specs.Runs.{HoldBy, PushIs, PushesAre}

-- ---- lists of words
hold_append : (ls : List Line) (ds es : List (List ℕ)) → all_hold ls (ds ++ es) ≡ (all_hold ls ds && all_hold ls es)
unfolding all_hold
hold_append ls [] es = refl
hold_append ls (d ∷ ds) es = go (line_at ls d).holds (hold_append ls ds es)
  where
    go : (b : Bool) → all_hold ls (ds ++ es) ≡ (all_hold ls ds && all_hold ls es) → (b && all_hold ls (ds ++ es)) ≡ ((b && all_hold ls ds) && all_hold ls es)
    go true e = e
    go false e = refl

pushed_append : (ws zs : List PolWord) → pushed_ids (ws ++ zs) ≡ pushed_ids ws ++ pushed_ids zs
unfolding pushed_ids
pushed_append [] zs = refl
pushed_append (line_word d ∷ ws) zs = ap (λ (ds : List (List ℕ)). d ∷ ds) (pushed_append ws zs)
pushed_append (plain_word x ∷ ws) zs = pushed_append ws zs
pushed_append (negated_word x ∷ ws) zs = pushed_append ws zs
pushed_append (plus-word ∷ ws) zs = pushed_append ws zs
pushed_append (saturate-word ∷ ws) zs = pushed_append ws zs
pushed_append (times-word m ∷ ws) zs = pushed_append ws zs
pushed_append (over_word m ∷ ws) zs = pushed_append ws zs

both_hold : (ls : List Line) (ws zs : List PolWord) → all_hold ls (pushed_ids (ws ++ zs)) ≡ (all_hold ls (pushed_ids ws) && all_hold ls (pushed_ids zs))
both_hold ls ws zs = ap (all_hold ls) (pushed_append ws zs) ∙ hold_append ls (pushed_ids ws) (pushed_ids zs)

-- ---- one word
-- the word that the grammar reads is the head's
word-is : {A : Type 0} {a b : A} {t u n m : ℕ} → ◌≡◌ {A = Reads A} (got a t n) (got b u m) → b ≡ a
word-is {A} {a} q = sym (ap value q)
  where
    value : Reads A → A
    value (got x t n) = x
    value (off e p) = a

and_true : (b : Bool) → b ≡ (b && true)
and_true true = refl
and_true false = refl

module _ (s w : List ℕ) (k : ℕ) (marks : List Bool) where
  -- an id above: it holds where its command is marked
  pub push-id : (from to : ℕ) {all j : ℕ} → k ≤ all → j ≡ place (strings s w 0 all) (slice from to s) → j < k → PushIs s w k (Plain from to) marks (get_or marks j false)
  unfolding pol_word_of above_in all_hold pushed_ids
  push-id from to {all} {j} few found before ls H x next n q =
      let a = among s w (slice from to s) few found before in
      let e : x ≡ line_word (slice from to s) = word-is (rw a at q) in
      rw e (sym (H j before) ∙ ap (λ (d : List ℕ). (line_at ls d).holds) (string-found s w all (slice from to s) j found (omega arith)) ∙ and_true (line_at ls (slice from to s)).holds)

  -- any other name
  pub push-name : (from to : ℕ) {all j : ℕ} → Ids s w all → k ≤ all → j ≡ place (strings s w 0 all) (slice from to s) → k ≤ j → PushIs s w k (Plain from to) marks true
  unfolding pol_word_of all_hold pushed_ids
  push-name from to {all} {j} I few found behind ls H x next n q =
      let a = not-among (slice from to s) I few found behind in
      let e : x ≡ plain_word (slice from to s) = word-is (rw a at q) in
      rw e refl

  -- the other words push no id
  abbrev pub Other : PolHead → Type 0
  Other (Plain p t) = ⊥
  Other (Negated p t) = Unit
  Other (Add t) = Unit
  Other (Saturate t) = Unit
  Other (Times m v t) = Unit
  Other (Over m v t) = Unit

  push-other : (head : PolHead) → Other head → PushIs s w k head marks true
  unfolding pol_word_of all_hold pushed_ids
  push-other (Plain p t) o ls H x next n q = absurd o
  push-other (Negated p t) o ls H x next n q = rw (word-is q) refl
  push-other (Add t) o ls H x next n q = rw (word-is q) refl
  push-other (Saturate t) o ls H x next n q = rw (word-is q) refl
  push-other (Times m v t) o ls H x next n q = rw (word-is q) refl
  push-other (Over m v t) o ls H x next n q = rw (word-is q) refl

  pub push-as : {head other : PolHead} → head ≡ other → Other other → PushIs s w k head marks true
  push-as {head} {other} e o = subst (λ (h : PolHead). PushIs s w k h marks true) (sym e) (push-other other o)

-- ---- the words so far
-- a word stands at byte i, and each id that is pushed before it is marked
pub record Walk (s w : List ℕ) (k : ℕ) (marks : List Bool) (i : ℕ) : Type 0 where
  pub words : List PolWord
  pub ahead : Ahead (above_in s w k) s i words (pol_words_of s w k)
  pub held : (ls : List Line) → HoldBy ls s w k marks → all_hold ls (pushed_ids words) ≡ true

pub walk_start : (s w : List ℕ) (k : ℕ) (marks : List Bool) → PolRead s w k → Walk s w k marks (words_from s w k)
unfolding pol_words_of words_in all_hold pushed_ids
walk_start s w k marks (ws, e, m, q) = record {
  words = [];
  ahead = ahead-start (above_in s w k) s enough (words_from s w k) 0 (pol_words_of s w k) e m (q ∙ ap (λ (zs : List PolWord). got zs e m) (sym (ap words_in q)));
  held = λ ls H. refl;
}

-- there is a word
pub walk-word : {s w : List ℕ} {k : ℕ} {marks : List Bool} {i : ℕ} → Walk s w k marks i → (fault : Fault) → PolWordIs s i (Err fault) → ⊥
walk-word {s} {w} {k} W fault H = ahead-word (above_in s w k) s W.ahead (sym (H (above_in s w k) W.ahead.nodes))

module _ {s w : List ℕ} {k : ℕ} {marks : List Bool} {i : ℕ} (W : Walk s w k marks i) (head : PolHead) (H : PolWordIs s i (Ok head)) where
  word-here : {B : Type 0} → ((x : PolWord) → ((n : ℕ) → pol_word_of (above_in s w k) s n head ≡ got x (behind_of head) n) → Behind (above_in s w k) s (behind_of head) (W.words ++ (x ∷ [])) (pol_words_of s w k) → B) → B
  word-here f = by_head (above_in s w k) s head (λ x q. f x q (ahead-behind (above_in s w k) s W.ahead (sym (H (above_in s w k) W.ahead.nodes) ∙ q W.ahead.nodes)))

  module _ {r : Bool} (P : PushIs s w k head marks r) where
    -- those before it and it
    with_it : (ls : List Line) → HoldBy ls s w k marks → (x : PolWord) → pol_word_of (above_in s w k) s 0 head ≡ got x (behind_of head) 0 → all_hold ls (pushed_ids (W.words ++ (x ∷ []))) ≡ r
    with_it ls M x q = both_hold ls W.words (x ∷ []) ∙ ap₂ ◌&&◌ (W.held ls M) (sym (P ls M x (behind_of head) 0 q))

    -- it pushes an id that is not marked
    pub walk_not : r ≡ false → PushesAre s w k marks false
    walk_not z ls M =
        word-here (λ x q b.
        let g = behind-extends (above_in s w k) s b in
        sym (ap (λ (zs : List PolWord). all_hold ls (pushed_ids zs)) g.1 ∙ both_hold ls (W.words ++ (x ∷ [])) g.0 ∙ ap (λ (c : Bool). c && all_hold ls (pushed_ids g.0)) (with_it ls M x (q 0) ∙ z)))

    -- it is the last
    pub walk-ended : {close : ℕ} → r ≡ true → close_at s (behind_of head) ≡ close → (close ≡ 0 → ⊥) → PushesAre s w k marks true
    walk-ended {close} z c f ls M =
        word-here (λ x q b. sym (ap (λ (zs : List PolWord). all_hold ls (pushed_ids zs)) (go close c f (W.words ++ (x ∷ [])) b) ∙ with_it ls M x (q 0) ∙ z))
      where
        go : (m : ℕ) → close_at s (behind_of head) ≡ m → (m ≡ 0 → ⊥) → (ws : List PolWord) → Behind (above_in s w k) s (behind_of head) ws (pol_words_of s w k) → pol_words_of s w k ≡ ws
        go zero e n ws b = absurd (n refl)
        go (suc m) e n ws b = behind-closed (above_in s w k) s b e

    -- there are more
    pub walk_more : r ≡ true → close_at s (behind_of head) ≡ 0 → Walk s w k marks (behind_of head)
    walk_more z c = word-here (λ x q b. record { words = W.words ++ (x ∷ []); ahead = behind_more (above_in s w k) s b c; held = λ ls M. with_it ls M x (q 0) ∙ z })
