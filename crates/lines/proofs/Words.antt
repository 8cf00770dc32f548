-- The words of a pol line, one after the other: those that are done, those that the grammar still reads, and what the stack machine makes of them.
use mathlib.Core.Path.{◌≡◌, refl, sym, ap, subst, ◌∙◌}
use mathlib.Core.Bool.{Bool}
use mathlib.Core.List.{List, [], ◌∷◌, ◌++◌, append_assoc, append-nil}
use Prim.Native.Nat.{ℕ, zero, suc}
use Rattle.calculus.specs.Entries.{Inequality}
use Rattle.calculus.specs.Grammar.{Reads, got, off, then, on_item, close_at}
use Rattle.calculus.specs.Pol.{pol_step, pol_steps, last_entry, pol_result}
use Rattle.calculus.specs.PolGrammar.{word_at, more_words, words_at}
use Rattle.calculus.specs.Terms.{Term, PolWord}
use Rattle.calculus.specs.Words.{Res, ok, bad, bind}

-- ---- what the grammar reads
-- with the words ws done, a word stands at byte i, and with it the line has the words all
pub record Ahead (above : List ℕ → Bool) (s : List ℕ) (i : ℕ) (ws all : List PolWord) : Type 0 where
  pub fuel : ℕ
  pub nodes : ℕ
  pub end : ℕ
  pub last : ℕ
  pub read : then (word_at above s i nodes) (λ w t m. more_words fuel above s t m (ws ++ (w ∷ []))) ≡ got all end last

-- with the words ws done, the line ends at byte i or goes on there
pub record Behind (above : List ℕ → Bool) (s : List ℕ) (i : ℕ) (ws all : List PolWord) : Type 0 where
  pub fuel : ℕ
  pub nodes : ℕ
  pub end : ℕ
  pub last : ℕ
  pub read : more_words fuel above s i nodes ws ≡ got all end last

-- a refusal is no answer
pub off-got : {A B : Type 0} {e p t n : ℕ} {a : A} → ◌≡◌ {A = Reads A} (off e p) (got a t n) → B
off-got {A} q = absurd (subst none q tt)
  where
    none : Reads A → Type 0
    none (got a t n) = ⊥
    none (off e p) = Unit

-- an answer is what it is
pub got-is : {A : Type 0} {a b : A} {t u n m : ℕ} → ◌≡◌ {A = Reads A} (got a t n) (got b u m) → b ≡ a
got-is {A} {a} q = sym (ap value q)
  where
    value : Reads A → A
    value (got x t n) = x
    value (off e p) = a

module _ (above : List ℕ → Bool) (s : List ℕ) where
  pub ahead-start : (f i n : ℕ) (all : List PolWord) (e m : ℕ) → words_at f above s i n ≡ got all e m → Ahead above s i [] all
  unfolding words_at
  ahead-start f i n all e m q = record { fuel = f; nodes = n; end = e; last = m; read = q }

  module _ {i : ℕ} {ws all : List PolWord} where
    -- there is a word
    pub ahead-word : (A : Ahead above s i ws all) {e p : ℕ} → word_at above s i A.nodes ≡ off e p → ⊥
    unfolding then
    ahead-word A q = off-got (sym (ap (λ (r : Reads PolWord). then r (λ w t m. more_words A.fuel above s t m (ws ++ (w ∷ [])))) q) ∙ A.read)

    pub ahead-behind : (A : Ahead above s i ws all) {w : PolWord} {t m : ℕ} → word_at above s i A.nodes ≡ got w t m → Behind above s t (ws ++ (w ∷ [])) all
    unfolding then
    ahead-behind A {w} {t} {m} q = record {
      fuel = A.fuel;
      nodes = m;
      end = A.end;
      last = A.last;
      read = sym (ap (λ (r : Reads PolWord). then r (λ w t m. more_words A.fuel above s t m (ws ++ (w ∷ [])))) q) ∙ A.read;
    }

    pub behind-closed : Behind above s i ws all → {e : ℕ} → close_at s i ≡ suc e → all ≡ ws
    unfolding more_words on_item
    behind-closed B {e} q = go B.fuel B.read
      where
        go : (f : ℕ) → more_words f above s i B.nodes ws ≡ got all B.end B.last → all ≡ ws
        go zero r = off-got r
        go (suc f) r = got-is (sym (ap (on_item (then (word_at above s i B.nodes) (λ w t m. more_words f above s t m (ws ++ (w ∷ [])))) ws B.nodes) q) ∙ r)

    pub behind_more : Behind above s i ws all → close_at s i ≡ 0 → Ahead above s i ws all
    unfolding more_words on_item
    behind_more B q = go B.fuel B.read
      where
        go : (f : ℕ) → more_words f above s i B.nodes ws ≡ got all B.end B.last → Ahead above s i ws all
        go zero r = off-got r
        go (suc f) r = record {
          fuel = f;
          nodes = B.nodes;
          end = B.end;
          last = B.last;
          read = sym (ap (on_item (then (word_at above s i B.nodes) (λ w t m. more_words f above s t m (ws ++ (w ∷ [])))) ws B.nodes) q) ∙ r;
        }

  -- the words that are done come first
  more-extends : (f i n : ℕ) (ws all : List PolWord) (e m : ℕ) → more_words f above s i n ws ≡ got all e m → (zs : List PolWord) × (all ≡ ws ++ zs)
  unfolding more_words on_item then
  more-extends zero i n ws all e m q = off-got q
  more-extends (suc f) i n ws all e m q = go (close_at s i) q (λ w t l. more-extends f t l (ws ++ (w ∷ [])) all e m)
    where
      Rest : Type 0
      Rest = (w : PolWord) (t l : ℕ) → more_words f above s t l (ws ++ (w ∷ [])) ≡ got all e m → (zs : List PolWord) × (all ≡ (ws ++ (w ∷ [])) ++ zs)

      word : Rest → (r : Reads PolWord) → then r (λ w t m. more_words f above s t m (ws ++ (w ∷ []))) ≡ got all e m → (zs : List PolWord) × (all ≡ ws ++ zs)
      word rest (got w t l) q = let g = rest w t l q in (w ∷ g.0, g.1 ∙ append_assoc ws (w ∷ []) g.0)
      word rest (off a b) q = off-got q

      go : (c : ℕ) → on_item (then (word_at above s i n) (λ w t m. more_words f above s t m (ws ++ (w ∷ [])))) ws n c ≡ got all e m → Rest → (zs : List PolWord) × (all ≡ ws ++ zs)
      go zero q rest = word rest (word_at above s i n) q
      go (suc c) q rest = ([], got-is q ∙ sym (append-nil ws))

  pub behind-extends : {i : ℕ} {ws all : List PolWord} → Behind above s i ws all → (zs : List PolWord) × (all ≡ ws ++ zs)
  behind-extends {i} {ws} {all} B = more-extends B.fuel i B.nodes ws all B.end B.last B.read

-- ---- what the machine makes of them
module _ (at : List ℕ → List Term) where
  steps_append : (ws zs : List PolWord) (S : List Inequality) → pol_steps at (ws ++ zs) S ≡ bind (pol_steps at ws S) (pol_steps at zs)
  unfolding pol_steps bind
  steps_append [] zs S = refl
  steps_append (w ∷ ws) zs S = go (pol_step at w S) (steps_append ws zs)
    where
      go : (r : Res (List Inequality)) → ((R : List Inequality) → pol_steps at (ws ++ zs) R ≡ bind (pol_steps at ws R) (pol_steps at zs)) → bind r (pol_steps at (ws ++ zs)) ≡ bind (bind r (pol_steps at ws)) (pol_steps at zs)
      go (ok R) rest = rest R
      go (bad n) rest = refl

  module _ (ws : List PolWord) {S : List Inequality} (D : pol_steps at ws [] ≡ ok S) (w : PolWord) where
    one_more : pol_steps at (ws ++ (w ∷ [])) [] ≡ pol_step at w S
    unfolding pol_steps bind
    one_more = steps_append ws (w ∷ []) [] ∙ ap (λ (r : Res (List Inequality)). bind r (pol_steps at (w ∷ []))) D ∙ go (pol_step at w S)
      where
        go : (r : Res (List Inequality)) → bind r (pol_steps at []) ≡ r
        go (ok R) = refl
        go (bad n) = refl

    -- a word that succeeds
    pub steps-more : {R : List Inequality} → pol_step at w S ≡ ok R → pol_steps at (ws ++ (w ∷ [])) [] ≡ ok R
    steps-more e = one_more ∙ e

    -- the first that fails decides
    pub steps_failed : {above : List ℕ → Bool} {s : List ℕ} {i n : ℕ} {all : List PolWord} → Behind above s i (ws ++ (w ∷ [])) all → pol_step at w S ≡ bad n → pol_result at all ≡ bad n
    unfolding pol_result bind
    steps_failed {above} {s} B e =
        let g = behind-extends above s B in
        ap (λ (l : List PolWord). bind (pol_steps at l []) last_entry) g.1
        ∙ ap (λ (r : Res (List Inequality)). bind r last_entry) (steps_append (ws ++ (w ∷ [])) g.0 [] ∙ ap (λ (r : Res (List Inequality)). bind r (pol_steps at g.0)) (one_more ∙ e))

  -- after all of them
  pub steps-ended : (ws : List PolWord) {all : List PolWord} {S : List Inequality} → pol_steps at ws [] ≡ ok S → all ≡ ws → pol_result at all ≡ last_entry S
  unfolding pol_result bind
  steps-ended ws D e = rw (e, D)
