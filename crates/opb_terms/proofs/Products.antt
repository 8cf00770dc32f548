-- The summands: a literal, a summand, one of the words, and the loop over all of them.
use mathlib.Core.Path.{◌≡◌, refl, sym, ap, ◌∙◌}
use mathlib.Core.Bool.{Bool, true, false, cond}
use mathlib.Core.List.{List, [], ◌∷◌, ◌++◌, map, map-append}
use Prim.Native.Nat.{ℕ, suc, ◌+◌, ◌-◌, ◌*◌, ◌≤◌, ◌<◌}
use native.Mathlib.Omega.{arith}
use borrow.Author.Tests.{eqb-true}
use lib.Dec.{eqb}
use lib.ListN.{length, get_or, take, set}
use lib.Seq.{slice, get_or-set_same, take-suc-set}
use Rattle.integer.specs.Integers.{signed}
use Rattle.calculus.specs.Equality.{op_of}
use Rattle.calculus.specs.Entries.{lit_term, entry_term}
use Rattle.calculus.specs.OpbWriting.{times, key_of, entry_of, turned}
use Rattle.calculus.specs.Terms.{Term, num, var, listed}
use Rattle.calculus.specs.Words.{max_name}
use Rattle.nodes.specs.Nodes.{capacity, max_capacity, child_base, plus_kind, minus_kind, decode, Below, put}
use Rattle.nodes.proofs.Tables.{kept_refl, kept_trans, below_more, below-snoc, map-kept}
use Rattle.opb.specs.Counts.{negations}
use Rattle.opb.specs.Summands.{summand_word, literal_over, summand_at, summands_of, SummandIn}
use Rattle.terms.specs.Names.{Names, VariablePut}
use Rattle.terms.specs.Spans.{max_joined}
use Rattle.opb_terms.specs.Making.{turned_summand, turned_if, Numeral, SignIs, literal_nodes, summand_nodes, negated_at, product_nodes, NameIn, Ready, Making, binary, TermPut, words_behind, literal_term, summand_term, ProductsPut}
use Rattle.opb_terms.proofs.Putting.{numeral-put, variable-put, binary-put}
use Rattle.opb_terms.proofs.Turning.{numeral-plus, turned_more, products-more, products-room}

-- the same, with other names for the counts and the term
pub put_as : {s t u y : List ℕ} {n c m d : ℕ} {x : Term} → TermPut s t u y n c m d x → (e : ℕ) (z : Term) → d ≡ e → x ≡ z → TermPut s t u y n c m e z
put_as P e z p q = rw (← p, ← q) P

-- ---- a literal
-- what the writer of a variable asks
abbrev pub VariableAsked : (s t y : List ℕ) (n a b : ℕ) → Type 0
VariableAsked s t y n a b = (capacity t ≤ max_capacity) × (n < capacity t) × Names s t y n × (length s ≤ max_joined) × (a < b) × (b ≤ length s) × (b ≤ a + max_name)

-- and that of an operator over two nodes
abbrev pub BinaryAsked : (t : List ℕ) (m d a b base : ℕ) → Type 0
BinaryAsked t m d a b base = (capacity t ≤ max_capacity) × (m < capacity t) × (d + 2 ≤ capacity t) × (a < capacity t) × (b < capacity t) × (base ≡ child_base t)

module _ {s t y : List ℕ} {n c : ℕ} {negated : Bool} (R : Ready s t y n c (literal_nodes negated)) where
  module _ (yes : negated ≡ true) where
    pub literal-room : n + 3 ≤ capacity t
    unfolding literal_nodes
    literal-room = rw yes at R.room

    module _ {u : List ℕ} (e : u ≡ put t n (cond false minus_kind plus_kind) 1 0) where
      pub one-put : TermPut s t u y n c (n + 1) c (num (signed false 1))
      one-put = numeral-put R.table (omega (arith, literal-room)) false 1 (numeral-plus (omega arith)) R.names e

      pub negated-asked : {a b : ℕ} → NameIn s a b → VariableAsked s u y (n + 1) a b
      negated-asked N = (one-put.grown.table.wide, omega (arith, literal-room, one-put.grown.kept.long), one-put.grown.names, R.text, N.starts, N.ends, N.short)

      module _ {v z : List ℕ} {a b : ℕ} (F : VariablePut s u v z (n + 1) a b) where
        pub name-put : TermPut s u v z (n + 1) c (n + 1 + 1) c (var (slice a b s))
        name-put = variable-put one-put.grown.table (omega (arith, literal-room, one-put.grown.kept.long)) F

        -- what the writer of the operator asks
        pub negated-binary : {base : ℕ} → base ≡ child_base t → BinaryAsked v (n + 2) c n (n + 1) base
        negated-binary e =
            let room : n + 3 ≤ capacity v = omega (arith, literal-room, one-put.grown.kept.long, name-put.grown.kept.long) in
            (name-put.grown.table.wide, omega arith, omega (arith, R.table.used), omega arith, omega arith, omega (arith, e, one-put.grown.kept.long, name-put.grown.kept.long))

        pub negated-put : {r : List ℕ} → r ≡ binary v (n + 2) c 1 n (n + 1)
            → (n + 3 ≡ n + literal_nodes negated) × TermPut s t r z n c (n + 3) (words_behind n c (n + 3)) (literal_term (literal_over negated (slice a b s)))
        unfolding literal_nodes literal_term lit_term key_of literal_over listed op_of signed
        negated-put {r} q =
            let i : n + 1 + 1 ≡ n + 2 = omega arith in
            let W : TermPut s u v z (n + 1) c (n + 2) c (var (slice a b s)) = rw i at name-put in
            let j : n + 2 + 1 ≡ n + 3 = omega arith in
            rw yes (refl, put_as (rw j at (binary-put one-put W R.table.used 1 n (n + 1) r (omega arith) refl i (omega (arith, literal-room, one-put.grown.kept.long, W.grown.kept.long)) q)) _ _ (omega arith) refl)

  module _ (no : negated ≡ false) where
    pub plain-room : n + 1 ≤ capacity t
    unfolding literal_nodes
    plain-room = rw no at R.room

    pub plain-asked : {a b : ℕ} → NameIn s a b → VariableAsked s t y n a b
    plain-asked N = (R.table.wide, omega (arith, plain-room), R.names, R.text, N.starts, N.ends, N.short)

    pub plain-put : {u z : List ℕ} {a b : ℕ} → VariablePut s t u z n a b
        → (n + 1 ≡ n + literal_nodes negated) × TermPut s t u z n c (n + 1) (words_behind n c (n + 1)) (literal_term (literal_over negated (slice a b s)))
    unfolding literal_nodes literal_term lit_term key_of literal_over
    plain-put F = rw no (refl, put_as (variable-put R.table (omega (arith, plain-room)) F) _ _ (omega arith) refl)

-- ---- a summand
-- its nodes and its literal's
pub more-nodes : (negated : Bool) → summand_nodes negated ≡ literal_nodes negated + 2
unfolding summand_nodes literal_nodes
more-nodes true = refl
more-nodes false = refl

pub some-nodes : (negated : Bool) → 1 ≤ literal_nodes negated
unfolding literal_nodes
some-nodes true = omega arith
some-nodes false = omega arith

module _ {s t y : List ℕ} {n c : ℕ} (negated : Bool) (R : Ready s t y n c (summand_nodes negated)) where
  module _ {u : List ℕ} (m : Bool) (g : ℕ) (N : Numeral m g) (e : u ≡ put t n (cond m minus_kind plus_kind) g 0) where
    pub coefficient-put : TermPut s t u y n c (n + 1) c (num (signed m g))
    coefficient-put = numeral-put R.table (omega (arith, R.room, more-nodes negated, some-nodes negated)) m g N R.names e

    pub literal-ready : Ready s u y (n + 1) c (literal_nodes negated)
    literal-ready = record { text = R.text; table = coefficient-put.grown.table; names = coefficient-put.grown.names; room = omega (arith, R.room, more-nodes negated, coefficient-put.grown.kept.long) }

    pub summand-binary : {v z : List ℕ} {x : Term} {l w : ℕ} → l ≡ n + 1 + literal_nodes negated → TermPut s u v z (n + 1) c l w x → {base : ℕ} → base ≡ child_base t → BinaryAsked v l (c + (l - n) - 2) n (l - 1) base
    summand-binary {v} {l = l} p L b =
        let room : l + 1 ≤ capacity v = omega (arith, R.room, more-nodes negated, coefficient-put.grown.kept.long, L.grown.kept.long) in
        (L.grown.table.wide, omega arith, omega (arith, R.table.used, some-nodes negated), omega (arith, some-nodes negated), omega arith, omega (arith, b, coefficient-put.grown.kept.long, L.grown.kept.long))

    pub summand-put : {v z r : List ℕ} (x : List ℕ) (l : ℕ) → l ≡ n + 1 + literal_nodes negated → TermPut s u v z (n + 1) c l (words_behind (n + 1) c l) (literal_term (literal_over negated x))
        → r ≡ binary v l (c + (l - n) - 2) 2 n (l - 1)
        → (l + 1 ≡ n + summand_nodes negated) × TermPut s t r z n c (l + 1) (words_behind n c (l + 1)) (summand_term (times (signed m g) (literal_over negated x)))
    unfolding summand_term literal_term entry_term entry_of listed op_of
    summand-put {v} {z} {r} x l p L q =
        let W : TermPut s u v z (n + 1) c l (c + (l - n) - 2) (literal_term (literal_over negated x)) = put_as L _ _ (omega (arith, some-nodes negated)) refl in
        (omega (arith, more-nodes negated), put_as (binary-put coefficient-put W R.table.used 2 n (l - 1) r (omega arith) refl (omega (arith, L.some)) (omega (arith, R.room, more-nodes negated, coefficient-put.grown.kept.long, L.grown.kept.long)) q) _ _ (omega (arith, some-nodes negated)) refl)

-- ---- a summand of the words
module _ {s a : List ℕ} {i : ℕ} (S : SummandIn s a i) where
  sign_word : get_or a (5 * i) 0 ≡ summand_word a i 0
  sign_word = let e : 5 * i ≡ 5 * i + 0 = omega arith in ap (λ (k : ℕ). get_or a k 0) e

  pub product-numeral : Numeral (eqb (get_or a (5 * i) 0) 1) (summand_word a i 1)
  product-numeral = record { size = S.size; minus = λ e. S.minus (sym sign_word ∙ eqb-true (get_or a (5 * i) 0) 1 e) }

  module _ {x z : ℕ} (e : x ≡ summand_word a i 3) (f : z ≡ summand_word a i 4) where
    pub product-name : NameIn s x z
    product-name = rw (e, f) record { starts = S.starts; ends = S.ends; short = S.short }

    pub product-put : {t u y : List ℕ} {n c m w : ℕ} {d r : Bool} → SignIs d (eqb (get_or a (5 * i) 0) 1) (summand_word a i 1) r
        → TermPut s t u y n c m w (summand_term (times (signed r (summand_word a i 1)) (literal_over (negated_at a i) (slice x z s)))) → TermPut s t u y n c m w (summand_term (turned_summand d (summand_at s a i)))
    unfolding turned_summand summand_at
    product-put G P = put_as P _ _ refl (rw (G.number, sign_word, e, f))

-- ---- the loop over the products
-- the child words in use behind one summand more
words_step : (n c m i r : ℕ) → n + i ≤ m → m < r → words_behind m (c + (m - n) - i) r ≡ c + (r - n) - (i + 1)
words_step n c m i r h g = omega arith

module _ {s a t₀ v₀ y₀ : List ℕ} {d : Bool} {q n c : ℕ} (M : Making s a t₀ v₀ y₀ q n c (product_nodes s a q)) where
  pub loop-start : ProductsPut s a t₀ t₀ v₀ y₀ d 0 n c n
  unfolding Below turned_if turned summands_of negations
  loop-start =
      let z : c + (n - n) - 0 ≡ c = omega arith in
      record {
        size = omega arith;
        grown = rw z record { kept = kept_refl t₀ n c; table = M.ready.table; names = M.ready.names; more = omega arith; wider = omega arith };
        last = λ h. let z : ⊥ = omega arith in absurd z;
        decoded = none d;
        below = tt;
      }
    where
      none : (d : Bool) → [] ≡ map summand_term (turned_if d [])
      none true = refl
      none false = refl

  module _ {t v y : List ℕ} {i m : ℕ} (I : ProductsPut s a t₀ t v y d i n c m) (less : i < q) where
    pub loop-room : m + summand_nodes (negated_at a i) ≤ capacity t
    loop-room = omega (arith, I.size, I.grown.kept.long, M.ready.room, products-room s a i q less)

    pub loop-ready : Ready s t y m (c + (m - n) - i) (summand_nodes (negated_at a i))
    loop-ready = record { text = M.ready.text; table = I.grown.table; names = I.grown.names; room = loop-room }

    pub loop-more : {u z : List ℕ} (r : ℕ) → length v ≡ length v₀ → r ≡ m + summand_nodes (negated_at a i)
        → TermPut s t u z m (c + (m - n) - i) r (words_behind m (c + (m - n) - i) r) (summand_term (turned_summand d (summand_at s a i)))
        → ProductsPut s a t₀ u (set v i (r - 1)) z d (i + 1) n c r
    unfolding summands_of
    loop-more {u} {z} r long p P =
        let up : r - 1 + 1 ≡ r = omega (arith, P.some) in
        let under : r - 1 < r = omega (arith, P.some) in
        let e : i + 1 ≡ suc i = omega arith in
        let back : i + 1 - 1 ≡ i = omega arith in
        let wide : i < length v = omega (arith, long, M.stack, I.size, loop-room) in
        let S : take (i + 1) (set v i (r - 1)) ≡ take i v ++ ((r - 1) ∷ []) = rw e (take-suc-set v i (r - 1) wide) in
        let w : words_behind m (c + (m - n) - i) r ≡ c + (r - n) - (i + 1) = words_step n c m i r (omega (arith, I.size)) P.some in
        record {
          size = omega (arith, products-more s a i, I.size);
          grown = record {
            kept = kept_trans I.grown.kept P.grown.kept I.grown.more I.grown.wider;
            table = rw (← w) P.grown.table;
            names = P.grown.names;
            more = omega (arith, I.grown.more, P.grown.more);
            wider = omega (arith, I.size, P.some);
          };
          last = λ h. rw (back, get_or-set_same v i (r - 1) 0 wide) up;
          decoded = rw (S, map-append (decode s u) (take i v) ((r - 1) ∷ []), map-kept I.grown.table P.grown.kept s (take i v) I.below, I.decoded, P.decoded, e, turned_more d (summands_of s a i) (summand_at s a i), map-append summand_term (turned_if d (summands_of s a i)) (turned_summand d (summand_at s a i) ∷ []));
          below = rw S (below-snoc (take i v) (r - 1) (below_more (take i v) I.below P.grown.more) under);
        }
