-- What a node's words say of its term: each way out of the functions that match is one law.
use mathlib.Core.Path.{◌≡◌, refl, sym, ap, ◌∙◌, subst}
use mathlib.Core.Bool.{Bool, true, false}
use mathlib.Core.List.{List, [], ◌∷◌, map}
use Prim.Native.Nat.{ℕ, ◌+◌, ◌-◌, ◌*◌, ◌%◌, ◌^◌, ◌≤◌, ◌<◌}
use native.Mathlib.Decide.{dec_lt}
use native.Mathlib.Omega.{arith}
use borrow.Author.Tests.{eq-eqb, ne_eqb, le-leb, lt-leb}
use lib.Dec.{T, leb}
use lib.IntN.{ℤ, pos}
use lib.ListN.{length, get_or}
use Rattle.integer.specs.Integers.{signed, Within}
use Rattle.integer.proofs.Fits.{within_signed, fits-within}
use mir.Facts.{to_z-of_z}
use mir.Syntax.{w64}
use mir.Val.{to_z, of_z}
use Rattle.calculus.specs.Equality.{op_num, op_of, same_op}
use Rattle.calculus.specs.Matching.{as_constant, is_name, arguments_of, pair, binary, neg_of}
use Rattle.calculus.specs.Sums.{lit_if, lit_of, children_or, split_summation}
use Rattle.calculus.specs.Terms.{Term, var, app, listed, same_integer}
use Rattle.calculus.specs.Words.{ok, bad}
use Rattle.calculus.proofs.TermLaws.{same_integer-refl}
use Rattle.calculus.proofs.Booleans.{is_true}
use Rattle.nodes.specs.Nodes.{max_capacity, plus_kind, minus_kind, name_kind, kind_at, first_at, second_at, children_at, decode, Below, Node}
use Rattle.nodes.proofs.Comparing.{op_num-op_of}
use Rattle.nodes.proofs.Tables.{decode-application, decode-plus, decode-minus, decode-name, below_at, below_more}
use Rattle.matching.specs.Matched.{term, Inner, ConstantAt, PairAt, NegationAt, key_of, variable_of, negated_of, lit_at, LiteralIs, NumberIs, KeyIs, SplitIs}
use Rattle.matching.proofs.Checks.{bind-of, bind-bad, ensure-yes, ensure-no}
use Rattle.nodes.specs.Equal.{Pair}
use Rattle.calculus.proofs.TermLaws.{same_integer-eq}

-- the length of a node's part of the table
pub node-room : {t : List ℕ} {i : ℕ} → Node t i → 3 * i + 2 < length t
node-room N = omega (arith, N.below, N.table.few, N.table.room)

-- a node's number is small
pub node-few : {t : List ℕ} {i : ℕ} → Node t i → i ≤ max_capacity
node-few N = omega (arith, N.below, N.table.few)

-- what stands before a node is one
pub inner_of : {t : List ℕ} {i a : ℕ} → Node t i → a ≤ i → Inner t i a
inner_of N h = record { node = record { n = N.n; c = N.c; table = N.table; firsts = N.firsts; below = omega (arith, N.below) }; before = h }

pub node-before : {t : List ℕ} {i a : ℕ} → Node t i → a ≤ i → Node t a
node-before N h = (inner_of N h).node

-- two nodes of one table
pub pair-nodes : {t : List ℕ} {i j : ℕ} → Node t i → Node t j → Pair t i j
pair-nodes {t} {i} {j} M N = elim (dec_lt M.n N.n) [
  | yes l ↦ record { n = N.n; c = N.c; table = N.table; left = omega (arith, M.below); right = N.below }
  | no l ↦ record { n = M.n; c = M.c; table = M.table; left = M.below; right = omega (arith, N.below) }
]

-- equality of integers as a test
pub integer-same : (a b : ℤ) → a ≡ b → same_integer a b ≡ true
integer-same a b e = is_true (same_integer a b) (same_integer-refl a b e)

pub integer-other : (a b : ℤ) → (a ≡ b → ⊥) → same_integer a b ≡ false
integer-other a b f = go (same_integer a b) refl
  where
    go : (c : Bool) → same_integer a b ≡ c → c ≡ false
    go true q = absurd (f (same_integer-eq a b (subst T (sym q) tt)))
    go false q = refl

-- ---- numerals
-- what is within a bound below 2^63 is its bits again
pub kept : {k : ℕ} {z : ℤ} → k < 2 ^ 63 → Within k z → to_z w64 (of_z w64 z) ≡ z
kept h w = to_z-of_z (fits-within h w)

module _ {t : List ℕ} {i : ℕ} (N : Node t i) where
  pub constant-plus : kind_at t i ≡ plus_kind → (z : ℤ) → z ≡ signed false (first_at t i) → ConstantAt t i z
  unfolding as_constant
  constant-plus e z q = record {
    is = λ s. ap as_constant (decode-plus N.table s i N.below e) ∙ ap ok (sym q);
    within = rw q (within_signed false (N.table.numerals i N.below (omega arith) (omega arith)));
  }

  pub constant-minus : kind_at t i ≡ minus_kind → (z : ℤ) → z ≡ signed true (first_at t i) → ConstantAt t i z
  unfolding as_constant
  constant-minus e z q = record {
    is = λ s. ap as_constant (decode-minus N.table s i N.below e) ∙ ap ok (sym q);
    within = rw q (within_signed true (N.table.numerals i N.below (omega arith) (omega arith)));
  }

  pub constant-not : (kind_at t i ≡ plus_kind → ⊥) → (kind_at t i ≡ minus_kind → ⊥) → (s : List ℕ) → as_constant (decode s t i) ≡ bad 0
  unfolding as_constant
  constant-not f g s = elim (dec_lt (kind_at t i) plus_kind) [
    | yes l ↦ ap as_constant (decode-application N.table s i N.below l)
    | no l ↦ ap as_constant (decode-name N.table s i N.below (omega arith))
  ]

  -- ---- names
  name-yes : name_kind ≤ kind_at t i → (s : List ℕ) → true ≡ is_name (decode s t i)
  unfolding is_name
  name-yes h s = sym (ap is_name (decode-name N.table s i N.below h))

  name-no : kind_at t i < name_kind → (s : List ℕ) → false ≡ is_name (decode s t i)
  unfolding is_name
  name-no h s = sym (elim (dec_lt (kind_at t i) plus_kind) [
    | yes l ↦ ap is_name (decode-application N.table s i N.below l)
    | no l ↦ elim (dec_lt (kind_at t i) minus_kind) [
      | yes m ↦ ap is_name (decode-plus N.table s i N.below (omega arith))
      | no m ↦ ap is_name (decode-minus N.table s i N.below (omega arith))
    ]
  ])

  pub name-is : (k : ℕ) → k ≡ kind_at t i → (s : List ℕ) → leb name_kind k ≡ is_name (decode s t i)
  name-is k e s = elim (dec_lt (kind_at t i) name_kind) [
    | yes l ↦ lt-leb name_kind k (omega arith) ∙ name-no l s
    | no l ↦ le-leb name_kind k (omega arith) ∙ name-yes (omega arith) s
  ]

-- ---- arguments
op_same : (k : ℕ) → same_op (op_of k) (op_of k) ≡ true
op_same k = eq-eqb (op_num (op_of k)) (op_num (op_of k)) refl

op-other : (o k : ℕ) → o < plus_kind → k < plus_kind → (k ≡ o → ⊥) → same_op (op_of o) (op_of k) ≡ false
op-other o k h l f = ne_eqb (op_num (op_of o)) (op_num (op_of k)) (λ e. f (sym (op_num-op_of k l) ∙ sym e ∙ op_num-op_of o h))

module _ {t : List ℕ} {i : ℕ} (N : Node t i) where
  pub arguments-of : (o : ℕ) → o < plus_kind → kind_at t i ≡ o → (s : List ℕ) → arguments_of (op_of o) (decode s t i) ≡ ok (listed (map (decode s t) (children_at t (first_at t i) (second_at t i))))
  unfolding arguments_of
  arguments-of o h e s =
      ap (arguments_of (op_of o)) (decode-application N.table s i N.below (omega arith) ∙ ap (λ (k : ℕ). app (op_of k) (listed (map (decode s t) (children_at t (first_at t i) (second_at t i))))) e)
      ∙ ensure-yes _ 0 _ (op_same o)

  pub arguments-not : (o : ℕ) → o < plus_kind → (kind_at t i ≡ o → ⊥) → (s : List ℕ) → arguments_of (op_of o) (decode s t i) ≡ bad 0
  unfolding arguments_of
  arguments-not o h f s = elim (dec_lt (kind_at t i) plus_kind) [
    | yes l ↦ ap (arguments_of (op_of o)) (decode-application N.table s i N.below l) ∙ ensure-no _ 0 _ (op-other o (kind_at t i) h l f)
    | no l ↦ elim (dec_lt (kind_at t i) minus_kind) [
      | yes m ↦ ap (arguments_of (op_of o)) (decode-plus N.table s i N.below (omega arith))
      | no m ↦ elim (dec_lt (kind_at t i) name_kind) [
        | yes q ↦ ap (arguments_of (op_of o)) (decode-minus N.table s i N.below (omega arith))
        | no q ↦ ap (arguments_of (op_of o)) (decode-name N.table s i N.below (omega arith))
      ]
    ]
  ]

  pub argument-below : (o : ℕ) → o < plus_kind → kind_at t i ≡ o → Below i (children_at t (first_at t i) (second_at t i))
  argument-below o h e = N.table.before i N.below (omega arith)

pair-two : (d : ℕ → Term) (l : List ℕ) → length l ≡ 2 → pair (listed (map d l)) ≡ ok (d (get_or l 0 0), d (get_or l 1 0))
unfolding pair listed
pair-two d [] e = absurd (omega arith)
pair-two d (a ∷ []) e = absurd (omega arith)
pair-two d (a ∷ (b ∷ [])) e = refl
pair-two d (a ∷ (b ∷ (c ∷ l))) e = absurd (omega arith)

pair-not : (d : ℕ → Term) (l : List ℕ) → (length l ≡ 2 → ⊥) → pair (listed (map d l)) ≡ bad 0
unfolding pair listed
pair-not d [] f = refl
pair-not d (a ∷ []) f = refl
pair-not d (a ∷ (b ∷ [])) f = absurd (f refl)
pair-not d (a ∷ (b ∷ (c ∷ l))) f = refl

module _ {t : List ℕ} {i : ℕ} (N : Node t i) (o : ℕ) (h : o < plus_kind) where
  pub binary-other : (kind_at t i ≡ o → ⊥) → (s : List ℕ) → binary (op_of o) (decode s t i) ≡ bad 0
  unfolding binary
  binary-other f s = bind-bad _ pair 0 (arguments-not N o h f s)

  module _ (e : kind_at t i ≡ o) (l : List ℕ) (q : l ≡ children_at t (first_at t i) (second_at t i)) where
    pub binary-count : (length l ≡ 2 → ⊥) → (s : List ℕ) → binary (op_of o) (decode s t i) ≡ bad 0
    unfolding binary
    binary-count f s = bind-of _ pair _ (arguments-of N o h e s) ∙ pair-not (decode s t) (children_at t (first_at t i) (second_at t i)) (λ z. f (ap length q ∙ z))

    pub binary-two : length l ≡ 2 → PairAt t o i (get_or l 0 0) (get_or l 1 0)
    unfolding binary
    binary-two z = record {
      is = λ s. bind-of _ pair _ (arguments-of N o h e s) ∙ ap (λ (m : List ℕ). pair (listed (map (decode s t) m))) (sym q) ∙ pair-two (decode s t) l z;
      left = inner_of N (omega (arith, below_at l 0 below (omega arith)));
      right = inner_of N (omega (arith, below_at l 1 below (omega arith)));
    }
      where
        below : Below i l
        below = subst (Below i) (sym q) (argument-below N o h e)

-- ---- (- 1 w)
module _ (t : List ℕ) (v : ℕ) where
  pub negation-none : ((s : List ℕ) → binary (op_of 1) (decode s t v) ≡ bad 0) → (s : List ℕ) → neg_of (decode s t v) ≡ bad 0
  unfolding neg_of op_of
  negation-none e s = bind-bad _ _ 0 (e s)

  module _ {a w : ℕ} (P : PairAt t 1 v a w) where
    pub negation-term : ((s : List ℕ) → as_constant (decode s t a) ≡ bad 0) → (s : List ℕ) → neg_of (decode s t v) ≡ bad 0
    unfolding neg_of op_of
    negation-term e s = bind-of _ _ _ (P.is s) ∙ bind-bad _ _ 0 (e s)

    module _ {z : ℤ} (C : ConstantAt t a z) where
      pub negation-other : (z ≡ pos 1 → ⊥) → (s : List ℕ) → neg_of (decode s t v) ≡ bad 0
      unfolding neg_of op_of
      negation-other f s = bind-of _ _ _ (P.is s) ∙ bind-of _ _ z (C.is s) ∙ ensure-no _ 0 _ (integer-other z (pos 1) f)

      pub negation-one : z ≡ pos 1 → NegationAt t v w
      unfolding neg_of op_of
      negation-one e = record {
        is = λ s. bind-of _ _ _ (P.is s) ∙ bind-of _ _ z (C.is s) ∙ ensure-yes _ 0 _ (integer-same z (pos 1) e);
        inner = P.right;
      }

-- ---- keys
pub key-variable : (v : ℕ) (b : Bool) → variable_of (key_of v b) ≡ v
unfolding key_of
key-variable v true = omega arith
key-variable v false = omega arith

pub key-negated : (v : ℕ) (b : Bool) → negated_of (key_of v b) ≡ b
unfolding key_of
key-negated v true = let e : (2 * v + 1) % 2 ≡ 1 = omega arith in eq-eqb ((2 * v + 1) % 2) 1 e
key-negated v false = let e : (2 * v) % 2 ≡ 1 → ⊥ = λ q. omega arith in ne_eqb ((2 * v) % 2) 1 e

pub key-literal : (d : ℕ → Term) (v : ℕ) (b : Bool) → lit_at d (key_of v b) ≡ record { variable = d v; negated = b }
key-literal d v b = rw (key-variable v b, key-negated v b)

pub key-yes : (v : ℕ) (b : Bool) → b ≡ true → 2 * v + 1 ≡ key_of v b
unfolding key_of
key-yes v b e = rw e

pub key-no : (v : ℕ) (b : Bool) → b ≡ false → 2 * v ≡ key_of v b
unfolding key_of
key-no v b e = rw e

module _ {t : List ℕ} {v : ℕ} where
  pub literal-negated : {w : ℕ} → NegationAt t v w → (k : ℕ) → k ≡ key_of w true → LiteralIs t v k
  unfolding lit_of lit_if
  literal-negated {w} M k e = record {
    is = λ s. ap (lit_if (decode s t v)) (M.is s) ∙ rw e (sym (key-literal (decode s t) w true));
    inner = rw (e, key-variable w true) M.inner;
  }

  pub literal-plain : Node t v → ((s : List ℕ) → neg_of (decode s t v) ≡ bad 0) → (k : ℕ) → k ≡ key_of v false → LiteralIs t v k
  unfolding lit_of lit_if
  literal-plain N f k e = record {
    is = λ s. ap (lit_if (decode s t v)) (f s) ∙ rw e (sym (key-literal (decode s t) v false));
    inner = rw (e, key-variable v false) (inner_of N (omega arith));
  }

-- ---- sums
module _ {t : List ℕ} {i : ℕ} (N : Node t i) where
  pub split-sum : kind_at t i ≡ 0 → (l : List ℕ) → l ≡ children_at t (first_at t i) (second_at t i) → SplitIs t i l
  unfolding split_summation children_or op_of
  split-sum e l q = record {
    is = λ s. ap (λ (m : List ℕ). listed (map (decode s t) m)) q ∙ sym (ap (children_or (decode s t i)) (arguments-of N 0 (omega arith) e s));
    nodes = rw q (below_more (children_at t (first_at t i) (second_at t i)) (argument-below N 0 (omega arith) e) (omega arith));
  }

  pub split_one : (kind_at t i ≡ 0 → ⊥) → (l : List ℕ) → l ≡ i ∷ [] → SplitIs t i l
  unfolding split_summation children_or listed Below op_of
  split_one f l q = record {
    is = λ s. rw q (sym (ap (children_or (decode s t i)) (arguments-not N 0 (omega arith) f s)));
    nodes = rw q (omega arith, tt);
  }

-- ---- variables by their numbers
module _ {t : List ℕ} {v : ℕ} (N : Node t v) where
  pub number-term : kind_at t v < name_kind → NumberIs t v v
  number-term h = record {
    is = λ x l. refl;
    variable = record { node = N; first = λ g. let z : ⊥ = omega arith in absurd z };
    before = omega arith;
  }

  pub number-name : name_kind ≤ kind_at t v → (r : ℕ) → r ≡ kind_at t v - name_kind → NumberIs t v r
  number-name h r e = record {
    is = λ x l.
        let b : r ≤ v = omega (arith, N.firsts.before v N.below h) in
        decode-name N.table x.text v N.below h
        ∙ ap var (x.named.one v r l (omega arith) h (sym kinds))
        ∙ sym (decode-name N.table x.text r (omega (arith, N.below)) (omega (arith, kinds)));
    variable = record { node = node-before N (omega (arith, N.firsts.before v N.below h)); first = λ g. omega (arith, kinds) };
    before = omega (arith, N.firsts.before v N.below h);
  }
    where
      kinds : kind_at t r ≡ kind_at t v
      kinds = rw e (N.firsts.same v N.below h)

-- a literal's key, its variable by its number
pub key-is : {t : List ℕ} {v w r : ℕ} (b : Bool) → LiteralIs t v (key_of w b) → NumberIs t w r → (q : ℕ) → q ≡ key_of r b → KeyIs t v q
key-is {t} {v} {w} {r} b L M q e = record {
  is = λ x h. L.is x.text ∙ key-literal (term x) w b ∙ ap (λ (u : Term). record { variable = u; negated = b }) (M.is x (omega (arith, nearer))) ∙ rw e (sym (key-literal (term x) r b));
  variable = rw (e, key-variable r b) M.variable;
  before = rw (e, key-variable r b) (omega (arith, M.before, nearer));
}
  where
    nearer : w ≤ v
    nearer = rw (key-variable w b) at L.inner.before
