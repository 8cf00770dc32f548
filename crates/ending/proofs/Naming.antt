-- Names in byte order, and literals over them: plain before negated.
use mathlib.Core.Path.{◌≡◌, refl, sym, ap, ◌∙◌}
use mathlib.Core.Bool.{Bool, true, false, not, ◌&&◌, ◌||◌}
use mathlib.Core.List.{List, [], ◌∷◌}
use Prim.Native.Nat.{ℕ, ◌+◌, ◌%◌, ◌≤◌, ◌<◌}
use native.Mathlib.Decide.{dec_lt}
use native.Mathlib.Numerals.{add-one}
use native.Mathlib.Omega.{arith}
use borrow.Author.Tests.{eq-eqb, ne_eqb, lt-ltb, le-ltb}
use lib.Dec.{T, ltb}
use lib.ListN.{length, get_or}
use lib.Seq.{slice, slice-cons, slice_empty}
use Rattle.calculus.specs.Pol.{name_before, spelling, lit_before}
use Rattle.calculus.specs.Terms.{Term, var, same_name}
use Rattle.calculus.proofs.Booleans.{is_true}
use Rattle.calculus.proofs.TermLaws.{same_name_eq, same_name_refl}
use Rattle.nodes.specs.Nodes.{decode, first_at, second_at, name_at}
use Rattle.nodes.proofs.Tables.{decode-name}
use Rattle.matching.specs.Matched.{variable_of, negated_of, lit_at}
use Rattle.ending.specs.Ending.{Spelled}

-- ---- names
before_self : (x : List ℕ) → name_before x x ≡ false
unfolding name_before
before_self [] = refl
before_self (a ∷ x) = rw (eq-eqb a a refl) (before_self x)

before-none : (x : List ℕ) → name_before x [] ≡ false
unfolding name_before
before-none [] = refl
before-none (a ∷ x) = refl

-- the parts from i and from j on
module _ (s : List ℕ) (b d i j : ℕ) (r : Bool) (q : name_before (slice i b s) (slice j d s) ≡ r) (hb : b ≤ length s) (hd : d ≤ length s) where
  pub before-shorter : i ≡ b → j < d → true ≡ r
  unfolding name_before
  before-shorter e l = sym (rw (e, slice_empty b s, slice-cons j d s 0 l hd)) ∙ q

  pub before-differ : i < b → j < d → (get_or s i 0 ≡ get_or s j 0 → ⊥) → ltb (get_or s i 0) (get_or s j 0) ≡ r
  unfolding name_before
  before-differ h l f = sym (rw (slice-cons i b s 0 h hb, slice-cons j d s 0 l hd, ne_eqb _ _ f)) ∙ q

  pub before_more : i < b → j < d → get_or s i 0 ≡ get_or s j 0 → name_before (slice (i + 1) b s) (slice (j + 1) d s) ≡ r
  unfolding name_before
  before_more h l e = rw (add-one i, add-one j) (sym (rw (slice-cons i b s 0 h hb, slice-cons j d s 0 l hd, eq-eqb _ _ e)) ∙ q)

  pub before-end : j ≡ d → false ≡ r
  before-end e = sym (rw (e, slice_empty d s) (before-none (slice i b s))) ∙ q

-- ---- literals
-- keys over one variable
plain-first : (k l : ℕ) → variable_of k ≡ variable_of l → ltb k l ≡ not (negated_of k) && negated_of l
plain-first k l e = elim (dec_lt 0 (k % 2)) [
  | yes h ↦ rw (eq-eqb (k % 2) 1 (omega arith)) (le-ltb k l (omega arith))
  | no h ↦ elim (dec_lt 0 (l % 2)) [
    | yes g ↦ rw (ne_eqb (k % 2) 1 (omega arith), eq-eqb (l % 2) 1 (omega arith)) (lt-ltb k l (omega arith))
    | no g ↦ rw (ne_eqb (k % 2) 1 (omega arith), ne_eqb (l % 2) 1 (omega arith)) (le-ltb k l (omega arith))
  ]
]

one-variable : (d : ℕ → Term) (k l : ℕ) (x : List ℕ) → d (variable_of k) ≡ var x → d (variable_of l) ≡ var x → variable_of k ≡ variable_of l → ltb k l ≡ lit_before (lit_at d k) (lit_at d l)
unfolding lit_before spelling
one-variable d k l x e f h = rw (e, f, before_self x, is_true (same_name x x) (same_name_refl x)) (plain-first k l h)

pub other_name : (x y : List ℕ) → (x ≡ y → ⊥) → same_name x y ≡ false
other_name x y f = go (same_name x y) (same_name_eq x y)
  where
    go : (b : Bool) → (T b → x ≡ y) → b ≡ false
    go true g = absurd (f (g tt))
    go false g = refl

two-variables : (d : ℕ → Term) (k l : ℕ) (x y : List ℕ) → d (variable_of k) ≡ var x → d (variable_of l) ≡ var y → (x ≡ y → ⊥) → name_before x y ≡ lit_before (lit_at d k) (lit_at d l)
unfolding lit_before spelling
two-variables d k l x y e f g = rw (e, f, other_name x y g) (go (name_before x y))
  where
    go : (b : Bool) → b ≡ b || false
    go true = refl
    go false = refl

module _ {s t : List ℕ} {k l : ℕ} (S : Spelled s t k l) where
  left_is : decode s t (variable_of k) ≡ var (name_at s t (variable_of k))
  left_is = decode-name S.left.node.table s (variable_of k) S.left.node.below S.name

  right_is : decode s t (variable_of l) ≡ var (name_at s t (variable_of l))
  right_is = decode-name S.right.node.table s (variable_of l) S.right.node.below S.other

  pub lit-same : variable_of k ≡ variable_of l → ltb k l ≡ lit_before (lit_at (decode s t) k) (lit_at (decode s t) l)
  lit-same e = one-variable (decode s t) k l (name_at s t (variable_of k)) left_is (ap (decode s t) (sym e) ∙ left_is) e

  -- one name has one first node
  apart : (variable_of k ≡ variable_of l → ⊥) → name_at s t (variable_of k) ≡ name_at s t (variable_of l) → ⊥
  apart f e = f (omega (arith, S.left.first S.name, S.right.first S.other, S.named.other (variable_of k) (variable_of l) S.under S.below S.name S.other e))

  lit-other : (variable_of k ≡ variable_of l → ⊥) → name_before (name_at s t (variable_of k)) (name_at s t (variable_of l)) ≡ lit_before (lit_at (decode s t) k) (lit_at (decode s t) l)
  lit-other f = two-variables (decode s t) k l (name_at s t (variable_of k)) (name_at s t (variable_of l)) left_is right_is (apart f)

  -- as the code reads the two names
  module _ {v w a b c d : ℕ} (e : v ≡ variable_of k) (f : w ≡ variable_of l) (ea : a ≡ first_at t v) (eb : b ≡ second_at t v) (ec : c ≡ first_at t w) (ed : d ≡ second_at t w) where
    pub names-asked : (a ≤ b) × (b ≤ length s) × (c ≤ d) × (d ≤ length s)
    names-asked =
        let N = S.named in
        rw (ea, eb, ec, ed, e, f)
        (omega (arith, N.starts (variable_of k) S.under S.name), N.ends (variable_of k) S.under S.name, omega (arith, N.starts (variable_of l) S.below S.other), N.ends (variable_of l) S.below S.other)

    pub names-answer : {r : Bool} → (v ≡ w → ⊥) → r ≡ name_before (slice a b s) (slice c d s) → r ≡ lit_before (lit_at (decode s t) k) (lit_at (decode s t) l)
    names-answer g h = h ∙ rw (ea, eb, ec, ed, e, f) (lit-other (λ q. g (e ∙ q ∙ sym f)))
