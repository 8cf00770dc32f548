-- What a node's kind and its arguments say of its term being arithmetic, or a statement: each way out of the functions is one law.
use mathlib.Core.Path.{◌≡◌, refl, sym, ap, ◌∙◌}
use mathlib.Core.Bool.{Bool, true, false, ◌&&◌, ◌||◌}
use mathlib.Core.List.{List, [], ◌∷◌, map}
use Prim.Native.Nat.{ℕ, zero, suc, ◌≤◌, ◌<◌}
use native.Mathlib.Decide.{dec_lt}
use native.Mathlib.Omega.{arith}
use lib.ListN.{length}
use Rattle.calculus.specs.Equality.{op_of}
use Rattle.calculus.specs.Terms.{Term, Terms, nil, cons, listed}
use Rattle.calculus.specs.Truth.{arithmetic_op, is_arithmetic, are_arithmetic, two, statement_op, is_statement, are_statements}
use Rattle.nodes.specs.Nodes.{plus_kind, minus_kind, name_kind, kind_at, decode, Node}
use Rattle.nodes.proofs.Tables.{decode-application, decode-plus, decode-minus, decode-name}
use Rattle.marks.specs.Arguments.{arguments_at}
use Rattle.marks.proofs.Arguments.{children}

-- ---- of each argument
pub arithmetic-none : are_arithmetic nil ≡ true
unfolding are_arithmetic
arithmetic-none = refl

pub arithmetic-more : (x : Term) (xs : Terms) → are_arithmetic (cons x xs) ≡ (is_arithmetic x && are_arithmetic xs)
unfolding are_arithmetic
arithmetic-more x xs = refl

pub statements-none : are_statements nil ≡ true
unfolding are_statements
statements-none = refl

pub statements-more : (x : Term) (xs : Terms) → are_statements (cons x xs) ≡ (is_statement x && are_statements xs)
unfolding are_statements
statements-more x xs = refl

-- ---- the operators by their numbers
arithmetic-low : (k : ℕ) → k < 3 → arithmetic_op (op_of k) ≡ true
unfolding arithmetic_op op_of
arithmetic-low zero h = refl
arithmetic-low (suc zero) h = refl
arithmetic-low (suc (suc zero)) h = refl
arithmetic-low (suc (suc (suc k))) h = let z : ⊥ = omega arith in absurd z

arithmetic-high : (k : ℕ) → 3 ≤ k → arithmetic_op (op_of k) ≡ false
unfolding arithmetic_op op_of
arithmetic-high zero h = let z : ⊥ = omega arith in absurd z
arithmetic-high (suc zero) h = let z : ⊥ = omega arith in absurd z
arithmetic-high (suc (suc zero)) h = let z : ⊥ = omega arith in absurd z
arithmetic-high (suc (suc (suc zero))) h = refl
arithmetic-high (suc (suc (suc (suc zero)))) h = refl
arithmetic-high (suc (suc (suc (suc (suc zero))))) h = refl
arithmetic-high (suc (suc (suc (suc (suc (suc zero)))))) h = refl
arithmetic-high (suc (suc (suc (suc (suc (suc (suc zero))))))) h = refl
arithmetic-high (suc (suc (suc (suc (suc (suc (suc (suc k)))))))) h = refl

module _ (ts : Terms) (a s : Bool) where
  operator-low : (k : ℕ) → k < 3 → statement_op (op_of k) ts a s ≡ false
  unfolding statement_op op_of
  operator-low zero h = refl
  operator-low (suc zero) h = refl
  operator-low (suc (suc zero)) h = refl
  operator-low (suc (suc (suc k))) h = let z : ⊥ = omega arith in absurd z

  operator-relation : (k : ℕ) → 3 ≤ k → k < 7 → statement_op (op_of k) ts a s ≡ (two ts && a)
  unfolding statement_op op_of
  operator-relation zero h g = let z : ⊥ = omega arith in absurd z
  operator-relation (suc zero) h g = let z : ⊥ = omega arith in absurd z
  operator-relation (suc (suc zero)) h g = let z : ⊥ = omega arith in absurd z
  operator-relation (suc (suc (suc zero))) h g = refl
  operator-relation (suc (suc (suc (suc zero)))) h g = refl
  operator-relation (suc (suc (suc (suc (suc zero))))) h g = refl
  operator-relation (suc (suc (suc (suc (suc (suc zero)))))) h g = refl
  operator-relation (suc (suc (suc (suc (suc (suc (suc k))))))) h g = let z : ⊥ = omega arith in absurd z

  operator-equal : (k : ℕ) → k ≡ 7 → statement_op (op_of k) ts a s ≡ (two ts && (a || s))
  unfolding statement_op op_of
  operator-equal k e = rw e

  operator-and : (k : ℕ) → k ≡ 8 → statement_op (op_of k) ts a s ≡ s
  unfolding statement_op op_of
  operator-and k e = rw e

-- ---- exactly two arguments
two-yes : (d : ℕ → Term) (l : List ℕ) → length l ≡ 2 → two (listed (map d l)) ≡ true
unfolding two listed
two-yes d [] e = let z : ⊥ = omega arith in absurd z
two-yes d (a ∷ []) e = let z : ⊥ = omega arith in absurd z
two-yes d (a ∷ (b ∷ [])) e = refl
two-yes d (a ∷ (b ∷ (c ∷ l))) e = let z : ⊥ = omega arith in absurd z

two-not : (d : ℕ → Term) (l : List ℕ) → (length l ≡ 2 → ⊥) → two (listed (map d l)) ≡ false
unfolding two listed
two-not d [] f = refl
two-not d (a ∷ []) f = refl
two-not d (a ∷ (b ∷ [])) f = absurd (f refl)
two-not d (a ∷ (b ∷ (c ∷ l))) f = refl

and_false : (a : Bool) → (a && false) ≡ false
and_false true = refl
and_false false = refl

module _ {t : List ℕ} {i : ℕ} (N : Node t i) where
  module _ (s : List ℕ) where
    -- ---- arithmetic
    leaf-arithmetic : plus_kind ≤ kind_at t i → true ≡ is_arithmetic (decode s t i)
    unfolding is_arithmetic
    leaf-arithmetic h = sym (elim (dec_lt (kind_at t i) minus_kind) [
      | yes a ↦ ap is_arithmetic (decode-plus N.table s i N.below (omega arith))
      | no a ↦ elim (dec_lt (kind_at t i) name_kind) [
        | yes b ↦ ap is_arithmetic (decode-minus N.table s i N.below (omega arith))
        | no b ↦ ap is_arithmetic (decode-name N.table s i N.below (omega arith))
      ]
    ])

    leaf-statement : plus_kind ≤ kind_at t i → false ≡ is_statement (decode s t i)
    unfolding is_statement
    leaf-statement h = sym (elim (dec_lt (kind_at t i) minus_kind) [
      | yes a ↦ ap is_statement (decode-plus N.table s i N.below (omega arith))
      | no a ↦ elim (dec_lt (kind_at t i) name_kind) [
        | yes b ↦ ap is_statement (decode-minus N.table s i N.below (omega arith))
        | no b ↦ ap is_statement (decode-name N.table s i N.below (omega arith))
      ]
    ])

    by-operator : kind_at t i < plus_kind → is_arithmetic (decode s t i) ≡ (arithmetic_op (op_of (kind_at t i)) && are_arithmetic (arguments_at s t (children t i)))
    unfolding is_arithmetic
    by-operator g = ap is_arithmetic (decode-application N.table s i N.below g)

    by-arguments : kind_at t i < plus_kind → is_statement (decode s t i) ≡ statement_op (op_of (kind_at t i)) (arguments_at s t (children t i)) (are_arithmetic (arguments_at s t (children t i))) (are_statements (arguments_at s t (children t i)))
    unfolding is_statement
    by-arguments g = ap is_statement (decode-application N.table s i N.below g)

  -- ---- is_arithmetic
  pub arithmetic-leaf : plus_kind ≤ kind_at t i → (s : List ℕ) → true ≡ is_arithmetic (decode s t i)
  arithmetic-leaf h s = leaf-arithmetic s h

  pub arithmetic-other : 3 ≤ kind_at t i → kind_at t i < plus_kind → (s : List ℕ) → false ≡ is_arithmetic (decode s t i)
  arithmetic-other h g s = sym (by-operator s g ∙ rw (arithmetic-high (kind_at t i) h))

  pub arithmetic-all : (r : Bool) → kind_at t i < 3 → ((s : List ℕ) → r ≡ are_arithmetic (arguments_at s t (children t i))) → (s : List ℕ) → r ≡ is_arithmetic (decode s t i)
  arithmetic-all r h q s = q s ∙ sym (by-operator s (omega arith) ∙ rw (arithmetic-low (kind_at t i) h))

  -- ---- is_statement
  pub statement-low : kind_at t i < 3 → (s : List ℕ) → false ≡ is_statement (decode s t i)
  statement-low h s = sym (by-arguments s (omega arith) ∙ operator-low _ _ _ (kind_at t i) h)

  pub statement-leaf : plus_kind ≤ kind_at t i → (s : List ℕ) → false ≡ is_statement (decode s t i)
  statement-leaf h s = leaf-statement s h

  pub statement_and : (r : Bool) → kind_at t i ≡ 8 → ((s : List ℕ) → r ≡ are_statements (arguments_at s t (children t i))) → (s : List ℕ) → r ≡ is_statement (decode s t i)
  statement_and r e q s = q s ∙ sym (by-arguments s (omega arith) ∙ operator-and _ _ _ (kind_at t i) e)

  module _ (h : 3 ≤ kind_at t i) (g : kind_at t i < 8) where
    pub statement-count : (length (children t i) ≡ 2 → ⊥) → (s : List ℕ) → false ≡ is_statement (decode s t i)
    statement-count f s = sym (by-arguments s (omega arith) ∙ elim (dec_lt (kind_at t i) 7) [
      | yes l ↦ operator-relation _ _ _ (kind_at t i) h l ∙ rw (two-not (decode s t) (children t i) f)
      | no l ↦ operator-equal _ _ _ (kind_at t i) (omega arith) ∙ rw (two-not (decode s t) (children t i) f)
    ])

    pub statement_arithmetic : length (children t i) ≡ 2 → ((s : List ℕ) → true ≡ are_arithmetic (arguments_at s t (children t i))) → (s : List ℕ) → true ≡ is_statement (decode s t i)
    statement_arithmetic e q s = sym (by-arguments s (omega arith) ∙ elim (dec_lt (kind_at t i) 7) [
      | yes l ↦ operator-relation _ _ _ (kind_at t i) h l ∙ rw (two-yes (decode s t) (children t i) e, ← q s)
      | no l ↦ operator-equal _ _ _ (kind_at t i) (omega arith) ∙ rw (two-yes (decode s t) (children t i) e, ← q s)
    ])

    pub statement-relation : (kind_at t i ≡ 7 → ⊥) → ((s : List ℕ) → false ≡ are_arithmetic (arguments_at s t (children t i))) → (s : List ℕ) → false ≡ is_statement (decode s t i)
    statement-relation f q s =
        let l : kind_at t i < 7 = elim (dec_lt (kind_at t i) 7) [
          | yes a ↦ a
          | no a ↦ absurd (f (omega arith))
        ] in
        sym (by-arguments s (omega arith) ∙ operator-relation _ _ _ (kind_at t i) h l ∙ rw (← q s) (and_false (two (arguments_at s t (children t i)))))

  pub statement_equal : (r : Bool) → kind_at t i ≡ 7 → length (children t i) ≡ 2 → ((s : List ℕ) → false ≡ are_arithmetic (arguments_at s t (children t i)))
      → ((s : List ℕ) → r ≡ are_statements (arguments_at s t (children t i))) → (s : List ℕ) → r ≡ is_statement (decode s t i)
  statement_equal r e c q p s = p s ∙ sym (by-arguments s (omega arith) ∙ operator-equal _ _ _ (kind_at t i) e ∙ rw (two-yes (decode s t) (children t i) c, ← q s))
