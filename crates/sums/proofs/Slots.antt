-- Keys over names: one literal, one key. From it: what looking up by slots, and by walking, finds.
use mathlib.Core.Path.{◌≡◌, refl, sym, ◌∙◌, subst}
use mathlib.Core.Bool.{Bool, true, false, not, cond, ◌&&◌, beq}
use mathlib.Core.List.{List}
use Prim.Native.Nat.{ℕ, suc, ◌+◌, ◌-◌, ◌%◌, ◌≤◌, ◌<◌}
use native.Mathlib.Decide.{dec_lt}
use native.Mathlib.Omega.{arith}
use borrow.Author.Tests.{eqb-true, eqb-false}
use lib.Dec.{T}
use lib.IntN.{ℤ}
use lib.ListN.{get_or}
use Rattle.calculus.specs.Equality.{same_term}
use Rattle.calculus.specs.Sums.{same_lit}
use Rattle.calculus.proofs.Booleans.{and_l, and_r, beq_eq, beq_refl, is_true}
use Rattle.nodes.specs.Nodes.{kind_at}
use Rattle.calculus.proofs.TermLaws.{same_term-refl}
use Rattle.nodes.proofs.Comparing.{equal-other}
use Rattle.matching.specs.Matched.{Text, term, variable_of, negated_of, lit_at, Variable}
use Rattle.matching.specs.Entries.{run, entry_at, entries, Under}
use Rattle.sums.specs.Lists.{index_of, OverName, Taken, Fine}
use Rattle.sums.specs.Found.{SameIs, PlaceIs, FindIs}
use Rattle.sums.proofs.Runs.{index-none, index-first, index-more, index-here, index-end}
use Rattle.matching.proofs.Matches.{pair-nodes}

pub and_true : (a : Bool) → a ≡ a && true
and_true true = refl
and_true false = refl

and_false : (a : Bool) → false ≡ a && false
and_false true = refl
and_false false = refl

differs : {A : Type 0} → false ≡ true → A
differs e = absurd (subst (λ (x : Bool). cond x ⊥ (Unit {0})) e tt)

beq_true : (a b : Bool) → a ≡ b → beq a b ≡ true
beq_true a b e = rw e (is_true (beq b b) (beq_refl b))

-- the signs of two keys
same_sign : (k l : ℕ) → negated_of k ≡ negated_of l → k % 2 ≡ l % 2
same_sign k l e = go (negated_of k) (negated_of l) refl refl e
  where
    go : (a b : Bool) → negated_of k ≡ a → negated_of l ≡ b → a ≡ b → k % 2 ≡ l % 2
    go true true p q r = omega (arith, eqb-true (k % 2) 1 p, eqb-true (l % 2) 1 q)
    go true false p q r = differs (sym r)
    go false true p q r = differs r
    go false false p q r =
        let a : k % 2 ≡ 1 → ⊥ = eqb-false (k % 2) 1 p in
        let b : l % 2 ≡ 1 → ⊥ = eqb-false (l % 2) 1 q in
        omega arith

beq_false : (a b : Bool) → (a ≡ b → ⊥) → beq a b ≡ false
beq_false true true f = absurd (f refl)
beq_false true false f = refl
beq_false false true f = refl
beq_false false false f = absurd (f refl)

-- what a test of two signs tells
pub differ_of : (a b : Bool) → not (beq a b) ≡ true → a ≡ b → ⊥
differ_of true true q e = differs q
differ_of true false q e = differs (sym e)
differ_of false true q e = differs e
differ_of false false q e = differs q

pub agree_of : (a b : Bool) → not (beq a b) ≡ false → a ≡ b
agree_of true true q = refl
agree_of true false q = differs (sym q)
agree_of false true q = differs (sym q)
agree_of false false q = refl

-- the answers of the comparison of two keys
module _ (t : List ℕ) (k l : ℕ) where
  pub same-sign_differs : (negated_of k ≡ negated_of l → ⊥) → SameIs t k l false
  unfolding same_lit
  same-sign_differs f x a b = rw (beq_false (negated_of k) (negated_of l) f) (and_false (same_term (term x (variable_of k)) (term x (variable_of l))))

  pub same-terms : (r : Bool) (i j : ℕ) → i ≡ variable_of k → j ≡ variable_of l → negated_of k ≡ negated_of l → Rattle.nodes.specs.Equal.SameIs t i j r → SameIs t k l r
  unfolding same_lit
  same-terms r i j p q e S x a b =
      rw (beq_true (negated_of k) (negated_of l) e)
      ((rw (p, q) at (S x.text x.n x.named (omega arith) (omega arith))) ∙ and_true (same_term (term x (variable_of k)) (term x (variable_of l))))

-- one literal over a name, one key
literal-key : {t : List ℕ} (k l : ℕ) → Variable t (variable_of k) → Variable t (variable_of l) → OverName t k → (x : Text t) → variable_of k < x.n → variable_of l < x.n
    → same_lit (lit_at (term x) k) (lit_at (term x) l) ≡ true → l ≡ k
unfolding same_lit
literal-key {t} k l N M o x a b e = go (dec_lt (kind_at t (variable_of k)) (kind_at t (variable_of l))) (dec_lt (kind_at t (variable_of l)) (kind_at t (variable_of k)))
  where
    both-parts : T (same_term (term x (variable_of k)) (term x (variable_of l)) && beq (negated_of k) (negated_of l))
    both-parts = subst T (sym e) tt

    same : same_term (term x (variable_of k)) (term x (variable_of l)) ≡ true
    same = is_true (same_term (term x (variable_of k)) (term x (variable_of l))) (and_l (same_term (term x (variable_of k)) (term x (variable_of l))) (beq (negated_of k) (negated_of l)) both-parts)

    sign : k % 2 ≡ l % 2
    sign = same_sign k l (beq_eq (negated_of k) (negated_of l) (and_r (same_term (term x (variable_of k)) (term x (variable_of l))) (beq (negated_of k) (negated_of l)) both-parts))

    other : (kind_at t (variable_of k) ≡ kind_at t (variable_of l) → ⊥) → l ≡ k
    other f = differs (equal-other (pair-nodes N.node M.node) f x.text x.n x.named a b ∙ same)

    go : Dec (kind_at t (variable_of k) < kind_at t (variable_of l)) → Dec (kind_at t (variable_of l) < kind_at t (variable_of k)) → l ≡ k
    go (yes p) q = other (λ z. omega arith)
    go (no p) (yes q) = other (λ z. omega arith)
    go (no p) (no q) =
        let v : variable_of k ≡ variable_of l = omega (arith, N.first o, M.first (omega arith)) in
        omega (arith, sign)

-- and one key is one literal
key-same : {t : List ℕ} (k : ℕ) (x : Text t) → same_lit (lit_at (term x) k) (lit_at (term x) k) ≡ true
unfolding same_lit
key-same k x = rw (is_true (same_term (term x (variable_of k)) (term x (variable_of k))) (same_term-refl (term x (variable_of k))), beq_true (negated_of k) (negated_of k) refl)

-- ---- looking up by slots: p is what the slot of the key holds
module _ {t ks sl : List ℕ} {n : ℕ} (k : ℕ) (N : Variable t (variable_of k)) (F : Fine t ks sl n) (o : OverName t k) (p : ℕ) (w : p ≡ get_or sl k 0) where
  -- a key that is the same one stands at p or behind it, and at p stands this key
  key-taken : (m : ℕ) → m < n → get_or ks m 0 ≡ k → (p < suc m) × (get_or ks p 0 ≡ k)
  key-taken m l e = let f : Taken ks sl (suc m) k = rw e at (F.slots m l (rw e o)) in (omega (arith, f.0), rw w f.1)

  literal-other : (x : Text t) → Under x.n ks n → variable_of k < x.n → (m : ℕ) → m < n → (get_or ks m 0 ≡ k → ⊥) → same_lit (lit_at (term x) k) (lit_at (term x) (get_or ks m 0)) ≡ false
  literal-other x under a m l f = go (same_lit (lit_at (term x) k) (lit_at (term x) (get_or ks m 0))) refl
    where
      go : (b : Bool) → same_lit (lit_at (term x) k) (lit_at (term x) (get_or ks m 0)) ≡ b → b ≡ false
      go true q = absurd (f (literal-key k (get_or ks m 0) N (F.literals m l) o x a (under m l) q))
      go false q = refl

  pub find-here : p < n → get_or ks p 0 ≡ k → FindIs t ks n k p
  find-here l e = record {
    is = λ x cs under a. sym (index-first (lit_at (term x) k) (entry_at (term x) cs ks) 0 n p l
        (λ m b c. literal-other x under a m (omega arith) (λ q. omega (arith, (key-taken m (omega arith) q).0)))
        (let z : 0 + p ≡ p = omega arith in rw (z, e) (key-same k x)));
    most = omega arith;
    here = λ q h. e;
    fresh = λ q h. let z : ⊥ = omega arith in absurd z;
  }

  pub find_none : (p < n → get_or ks p 0 ≡ k → ⊥) → FindIs t ks n k n
  find_none f = record {
    is = λ x cs under a. sym (index-none (lit_at (term x) k) (entry_at (term x) cs ks) 0 n (λ m b c. literal-other x under a m (omega arith) (λ q. none m (omega arith) q)));
    most = omega arith;
    here = λ q h. let z : ⊥ = omega arith in absurd z;
    fresh = λ q h. none;
  }
    where
      none : (m : ℕ) → m < n → get_or ks m 0 ≡ k → ⊥
      none m l e = let g = key-taken m l e in f (omega (arith, g.0)) g.1

pub find_walked : {t ks : List ℕ} {n k r : ℕ} → (OverName t k → ⊥) → PlaceIs t ks n k r × (r ≤ n) → FindIs t ks n k r
find_walked f P = record { is = P.0; most = P.1; here = λ o. absurd (f o); fresh = λ o. absurd (f o) }

-- ---- looking up by walking: from i on the place is that in the whole
abbrev pub Walking : (t ks : List ℕ) → ℕ → ℕ → ℕ → Type 0
Walking t ks n k i = (x : Text t) (cs : List ℤ) → Under x.n ks n → variable_of k < x.n
    → index_of (lit_at (term x) k) (entries (term x) cs ks n) ≡ i + index_of (lit_at (term x) k) (run (entry_at (term x) cs ks) i (n - i))

module _ (t ks : List ℕ) (n k : ℕ) (i : ℕ) (W : Walking t ks n k i) where
  module _ (l : i < n) {o : ℕ} (e : get_or ks i 0 ≡ o) {r : Bool} where
    here : SameIs t k o r → (x : Text t) → Under x.n ks n → variable_of k < x.n → same_lit (lit_at (term x) k) (lit_at (term x) (get_or ks i 0)) ≡ r
    here S x under a = rw e (sym (S x a (rw (← e) (under i l))))

    pub walk_more : r ≡ false → SameIs t k o r → Walking t ks n k (i + 1)
    walk_more f S x cs under a = index-more (lit_at (term x) k) (entry_at (term x) cs ks) i n _ l (here S x under a ∙ f) (W x cs under a)

    pub walk_here : r ≡ true → SameIs t k o r → PlaceIs t ks n k i × (i ≤ n)
    walk_here f S = ((λ x cs under a. sym (index-here (lit_at (term x) k) (entry_at (term x) cs ks) i n _ l (here S x under a ∙ f) (W x cs under a))), omega arith)

  pub walk_end : i ≡ n → PlaceIs t ks n k n × (n ≤ n)
  walk_end e = ((λ x cs under a. sym (index-end (lit_at (term x) k) (entry_at (term x) cs ks) i n _ (omega arith) (W x cs under a) ∙ e)), omega arith)
