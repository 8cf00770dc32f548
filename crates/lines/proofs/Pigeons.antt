-- The pigeonhole: where no two of a things have one place among b, there are no more than b.
use mathlib.Core.Path.{◌≡◌, sym, ◌∙◌}
use mathlib.Core.Bool.{cond}
use Prim.Native.Nat.{ℕ, zero, suc, ◌-◌, ◌≤◌, ◌<◌}
use native.Mathlib.Decide.{dec_lt}
use native.Mathlib.Omega.{arith}
use borrow.Author.Tests.{lt-ltb, le-ltb}
use lib.Dec.{ltb}

-- the place p is taken away: those behind it move up
unfoldable closed : ℕ → ℕ → ℕ
closed p q = cond (ltb p q) (q - 1) q

closed-above : (p q : ℕ) → p < q → closed p q ≡ q - 1
unfolding closed
closed-above p q h = rw (lt-ltb p q h)

closed-below : (p q : ℕ) → q ≤ p → closed p q ≡ q
unfolding closed
closed-below p q h = rw (le-ltb p q h)

-- other places stay different
closed-apart : (p q r : ℕ) → (q ≡ p → ⊥) → (r ≡ p → ⊥) → closed p q ≡ closed p r → q ≡ r
closed-apart p q r h g e = go (dec_lt p q) (dec_lt p r)
  where
    go : Dec (p < q) → Dec (p < r) → q ≡ r
    go (yes a) (yes b) = let z : q - 1 ≡ r - 1 = sym (closed-above p q a) ∙ e ∙ closed-above p r b in omega arith
    go (yes a) (no b) = let z : q - 1 ≡ r = sym (closed-above p q a) ∙ e ∙ closed-below p r (omega arith) in absurd (g (omega arith))
    go (no a) (yes b) = let z : q ≡ r - 1 = sym (closed-below p q (omega arith)) ∙ e ∙ closed-above p r b in absurd (h (omega arith))
    go (no a) (no b) = sym (closed-below p q (omega arith)) ∙ e ∙ closed-below p r (omega arith)

closed-small : (p q b : ℕ) → p < suc b → q < suc b → (q ≡ p → ⊥) → closed p q < b
closed-small p q b l m h = go (dec_lt p q)
  where
    go : Dec (p < q) → closed p q < b
    go (yes a) = rw (closed-above p q a) (omega arith)
    go (no a) = let n : q < p = other (dec_lt q p) in rw (closed-below p q (omega arith)) (omega arith)
      where
        other : Dec (q < p) → q < p
        other (yes x) = x
        other (no x) = let z : q ≡ p = omega arith in absurd (h z)

pub pigeons : (a b : ℕ) (f : ℕ → ℕ) → ((i : ℕ) → i < a → f i < b) → ((i j : ℕ) → i < a → j < a → f i ≡ f j → i ≡ j) → a ≤ b
pigeons zero b f in-range apart = omega arith
pigeons (suc a) zero f in-range apart = let z : f 0 < 0 = in-range 0 (omega arith) in omega arith
pigeons (suc a) (suc b) f in-range apart =
    let h : a ≤ b = pigeons a b (λ i. closed (f a) (f i))
    (λ i l. closed-small (f a) (f i) b (in-range a (omega arith)) (in-range i (omega arith)) (λ e. let z : i ≡ a = apart i a (omega arith) (omega arith) e in omega arith))
    (λ i j l m e. apart i j (omega arith) (omega arith) (closed-apart (f a) (f i) (f j)
    (λ q. let z : i ≡ a = apart i a (omega arith) (omega arith) q in omega arith) (λ q. let z : j ≡ a = apart j a (omega arith) (omega arith) q in omega arith) e)) in
    omega arith
