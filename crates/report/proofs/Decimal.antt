-- The digits of a number: its last behind those of its tenth, and how many there are.
use mathlib.Core.Path.{◌≡◌, refl, sym, ap, ◌∙◌}
use mathlib.Core.Bool.{Bool, true, false}
use mathlib.Core.List.{List, [], ◌∷◌, ◌++◌, append_assoc}
use Prim.Native.Nat.{ℕ, zero, suc, ◌+◌, ◌*◌, ◌≤◌, ◌<◌, ◌/◌, ◌%◌}
use native.Mathlib.Omega.{arith}
use lib.ListN.{length, length-append}
use lib.Dec.{ltb}
use borrow.Author.Tests.{ltb-true, ltb-false, lt-ltb, le-ltb}
use Rattle.calculus.specs.Words.{decimal_from, decimal}
use Rattle.calculus.specs.Limits.{max_commands}

-- by the test that decimal_from makes
by_test : {P : Type 0} (n m : ℕ) → (n < m → P) → (m ≤ n → P) → P
by_test {P} n m f g = go (ltb n m) refl
  where
    go : (b : Bool) → ltb n m ≡ b → P
    go true e = f (ltb-true n m e)
    go false e = g (ltb-false n m e)

-- the digits that follow stand behind
from_append : (f n : ℕ) (ds : List ℕ) → decimal_from f n ds ≡ decimal_from f n [] ++ ds
unfolding decimal_from
from_append zero n ds = refl
from_append (suc f) n ds =
    by_test n 10
    (λ a. rw (lt-ltb n 10 a))
    (λ a. rw (le-ltb n 10 a)
    (from_append f (n / 10) ((48 + n % 10) ∷ ds)
    ∙ sym (append_assoc (decimal_from f (n / 10) []) ((48 + n % 10) ∷ []) ds)
    ∙ ap (λ (x : List ℕ). x ++ ds) (sym (from_append f (n / 10) ((48 + n % 10) ∷ [])))))

same-fuel : (k l n : ℕ) (ds : List ℕ) → n < k → n < l → decimal_from k n ds ≡ decimal_from l n ds
unfolding decimal_from
same-fuel zero l n ds h i = let z : ⊥ = omega arith in absurd z
same-fuel (suc k) zero n ds h i = let z : ⊥ = omega arith in absurd z
same-fuel (suc k) (suc l) n ds h i =
    by_test n 10
    (λ a. rw (lt-ltb n 10 a))
    (λ a. rw (le-ltb n 10 a) (same-fuel k l (n / 10) ((48 + n % 10) ∷ ds) (omega arith) (omega arith)))

pub decimal-small : (n : ℕ) → n < 10 → decimal n ≡ (48 + n) ∷ []
unfolding decimal decimal_from
decimal-small n h = rw (lt-ltb n 10 h)

pub decimal-more : (n : ℕ) → 10 ≤ n → decimal n ≡ decimal (n / 10) ++ ((48 + n % 10) ∷ [])
unfolding decimal decimal_from
decimal-more n h =
    rw (le-ltb n 10 h)
    (from_append n (n / 10) ((48 + n % 10) ∷ [])
    ∙ ap (λ (x : List ℕ). x ++ ((48 + n % 10) ∷ [])) (same-fuel n (suc (n / 10)) (n / 10) [] (omega arith) (omega arith)))

-- the first number of more than k + 1 digits
abbrev pub tens : ℕ → ℕ
tens zero = 10
tens (suc k) = 10 * tens k

pub decimal-size : (k n : ℕ) → n < tens k → length (decimal n) ≤ suc k
decimal-size zero n h = rw (decimal-small n h) (omega arith)
decimal-size (suc k) n h =
    by_test n 10
    (λ a. rw (decimal-small n a) (omega arith))
    (λ a.
    let i : length (decimal (n / 10)) ≤ suc k = decimal-size k (n / 10) (omega arith) in
    rw (decimal-more n a, length-append) (omega arith))

pub decimal-long : (n : ℕ) → 10 ≤ n → length (decimal n) ≡ length (decimal (n / 10)) + 1
decimal-long n h = ap length (decimal-more n h) ∙ length-append (decimal (n / 10)) ((48 + n % 10) ∷ [])

-- a byte has at most 3 digits, and so has a count of commands; a length has at most 20
pub decimal-byte : (n : ℕ) → n < 256 → length (decimal n) ≤ 3
decimal-byte n h = decimal-size 2 n (omega arith)

pub decimal-count : (n : ℕ) → n ≤ max_commands → length (decimal n) ≤ 3
decimal-count n h = decimal-size 2 n (omega arith)

pub decimal-place : (n : ℕ) → n < 18446744073709551616 → length (decimal n) ≤ 20
decimal-place n h = decimal-size 19 n (omega arith)
