-- The decimal digits of a number are read back as that number.
use mathlib.Core.Path.{◌≡◌, refl, ap, ◌∙◌}
use mathlib.Core.Bool.{Bool, true, false, not, cond}
use mathlib.Core.List.{List, [], ◌∷◌}
use Prim.Native.Nat.{ℕ, zero, suc, ◌+◌, ◌/◌, ◌%◌, ◌≤◌, ◌<◌}
use native.Mathlib.Omega.{arith}
use lib.Dec.{T, not_T, eqb, eqb→eq, leb, le→leb, ltb, ltb→lt, nltb→le}
use Rattle.calculus.specs.Bytes.{is_digit}
use Rattle.calculus.specs.Words.{Res, ok, ensure, decimal_from, decimal, digits, value_from, leading_zero, max_numeral, magnitude, digit_first}
use Rattle.calculus.proofs.Booleans.{and_mk}

pub digit-is : (n : ℕ) → n < 10 → T (is_digit (48 + n))
unfolding is_digit
digit-is n h = and_mk (leb 48 (48 + n)) _ (le→leb 48 (48 + n) (omega arith)) (le→leb (48 + n) 57 (omega arith))

-- bs is n in decimal, and then the digits ds
pub record Decimal (n : ℕ) (ds bs : List ℕ) : Type 0 where
  pub all : T (digits bs)
  pub front : T (digit_first bs)
  pub value : value_from 0 bs ≡ value_from n ds
  pub plain : 0 < n → T (not (leading_zero bs))

-- so are the digits that decimal_from writes, where it has enough steps
decimal-from : (f n : ℕ) (ds : List ℕ) → n < f → T (digits ds) → Decimal n ds (decimal_from f n ds)
unfolding decimal_from digits digit_first value_from leading_zero
decimal-from zero n ds h d = let v : ⊥ = omega arith in absurd v
decimal-from (suc f) n ds h d = go (ltb n 10) (ltb→lt n 10) (nltb→le n 10) (λ k. decimal-from f (n / 10) ((48 + n % 10) ∷ ds) k (and_mk (is_digit (48 + n % 10)) _ (digit-is (n % 10) (omega arith)) d))
  where
    plain : (ds : List ℕ) → 0 < n → T (not (leading_zero ((48 + n) ∷ ds)))
    plain [] k = tt
    plain (b ∷ ds) k = not_T (eqb (48 + n) 48) (λ t. let e : 48 + n ≡ 48 = eqb→eq (48 + n) 48 t in omega arith)

    more : List ℕ
    more = decimal_from f (n / 10) ((48 + n % 10) ∷ ds)

    go : (c : Bool) → (T c → n < 10) → (T (not c) → 10 ≤ n) → (n / 10 < f → Decimal (n / 10) ((48 + n % 10) ∷ ds) more) → Decimal n ds (cond c ((48 + n) ∷ ds) more)
    go true l g r =
        let k : T (is_digit (48 + n)) = digit-is n (l tt) in
        record { all = and_mk (is_digit (48 + n)) _ k d; front = k; value = ap (λ (m : ℕ). value_from m ds) (omega arith); plain = plain ds }
    go false l g r =
        let k : 10 ≤ n = g tt in
        let i = r (omega arith) in
        record {
          all = i.all;
          front = i.front;
          value = i.value ∙ ap (λ (m : ℕ). value_from m ds) (omega arith);
          plain = λ z. i.plain (omega arith);
        }

pub ensure-yes : {A : Type 0} (c : Bool) (n : ℕ) (r : Res A) → T c → ensure c n r ≡ r
unfolding ensure
ensure-yes true n r t = refl
ensure-yes false n r t = absurd t

magnitude-is : (bs : List ℕ) (n : ℕ) → T (digits bs) → T (not (leading_zero bs)) → value_from 0 bs ≡ n → n ≤ max_numeral → magnitude bs ≡ ok n
unfolding magnitude
magnitude-is bs n d z e h =
    ensure-yes (digits bs) 4 _ d
    ∙ ensure-yes (not (leading_zero bs)) 4 _ z
    ∙ ensure-yes (leb (value_from 0 bs) max_numeral) 4 _ (le→leb (value_from 0 bs) max_numeral (omega arith))
    ∙ ap ok e

pub decimal-is : (n : ℕ) → Decimal n [] (decimal n)
unfolding decimal digits
decimal-is n = decimal-from (suc n) n [] (omega arith) tt

-- a number in range is read from its digits
pub decimal-magnitude : (n : ℕ) → n ≤ max_numeral → magnitude (decimal n) ≡ ok n
unfolding value_from
decimal-magnitude zero h = unfold magnitude decimal decimal_from digits is_digit leading_zero ensure in refl
decimal-magnitude (suc n) h =
    let d = decimal-is (suc n) in
    magnitude-is (decimal (suc n)) (suc n) d.all (d.plain (omega arith)) d.value h
