-- The words of summands: what a summand that was put says, and what stays of those before it.
use mathlib.Core.Path.{◌≡◌, refl, sym, ◌∙◌}
use mathlib.Core.Bool.{Bool, true, false, cond}
use mathlib.Core.List.{List, [], ◌∷◌, ◌++◌}
use Prim.Native.Nat.{ℕ, zero, suc, ◌+◌, ◌*◌, ◌≤◌, ◌<◌}
use native.Mathlib.Decide.{dec_lt}
use native.Mathlib.Omega.{arith}
use borrow.Author.Tests.{lt-ltb, le-ltb}
use lib.Dec.{eqb, ltb}
use lib.ListN.{length, get_or, set, length-set}
use lib.Seq.{slice, get_or-set_same, get_or-set_other}
use Rattle.integer.specs.Integers.{signed}
use Rattle.calculus.specs.Words.{max_numeral, max_name}
use Rattle.calculus.specs.OpbWriting.{Summand, times}
use Rattle.opb.specs.Judged.{bit_of, five_words, put_summand}
use Rattle.opb.specs.Summands.{max_summands, summand_words, summand_word, literal_over, summand_at, summands_of, SummandIn, SummandsIn}

-- ---- five words
module _ (a : List ℕ) (i m v d n t : ℕ) where
  one : List ℕ
  one = set a i m

  two : List ℕ
  two = set one (i + 1) v

  three : List ℕ
  three = set two (i + 2) d

  four : List ℕ
  four = set three (i + 3) n

  long-1 : length one ≡ length a
  unfolding one
  long-1 = length-set a i m

  long-2 : length two ≡ length a
  unfolding two
  long-2 = length-set one (i + 1) v ∙ long-1

  long-3 : length three ≡ length a
  unfolding three
  long-3 = length-set two (i + 2) d ∙ long-2

  long-4 : length four ≡ length a
  unfolding four
  long-4 = length-set three (i + 3) n ∙ long-3

  pub five-long : length (five_words a i m v d n t) ≡ length a
  unfolding five_words one two three four
  five-long = length-set four (i + 4) t ∙ long-4

  below-4 : (j : ℕ) → j < i + 4 → get_or (five_words a i m v d n t) j 0 ≡ get_or four j 0
  unfolding five_words one two three four
  below-4 j h = get_or-set_other four (i + 4) j t 0 (omega arith)

  below-3 : (j : ℕ) → j < i + 3 → get_or (five_words a i m v d n t) j 0 ≡ get_or three j 0
  unfolding four
  below-3 j h = below-4 j (omega arith) ∙ get_or-set_other three (i + 3) j n 0 (omega arith)

  below-2 : (j : ℕ) → j < i + 2 → get_or (five_words a i m v d n t) j 0 ≡ get_or two j 0
  unfolding three
  below-2 j h = below-3 j (omega arith) ∙ get_or-set_other two (i + 2) j d 0 (omega arith)

  below-1 : (j : ℕ) → j < i + 1 → get_or (five_words a i m v d n t) j 0 ≡ get_or one j 0
  unfolding two
  below-1 j h = below-2 j (omega arith) ∙ get_or-set_other one (i + 1) j v 0 (omega arith)

  below : (j : ℕ) → j < i → get_or (five_words a i m v d n t) j 0 ≡ get_or a j 0
  unfolding one
  below j h = below-1 j (omega arith) ∙ get_or-set_other a i j m 0 (omega arith)

  module _ (room : i + 4 < length a) where
    at-0 : get_or (five_words a i m v d n t) i 0 ≡ m
    unfolding one
    at-0 = below-1 i (omega arith) ∙ get_or-set_same a i m 0 (omega arith)

    at_1 : get_or (five_words a i m v d n t) (i + 1) 0 ≡ v
    unfolding two
    at_1 = below-2 (i + 1) (omega arith) ∙ get_or-set_same one (i + 1) v 0 (rw long-1 (omega arith))

    at-2 : get_or (five_words a i m v d n t) (i + 2) 0 ≡ d
    unfolding three
    at-2 = below-3 (i + 2) (omega arith) ∙ get_or-set_same two (i + 2) d 0 (rw long-2 (omega arith))

    at-3 : get_or (five_words a i m v d n t) (i + 3) 0 ≡ n
    unfolding four
    at-3 = below-4 (i + 3) (omega arith) ∙ get_or-set_same three (i + 3) n 0 (rw long-3 (omega arith))

    at-4 : get_or (five_words a i m v d n t) (i + 4) 0 ≡ t
    unfolding five_words one two three four
    at-4 = get_or-set_same four (i + 4) t 0 (rw long-4 (omega arith))

-- ---- one summand
bit-eq : (b : Bool) → eqb (bit_of b) 1 ≡ b
unfolding bit_of
bit-eq true = refl
bit-eq false = refl

-- summand q was put
record Put (a b : List ℕ) (q : ℕ) (m : Bool) (v : ℕ) (d : Bool) (n t : ℕ) : Type 0 where
  same : (j : ℕ) → j < 5 * q → get_or b j 0 ≡ get_or a j 0
  sign : summand_word b q 0 ≡ bit_of m
  size : summand_word b q 1 ≡ v
  bar : summand_word b q 2 ≡ bit_of d
  starts : summand_word b q 3 ≡ n
  ends : summand_word b q 4 ≡ t

module _ (a : List ℕ) (q : ℕ) (m : Bool) (v : ℕ) (d : Bool) (n t : ℕ) where
  pub put-none : max_summands ≤ q → a ≡ put_summand a q m v d n t
  unfolding put_summand
  put-none h = rw (le-ltb q max_summands h)

  put_some : q < max_summands → five_words a (5 * q) (bit_of m) v (bit_of d) n t ≡ put_summand a q m v d n t
  unfolding put_summand
  put_some h = rw (lt-ltb q max_summands h)

  -- as the code writes them
  pub put_five : (x y : ℕ) → x ≡ bit_of m → y ≡ bit_of d → q < max_summands → five_words a (5 * q) x v y n t ≡ put_summand a q m v d n t
  put_five x y e g h = rw (e, g) (put_some h)

  pub put-long : length (put_summand a q m v d n t) ≡ length a
  unfolding put_summand
  put-long = go (ltb q max_summands)
    where
      go : (c : Bool) → length (cond c (five_words a (5 * q) (bit_of m) v (bit_of d) n t) a) ≡ length a
      go true = five-long a (5 * q) (bit_of m) v (bit_of d) n t
      go false = refl

  was-put : summand_words ≤ length a → q < max_summands → Put a (put_summand a q m v d n t) q m v d n t
  was-put room h =
      let z : 5 * q + 0 ≡ 5 * q = omega arith in
      rw (← put_some h) (record {
        same = below a (5 * q) (bit_of m) v (bit_of d) n t;
        sign = rw z (at-0 a (5 * q) (bit_of m) v (bit_of d) n t (omega arith));
        size = at_1 a (5 * q) (bit_of m) v (bit_of d) n t (omega arith);
        bar = at-2 a (5 * q) (bit_of m) v (bit_of d) n t (omega arith);
        starts = at-3 a (5 * q) (bit_of m) v (bit_of d) n t (omega arith);
        ends = at-4 a (5 * q) (bit_of m) v (bit_of d) n t (omega arith);
      })

module _ {a b : List ℕ} {q : ℕ} {m : Bool} {v : ℕ} {d : Bool} {n t : ℕ} (P : Put a b q m v d n t) (s : List ℕ) where
  put-says : summand_at s b q ≡ times (signed m v) (literal_over d (slice n t s))
  unfolding summand_at
  put-says = rw (P.sign, P.size, P.bar, P.starts, P.ends, bit-eq m, bit-eq d)

  put_in : v ≤ max_numeral → (m ≡ true → 1 ≤ v) → n < t → t ≤ length s → t ≤ n + max_name → SummandIn s b q
  put_in size minus starts ends short = record {
    size = rw P.size size;
    minus = λ e. rw P.size (minus (sym (bit-eq m) ∙ rw (sym P.sign ∙ e)));
    starts = rw (P.starts, P.ends) starts;
    ends = rw P.ends ends;
    short = rw (P.starts, P.ends) short;
  }

  same_word : (i j : ℕ) → i < q → j < 5 → summand_word b i j ≡ summand_word a i j
  same_word i j h g = P.same (5 * i + j) (omega arith)

  same_at : (i : ℕ) → i < q → summand_at s b i ≡ summand_at s a i
  unfolding summand_at
  same_at i h = rw (same_word i 0 h (omega arith), same_word i 1 h (omega arith), same_word i 2 h (omega arith), same_word i 3 h (omega arith), same_word i 4 h (omega arith))

  same_in : (i : ℕ) → i < q → SummandIn s a i → SummandIn s b i
  same_in i h I = record {
    size = rw (same_word i 1 h (omega arith)) I.size;
    minus = λ e. rw (same_word i 1 h (omega arith)) (I.minus (sym (same_word i 0 h (omega arith)) ∙ e));
    starts = rw (same_word i 3 h (omega arith), same_word i 4 h (omega arith)) I.starts;
    ends = rw (same_word i 4 h (omega arith)) I.ends;
    short = rw (same_word i 3 h (omega arith), same_word i 4 h (omega arith)) I.short;
  }

  same-all : (k : ℕ) → k ≤ q → summands_of s b k ≡ summands_of s a k
  unfolding summands_of
  same-all zero h = refl
  same-all (suc k) h = rw (same-all k (omega arith), same_at k h)

-- ---- all summands
pub none-stored : (s a : List ℕ) → summand_words ≤ length a → (summands_of s a 0 ≡ []) × SummandsIn s a 0
unfolding summands_of
none-stored s a room = (refl, record { room = room; few = omega arith; each = λ i h. let z : ⊥ = omega arith in absurd z })

module _ (s a : List ℕ) (q : ℕ) (m : Bool) (v : ℕ) (d : Bool) (n t : ℕ) (xs : List Summand) where
  pub more-stored : (q ≤ max_summands → (summands_of s a q ≡ xs) × SummandsIn s a q) → summand_words ≤ length a
      → v ≤ max_numeral → (m ≡ true → 1 ≤ v) → n < t → t ≤ length s → t ≤ n + max_name
      → q + 1 ≤ max_summands
      → (summands_of s (put_summand a q m v d n t) (q + 1) ≡ xs ++ (times (signed m v) (literal_over d (slice n t s)) ∷ [])) × SummandsIn s (put_summand a q m v d n t) (q + 1)
  unfolding summands_of
  more-stored S room size minus starts ends short few =
      let P = was-put a q m v d n t room (omega arith) in
      let e : q + 1 ≡ suc q = omega arith in
      let (f, I) = S (omega arith) in
      let u : summands_of s (put_summand a q m v d n t) (suc q) ≡ xs ++ (times (signed m v) (literal_over d (slice n t s)) ∷ []) = rw (same-all P s q (omega arith), put-says P s, f) in
      let w : SummandsIn s (put_summand a q m v d n t) (suc q) = record {
        room = rw (put-long a q m v d n t) room;
        few = omega arith;
        each = λ i h. each P I i h (dec_lt i q);
      } in
      rw e (u, w)
    where
      each : Put a (put_summand a q m v d n t) q m v d n t → SummandsIn s a q → (i : ℕ) → i < suc q → Dec (i < q) → SummandIn s (put_summand a q m v d n t) i
      each P I i h (yes l) = same_in P s i l (I.each i l)
      each P I i h (no l) = let e : i ≡ q = omega arith in rw e (put_in P s size minus starts ends short)
