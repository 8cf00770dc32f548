-- Where each id stands among the 512, and parts of a string of pieces.
use mathlib.Core.Path.{◌≡◌, refl, sym, ap, ap₂, subst, ◌∙◌}
use mathlib.Core.Bool.{Bool, true, false, cond, ◌&&◌}
use mathlib.Core.List.{List, [], ◌++◌, append-nil}
use mathlib.Core.Logic.{◌⊎◌, inl, inr}
use Prim.Native.Nat.{ℕ, zero, suc, ◌+◌, ◌-◌, ◌*◌, ◌≤◌, ◌<◌}
use native.Mathlib.Decide.{dec_lt}
use native.Mathlib.Nat.{not-suc-le-zero, zero-add, suc-add}
use native.Mathlib.Omega.{arith}
use lib.Dec.{T, not_T, leb, le→leb, leb→le, eqb, eqb→eq}
use lib.ListN.{length, take, drop, length-append}
use lib.Seq.{slice, take-append-le, take-append_seam, drop-append-add, take-append-add}
use Rattle.calculus.specs.OpbWriting.{constraint_id}
use Rattle.calculus.specs.Words.{decimal, decimal_from, max_name}
use Rattle.calculus.specs.Limits.{max_text, max_commands}
use Rattle.calculus.proofs.Booleans.{and_l, and_r, is_true, is_false}
use Rattle.opb_reader.specs.Ids.{ids_behind, ids, id_start, kept, joined}
use Rattle.opb_reader.specs.Standing.{IdsAt}

-- ---- parts of a string of pieces
-- a part of the first piece
pub slice_front : (x y : List ℕ) (a b : ℕ) → b ≤ length x → slice a b (x ++ y) ≡ slice a b x
slice_front x y a b h = ap (drop a) (take-append-le b x y h)

-- a part behind it
pub slice-behind : (x y : List ℕ) (a b : ℕ) → slice (length x + a) (length x + b) (x ++ y) ≡ slice a b y
slice-behind x y a b = ap (drop (length x + a)) (take-append-add x y b) ∙ drop-append-add x (take b y) a

-- ---- the ids
-- the id behind k others lies between the ends of k and of k + 1
id-between : (n m k : ℕ) → k < m → slice (length (ids_behind n k)) (length (ids_behind n (suc k))) (ids_behind n m) ≡ constraint_id (suc (n + k))
unfolding ids_behind
id-between n zero k h = absurd (not-suc-le-zero h)
id-between n (suc m) zero h =
    let x : List ℕ = constraint_id (suc n) in
    let e : n ≡ n + 0 = omega arith in
    ap (λ (l : List ℕ). slice 0 (length l) (x ++ ids_behind (suc n) m)) (append-nil x)
    ∙ take-append_seam x (ids_behind (suc n) m)
    ∙ ap (λ (i : ℕ). constraint_id (suc i)) e
id-between n (suc m) (suc k) h =
    let x : List ℕ = constraint_id (suc n) in
    let e : suc n + k ≡ n + suc k = omega arith in
    ap₂ (λ (a b : ℕ). slice a b (x ++ ids_behind (suc n) m)) (length-append x (ids_behind (suc n) k)) (length-append x (ids_behind (suc n) (suc k)))
    ∙ slice-behind x (ids_behind (suc n) m) (length (ids_behind (suc n) k)) (length (ids_behind (suc n) (suc k)))
    ∙ id-between (suc n) m k (omega arith)
    ∙ ap (λ (i : ℕ). constraint_id (suc i)) e

-- one id more
ids-longer : (n k : ℕ) → length (ids_behind n (suc k)) ≡ length (ids_behind n k) + length (constraint_id (suc (n + k)))
unfolding ids_behind
ids-longer n zero =
    let e : n ≡ n + 0 = omega arith in
    let g : length (constraint_id (suc n)) ≡ length (constraint_id (suc (n + 0))) = ap (λ (i : ℕ). length (constraint_id (suc i))) e in
    omega (arith, ap length (append-nil (constraint_id (suc n))), g)
ids-longer n (suc k) =
    let x : List ℕ = constraint_id (suc n) in
    let e : suc n + k ≡ n + suc k = omega arith in
    let g : length (constraint_id (suc (suc n + k))) ≡ length (constraint_id (suc (n + suc k))) = ap (λ (i : ℕ). length (constraint_id (suc i))) e in
    omega (arith, length-append x (ids_behind (suc n) (suc k)), length-append x (ids_behind (suc n) k), ids-longer (suc n) k, g)

-- the start of each of the first n ids is as far behind the one before as that is long
starts_rise : ℕ → Bool
starts_rise zero = true
starts_rise (suc n) = eqb (id_start (suc n)) (id_start n + length (constraint_id (suc n))) && starts_rise n

rises : T (starts_rise max_commands)
unfolding starts_rise id_start constraint_id decimal decimal_from
rises = tt

rises_down : (n k : ℕ) → T (starts_rise (n + k)) → T (starts_rise k)
unfolding starts_rise
rises_down zero k t = subst (λ (m : ℕ). T (starts_rise m)) (zero-add k) t
rises_down (suc n) k t =
    let u : T (starts_rise (suc (n + k))) = subst (λ (m : ℕ). T (starts_rise m)) (suc-add n k) t in
    rises_down n k (and_r (eqb (id_start (suc (n + k))) (id_start (n + k) + length (constraint_id (suc (n + k))))) _ u)

rises-below : (k : ℕ) → k ≤ max_commands → T (starts_rise k)
rises-below k h =
    let e : max_commands ≡ max_commands - k + k = omega arith in
    rises_down (max_commands - k) k (subst (λ (m : ℕ). T (starts_rise m)) e rises)

ids-long : (k : ℕ) → T (starts_rise k) → length (ids_behind 0 k) ≡ id_start k
unfolding ids_behind id_start starts_rise
ids-long zero t = refl
ids-long (suc k) t =
    let e : 0 + k ≡ k = omega arith in
    let g : length (constraint_id (suc (0 + k))) ≡ length (constraint_id (suc k)) = ap (λ (i : ℕ). length (constraint_id (suc i))) e in
    ids-longer 0 k
    ∙ ap₂ (λ (a b : ℕ). a + b) (ids-long k (and_r (eqb (id_start (suc k)) (id_start k + length (constraint_id (suc k)))) _ t)) g
    ∙ sym (eqb→eq _ _ (and_l (eqb (id_start (suc k)) (id_start k + length (constraint_id (suc k)))) _ t))

-- where each id stands among them, and that they are 1,940 bytes
pub id-at : (k : ℕ) → k < max_commands → slice (id_start k) (id_start (suc k)) ids ≡ constraint_id (suc k)
unfolding ids
id-at k h =
    let e : 0 + k ≡ k = omega arith in
    ap₂ (λ (a b : ℕ). slice a b (ids_behind 0 max_commands)) (sym (ids-long k (rises-below k (omega arith)))) (sym (ids-long (suc k) (rises-below (suc k) h)))
    ∙ id-between 0 max_commands k h
    ∙ ap (λ (i : ℕ). constraint_id (suc i)) e

-- ---- the start, by ranges
leb_yes : (a b : ℕ) → a ≤ b → leb a b ≡ true
leb_yes a b h = is_true (leb a b) (le→leb a b h)

leb_no : (a b : ℕ) → b < a → leb a b ≡ false
leb_no a b h = is_false (leb a b) (not_T (leb a b) (λ t. let z : ⊥ = omega (arith, leb→le a b t) in z))

-- one digit
pub start-one : (k : ℕ) → k ≤ 9 → 2 * k ≡ id_start k
unfolding id_start
start-one k h = sym (ap (λ (c : Bool). cond c (2 * k) (cond (leb k 99) (3 * k - 9) (4 * k - 108))) (leb_yes k 9 h))

-- two
pub start-two : (k : ℕ) → 9 < k → k ≤ 99 → 3 * k - 9 ≡ id_start k
unfolding id_start
start-two k g h = sym (ap₂ (λ (c d : Bool). cond c (2 * k) (cond d (3 * k - 9) (4 * k - 108))) (leb_no k 9 g) (leb_yes k 99 h))

-- three
pub start-three : (k : ℕ) → 99 < k → 4 * k - 108 ≡ id_start k
unfolding id_start
start-three k g = sym (ap₂ (λ (c d : Bool). cond c (2 * k) (cond d (3 * k - 9) (4 * k - 108))) (leb_no k 9 (omega arith)) (leb_no k 99 g))

-- the start of each, by its digits
abbrev Start : ℕ → Type 0
Start k = ((k ≤ 9) × (2 * k ≡ id_start k)) ⊎ (((9 < k) × (k ≤ 99) × (3 * k - 9 ≡ id_start k)) ⊎ ((99 < k) × (4 * k - 108 ≡ id_start k)))

start_of : (k : ℕ) → Start k
start_of k = go (dec_lt 9 k) (dec_lt 99 k)
  where
    go : Dec (9 < k) → Dec (99 < k) → Start k
    go (no a) (no b) = inl (omega arith, start-one k (omega arith))
    go (no a) (yes b) = let z : ⊥ = omega arith in absurd z
    go (yes a) (no b) = inr (inl (a, omega arith, start-two k a (omega arith)))
    go (yes a) (yes b) = inr (inr (b, start-three k b))

-- all ids are 1,940 bytes
pub last-id : 1940 ≡ id_start max_commands
last-id = start-three 512 (omega arith)

-- the next start is at most as many bytes behind as a name may have, and none is behind the last
pub start-near : (k : ℕ) → k < max_commands → (id_start k ≤ id_start (suc k)) × (id_start (suc k) ≤ id_start k + max_name) × (id_start (suc k) ≤ id_start max_commands)
start-near k h = go (start_of k) (start_of (suc k))
  where
    go : Start k → Start (suc k) → (id_start k ≤ id_start (suc k)) × (id_start (suc k) ≤ id_start k + max_name) × (id_start (suc k) ≤ id_start max_commands)
    go (inl (a, e)) (inl (b, f)) = (omega arith, omega arith, omega (arith, last-id))
    go (inl (a, e)) (inr (inl (b, c, f))) = (omega arith, omega arith, omega (arith, last-id))
    go (inl (a, e)) (inr (inr (b, f))) = let z : ⊥ = omega arith in absurd z
    go (inr (inl (a, b, e))) (inl (c, f)) = let z : ⊥ = omega arith in absurd z
    go (inr (inl (a, b, e))) (inr (inl (c, d, f))) = (omega arith, omega arith, omega (arith, last-id))
    go (inr (inl (a, b, e))) (inr (inr (c, f))) = (omega arith, omega arith, omega (arith, last-id))
    go (inr (inr (a, e))) (inl (b, f)) = let z : ⊥ = omega arith in absurd z
    go (inr (inr (a, e))) (inr (inl (b, c, f))) = let z : ⊥ = omega arith in absurd z
    go (inr (inr (a, e))) (inr (inr (b, f))) = (omega arith, omega arith, omega (arith, last-id))

-- ---- the ids in the string that both texts are read from
ids-size : length ids ≡ id_start max_commands
unfolding ids
ids-size = ids-long max_commands (rises-below max_commands (omega arith))

pub kept-size : (text : List ℕ) → length (kept text) ≤ max_text
unfolding kept
kept-size text = go (leb (length text) max_text) (leb→le (length text) max_text)
  where
    go : (c : Bool) → (T c → length text ≤ max_text) → length (cond c text []) ≤ max_text
    go true h = h tt
    go false h = omega arith

pub joined-size : (opb text : List ℕ) → length (joined opb text) ≡ length opb + (id_start max_commands + length (kept text))
unfolding joined
joined-size opb text = omega (arith, length-append opb (ids ++ kept text), length-append ids (kept text), ids-size)

pub ids_at : (opb text : List ℕ) → IdsAt (joined opb text) (length opb)
unfolding joined
ids_at opb text = record {
  each = λ k h. slice-behind opb (ids ++ kept text) (id_start k) (id_start (suc k)) ∙ slice_front ids (kept text) (id_start k) (id_start (suc k)) (omega (arith, ids-size, (start-near k h).2)) ∙ id-at k h;
  room = omega (arith, joined-size opb text);
  near = omega (arith, joined-size opb text, kept-size text);
}
