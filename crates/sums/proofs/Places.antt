-- Slots of a place, and what stands at other places than the one that is written: the one law of the frame.
use mathlib.Core.Path.{◌≡◌, refl, ◌∙◌}
use mathlib.Core.List.{List}
use Prim.Native.Nat.{ℕ, zero, suc, ◌+◌, ◌≤◌, ◌<◌}
use native.Mathlib.Omega.{arith}
use lib.IntN.{ℤ, pos}
use lib.ListN.{length, get_or, set, length-set}
use Rattle.matching.specs.Matched.{variable_of, Variable}
use Rattle.matching.specs.Places.{max_entries, placed, Put1, Apart, Others}
use Rattle.matching.proofs.Places.{part-get, part-other, part-put, others-none, others-set, others-then}
use Rattle.sums.specs.Lists.{Fine}
use Rattle.sums.specs.Places.{key_room, slots_of, slotted, Aside, Slotted, Room, Keyed, left_at, right_at, conclusion_at, Rooms, Elsewhere}
use Rattle.sums.specs.Found.{AppendedAt, InequalityIs}

-- ---- slots
pub slot_at : (at : ℕ) (sl : List ℕ) (s : ℕ) → s < key_room sl → get_or (slotted at sl) s 0 ≡ get_or sl (slots_of (key_room sl) at + s) 0
slot_at at sl s h = part-get (slots_of (key_room sl) at) (key_room sl) sl 0 s (omega arith)

-- a key is below the room for keys
pub key_below : {t : List ℕ} (sl : List ℕ) {k : ℕ} → Slotted t sl → Variable t (variable_of k) → k < key_room sl
key_below sl S N = omega (arith, S, N.node.below, N.node.table.few)

pub slots-left : (room at : ℕ) → at ≡ left_at → slots_of room at ≡ 0
unfolding slots_of
slots-left room zero e = refl
slots-left room (suc at) e = let z : ⊥ = omega arith in absurd z

pub slots-other : (room at : ℕ) → (at ≡ left_at → ⊥) → slots_of room at ≡ room
unfolding slots_of
slots-other room zero f = absurd (f refl)
slots-other room (suc at) f = refl

slots-few : (room at : ℕ) → slots_of room at ≤ room
unfolding slots_of
slots-few room zero = omega arith
slots-few room (suc at) = omega arith

-- the first premise's slots are its own
pub conclusion-aside : Aside conclusion_at left_at
unfolding slots_of
conclusion-aside room i j h k e = omega arith

pub left-aside : Aside left_at conclusion_at
unfolding slots_of
left-aside room i j h k e = omega arith

pub right-aside : Aside right_at left_at
unfolding slots_of
right-aside room i j h k e = omega arith

-- ---- the frame
module _ (at : ℕ) (cs : List ℤ) (ks sl : List ℕ) where
  pub elsewhere-none : Elsewhere at cs ks sl cs ks sl
  elsewhere-none = record { coefficients = others-none at cs; keys = others-none at ks; long = refl; slots = λ b f. refl }

  -- coefficients of the place were written
  pub elsewhere-coefficients : {ds : List ℤ} → Others at cs ds → Elsewhere at cs ks sl ds ks sl
  elsewhere-coefficients E = record { coefficients = E; keys = others-none at ks; long = refl; slots = λ b f. refl }

-- one entry more and its slot, and everything elsewhere as it was
pub appended_at : (at : ℕ) (cs : List ℤ) (ks sl : List ℕ) (n k : ℕ) (c : ℤ) → at + max_entries ≤ length cs → at + max_entries ≤ length ks → n < max_entries → k < key_room sl
    → AppendedAt at cs ks sl n k c (set cs (at + n) c) (set ks (at + n) k) (set sl (slots_of (key_room sl) at + k) n) (n + 1)
appended_at at cs ks sl n k c f g h m = (
  record {
    coefficients = part-put at max_entries cs (pos 0) n c h f;
    keys = part-put at max_entries ks 0 n k h g;
    slots = rw long (part-put (slots_of (key_room sl) at) (key_room sl) sl 0 k n m (omega (arith, slots-few (key_room sl) at)));
    count = refl;
  },
  record {
    coefficients = others-set at cs n c h;
    keys = others-set at ks n k h;
    long = long;
    slots = λ b f. rw long (part-other (slots_of (key_room sl) b) (key_room sl) sl (slots_of (key_room sl) at + k) n (λ j l e. f (key_room sl) k j m l e));
  },
)
  where
    long : length (set sl (slots_of (key_room sl) at + k) n) ≡ length sl
    long = length-set sl (slots_of (key_room sl) at + k) n

-- one entry more, and no slot
pub entry_at : (at : ℕ) (cs : List ℤ) (ks sl : List ℕ) (n k : ℕ) (c : ℤ) → at + max_entries ≤ length cs → at + max_entries ≤ length ks → n < max_entries
    → Put1 (pos 0) (placed at cs) n c (placed at (set cs (at + n) c)) × Put1 0 (placed at ks) n k (placed at (set ks (at + n) k)) × Elsewhere at cs ks sl (set cs (at + n) c) (set ks (at + n) k) sl
entry_at at cs ks sl n k c f g h = (
  part-put at max_entries cs (pos 0) n c h f,
  part-put at max_entries ks 0 n k h g,
  record { coefficients = others-set at cs n c h; keys = others-set at ks n k h; long = refl; slots = λ b f. refl },
)

pub elsewhere-then : {at : ℕ} {cs ds es : List ℤ} {ks ls ms sl tl ul : List ℕ} → Elsewhere at cs ks sl ds ls tl → Elsewhere at ds ls tl es ms ul → Elsewhere at cs ks sl es ms ul
elsewhere-then E F = record {
  coefficients = others-then E.coefficients F.coefficients;
  keys = others-then E.keys F.keys;
  long = F.long ∙ E.long;
  slots = λ b f. F.slots b f ∙ E.slots b f;
}

-- arrays of the same lengths have room as before
pub rooms-kept : {cs ds : List ℤ} {ks ls sl tl : List ℕ} → length ds ≡ length cs → length ls ≡ length ks → length tl ≡ length sl → {t : List ℕ} → Rooms t cs ks sl → Rooms t ds ls tl
rooms-kept e f g R = record { coefficients = rw e R.coefficients; keys = rw f R.keys; slots = rw g R.slots }

-- ---- the law of the frame: a sum at another place is what it was
module _ {at : ℕ} {cs ds : List ℤ} {ks ls sl tl : List ℕ} (E : Elsewhere at cs ks sl ds ls tl) where
  pub room-still : {t : List ℕ} {b : ℕ} → Room t b cs ks sl → Room t b ds ls tl
  room-still R = record { few = R.few; coefficients = rw E.coefficients.long R.coefficients; keys = rw E.keys.long R.keys; slots = rw E.long R.slots }

  pub sum-still : (P : List ℤ → List ℕ → List ℕ → Type 0) (b : ℕ) → Apart at b → Aside at b → P (placed b cs) (placed b ks) (slotted b sl) → P (placed b ds) (placed b ls) (slotted b tl)
  sum-still P b f g p = rw (E.coefficients.there b f, E.keys.there b f, E.slots b g) p

  pub fine-still : {t : List ℕ} {n : ℕ} (b : ℕ) → Apart at b → Aside at b → Fine t (placed b ks) (slotted b sl) n → Fine t (placed b ls) (slotted b tl) n
  fine-still {t} {n} b f g F = sum-still (λ us vs ws. Fine t vs ws n) b f g F

  pub inequality-still : {t : List ℕ} {i n : ℕ} {k : ℤ} (b : ℕ) → Apart at b → Aside at b → InequalityIs t i k (placed b cs) (placed b ks) (slotted b sl) n → InequalityIs t i k (placed b ds) (placed b ls) (slotted b tl) n
  inequality-still {t} {i} {n} {k} b f g I = sum-still (λ us vs ws. InequalityIs t i k us vs ws n) b f g I

  -- whose slots may have been written since
  pub inequality-past : {t past : List ℕ} {i n : ℕ} {k : ℤ} (b : ℕ) → Apart at b → InequalityIs t i k (placed b cs) (placed b ks) past n → InequalityIs t i k (placed b ds) (placed b ls) past n
  inequality-past b f I = rw (E.coefficients.there b f, E.keys.there b f) I

  pub rooms-still : {t : List ℕ} → Rooms t cs ks sl → Rooms t ds ls tl
  rooms-still = rooms-kept E.coefficients.long E.keys.long E.long

-- ---- the places of a rule
module _ {t : List ℕ} {cs : List ℤ} {ks sl : List ℕ} (R : Rooms t cs ks sl) (at : ℕ) (h : at ≤ conclusion_at) where
  pub room_of : Room t at cs ks sl
  room_of = record { few = omega arith; coefficients = omega (arith, R.coefficients); keys = omega (arith, R.keys); slots = R.slots }

  pub keyed_of : {n : ℕ} → Fine t (placed at ks) (slotted at sl) n → Keyed t at ks sl n
  keyed_of F = record { few = omega arith; fine = F; keys = omega (arith, R.keys); slots = R.slots }

  pub long-enough : (n : ℕ) → n ≤ max_entries → at + n ≤ length cs
  long-enough n l = omega (arith, R.coefficients)
