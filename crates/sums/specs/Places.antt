-- Where a sum stands in the lent arrays: its coefficients and its keys at its place, and its slots.
use Rattle.std.specs.Prelude.{◌≡◌, List, ℕ, zero, suc, ◌+◌, ◌*◌, ◌/◌, ◌≤◌, ◌<◌, ℤ, length}
use Rattle.nodes.specs.Nodes.{capacity}
use Rattle.matching.specs.Entries.{Literals}
use Rattle.matching.specs.Places.{max_entries, max_place, part, placed, Others}
use Rattle.sums.specs.Lists.{Fine}

-- the places of a rule's sums: the first premise, the second, the conclusion
abbrev pub left_at : ℕ
left_at = 0

abbrev pub right_at : ℕ
right_at = 1024

abbrev pub conclusion_at : ℕ
conclusion_at = 2048

-- the keys that a sum has slots for: half of all slots are its own
abbrev pub key_room : List ℕ → ℕ
key_room sl = length sl / 2

-- where the slots of a place begin: the first premise has its own; the second is looked up only while it is read, and the conclusion, which is read
-- behind it, has the same
unfoldable pub slots_of : ℕ → ℕ → ℕ
slots_of room zero = 0
slots_of room (suc at) = room

-- the slots of a place
abbrev pub slotted : ℕ → List ℕ → List ℕ
slotted at sl = part (slots_of (key_room sl) at) (key_room sl) sl

-- two places whose slots share nothing, however many there are
abbrev pub Aside : ℕ → ℕ → Type 0
Aside a b = (room i j : ℕ) → i < room → j < room → slots_of room a + i ≡ slots_of room b + j → ⊥

-- there is a slot for each key over the nodes of the table t
abbrev pub Slotted : List ℕ → List ℕ → Type 0
Slotted t sl = 2 * capacity t ≤ key_room sl

-- the lent arrays can hold every sum over the table t at this place
pub record Room (t : List ℕ) (at : ℕ) (cs : List ℤ) (ks sl : List ℕ) : Type 0 where
  pub few : at ≤ max_place
  pub coefficients : at + max_entries ≤ length cs
  pub keys : at + max_entries ≤ length ks
  pub slots : Slotted t sl

-- n entries that can be read one by one, their coefficients at one place and their keys at one
pub record Listed (t : List ℕ) (from at : ℕ) (cs : List ℤ) (ks : List ℕ) (n : ℕ) : Type 0 where
  pub near : from ≤ max_place
  pub few : at ≤ max_place
  pub most : n ≤ max_entries
  pub coefficients : from + n ≤ length cs
  pub keys : at + n ≤ length ks
  pub literals : Literals t (placed at ks) n

-- n keys at this place that can be looked up
pub record Keyed (t : List ℕ) (at : ℕ) (ks sl : List ℕ) (n : ℕ) : Type 0 where
  pub few : at ≤ max_place
  pub fine : Fine t (placed at ks) (slotted at sl) n
  pub keys : at + max_entries ≤ length ks
  pub slots : Slotted t sl

-- the lent arrays can hold all three sums of a rule over the table t
pub record Rooms (t : List ℕ) (cs : List ℤ) (ks sl : List ℕ) : Type 0 where
  pub coefficients : conclusion_at + max_entries ≤ length cs
  pub keys : conclusion_at + max_entries ≤ length ks
  pub slots : Slotted t sl

-- the arrays are as long as they were, and what stands in them at other places than this one is as it was
pub record Elsewhere (at : ℕ) (cs : List ℤ) (ks sl : List ℕ) (ds : List ℤ) (ls tl : List ℕ) : Type 0 where
  pub coefficients : Others at cs ds
  pub keys : Others at ks ls
  pub long : length tl ≡ length sl
  pub slots : (b : ℕ) → Aside at b → slotted b tl ≡ slotted b sl
