-- Where a list of entries stands in the lent arrays: its coefficients and its keys from a place on.
use Rattle.std.specs.Prelude.{◌≡◌, List, ℕ, ◌+◌, ◌<◌, length, get_or, take, drop}

-- the entries that a place has room for: an addition has the keys of two sums
abbrev pub max_entries : ℕ
max_entries = 1024

-- places are small: a place and an index in it add up within a usize
abbrev pub max_place : ℕ
max_place = 65536

-- the w words from number a on
unfoldable pub part : {A : Type 0} → ℕ → ℕ → List A → List A
part a w l = take w (drop a l)

-- what stands at a place of the coefficients or of the keys
abbrev pub placed : {A : Type 0} → ℕ → List A → List A
placed at l = part at max_entries l

-- r is l but for a at i
pub record Put1 {A : Type 0} (z : A) (l : List A) (i : ℕ) (a : A) (r : List A) : Type 0 where
  pub new : get_or r i z ≡ a
  pub old : (m : ℕ) → (m ≡ i → ⊥) → get_or r m z ≡ get_or l m z

-- two places that share nothing
abbrev pub Apart : ℕ → ℕ → Type 0
Apart a b = (i j : ℕ) → i < max_entries → j < max_entries → a + i ≡ b + j → ⊥

-- the array is as long as it was, and what stands in it at other places than this one is as it was
pub record Others {A : Type 0} (at : ℕ) (l m : List A) : Type 0 where
  pub long : length m ≡ length l
  pub there : (b : ℕ) → Apart at b → placed b m ≡ placed b l
