-- The words of an entry of the stack: where they are the same, and what they have.
use mathlib.Core.Path.{◌≡◌, refl, sym, ap, ◌∙◌}
use mathlib.Core.List.{List}
use Prim.Native.Nat.{ℕ, zero, suc, ◌+◌, ◌≤◌, ◌<◌}
use native.Mathlib.Omega.{arith}
use lib.IntN.{ℤ, pos}
use lib.ListN.{length, get_or, take, drop, length-take}
use lib.Seq.{ext_get_or, get_or-take}
use Rattle.calculus.specs.Pol.{max_stack}
use Rattle.calculus.specs.Terms.{Term}
use Rattle.matching.specs.Entries.{run, entry_at, entries}
use Rattle.matching.specs.Places.{max_entries, part, placed, Apart, Others}
use Rattle.matching.proofs.Places.{part-get, part_length}
use Rattle.sums.specs.Places.{conclusion_at}
use Rattle.pol.specs.Stack.{entry_words, stack_words, base_of, window}

-- word i of entry e
pub window-get : {A : Type 0} (e : ℕ) (l : List A) (z : A) (i : ℕ) → i < entry_words → get_or (window e l) i z ≡ get_or l (base_of e + i) z
window-get e l z i h = part-get (base_of e) entry_words l z i h

pub window-length : {A : Type 0} (e : ℕ) (l : List A) → e < max_stack → stack_words ≤ length l → length (window e l) ≡ entry_words
window-length e l h g = part_length (base_of e) entry_words l (omega arith)

-- and what stands at its place
pub placed-window : {A : Type 0} (e : ℕ) (l : List A) (z : A) (i : ℕ) → i < entry_words → get_or (placed (base_of e) l) i z ≡ get_or (window e l) i z
placed-window e l z i h = part-get (base_of e) max_entries l z i (omega arith) ∙ sym (window-get e l z i h)

-- the same words, one by one
pub window_same : {A : Type 0} (e : ℕ) (l m : List A) (z : A) → e < max_stack → stack_words ≤ length l → stack_words ≤ length m
    → ((i : ℕ) → i < entry_words → get_or m (base_of e + i) z ≡ get_or l (base_of e + i) z) → window e m ≡ window e l
window_same e l m z h g k f =
    ext_get_or z (window e m) (window e l) (window-length e m h k ∙ sym (window-length e l h g))
    (λ i q. let b : i < entry_words = omega (arith, window-length e m h k) in window-get e m z i b ∙ f i b ∙ sym (window-get e l z i b))

-- the stack is apart from the places of a rule
pub stack-apart : (at e : ℕ) → at ≤ conclusion_at → Apart at (base_of e)
stack-apart at e h i j a b q = omega arith

-- words that others at a place of a rule leave as they were
pub window-still : {A : Type 0} (z : A) {at : ℕ} {l m : List A} (e : ℕ) → at ≤ conclusion_at → Others at l m → window e m ≡ window e l
unfolding part
window-still {A} z {at} {l} {m} e h O = front m ∙ ap (take entry_words) (O.there (base_of e) (stack-apart at e h)) ∙ sym (front l)
  where
    front : (k : List A) → take entry_words (drop (base_of e) k) ≡ take entry_words (take max_entries (drop (base_of e) k))
    front k = ext_get_or z (take entry_words (drop (base_of e) k)) (take entry_words (take max_entries (drop (base_of e) k)))
        (omega (arith, length-take entry_words (drop (base_of e) k), length-take max_entries (drop (base_of e) k), length-take entry_words (take max_entries (drop (base_of e) k))))
        (λ i q.
        let b : i < entry_words = omega (arith, length-take entry_words (drop (base_of e) k)) in
        get_or-take entry_words (drop (base_of e) k) i z b
        ∙ sym (get_or-take entry_words (take max_entries (drop (base_of e) k)) i z b ∙ get_or-take max_entries (drop (base_of e) k) i z (omega arith)))

-- ---- entries that have the same coefficients and keys
pub entries-same : (d : ℕ → Term) (cs ds : List ℤ) (ks ls : List ℕ) (n : ℕ) → ((i : ℕ) → i < n → get_or ds i (pos 0) ≡ get_or cs i (pos 0)) → ((i : ℕ) → i < n → get_or ls i 0 ≡ get_or ks i 0)
    → entries d ds ls n ≡ entries d cs ks n
unfolding run
entries-same d cs ds ks ls n f g = go 0 n (omega arith)
  where
    go : (i m : ℕ) → i + m ≤ n → run (entry_at d ds ls) i m ≡ run (entry_at d cs ks) i m
    go i zero h = refl
    go i (suc m) h = rw (f i (omega arith), g i (omega arith), go (suc i) m (omega arith))
