-- A sum that is partly negated: what negate_sum's loop has of the list while it runs, and how a turn goes on.
use mathlib.Core.Bool.{false}
use mathlib.Core.List.{List, [], ◌∷◌, map}
use mathlib.Core.Path.{◌≡◌, refl, sym, ap, ◌∙◌}
use Prim.Native.Nat.{ℕ, zero, suc, ◌+◌, ◌≤◌, ◌<◌}
use native.Mathlib.Nat.{suc-add, le_of_suc-le-suc, not-suc-le-zero}
use lib.IntN.{pos}
use lib.ListN.{length, get_or, set}
use Rattle.entries.specs.declared.Entry.{Entry}
use Rattle.entries.specs.Entries.{Turns, AllTurn, negated}

-- the first i entries are negated, the rest are as they were
unfoldable pub partly : ℕ → List Entry → List Entry
partly zero es = es
partly (suc i) [] = []
partly (suc i) (e ∷ es) = negated e ∷ partly i es

-- what a place beyond the list is read as
abbrev pub beyond : Entry
beyond = record { coefficient = pos 0; variable = 0; sign = false }

-- the entry at place i
abbrev pub entry_at : List Entry → ℕ → Entry
entry_at es i = get_or es i beyond

-- the entry that is next can be negated
pub partly_turns : (i : ℕ) (es : List Entry) → AllTurn es → i < length es → Turns (entry_at (partly i es) i).coefficient
unfolding partly
partly_turns i [] all h = absurd (not-suc-le-zero h)
partly_turns zero (e ∷ es) all h = all.0
partly_turns (suc i) (e ∷ es) all h = partly_turns i es all.1 (le_of_suc-le-suc h)

-- with the next entry negated in its place one more is
pub partly_more : (i : ℕ) (es : List Entry) → i < length es → set (partly i es) i (negated (entry_at (partly i es) i)) ≡ partly (i + 1) es
unfolding partly
partly_more i [] h = absurd (not-suc-le-zero h)
partly_more zero (e ∷ es) h = refl
partly_more (suc i) (e ∷ es) h = ap (λ (l : List Entry). negated e ∷ l) (partly_more i es (le_of_suc-le-suc h)) ∙ ap (λ (j : ℕ). partly j (e ∷ es)) (sym (suc-add i 1))

-- all of them
pub partly-all : (i : ℕ) (es : List Entry) → length es ≤ i → partly i es ≡ map negated es
unfolding partly
partly-all zero [] h = refl
partly-all (suc i) [] h = refl
partly-all zero (e ∷ es) h = absurd (not-suc-le-zero h)
partly-all (suc i) (e ∷ es) h = ap (λ (l : List Entry). negated e ∷ l) (partly-all i es (le_of_suc-le-suc h))
