-- Negating entries as structs is negating them by the definitions.
use mathlib.Core.List.{List, [], ◌∷◌, map}
use mathlib.Core.Path.{◌≡◌, refl, ap}
use Prim.Native.Nat.{ℕ}
use Rattle.calculus.specs.Normalize.{neg_entry, neg_all}
use Rattle.calculus.specs.Entries.{Entry as SumEntry}
use Rattle.calculus.specs.Terms.{Term}
use Rattle.entries.specs.declared.Entry.{Entry}
use Rattle.entries.specs.Entries.{negated, entry_of}

-- negate_ctv: one entry
pub negate-entry : (d : ℕ → Term) (e : Entry) → entry_of d (negated e) ≡ neg_entry (entry_of d e)
unfolding neg_entry
negate-entry d e = refl

-- negate_sum: each entry, in the same order
pub negate_list : (d : ℕ → Term) (es : List Entry) → map (entry_of d) (map negated es) ≡ neg_all (map (entry_of d) es)
unfolding neg_entry neg_all
negate_list d [] = refl
negate_list d (e ∷ es) = ap (λ (E : List SumEntry). entry_of d (negated e) ∷ E) (negate_list d es)
