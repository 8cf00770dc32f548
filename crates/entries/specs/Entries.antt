-- Entries as structs: what negating one and negating a sum of them gives, and which entry of the definitions a struct stands for (01, section 4).
use Rattle.std.specs.Prelude.{List, [], ◌∷◌, ℕ, ℤ, neg_ℤ}
use Rattle.std.specs.Int.{w64}
use Rattle.std.proofs.Common.{SFits}
use Rattle.calculus.specs.Entries.{Entry as SumEntry, entry}
use Rattle.calculus.specs.Terms.{Term}
use Rattle.entries.specs.declared.Entry.{Entry}

-- how many entries are lent at once
abbrev pub block_size : ℕ
block_size = 8

-- the coefficient can be negated at 64 bits
abbrev pub Turns : ℤ → Type 0
Turns z = SFits w64 (neg_ℤ z)

-- each coefficient of the sum can be negated
abbrev pub AllTurn : List Entry → Type 0
AllTurn [] = Unit
AllTurn (e ∷ es) = Turns e.coefficient × AllTurn es

-- the entry with its coefficient negated, and nothing else changed
abbrev pub negated : Entry → Entry
negated e = record { coefficient = neg_ℤ e.coefficient; variable = e.variable; sign = e.sign }

-- the entry of the definitions that a struct stands for, where d is the term of each variable's number
abbrev pub entry_of : (ℕ → Term) → Entry → SumEntry
entry_of d e = entry (record { variable = d e.variable; negated = e.sign }) e.coefficient
