-- What the exported function owes at each of its ends, over plain lists: s the text, t and u the node table, w and x the commands' words,
-- a the answer.
use mathlib.Core.Path.{◌≡◌, refl, subst}
use mathlib.Core.List.{List, [], ◌∷◌, ◌++◌}
use Prim.Native.Nat.{ℕ, zero, suc, ◌≤◌}
use native.Mathlib.Omega.{arith}
use lib.ListN.{length, set, take}
use lib.Seq.{take_at}
use Rattle.calculus.specs.Commands.{read_file, refused}
use Rattle.calculus.specs.Report.{min_table}
use Rattle.theorems.proofs.Proper.{proper}
use Rattle.reader.specs.Reading.{Whole, All, Refused, Small, ReadsFile}
use Rattle.reading.specs.Answer.{Lent, Answers}

-- something lent is too small
pub too_small : (s t w a : List ℕ) → (Lent t w a → ⊥) → Answers s t t w w a a 1
unfolding Answers
too_small s t w a h = (h, refl, refl, refl)

-- the first words of a table, which were lent, and those behind them
first-words : (u v : List ℕ) → length u ≡ min_table → take min_table (u ++ v) ≡ u
first-words u v e = take_at u v min_table e

-- three words of the answer
counted : (s t u w x a : List ℕ) (k n c p : ℕ) → Lent t w a → ReadsFile s (take min_table t) (take min_table u) w x (All k n c p) → Answers s t u w x a (set (set (set a 0 k) 1 n) 2 c) 0
unfolding Answers
counted s t u w x [] k n c i l h = let z : ⊥ = omega (arith, l.answer) in absurd z
counted s t u w x (p ∷ []) k n c i l h = let z : ⊥ = omega (arith, l.answer) in absurd z
counted s t u w x (p ∷ (q ∷ [])) k n c i l h = let z : ⊥ = omega (arith, l.answer) in absurd z
counted s t u w x (p ∷ (q ∷ (r ∷ a))) k n c i l h = (l, i, h)

-- the text is read
pub read : (s t p u v w x a : List ℕ) (r : Whole) (k n c i : ℕ) → Lent t w a → length u ≡ min_table → ReadsFile s p u w x r → r ≡ All k n c i → Answers s t (u ++ v) w x a (set (set (set a 0 k) 1 n) 2 c) 0
read s t p u v w x a r k n c i l long h e = counted s t (u ++ v) w x a k n c i l (rw (first-words u v long) (subst (ReadsFile s p u w x) e h))

-- a refusal's number is at least 2
numbered : (s t u w x a : List ℕ) (e p : ℕ) → 2 ≤ e → Lent t w a → read_file s ≡ refused e p → Answers s t u w x a (set a 0 p) e
unfolding Answers
numbered s t u w x a zero p h l q = let z : ⊥ = omega (arith, h) in absurd z
numbered s t u w x a (suc zero) p h l q = let z : ⊥ = omega (arith, h) in absurd z
numbered s t u w x [] (suc (suc n)) p h l q = let z : ⊥ = omega (arith, l.answer) in absurd z
numbered s t u w x (b ∷ a) (suc (suc n)) p h l q = (l, q)

-- the text is refused
pub refuses : (s t p u v w x a : List ℕ) (r : Whole) (e b : ℕ) → Lent t w a → ReadsFile s p u w x r → r ≡ Refused e b → Answers s t (u ++ v) w x a (set a 0 b) e
refuses s t p u v w x a r e b l h q =
    let k : read_file s ≡ refused e b = (subst (ReadsFile s p u w x) q h).0 in numbered s t (u ++ v) w x a e b (proper s e b k).low l k

-- what is lent is large enough: no table is too small
pub never : (s t p u w x a : List ℕ) (r : Whole) → Lent t w a → length p ≡ min_table → ReadsFile s p u w x r → r ≡ Small → ⊥
never s t p u w x a r l long h e = (subst (ReadsFile s p u w x) e h).0 long l.commands
