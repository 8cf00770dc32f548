-- The greatest value of a sum over names, and the inequalities that no assignment satisfies (02, No. 6).
use Rattle.std.specs.Prelude.{Bool, false, cond, ◌&&◌, List, [], ◌∷◌, ℤ, pos, ◌+ℤ◌}
use Rattle.std.specs.Int.Signed.{lt_z}
use Rattle.integer.specs.Integers.{max_z}
use Rattle.calculus.specs.Entries.{Entry, Inequality}
use Rattle.calculus.specs.Rules.{single}
use Rattle.calculus.specs.Sums.{has, get, opp, all_names, unwrap_inequality}
use Rattle.calculus.specs.Terms.{Term}
use Rattle.calculus.specs.Words.{Res, ok, bad, bind}

-- for a variable the larger of its plain and negated total, an absent one counting as 0; where the sum E has both keys it is counted at the plain one
unfoldable pub greatest_at : List Entry → Entry → ℤ
greatest_at E e = cond (e.lit.negated && has (opp e.lit) E) (pos 0) (max_z e.coefficient (get (opp e.lit) E))

-- what the entries of F add to the greatest value of the sum E
unfoldable pub greatest_by : List Entry → List Entry → ℤ
greatest_by E [] = pos 0
greatest_by E (e ∷ F) = greatest_at E e +ℤ greatest_by E F

-- the greatest value of the sum E over all 0-1 assignments
unfoldable pub greatest : List Entry → ℤ
greatest E = greatest_by E E

-- an inequality over names with greatest value below its constant
unfoldable pub beyond : Res Inequality → Bool
beyond (ok q) = all_names q.sum && lt_z (greatest q.sum) q.const
beyond (bad n) = false

-- a clause of one term, which section 2 reads as such an inequality
unfoldable pub unreachable : List Term → Bool
unreachable c = beyond (bind (single c) unwrap_inequality)
