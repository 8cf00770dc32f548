-- The assumptions that a constraint becomes and the nodes that they take, counted from its summands.
use Rattle.std.specs.Prelude.{List, [], ◌∷◌, ℕ, zero, suc, ◌+◌, ◌*◌}
use Rattle.calculus.specs.OpbWords.{plain, negated, Relation, at_least, equal}
use Rattle.calculus.specs.OpbWriting.{Summand, times}

-- one assumption or two
unfoldable pub resulting : Relation → ℕ
resulting at_least = 1
resulting equal = 2

-- how many summands have a `~`
unfoldable pub negations : List Summand → ℕ
negations [] = 0
negations (times k (plain x) ∷ xs) = negations xs
negations (times k (negated x) ∷ xs) = suc (negations xs)

-- the nodes of a sum of q summands, g of them with a `~`: three for `(* k x)`, two more for `(- 1 x)`; 0 is a node, a lone summand its own,
-- several stand below one more
unfoldable pub sum_nodes : ℕ → ℕ → ℕ
sum_nodes zero g = 1
sum_nodes (suc zero) g = 3 + 2 * g
sum_nodes (suc (suc q)) g = suc (3 * suc (suc q) + 2 * g)

-- those of an inequality: the sum, its constant and `>=`
unfoldable pub inequality_nodes : ℕ → ℕ → ℕ
inequality_nodes q g = 2 + sum_nodes q g
