-- The ids of assumptions, which stand in no text (02, No. 1): `c1c2..c512`, between the OPB text and the proof text in one string.
use Rattle.std.specs.Prelude.{cond, List, [], ◌++◌, ℕ, zero, suc, ◌-◌, ◌*◌, leb, length}
use Rattle.calculus.specs.OpbWriting.{constraint_id}
use Rattle.calculus.specs.Limits.{max_text, max_commands}

-- m ids behind n others
unfoldable pub ids_behind : ℕ → ℕ → List ℕ
ids_behind n zero = []
ids_behind n (suc m) = constraint_id (suc n) ++ ids_behind (suc n) m

-- those of as many assumptions as there may be
unfoldable pub ids : List ℕ
ids = ids_behind 0 max_commands

-- where the id behind k others begins among them: nine ids have one digit, ninety have two, the others have three
unfoldable pub id_start : ℕ → ℕ
id_start k = cond (leb k 9) (2 * k) (cond (leb k 99) (3 * k - 9) (4 * k - 108))

-- a proof text that is too long is not looked at
unfoldable pub kept : List ℕ → List ℕ
kept text = cond (leb (length text) max_text) text []

-- the string that both texts are read from
unfoldable pub joined : List ℕ → List ℕ → List ℕ
joined opb text = opb ++ (ids ++ kept text)
