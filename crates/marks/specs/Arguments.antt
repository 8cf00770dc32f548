-- The arguments of an application as a list of nodes of the table.
use Rattle.std.specs.Prelude.{List, map, ℕ}
use Rattle.calculus.specs.Terms.{Terms, listed}
use Rattle.nodes.specs.Nodes.{decode}

-- the terms of the nodes of the list, over the text s
abbrev pub arguments_at : List ℕ → List ℕ → List ℕ → Terms
arguments_at s t l = listed (map (decode s t) l)
