use Prim.Native.Nat.{◌<◌}
use mathlib.Core.Path.{◌≡◌}
use lib.ListN.{drop}
use Rattle.terms.specs.Index.{hashes, hash_from, hash_of}
use Rattle.terms.proofs.hash.Given as goal

abbrev pub invariant-loop-b : goal.invariant-loop-b
invariant-loop-b l = (l.h < hashes) × (hash_from l.h (drop l.b-index l.b-items) ≡ hash_of l.b-items)
