-- The index of the names with one node more, and with one less.
use mathlib.Core.Path.{◌≡◌}
use mathlib.Core.List.{List}
use Prim.Native.Nat.{ℕ, ◌+◌, ◌≤◌, ◌<◌}
use native.Mathlib.Omega.{arith}
use lib.ListN.{length}
use Rattle.nodes.specs.Nodes.{capacity, name_at, Firsts, Named}
use Rattle.terms.specs.Index.{hashes, hash_of, entered, left}
use Rattle.terms.specs.Names.{First, Names}
use Rattle.terms.proofs.Index.{hash-small, index-more, index-entered, entered-long, index-left, left-long}
use Rattle.terms.proofs.Naming.{firsts-less, named-less}

-- ---- node k, of n that have their names' numbers
module _ {s t w : List ℕ} {n k : ℕ} (F : Firsts t n) (D : Named s t n) (N : Names s t w k) (h : k < n) where
  -- is not the first with its name
  pub names-past : (First t k → ⊥) → {v : List ℕ} → v ≡ w → Names s t v (k + 1)
  names-past d q = record {
    room = rw q N.room;
    index = rw q (index-more N.index d);
    firsts = firsts-less F (omega arith);
    named = named-less D (omega arith);
  }

  -- is the first, and goes into the index
  pub names-entered : First t k → n ≤ capacity t → {g : ℕ} → g ≡ hash_of (name_at s t k) → {v : List ℕ} → v ≡ entered w 0 k g → Names s t v (k + 1)
  names-entered f few {g} e q = record {
    room = rw (q, entered-long w 0 k g within) N.room;
    index = rw q (index-entered N.index g e f within);
    firsts = firsts-less F (omega arith);
    named = named-less D (omega arith);
  }
    where
      within : 0 + hashes + k < length w
      within = omega (arith, N.room)

-- ---- node k, which is the first with its name, out of the index again
pub names-left : {s t w : List ℕ} {k : ℕ} → Names s t w (k + 1) → First t k → {g : ℕ} → g ≡ hash_of (name_at s t k) → {v : List ℕ} → v ≡ left w 0 k g → Names s t v k
names-left {s} {t} {w} {k} N f {g} e q = record {
  room = rw (q, left-long w 0 k g) N.room;
  index = rw q (index-left N.index g e f (omega (arith, small, N.room)));
  firsts = firsts-less N.firsts (omega arith);
  named = named-less N.named (omega arith);
}
  where
    small : g < hashes
    small = rw e (hash-small (name_at s t k) 0 (omega arith))
