-- The number of a name, and the axiom of its literal on the stack.
use mathlib.Core.Path.{◌≡◌, subst, ◌∙◌}
use mathlib.Core.List.{List}
use Prim.Native.Nat.{ℕ, ◌+◌, ◌-◌, ◌≤◌, ◌<◌}
use native.Mathlib.Decide.{dec_lt}
use native.Mathlib.Omega.{arith}
use lib.Seq.{slice}
use Rattle.nodes.specs.Nodes.{name_kind, capacity, kind_at, name_at}
use Rattle.nodes.proofs.Tables.{put-kind, put_first, put_second, put-kept, table_kept}
use Rattle.terms.specs.Index.{Index}
use Rattle.terms.specs.Names.{First, Names, VariablePut}
use Rattle.terms.proofs.Naming.{firsts-less, named-less}
use Rattle.opb_terms.proofs.Putting.{variable-put}
use Rattle.pol.specs.Pushing.{NumberedAs}

-- ---- a name's number
-- where the last string is not in the index, it is that of those before
index-fewer : {str : ℕ → List ℕ} {In : ℕ → Type 0} {w : List ℕ} {base n : ℕ} → Index str In w base (n + 1) → (In n → ⊥) → Index str In w base n
index-fewer {str} {In} {w} {base} {n} X h = record {
  heads = λ g l j a i e. let q = X.heads g l j (omega arith) i e in (q.0, other _ q.1 q.2, q.2, q.3);
  links = λ k l i. X.links k (omega arith) i;
}
  where
    other : (q : ℕ) → q < n + 1 → In q → q < n
    other q l i = go (dec_lt q n)
      where
        go : Dec (q < n) → q < n
        go (yes g) = g
        go (no g) = let z : q ≡ n = omega arith in absurd (h (subst In z i))

-- and so where the last node is not the first with its name
names-fewer : {s t y : List ℕ} {n : ℕ} → Names s t y (n + 1) → (First t n → ⊥) → Names s t y n
names-fewer N h = record {
  room = N.room;
  index = index-fewer N.index h;
  firsts = firsts-less N.firsts (omega arith);
  named = named-less N.named (omega arith);
}

module _ {s t u y : List ℕ} {n a b : ℕ} (small : n < capacity t) (P : VariablePut s t u y n a b) where
  kind-is : kind_at u n ≡ P.kind
  kind-is = rw P.node (put-kind t n P.kind a b small)

  pub numbered-high : name_kind ≤ kind_at u n
  numbered-high = rw kind-is P.high

  module _ {v : ℕ} (number : v ≡ kind_at u n - name_kind) where
    early : v ≤ n
    early = omega (arith, number, P.names.firsts.before n (omega arith) numbered-high)

    same : kind_at u v ≡ kind_at u n
    same = rw number (P.names.firsts.same n (omega arith) numbered-high)

    first : First u v
    first = omega (arith, same, number, numbered-high)

    name : name_at s u v ≡ slice a b s
    name =
        P.names.named.one v n (omega (arith, early)) (omega arith) (rw same numbered-high) same
        ∙ rw P.node (rw (put_first t n P.kind a b small, put_second t n P.kind a b small))

    pub numbered-new : v ≡ n → NumberedAs s t u y n (slice a b s) v (n + 1)
    numbered-new e = record {
      grown = λ c T. (variable-put T small P).grown;
      before = omega arith;
      first = first;
      name = name;
      most = omega arith;
      new = λ k g l. omega arith;
    }

    pub numbered-old : (v ≡ n → ⊥) → NumberedAs s t u y n (slice a b s) v n
    numbered-old e = record {
      grown = λ c T.
          let k = put-kept t n P.kind a b small c in
          record {
            kept = rw P.node k;
            table = rw P.node (table_kept T k);
            names = names-fewer P.names (λ f. e (omega (arith, f, number)));
            more = omega arith;
            wider = omega arith;
          };
      before = omega (arith, early);
      first = first;
      name = name;
      most = omega arith;
      new = λ k g l. let z : ⊥ = omega arith in absurd z;
    }
