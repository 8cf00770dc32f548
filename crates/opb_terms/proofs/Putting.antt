-- One term behind another in the node table: a numeral, a variable, an operator over the last two terms, and over pending ones.
use mathlib.Core.Path.{◌≡◌, refl, ap, ◌∙◌}
use mathlib.Core.Bool.{Bool, true, false, cond}
use mathlib.Core.List.{List, [], ◌∷◌, map}
use Prim.Native.Nat.{ℕ, ◌+◌, ◌-◌, ◌≤◌, ◌<◌}
use native.Mathlib.Omega.{arith}
use lib.ListN.{length, take, set}
use lib.Seq.{slice, paste}
use Rattle.integer.specs.Integers.{signed}
use Rattle.calculus.specs.Equality.{op_of}
use Rattle.calculus.specs.Terms.{Term, num, var, app, listed}
use Rattle.nodes.specs.Nodes.{capacity, plus_kind, minus_kind, name_kind, child_base, children_at, shape, decode, Below, Table, Kept, put}
use Rattle.nodes.proofs.Copying.{copy-one, copy-two}
use Rattle.nodes.proofs.Tables.{kept_trans, decode-kept, map-kept, table_kept, table-wider, shape-application, shape-plus, shape-minus, shape-name, New, put-kept, put-table, put-decode, paste-kept, paste-children}
use Rattle.terms.specs.Names.{Names, VariablePut}
use Rattle.terms.specs.Reading.{Grown}
use Rattle.terms.proofs.Naming.{names-kept, names-other}
use Rattle.opb_terms.specs.Making.{Numeral, TermPut, binary}

-- ---- words of a table
-- one child word
pub paste-one : (t : List ℕ) (at i : ℕ) → at < length t → set t at i ≡ paste t at (i ∷ []) 1
paste-one t at i h = copy-one t (i ∷ []) at (omega arith) h i refl

-- two of them
paste-pair : (t : List ℕ) (at a b : ℕ) → at + 2 ≤ length t → set (set t at a) (at + 1) b ≡ paste t at (a ∷ b ∷ []) 2
paste-pair t at a b h = copy-two t (a ∷ b ∷ []) at (omega arith) h a b refl refl

-- the operator over two nodes, as the code writes it
pub binary-is : (t : List ℕ) (m d o a b : ℕ) {r : List ℕ} → child_base t + d + 2 ≤ length t → r ≡ put (set (set t (child_base t + d) a) (child_base t + d + 1) b) m o d 2 → r ≡ binary t m d o a b
unfolding binary
binary-is t m d o a b h e = e ∙ ap (λ (u : List ℕ). put u m o d 2) (paste-pair t (child_base t + d) a b h)

-- ---- a leaf
module _ {s t : List ℕ} {n c : ℕ} (T : Table t n c) (small : n < capacity t) where
  leaf-put : (x : Term) (kind a b : ℕ) (y : List ℕ) → New t n c kind a b → shape s kind a b (map (decode s t) (children_at t a b)) ≡ x → Names s (put t n kind a b) y (n + 1)
      → TermPut s t (put t n kind a b) y n c (n + 1) c x
  leaf-put x kind a b y new is N =
      let back : n + 1 - 1 ≡ n = omega arith in
      record {
        grown = record {
          kept = put-kept t n kind a b small c;
          table = put-table t n kind a b small c T new;
          names = N;
          more = omega arith;
          wider = omega arith;
        };
        some = omega arith;
        even = omega arith;
        decoded = rw back (put-decode t n kind a b small c T new s ∙ is);
      }

  pub numeral-put : {u y : List ℕ} (m : Bool) (g : ℕ) → Numeral m g → Names s t y n → u ≡ put t n (cond m minus_kind plus_kind) g 0 → TermPut s t u y n c (n + 1) c (num (signed m g))
  numeral-put {y = y} true g G N e =
      rw e
      (leaf-put (num (signed true g)) minus_kind g 0 y
      (record { some = λ h. absurd (none h); inside = λ h. absurd (none h); before = λ h. absurd (none h); numerals = λ h k. G.size; minus = λ h. G.minus refl })
      (shape-minus s minus_kind g 0 _ refl) (names-other s t y n minus_kind g 0 small N (omega arith)))
    where
      none : minus_kind < plus_kind → ⊥
      none h = omega arith
  numeral-put {y = y} false g G N e =
      rw e
      (leaf-put (num (signed false g)) plus_kind g 0 y
      (record { some = λ h. absurd (none h); inside = λ h. absurd (none h); before = λ h. absurd (none h); numerals = λ h k. G.size; minus = λ h. absurd (other h) })
      (shape-plus s plus_kind g 0 _ refl) (names-other s t y n plus_kind g 0 small N (omega arith)))
    where
      none : plus_kind < plus_kind → ⊥
      none h = omega arith

      other : plus_kind ≡ minus_kind → ⊥
      other h = omega arith

  pub variable-put : {u z : List ℕ} {a b : ℕ} → VariablePut s t u z n a b → TermPut s t u z n c (n + 1) c (var (slice a b s))
  variable-put {u} {z} {a} {b} P =
      rw P.node
      (leaf-put (var (slice a b s)) P.kind a b z
      (record { some = λ h. absurd (none (omega arith)); inside = λ h. absurd (none (omega arith)); before = λ h. absurd (none (omega arith)); numerals = λ h k. absurd (none (omega arith)); minus = λ h. absurd (none (omega arith)) })
      (shape-name s P.kind a b _ P.high) (rw P.node at P.names))
    where
      none : P.kind < name_kind → ⊥
      none h = omega (arith, P.high)

-- ---- an operator over nodes that become child words
module _ {s t u y : List ℕ} {n c m d : ℕ} (G : Grown s t u y n c m d) where
  -- the nodes of l become k child words
  pub words-grown : (l : List ℕ) (k : ℕ) (r : List ℕ) → k ≤ length l → d + k ≤ m → r ≡ paste u (child_base u + d) l k → Grown s t r y n c m (d + k)
  words-grown l k r h g e = rw e (go (paste-kept u l d k (omega (arith, G.table.room, G.table.few)) h m G.table.few))
    where
      go : Kept u (paste u (child_base u + d) l k) m d → Grown s t (paste u (child_base u + d) l k) y n c m (d + k)
      go K = record {
        kept = kept_trans G.kept K G.more G.wider;
        table = table-wider (table_kept G.table K) (omega arith) g;
        names = names-kept G.names K;
        more = G.more;
        wider = omega (arith, G.wider);
      }

  pub words_are : (l : List ℕ) (k : ℕ) (r : List ℕ) → k ≤ length l → d + k ≤ m → r ≡ paste u (child_base u + d) l k → children_at r d k ≡ take k l
  words_are l k r h g e = rw e (paste-children u l d k (omega (arith, G.table.room, G.table.few)) h)

  pub words-decoded : (l : List ℕ) (k : ℕ) (r : List ℕ) → k ≤ length l → d + k ≤ m → r ≡ paste u (child_base u + d) l k → Below m (take k l) → map (decode s r) (children_at r d k) ≡ map (decode s u) (take k l)
  words-decoded l k r h g e B =
      rw (words_are l k r h g e, e)
      (map-kept G.table (paste-kept u l d k (omega (arith, G.table.room, G.table.few)) h m G.table.few) s (take k l) B)

-- the operator over them becomes node m
pub applied-put : {s t u y : List ℕ} {n c m : ℕ} (d k : ℕ) {xs : List Term} → Grown s t u y n c m (d + k) → map (decode s u) (children_at u d k) ≡ xs → Below m (children_at u d k)
    → m < capacity u → 1 ≤ k → m + c + 1 ≡ d + k + n + 1 → (o : ℕ) → o < plus_kind → (r : List ℕ) → r ≡ put u m o d k → TermPut s t r y n c (m + 1) (d + k) (app (op_of o) (listed xs))
applied-put {s} {t} {u} {y} {n} {c} {m} d k {xs} G D B small some even o low r e =
    let back : m + 1 - 1 ≡ m = omega arith in
    let new : New u m (d + k) o d k = record {
      some = λ h. some;
      inside = λ h. omega arith;
      before = λ h. B;
      numerals = λ h i. let z : ⊥ = omega arith in absurd z;
      minus = λ h. let z : ⊥ = omega arith in absurd z;
    } in
    rw e record {
      grown = record {
        kept = kept_trans G.kept (put-kept u m o d k small (d + k)) G.more G.wider;
        table = put-table u m o d k small (d + k) G.table new;
        names = names-other s u y m o d k small G.names (omega arith);
        more = omega (arith, G.more);
        wider = G.wider;
      };
      some = omega (arith, G.more);
      even = omega arith;
      decoded = rw back (put-decode u m o d k small (d + k) G.table new s ∙ shape-application s o d k _ low ∙ ap (λ (zs : List Term). app (op_of o) (listed zs)) D);
    }

-- the last two terms
module _ {s t u v y z : List ℕ} {n c m d l e : ℕ} {x w : Term} (X : TermPut s t u y n c m d x) (W : TermPut s u v z m d l e w) (used : c ≤ n) where
  pub both-grown : Grown s t v z n c l e
  both-grown = record {
    kept = kept_trans X.grown.kept W.grown.kept X.grown.more X.grown.wider;
    table = W.grown.table;
    names = W.grown.names;
    more = omega (arith, X.some, W.some);
    wider = omega (arith, X.grown.wider, W.grown.wider);
  }

  pub binary-put : (o a b : ℕ) (r : List ℕ) → o < plus_kind → a + 1 ≡ m → b + 1 ≡ l → l < capacity v → r ≡ binary v l e o a b → TermPut s t r z n c (l + 1) (e + 2) (app (op_of o) (listed (x ∷ w ∷ [])))
  unfolding binary Below
  binary-put o a b r low p q small is =
      let fits : e + 2 ≤ l = omega (arith, X.even, W.even) in
      let B : Below l (a ∷ b ∷ []) = (omega (arith, W.some), (omega arith, tt)) in
      let f : a ≡ m - 1 = omega arith in
      let g : b ≡ l - 1 = omega arith in
      let A : decode s v a ≡ x = decode-kept X.grown.table W.grown.kept s a (omega arith) ∙ ap (decode s u) f ∙ X.decoded in
      let C : decode s v b ≡ w = ap (decode s v) g ∙ W.decoded in
      let D : map (decode s v) (a ∷ b ∷ []) ≡ x ∷ w ∷ [] = rw (A, C) in
      let P : List ℕ = paste v (child_base v + e) (a ∷ b ∷ []) 2 in
      applied-put e 2 (words-grown both-grown (a ∷ b ∷ []) 2 P (omega arith) fits refl)
      (words-decoded both-grown (a ∷ b ∷ []) 2 P (omega arith) fits refl B ∙ D)
      (rw (words_are both-grown (a ∷ b ∷ []) 2 P (omega arith) fits refl) B)
      (omega (arith, (words-grown both-grown (a ∷ b ∷ []) 2 P (omega arith) fits refl).kept.long, both-grown.kept.long)) (omega arith) (omega (arith, X.even, W.even)) o low r is
