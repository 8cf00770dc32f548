-- There is room for each name that a line brings: every node that it made has a literal on the stack, and no two have the same one.
use mathlib.Core.Path.{◌≡◌, refl, sym, ap, ap₂, subst, ◌∙◌}
use mathlib.Core.Bool.{Bool, true, false, cond, ◌||◌}
use mathlib.Core.List.{List, []}
use Prim.Native.Nat.{ℕ, zero, suc, ◌+◌, ◌-◌, ◌*◌, ◌≤◌, ◌<◌}
use native.Mathlib.Decide.{dec_lt}
use native.Mathlib.Omega.{arith}
use lib.Dec.{T}
use lib.IntN.{ℤ}
use lib.ListN.{get_or}
use Rattle.calculus.specs.Entries.{Lit}
use Rattle.calculus.specs.Pol.{max_literals}
use Rattle.calculus.specs.Sums.{same_lit, has}
use Rattle.calculus.specs.Terms.{Term, num, var, app}
use Rattle.nodes.specs.Nodes.{name_kind, kind_at, decode}
use Rattle.nodes.proofs.Tables.{decode-name}
use Rattle.matching.specs.Entries.{run, entry_at, entries}
use Rattle.matching.specs.Matched.{variable_of}
use Rattle.theorems.proofs.SumLaws.{same_lit-eq}
use Rattle.wider.specs.Widening.{AllFirst}
use Rattle.pol.specs.Stack.{window, count_of, inequality_of, stack_of, Standing}
use Rattle.lines.specs.Running.{held_in, AllHeld, Running}
use Rattle.lines.proofs.Pigeons.{pigeons}

-- where it stands: entry e, literal i of it
record Held (f : ℕ → Term) (ks : List ℕ) (d k : ℕ) : Type 0 where
  entry : ℕ
  literal : ℕ
  low : entry < d
  inside : literal < count_of (window entry ks)
  is : f (variable_of (get_or (window entry ks) literal 0)) ≡ f k

module _ (f : ℕ → Term) (k : ℕ) (b : Bool) where
  abbrev want : Lit
  want = record { variable = f k; negated = b }

  -- in a sum
  in_sum : (us : List ℤ) (vs : List ℕ) (i n : ℕ) → T (has want (run (entry_at f us vs) i n)) → (j : ℕ) × ((i ≤ j) × (j < i + n)) × (f (variable_of (get_or vs j 0)) ≡ f k)
  unfolding run has
  in_sum us vs i zero h = absurd h
  in_sum us vs i (suc n) h = go (same_lit want (entry_at f us vs i).lit) (same_lit-eq want (entry_at f us vs i).lit) (in_sum us vs (suc i) n) h
    where
      go : (c : Bool) → (T c → want ≡ (entry_at f us vs i).lit)
          → (T (has want (run (entry_at f us vs) (suc i) n)) → (j : ℕ) × ((suc i ≤ j) × (j < suc i + n)) × (f (variable_of (get_or vs j 0)) ≡ f k))
          → T (cond c true (has want (run (entry_at f us vs) (suc i) n))) → (j : ℕ) × ((i ≤ j) × (j < i + suc n)) × (f (variable_of (get_or vs j 0)) ≡ f k)
      go true e rest h = (i, (omega arith, omega arith), sym (ap (λ (l : Lit). l.variable) (e tt)))
      go false e rest h = let g = rest h in (g.0, (omega (arith, g.1), omega (arith, g.1)), g.2)

  in_stack : (cs : List ℤ) (ks : List ℕ) (d : ℕ) → T (held_in want (stack_of f cs ks d)) → Held f ks d k
  unfolding stack_of inequality_of held_in
  in_stack cs ks zero h = absurd h
  in_stack cs ks (suc d) h = go (has want (entries f (window d cs) (window d ks) (count_of (window d ks)))) refl (in_stack cs ks d) h
    where
      go : (c : Bool) → has want (entries f (window d cs) (window d ks) (count_of (window d ks))) ≡ c → (T (held_in want (stack_of f cs ks d)) → Held f ks d k) → T (c || held_in want (stack_of f cs ks d)) → Held f ks (suc d) k
      go true e rest h = let g = in_sum (window d cs) (window d ks) 0 (count_of (window d ks)) (subst T (sym e) tt) in record { entry = d; literal = g.0; low = omega arith; inside = omega (arith, g.1); is = g.2 }
      go false e rest h = let g = rest h in record { entry = g.entry; literal = g.literal; low = omega (arith, g.low); inside = g.inside; is = g.is }

var-is : {x y : List ℕ} → var x ≡ var y → x ≡ y
var-is {x} {y} q = ap spell q
  where
    spell : Term → List ℕ
    spell (num z) = []
    spell (var x) = x
    spell (app o ts) = []

module _ {s t y : List ℕ} {cs : List ℤ} {ks sl : List ℕ} {n m c d : ℕ} (R : Running s t y cs ks sl m c d) (F : AllFirst t n m) (H : AllHeld (decode s t) cs ks n m d) where
  place_of : (k : ℕ) → n ≤ k → k < m → Held (decode s t) ks d k
  place_of k h l = let g = H k h l in in_stack (decode s t) k g.0 cs ks d g.1

  -- the node of a literal is the node that it is held for
  node-is : (k : ℕ) (h : n ≤ k) (l : k < m) → variable_of (get_or (window (place_of k h l).entry ks) (place_of k h l).literal 0) ≡ k
  node-is k h l = omega (arith, first-is, F k h l, same_kind)
    where
      S : Standing t (window (place_of k h l).entry cs) (window (place_of k h l).entry ks)
      S = R.stack.each (place_of k h l).entry (place_of k h l).low

      before : variable_of (get_or (window (place_of k h l).entry ks) (place_of k h l).literal 0) < m
      before = R.under (place_of k h l).entry (place_of k h l).low (place_of k h l).literal (place_of k h l).inside

      named : name_kind ≤ kind_at t (variable_of (get_or (window (place_of k h l).entry ks) (place_of k h l).literal 0))
      named = S.names (place_of k h l).literal (place_of k h l).inside

      first-is : kind_at t (variable_of (get_or (window (place_of k h l).entry ks) (place_of k h l).literal 0)) ≡ name_kind + variable_of (get_or (window (place_of k h l).entry ks) (place_of k h l).literal 0)
      first-is = (S.literals (place_of k h l).literal (place_of k h l).inside).first named

      high : name_kind ≤ kind_at t k
      high = omega (arith, F k h l)

      same_kind : kind_at t (variable_of (get_or (window (place_of k h l).entry ks) (place_of k h l).literal 0)) ≡ kind_at t k
      same_kind =
          R.names.named.other (variable_of (get_or (window (place_of k h l).entry ks) (place_of k h l).literal 0)) k before l named high
          (var-is (sym (decode-name R.table s (variable_of (get_or (window (place_of k h l).entry ks) (place_of k h l).literal 0)) before named) ∙ (place_of k h l).is ∙ decode-name R.table s k l high))

  -- the i-th of them
  unfoldable held : (i : ℕ) → i < m - n → Held (decode s t) ks d (n + i)
  held i h = place_of (n + i) (omega arith) (omega arith)

  held-is : (i : ℕ) (h : i < m - n) → variable_of (get_or (window (held i h).entry ks) (held i h).literal 0) ≡ n + i
  unfolding held
  held-is i h = node-is (n + i) (omega arith) (omega arith)

  held-few : (i : ℕ) (h : i < m - n) → (held i h).literal < max_literals
  held-few i h = omega (arith, (held i h).inside, (R.stack.each (held i h).entry (held i h).low).few)

  -- the places are 64 for each entry
  unfoldable spot : (i : ℕ) → Dec (i < m - n) → ℕ
  spot i (yes h) = max_literals * (held i h).entry + (held i h).literal
  spot i (no h) = 0

  spot-small : (i : ℕ) (D : Dec (i < m - n)) → i < m - n → spot i D < max_literals * d
  unfolding spot
  spot-small i (yes h) g = within (held i h).entry (held i h).literal (held i h).low (held-few i h)
    where
      within : (e l : ℕ) → e < d → l < max_literals → max_literals * e + l < max_literals * d
      within e l a b = omega arith
  spot-small i (no h) g = absurd (h g)

  spot-apart : (i j : ℕ) (D : Dec (i < m - n)) (E : Dec (j < m - n)) → i < m - n → j < m - n → spot i D ≡ spot j E → i ≡ j
  unfolding spot
  spot-apart i j (no h) E g l q = absurd (h g)
  spot-apart i j (yes h) (no f) g l q = absurd (f l)
  spot-apart i j (yes h) (yes f) g l q =
      let e = parts (held i h).entry (held i h).literal (held j f).entry (held j f).literal (held-few i h) (held-few j f) q in
      let w : n + i ≡ n + j = sym (held-is i h) ∙ ap₂ (λ (x y : ℕ). variable_of (get_or (window x ks) y 0)) e.0 e.1 ∙ held-is j f in
      omega arith
    where
      parts : (e x f y : ℕ) → x < max_literals → y < max_literals → max_literals * e + x ≡ max_literals * f + y → (e ≡ f) × (x ≡ y)
      parts e x f y a b q = let z : e ≡ f = omega arith in (z, omega arith)

  pub names-few : n ≤ m → m ≤ n + max_literals * d
  names-few up =
      let h : m - n ≤ max_literals * d = pigeons (m - n) (max_literals * d) (λ i. spot i (dec_lt i (m - n))) (λ i l. spot-small i (dec_lt i (m - n)) l) (λ i j l g q. spot-apart i j (dec_lt i (m - n)) (dec_lt j (m - n)) l g q) in
      omega arith
