-- The stack over a table that has grown: its entries say what they said.
use mathlib.Core.Path.{◌≡◌, refl, ◌∙◌}
use mathlib.Core.List.{List}
use Prim.Native.Nat.{ℕ, zero, suc, ◌+◌, ◌≤◌, ◌<◌}
use native.Mathlib.Omega.{arith}
use lib.IntN.{ℤ}
use lib.ListN.{length, get_or, set}
use lib.Seq.{get_or-set_other}
use Rattle.calculus.specs.Pol.{max_stack}
use Rattle.calculus.specs.Terms.{Term}
use Rattle.nodes.proofs.Tables.{kind-same}
use Rattle.terms.specs.Reading.{Grown}
use Rattle.matching.specs.Entries.{run, entry_at, entries, Under}
use Rattle.matching.specs.Matched.{variable_of, Variable}
use Rattle.sums.specs.Places.{Rooms}
use Rattle.pol.specs.Stack.{stack_words, base_of, window, count_of, inequality_of, stack_of, Standing, Stack, StackUnder}
use Rattle.pol.proofs.Windows.{window_same}

-- ---- the same terms
-- two readings of the nodes below m
module _ {f g : ℕ → Term} {m : ℕ} (same : (v : ℕ) → v < m → f v ≡ g v) where
  entries-terms : (us : List ℤ) (vs : List ℕ) (n : ℕ) → Under m vs n → entries f us vs n ≡ entries g us vs n
  unfolding run
  entries-terms us vs n U = go 0 n (omega arith)
    where
      go : (i k : ℕ) → i + k ≤ n → run (entry_at f us vs) i k ≡ run (entry_at g us vs) i k
      go i zero h = refl
      go i (suc k) h = rw (same (variable_of (get_or vs i 0)) (U i (omega arith)), go (suc i) k (omega arith))

  pub stack-terms : (cs : List ℤ) (ks : List ℕ) (d : ℕ) → StackUnder m ks d → stack_of f cs ks d ≡ stack_of g cs ks d
  unfolding stack_of inequality_of
  stack-terms cs ks zero U = refl
  stack-terms cs ks (suc d) U = rw (entries-terms (window d cs) (window d ks) (count_of (window d ks)) (U d (omega arith)), stack-terms cs ks d (λ e h. U e (omega arith)))

-- ---- a table that has grown
module _ {s t u y : List ℕ} {m c l : ℕ} (G : Grown s t u y m c l c) where
  pub grown-variable : {v : ℕ} → v < m → Variable t v → Variable u v
  grown-variable {v} h W = record {
    node = record { n = l; c = c; table = G.table; firsts = G.names.firsts; below = omega (arith, G.more) };
    first = λ g. kind-same G.kept v h ∙ W.first (rw (kind-same G.kept v h) at g);
  }

  pub grown-stack : {cs : List ℤ} {ks : List ℕ} {d : ℕ} → StackUnder m ks d → Stack t cs ks d → Stack u cs ks d
  grown-stack {cs} {ks} {d} U K = record { few = K.few; coefficients = K.coefficients; keys = K.keys; each = each }
    where
      each : (e : ℕ) → e < d → Standing u (window e cs) (window e ks)
      each e h =
          let S = K.each e h in
          record {
            few = S.few;
            literals = λ i g. grown-variable (U e h i g) (S.literals i g);
            names = λ i g. rw (kind-same G.kept (variable_of (get_or (window e ks) i 0)) (U e h i g)) (S.names i g);
            within = S.within;
            constant = S.constant;
          }

  pub grown-rooms : {cs : List ℤ} {ks sl : List ℕ} → Rooms t cs ks sl → Rooms u cs ks sl
  grown-rooms R = record { coefficients = R.coefficients; keys = R.keys; slots = omega (arith, R.slots, G.kept.long) }

-- arrays of the same lengths
pub rooms_same : {t : List ℕ} {cs ds : List ℤ} {ks ls sl tl : List ℕ} → Rooms t cs ks sl → length ds ≡ length cs → length ls ≡ length ks → length tl ≡ length sl → Rooms t ds ls tl
rooms_same R a b c = record { coefficients = omega (arith, R.coefficients, a); keys = omega (arith, R.keys, b); slots = omega (arith, R.slots, c) }

-- more variables
pub under_more : {m l : ℕ} (ks : List ℕ) (d : ℕ) → m ≤ l → StackUnder m ks d → StackUnder l ks d
under_more ks d h U e g i q = omega (arith, U e g i q)

-- what stands before the stack is not in it
pub set-window : {A : Type 0} (z : A) (l : List A) (i : ℕ) (a : A) (e : ℕ) → i < 3072 → e < max_stack → stack_words ≤ length l → stack_words ≤ length (set l i a) → window e (set l i a) ≡ window e l
set-window z l i a e h low room space = window_same e l (set l i a) z low room space (λ j g. get_or-set_other l i (base_of e + j) a z (λ q. omega arith))
