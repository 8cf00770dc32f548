-- The stack behind a new entry: what the entry says, that it stands, and that those below it are as they were.
use mathlib.Core.Path.{◌≡◌, refl, sym, ◌∙◌}
use mathlib.Core.List.{List}
use Prim.Native.Nat.{ℕ, zero, suc, ◌+◌, ◌≤◌, ◌<◌}
use native.Mathlib.Decide.{dec_lt}
use native.Mathlib.Omega.{arith}
use lib.IntN.{ℤ, pos}
use lib.ListN.{length, get_or}
use Rattle.integer.specs.Integers.{Within}
use Rattle.calculus.specs.Pol.{max_stack, max_literals}
use Rattle.calculus.specs.Terms.{Term}
use Rattle.calculus.specs.Words.{max_numeral}
use Rattle.matching.specs.Entries.{entries, Literals}
use Rattle.matching.specs.Places.{placed}
use Rattle.matching.proofs.Places.{coefficient-at, key-at}
use Rattle.sums.specs.Lists.{OverName, Bounded}
use Rattle.pol.specs.Stack.{stack_words, base_of, window, constant_of, count_of, inequality_of, stack_of, Standing, Stack, Stored}
use Rattle.pol.proofs.Windows.{window-get, window_same, entries-same}

-- the same words, the same stack
pub stack_same : (f : ℕ → Term) (cs ds : List ℤ) (ks ls : List ℕ) (d : ℕ) → ((e : ℕ) → e < d → window e ds ≡ window e cs) → ((e : ℕ) → e < d → window e ls ≡ window e ks) → stack_of f ds ls d ≡ stack_of f cs ks d
unfolding stack_of
stack_same f cs ds ks ls zero g h = refl
stack_same f cs ds ks ls (suc d) g h = rw (g d (omega arith), h d (omega arith), stack_same f cs ds ks ls d (λ e l. g e (omega arith)) (λ e l. h e (omega arith)))

module _ {cs ds : List ℤ} {ks ls : List ℕ} {from at n d : ℕ} {c : ℤ} (S : Stored cs ks from at n c d ds ls) (few : n ≤ max_literals) where
  pub stored-count : count_of (window d ls) ≡ n
  stored-count = window-get d ls 0 max_literals (omega arith) ∙ S.count

  pub stored-constant : constant_of (window d ds) ≡ c
  stored-constant = window-get d ds (pos 0) max_literals (omega arith) ∙ S.constant

  coefficient : (i : ℕ) → i < n → get_or (window d ds) i (pos 0) ≡ get_or (placed from cs) i (pos 0)
  coefficient i h = window-get d ds (pos 0) i (omega arith) ∙ S.coefficients i h ∙ sym (coefficient-at from cs i (omega arith))

  pub stored-key : (i : ℕ) → i < n → get_or (window d ls) i 0 ≡ get_or (placed at ks) i 0
  stored-key i h = window-get d ls 0 i (omega arith) ∙ S.keys i h ∙ sym (key-at at ks i (omega arith))

  -- what the new entry says
  pub stored-entry : (f : ℕ → Term) → inequality_of f (window d ds) (window d ls) ≡ record { sum = entries f (placed from cs) (placed at ks) n; const = c }
  unfolding inequality_of
  stored-entry f = rw (stored-count, stored-constant, entries-same f (placed from cs) (window d ds) (placed at ks) (window d ls) n coefficient stored-key)

  -- and it stands
  pub stored-stands : {t : List ℕ} → Literals t (placed at ks) n → ((i : ℕ) → i < n → OverName t (get_or (placed at ks) i 0)) → Bounded max_numeral (placed from cs) n → Within max_numeral c → Standing t (window d ds) (window d ls)
  stored-stands L N B W = record {
    few = rw stored-count few;
    literals = λ i h. let l : i < n = omega (arith, stored-count) in rw (stored-key i l) (L i l);
    names = λ i h. let l : i < n = omega (arith, stored-count) in rw (stored-key i l) (N i l);
    within = λ i h. let l : i < n = omega (arith, stored-count) in rw (coefficient i l) (B i l);
    constant = rw stored-constant W;
  }

  module _ (low : d < max_stack) (room : stack_words ≤ length cs) (space : stack_words ≤ length ks) where
    pub stored-coefficients : (e : ℕ) → e < d → window e ds ≡ window e cs
    stored-coefficients e h = window_same e cs ds (pos 0) (omega arith) room (omega (arith, S.long)) (λ i l. S.below (base_of e + i) (omega arith))

    pub stored-keys : (e : ℕ) → e < d → window e ls ≡ window e ks
    stored-keys e h = window_same e ks ls 0 (omega arith) space (omega (arith, S.same)) (λ i l. S.under (base_of e + i) (omega arith))

    -- one entry more, or one in the place of those from d on
    pub stored-stack : {t : List ℕ} {m : ℕ} → d ≤ m → Stack t cs ks m → Standing t (window d ds) (window d ls) → Stack t ds ls (d + 1)
    stored-stack {t} {m} h K N = record {
      few = omega arith;
      coefficients = omega (arith, S.long);
      keys = omega (arith, S.same);
      each = λ e l. go e (dec_lt e d) l;
    }
      where
        go : (e : ℕ) → Dec (e < d) → e < d + 1 → Standing t (window e ds) (window e ls)
        go e (yes l) q = rw (stored-coefficients e l, stored-keys e l) (K.each e (omega arith))
        go e (no l) q = let z : e ≡ d = omega arith in rw z N
