-- The end of a pol line: what its parts answer, put together.
use mathlib.Core.Path.{◌≡◌, sym, ap, ◌∙◌}
use mathlib.Core.List.{List}
use Prim.Native.Nat.{ℕ, ◌^◌, ◌≤◌, ◌<◌}
use native.Mathlib.Omega.{arith}
use lib.IntN.{ℤ, pos}
use lib.ListN.{length}
use Rattle.calculus.specs.Pol.{max_literals, ordered, finished}
use Rattle.nodes.specs.Nodes.{decode}
use Rattle.matching.specs.Matched.{Text, variable_of}
use Rattle.pol.specs.Stack.{stack_words, window, constant_of, count_of, inequality_of, Standing, Stack}
use Rattle.pol.proofs.Windows.{window-get}
use Rattle.ending.specs.Ending.{Gathered, InText, Near, EntryIn, Behind, Nonzeros, Ordered, Written, Finished}

module _ {s t : List ℕ} {cs : List ℤ} {ks : List ℕ} (K : Stack t cs ks 1) (E : EntryIn s t ks) where
  entry : Standing t (window 0 cs) (window 0 ks)
  entry = K.each 0 (omega arith)

  pub nonzero_asked : (count_of (window 0 ks) ≤ max_literals) × (stack_words ≤ length cs) × (stack_words ≤ length ks)
  nonzero_asked = (entry.few, K.coefficients, K.keys)

  module _ {ds : List ℤ} {ls : List ℕ} {r : ℕ} (N : Nonzeros (window 0 cs) (window 0 ks) ds ls r) (B : Behind max_literals cs ks ds ls) where
    pub order_asked : Gathered t ds ls r × InText s t ls r
    order_asked = (
      record {
        few = omega (arith, N.few, entry.few);
        coefficients = rw B.long K.coefficients;
        keys = rw B.same K.keys;
        literals = λ j h. rw (N.each j h).key (entry.literals (N.each j h).i (N.each j h).below);
        names = λ j h. rw (N.each j h).key (entry.names (N.each j h).i (N.each j h).below);
        within = λ j h. rw (N.each j h).coefficient (entry.within (N.each j h).i (N.each j h).below);
      },
      record { n = E.n; named = E.named; under = λ j h. rw (N.each j h).key (E.under 0 (omega arith) (N.each j h).i (N.each j h).below) },
    )

    module _ {es : List ℤ} {ms : List ℕ} (O : Ordered s t ds ls r es ms) where
      pub words-near : length s < 2 ^ 32 → Near t ms r
      words-near h j l =
          let b = O.inside.under j l in
          let n = O.gathered.names j l in
          let e = O.inside.named.ends (variable_of _) b n in
          (omega (arith, O.inside.named.starts _ b n, e), omega (arith, e))

      abbrev text : Text t
      text = record { text = s; n = O.inside.n; named = O.inside.named }

      constant : constant_of (window 0 es) ≡ constant_of (window 0 cs)
      constant =
          window-get 0 es (pos 0) max_literals (omega arith)
          ∙ O.behind.coefficients 3136 (omega (arith, O.gathered.few))
          ∙ B.coefficients 3136 (omega arith)
          ∙ sym (window-get 0 cs (pos 0) max_literals (omega arith))

      pub finish-all : {a : List ℕ} → Written t es ms r a → Finished s t cs ks es a r
      unfolding finished inequality_of
      finish-all W = record {
        few = O.gathered.few;
        is = W.is text O.inside.under ∙ O.is ∙ ap ordered (N.is (decode s t));
        each = W.each text O.inside.under;
        constant = constant;
      }
