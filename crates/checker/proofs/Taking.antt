-- What the reader made of a text, alone or behind an OPB text: at most 64 commands are pol lines, since the grammar takes no more.
use mathlib.Core.Path.{◌≡◌, sym, subst}
use mathlib.Core.Bool.{true, not}
use mathlib.Core.List.{List, [], ◌∷◌, ◌++◌, append_assoc, append-nil}
use Prim.Native.Nat.{ℕ, zero, suc, ◌≤◌, ◌<◌}
use native.Mathlib.Omega.{arith}
use lib.Dec.{T, ltb, ltb→lt}
use lib.ListN.{length}
use Rattle.calculus.specs.Terms.{Command, assume, step, pol}
use Rattle.calculus.specs.Limits.{max_pols, pol_lines, known, allowed, allowed_behind}
use Rattle.calculus.proofs.Booleans.{and_l, and_r, and_mk}
use Rattle.theorems.proofs.FaithfulFile.{faithful}
use Rattle.theorems.proofs.OpbIds.{both-limits}
use Rattle.theorems.proofs.OpbSoundness.{both-faithful}
use Rattle.reader.specs.Commands.{command_of, commands_of}
use Rattle.reader.specs.Reading.{ReadsFile}
use Rattle.reader.specs.Reading.{Whole, All}
use Rattle.opb_reader.specs.Reading.{BothIs}
use Rattle.reader.proofs.Words.{pols-snoc}
use Rattle.terms.specs.Spans.{max_joined}
use Rattle.checker.specs.Runs.{Taken}

-- ---- the last of allowed commands
allowed-both : (cs ds : List Command) (c : Command) → T (allowed_behind cs (ds ++ (c ∷ []))) → T (allowed_behind cs ds) × T (allowed (cs ++ ds) c)
unfolding allowed_behind
allowed-both cs [] c h = (tt, subst (λ (l : List Command). T (allowed l c)) (sym (append-nil cs)) (and_l (allowed cs c) true h))
allowed-both cs (d ∷ ds) c h =
    let i = allowed-both (cs ++ (d ∷ [])) ds c (and_r (allowed cs d) _ h) in
    (and_mk (allowed cs d) _ (and_l (allowed cs d) _ h) i.0, subst (λ (l : List Command). T (allowed l c)) (append_assoc cs (d ∷ []) ds) i.1)

-- the pol lines with it are few
allowed-pols : (cs : List Command) (c : Command) → T (allowed cs c) → pol_lines cs ≤ max_pols → pol_lines (cs ++ (c ∷ [])) ≤ max_pols
unfolding allowed pol_lines
allowed-pols cs (assume d x) t h = omega (arith, pols-snoc cs (assume d x))
allowed-pols cs (step d c r ds xs) t h = omega (arith, pols-snoc cs (step d c r ds xs))
allowed-pols cs (pol d ws) t h =
    let l : pol_lines cs < max_pols = ltb→lt (pol_lines cs) max_pols (and_l (ltb (pol_lines cs) max_pols) _ (and_r (not (known cs d)) _ t)) in
    omega (arith, pols-snoc cs (pol d ws))

module _ (s t w : List ℕ) where
  few-pols : (n : ℕ) → T (allowed_behind [] (commands_of s t w n)) → pol_lines (commands_of s t w n) ≤ max_pols
  unfolding commands_of pol_lines
  few-pols zero h = omega arith
  few-pols (suc n) h =
      let (before, last) = allowed-both [] (commands_of s t w n) (command_of s t w n) h in
      allowed-pols (commands_of s t w n) (command_of s t w n) last (few-pols n before)

-- what is published of a text that was read
pub taken_of : (s t u w x : List ℕ) (r : Whole) (k n c p : ℕ) → ReadsFile s t u w x r → r ≡ All k n c p → Taken s u x k n c p
taken_of s t u w x r k n c p h e =
    let (read, table, firsts, named, commands, pols, indexed) = subst (ReadsFile s t u w x) e h in
    let is = faithful s (commands_of s u x k) read in
    record {
      text = omega (arith, is.short);
      table = table;
      firsts = firsts;
      named = named;
      commands = commands;
      indexed = indexed;
      pols = pols;
      few = omega (arith, pols, few-pols s u x k is.limits.allowed);
    }

-- and of both texts
pub taken-both : (o s j u x : List ℕ) (r : Whole) (k n c p : ℕ) → length j ≤ max_joined → BothIs o s j u x r → r ≡ All k n c p → Taken j u x k n c p
taken-both o s j u x r k n c p long h e =
    let (read, table, firsts, named, commands, pols, indexed) = subst (BothIs o s j u x) e h in
    let (ks, cs, a, b, same) = both-faithful o s (commands_of j u x k) read in
    let allow : T (allowed_behind [] (commands_of j u x k)) = subst (λ (ds : List Command). T (allowed_behind [] ds)) (sym same) (both-limits o s ks cs a b).allowed in
    record {
      text = long;
      table = table;
      firsts = firsts;
      named = named;
      commands = commands;
      indexed = indexed;
      pols = pols;
      few = omega (arith, pols, few-pols j u x k allow);
    }
