-- Both texts: the OPB text's assumptions, and the proof text where it stands behind them in one string.
use mathlib.Core.Path.{◌≡◌, sym, ap, ap₂, subst, ◌∙◌}
use mathlib.Core.List.{List, [], ◌++◌, append_assoc, append-nil}
use Prim.Native.Nat.{ℕ, ◌+◌, ◌-◌, ◌≤◌, ◌<◌}
use native.Mathlib.Omega.{arith}
use borrow.Author.Tests.{le-leb, lt-leb}
use lib.ListN.{length, replicate, length-append, length-replicate}
use Rattle.calculus.specs.Commands.{enough, Read, whole, refused, commands, read_behind}
use Rattle.calculus.specs.OpbReport.{on_opb, read_both}
use Rattle.calculus.specs.OpbWriting.{assumptions}
use Rattle.calculus.specs.Terms.{Command}
use Rattle.calculus.specs.Limits.{max_text, max_commands, all_nodes, pol_lines}
use Rattle.theorems.proofs.Offset.{later_read, read_behind_lem}
use Rattle.theorems.proofs.OpbIds.{pols-behind}
use Rattle.terms.specs.Spans.{max_joined}
use Rattle.reader.specs.Commands.{commands_of}
use Rattle.std.specs.Prelude.{Result, Ok, Err}
use Rattle.lexer.specs.Tokens.{reason_number}
use Rattle.lexer.specs.declared.Fault.{Fault}
use Rattle.reader.specs.Reading.{Begun, Whole, All, Refused, ReadsBehind}
use Rattle.opb_reader.specs.Ids.{ids, id_start, kept, joined}
use Rattle.opb_reader.specs.Reading.{OpbReady, BothReady, IsModel, OpbIs, BothIs}
use Rattle.opb_reader.specs.Standing.{IdsAt}
use Rattle.opb_reader.proofs.Ids.{last-id, kept-size, joined-size, ids_at}

-- ---- every place m later
later-whole : (m : ℕ) (r : Read) (cs : List Command) → later_read m r ≡ whole cs → r ≡ whole cs
unfolding later_read
later-whole m (whole ds) cs e = e
later-whole m (refused k p) cs e = let z : ◌≡◌ {A = ℕ} 0 1 = cc in let n : ⊥ = omega arith in absurd n

later-refused : (m : ℕ) (r : Read) (e b : ℕ) → later_read m r ≡ refused e b → (r ≡ refused e (b - m)) × (m ≤ b)
unfolding later_read
later-refused m (whole ds) e b h = let z : ◌≡◌ {A = ℕ} 0 1 = cc in let n : ⊥ = omega arith in absurd n
later-refused m (refused k p) e b h =
    let i : k ≡ e = cc in
    let l : m + p ≡ b = cc in
    let g : p ≡ b - m = omega arith in
    (ap₂ refused i g, omega arith)

-- ---- both texts in one string
-- the OPB text is read
pub model_is : (o j u x v y : List ℕ) (r : Result (ℕ × ℕ) Fault) → OpbIs o j u x v y r → (k n : ℕ) → r ≡ Ok (k, n) → IsModel o j u x v y k n
model_is o j u x v y r h k n q = subst (OpbIs o j u x v y) q h

module _ {o s j t w : List ℕ} (B : BothReady o s j t w) where
  size : length j ≡ length o + (id_start max_commands + length (kept s))
  size = ap length B.joined ∙ joined-size o s

  long : length j ≤ max_joined
  long = omega (arith, size, B.short, kept-size s, last-id)

  -- what read_opb asks
  pub both-opb : OpbReady o j t w (replicate 4096 0) (replicate 5120 0)
  unfolding joined
  both-opb = record {
    short = B.short;
    rest = ids ++ kept s;
    front = B.joined;
    ids = subst (λ (z : List ℕ). IdsAt z (length o)) (sym B.joined) (ids_at o s);
    long = long;
    room = B.room;
    words = B.words;
    stack = rw (length-replicate {A = ℕ} 4096 0) (omega arith);
    tags = rw (length-replicate {A = ℕ} 5120 0) (omega arith);
  }

  -- the OPB text is refused
  pub both-not : (u x v y : List ℕ) (r : Result (ℕ × ℕ) Fault) → OpbIs o j u x v y r → (e : Fault) → r ≡ Err e → read_both o s ≡ refused (reason_number e.0) e.1
  unfolding read_both on_opb
  both-not u x v y r h e q = rw (subst (OpbIs o j u x v y) q h)

  module _ {u x v y : List ℕ} {k n : ℕ} (model : IsModel o j u x v y k n) where
    behind : read_both o s ≡ read_behind (assumptions model.ks) s
    unfolding read_both on_opb
    behind = rw model.read

    -- the proof text is too long
    pub both_long : max_text < length s → read_both o s ≡ refused 2 max_text
    unfolding read_behind
    both_long l = behind ∙ rw (lt-leb (length s) max_text l)

    module _ (short : length s ≤ max_text) where
      all-kept : kept s ≡ s
      unfolding kept
      all-kept = rw (le-leb (length s) max_text short)

      pub both-inside : length s ≤ length j
      both-inside = omega (arith, size, ap length all-kept)

      -- no assumption is a pol line
      no-pols : pol_lines (commands_of j u x k) ≡ 0
      unfolding pol_lines
      no-pols = let ks = model.ks in ap pol_lines (model.are ∙ sym (append-nil (assumptions ks))) ∙ pols-behind ks []

      -- what read_commands asks
      pub both-begun : Begun j u x v y (length j - length s) k n n 0
      both-begun =
          let S = model.standing in
          record {
            ready = record {
              text = long;
              place = omega arith;
              rest = omega (arith, both-inside);
              whole = S.whole;
              table = S.table;
              names = S.names;
              stack = S.stack;
            };
            commands = S.commands;
            indexed = S.indexed;
            pols = sym no-pols;
          }

      split : j ≡ (o ++ ids) ++ s
      unfolding joined
      split = B.joined ∙ ap (λ (z : List ℕ). o ++ (ids ++ z)) all-kept ∙ sym (append_assoc o ids s)

      start : length j - length s ≡ length (o ++ ids)
      start = omega (arith, ap length split, length-append (o ++ ids) s)

      read-there : commands enough j (length j - length s) n (commands_of j u x k) ≡ later_read (length j - length s) (read_both o s)
      read-there =
          let cs = assumptions model.ks in
          let c : n ≡ all_nodes cs = sym model.standing.nodes ∙ ap all_nodes model.are in
          ap₂ (λ (i : ℕ) (ds : List Command). commands enough j (length j - length s) i ds) c model.are
          ∙ ap₂ (λ (z : List ℕ) (p : ℕ). commands enough z p (all_nodes cs) cs) split start
          ∙ read_behind_lem (o ++ ids) s cs short
          ∙ ap₂ later_read (sym start) (sym behind)

      module _ (u' x' : List ℕ) (f : Whole) (R : ReadsBehind j u u' x x' (length j - length s) k n n f) where
        pub both-all : (l m c i : ℕ) → f ≡ All l m c i → BothIs o s j u' x' (All l m c i)
        both-all l m c i e =
            let (p, T, F, N, C, P, X) = subst (ReadsBehind j u u' x x' (length j - length s) k n n) e R in
            (later-whole (length j - length s) (read_both o s) (commands_of j u' x' l) (sym read-there ∙ p), T, F, N, C, P, X)

        refusal : (e b : ℕ) → f ≡ Refused e b → (read_both o s ≡ refused e (b - (length j - length s))) × (length j - length s ≤ b)
        refusal e b g =
            later-refused (length j - length s) (read_both o s) e b (sym read-there ∙ subst (ReadsBehind j u u' x x' (length j - length s) k n n) g R)

        pub both-refused : (e b : ℕ) → f ≡ Refused e b → read_both o s ≡ refused e (b - (length j - length s))
        both-refused e b g = (refusal e b g).0

        pub both_later : (e b : ℕ) → f ≡ Refused e b → length j - length s ≤ b
        both_later e b g = (refusal e b g).1
