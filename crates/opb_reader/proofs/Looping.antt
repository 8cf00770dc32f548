-- The loop over the constraints of an OPB text, step by step.
use mathlib.Core.Path.{◌≡◌, refl, sym, ap, ap₂, subst, ◌∙◌}
use mathlib.Core.Bool.{Bool, true, false, ◌&&◌}
use mathlib.Core.List.{List, [], ◌∷◌, ◌++◌, append_assoc, append-nil}
use Prim.Native.Nat.{ℕ, zero, suc, ◌+◌, ◌-◌, ◌*◌, ◌≤◌, ◌<◌}
use native.Mathlib.Nat.{not-suc-le-zero}
use native.Mathlib.Omega.{arith}
use borrow.Author.Tests.{le-leb, lt-leb}
use lib.Dec.{leb}
use lib.ListN.{length, drop, replicate, length-append, length-replicate}
use Rattle.integer.specs.Integers.{signed}
use Rattle.calculus.specs.Commands.{enough}
use Rattle.calculus.specs.OpbWords.{Relation, at_least, equal, place_at, gap}
use Rattle.calculus.specs.OpbReading.{OpbRead, constraints, refused_at, on_one, constraints_from, read_opb}
use Rattle.calculus.specs.OpbWriting.{Summand, Constraint, compare, assumptions_of, assumptions_behind, assumptions}
use Rattle.calculus.specs.Terms.{Command}
use Rattle.calculus.specs.Limits.{max_text, max_nodes, max_commands, all_nodes}
use Rattle.reader.specs.Commands.{commands_of}
use Rattle.reader.proofs.Filing.{begun-none}
use Rattle.reader.proofs.Words.{commands-long}
use Rattle.opb.specs.Counts.{resulting, negations, sum_nodes, inequality_nodes}
use Rattle.opb.specs.Judged.{IsWhole, JudgedIs}
use Rattle.opb.specs.declared.Judged.{Judged}
use Rattle.std.specs.Prelude.{Result, Err}
use Rattle.lexer.specs.Tokens.{reason_number}
use Rattle.lexer.specs.declared.Fault.{Fault}
use Rattle.opb.specs.Summands.{max_summands, summand_words, summand_word, summand_at, summands_of, SummandIn, SummandsIn}
use Rattle.opb.specs.Tokens.{relation_of}
use Rattle.opb.proofs.Counting.{assumption-nodes, assumption-count}
use Rattle.opb.proofs.Outside.{outside-ended, outside-judged}
use Rattle.opb_reader.specs.Reading.{Assuming, OpbReady, IsModel}
use Rattle.opb_reader.specs.Standing.{Standing, ConstraintPut}
use Rattle.opb_reader.proofs.Ids.{slice_front}

-- ---- summands of the front of a string are summands of the string
module _ (o r a : List ℕ) where
  summands-front : (q : ℕ) → ((i : ℕ) → i < q → SummandIn o a i) → summands_of (o ++ r) a q ≡ summands_of o a q
  unfolding summands_of summand_at
  summands-front zero h = refl
  summands-front (suc q) h = rw (summands-front q (λ i l. h i (omega arith)), slice_front o r (summand_word a q 3) (summand_word a q 4) (h q (omega arith)).ends)

  in-front : (q : ℕ) → SummandsIn o a q → SummandsIn (o ++ r) a q
  in-front q S = record {
    room = S.room;
    few = S.few;
    each = λ i h. let I = S.each i h in record {
      size = I.size;
      minus = I.minus;
      starts = I.starts;
      ends = omega (arith, I.ends, length-append o r);
      short = I.short;
    };
  }

-- ---- one constraint more
assumptions-snoc : (n : ℕ) (ks : List Constraint) (k : Constraint) → assumptions_behind n (ks ++ (k ∷ [])) ≡ assumptions_behind n ks ++ assumptions_of (n + length (assumptions_behind n ks)) k
unfolding assumptions_behind
assumptions-snoc n [] k = let e : n ≡ n + 0 = omega arith in append-nil (assumptions_of n k) ∙ ap (λ (i : ℕ). assumptions_of i k) e
assumptions-snoc n (c ∷ ks) k =
    let m = n + length (assumptions_of n c) in
    let e : m + length (assumptions_behind m ks) ≡ n + length (assumptions_of n c ++ assumptions_behind m ks) = omega (arith, length-append (assumptions_of n c) (assumptions_behind m ks)) in
    ap (λ (cs : List Command). assumptions_of n c ++ cs) (assumptions-snoc m ks k)
    ∙ sym (append_assoc (assumptions_of n c) (assumptions_behind m ks) _)
    ∙ ap (λ (i : ℕ). assumptions_of n c ++ assumptions_behind m ks ++ assumptions_of i k) e

-- as many nodes as there are hold no more summands than are stored
few-summands : (q g : ℕ) → inequality_nodes q g ≤ max_nodes → q ≤ max_summands
unfolding inequality_nodes sum_nodes
few-summands zero g h = omega arith
few-summands (suc zero) g h = omega arith
few-summands (suc (suc q)) g h = omega arith

-- ---- the loop
-- k assumptions of n nodes were made of the constraints up to byte `at`
pub record Inv (o j t₀ w₀ v₀ y₀ t w v y a : List ℕ) (at k n : ℕ) : Type 0 where
  pub fuel : ℕ
  pub enough : length o - at < fuel
  pub ks : List Constraint
  pub follows : read_opb o ≡ constraints_from fuel o at n k ks
  pub place : at ≤ length o
  pub standing : Standing j t w v y k n
  pub are : commands_of j t w k ≡ assumptions ks
  pub summands : length a ≡ summand_words
  pub long : length t ≡ length t₀
  pub same : length w ≡ length w₀
  pub stack : length v ≡ length v₀
  pub tags : length y ≡ length y₀

pub opb-start : {o j t w v y : List ℕ} → OpbReady o j t w v y → Inv o j t w v y t w v y (replicate 6820 0) 0 0 0
unfolding read_opb commands_of assumptions assumptions_behind all_nodes
opb-start {o} {j} {t} {w} {v} {y} R =
    let B = begun-none j t w v y (length j) R.long (omega arith) (omega arith) R.room R.words R.stack R.tags in
    record {
      fuel = enough;
      enough = omega (arith, R.short);
      ks = [];
      follows = rw (le-leb (length o) max_text R.short);
      place = omega arith;
      standing = record {
        whole = B.ready.whole;
        table = B.ready.table;
        names = B.ready.names;
        stack = R.stack;
        commands = B.commands;
        indexed = B.indexed;
        named = λ i h. absurd (not-suc-le-zero h);
        nodes = refl;
      };
      are = refl;
      summands = length-replicate {A = ℕ} 6820 0;
      long = refl;
      same = refl;
      stack = refl;
      tags = refl;
    }

module _ {o j t₀ w₀ v₀ y₀ t w v y a : List ℕ} {at k n : ℕ} (R : OpbReady o j t₀ w₀ v₀ y₀) (I : Inv o j t₀ w₀ v₀ y₀ t w v y a at k n) (p : ℕ) (start : p ≡ at + gap (place_at o at) (drop at o)) where
  -- one step of the grammar
  step : (r : OpbRead) → ((f : ℕ) → constraints_from (suc f) o at n k I.ks ≡ r) → read_opb o ≡ r
  step r h = I.follows ∙ go I.fuel I.enough
    where
      go : (f : ℕ) → length o - at < f → constraints_from f o at n k I.ks ≡ r
      go zero l = absurd (not-suc-le-zero l)
      go (suc f) l = h f

  -- the end
  pub opb-finish : p ≡ length o → IsModel o j t w v y k n
  opb-finish e = record {
    ks = I.ks;
    read = step (constraints I.ks) (λ f. outside-ended o at p start e f n k I.ks);
    standing = I.standing;
    are = I.are;
  }

  module _ (h : p < length o) where
    -- a refusal inside the constraint
    pub opb-fault : (s : List ℕ) (r : Result Judged Fault) → JudgedIs o p s r → (e : Fault) → r ≡ Err e → read_opb o ≡ refused_at (reason_number e.0) e.1
    unfolding on_one
    opb-fault s r J e q = step (refused_at (reason_number e.0) e.1) (λ f. outside-judged o at p start h f n k I.ks ∙ rw (subst (JudgedIs o p s) q J))

    module _ (s : List ℕ) {t' v' q g : ℕ} {e m : Bool} (W : IsWhole o p s t' e m v' q g) where
      -- what is counted stays small
      pub opb_counts : (q ≤ max_text) × (g ≤ q)
      opb_counts = (omega (arith, W.counted, R.short), W.fewer)

      -- where the text goes on
      pub opb-later : (at < t') × (t' ≤ length o)
      opb-later = (omega (arith, W.later, start), W.inside)

      is : Constraint
      is = compare W.xs (relation_of e) (signed m v')

      takes : all_nodes (assumptions_of k is) ≡ resulting (relation_of e) * inequality_nodes q g
      unfolding is
      takes = assumption-nodes k W.xs (relation_of e) (signed m v') ∙ ap₂ (λ (a b : ℕ). resulting (relation_of e) * inequality_nodes a b) W.count W.negated

      makes : length (assumptions_of k is) ≡ resulting (relation_of e)
      unfolding is
      makes = assumption-count k W.xs (relation_of e) (signed m v')

      -- 7 at its first token
      limited : (b c : Bool) → leb (n + all_nodes (assumptions_of k is)) max_nodes ≡ b → leb (k + length (assumptions_of k is)) max_commands ≡ c → (b && c) ≡ false → read_opb o ≡ refused_at 7 p
      unfolding on_one is
      limited b c d f z = step (refused_at 7 p) (λ i. outside-judged o at p start h i n k I.ks ∙ rw (W.parsed, d, f, z))

      pub opb-nodes : max_nodes < n + resulting (relation_of e) * inequality_nodes q g → read_opb o ≡ refused_at 7 p
      opb-nodes l = limited false _ (lt-leb (n + all_nodes (assumptions_of k is)) max_nodes (omega (arith, takes))) refl refl

      and_false : (b : Bool) → (b && false) ≡ false
      and_false true = refl
      and_false false = refl

      pub opb-commands : max_commands < k + resulting (relation_of e) → read_opb o ≡ refused_at 7 p
      opb-commands l = limited _ false refl (lt-leb (k + length (assumptions_of k is)) max_commands (omega (arith, makes))) (and_false (leb (n + all_nodes (assumptions_of k is)) max_nodes))

      module _ (room : n + resulting (relation_of e) * inequality_nodes q g ≤ max_nodes) (few : k + resulting (relation_of e) ≤ max_commands) where
        alone : (r : Relation) → n + resulting r * inequality_nodes q g ≤ max_nodes → inequality_nodes q g ≤ max_nodes
        unfolding resulting
        alone at_least l = omega arith
        alone equal l = omega arith

        stored : (summands_of o s q ≡ W.xs) × SummandsIn o s q
        stored = W.stored (few-summands q g (alone (relation_of e) room))

        over : summands_of j s q ≡ W.xs
        over = ap (λ (z : List ℕ). summands_of z s q) R.front ∙ summands-front o R.rest s q stored.1.each ∙ stored.0

        same-negations : negations (summands_of j s q) ≡ g
        same-negations = ap negations over ∙ W.negated

        -- what put_constraint asks
        pub opb_making : Assuming j s t w v y (length o) q m v' k n (resulting (relation_of e))
        opb_making = record {
          long = R.long;
          ids = R.ids;
          standing = I.standing;
          summands = subst (λ (z : List ℕ). SummandsIn z s q) (sym R.front) (in-front o R.rest s q stored.1);
          constant = record { size = W.size; minus = W.minus };
          few = few;
          room = rw same-negations room;
        }

        -- behind it
        module _ {u x v₁ y₁ : List ℕ} {m' : ℕ} (P : ConstraintPut j s t u w x v₁ y₁ e q (signed m v') k n m') (long : length u ≡ length t) (same : length x ≡ length w)
            (stack : length v₁ ≡ length v) (tags : length y₁ ≡ length y) (words : length s ≡ length a) where
          size : n + all_nodes (assumptions_of k is) ≡ m'
          size = omega (arith, takes, P.size, ap (λ (i : ℕ). resulting (relation_of e) * inequality_nodes q i) same-negations)

          next : (f : ℕ) → constraints_from (suc f) o at n k I.ks ≡ constraints_from f o t' m' (k + resulting (relation_of e)) (I.ks ++ (is ∷ []))
          unfolding on_one is
          next f =
              outside-judged o at p start h f n k I.ks
              ∙ rw (W.parsed, le-leb (n + all_nodes (assumptions_of k is)) max_nodes (omega (arith, takes)), le-leb (k + length (assumptions_of k is)) max_commands (omega (arith, makes)))
              (ap₂ (λ (i l : ℕ). constraints_from f o t' i l (I.ks ++ (is ∷ []))) size (ap (λ (i : ℕ). k + i) makes))

          become : commands_of j u x (k + resulting (relation_of e)) ≡ assumptions (I.ks ++ (is ∷ []))
          unfolding assumptions is
          become =
              let c : length (assumptions I.ks) ≡ k = ap length (sym I.are) ∙ commands-long j t w k in
              let z : 0 + length (assumptions_behind 0 I.ks) ≡ k = omega arith in
              P.more ∙ ap₂ (λ (cs : List Command) (xs : List Summand). cs ++ assumptions_of k (compare xs (relation_of e) (signed m v'))) I.are over
              ∙ sym (assumptions-snoc 0 I.ks is ∙ ap (λ (i : ℕ). assumptions_behind 0 I.ks ++ assumptions_of i is) z)

          pub opb_again : (k' : ℕ) → k' ≡ k + resulting (relation_of e) → Inv o j t₀ w₀ v₀ y₀ u x v₁ y₁ s t' k' m'
          opb_again k' c = subst (λ (i : ℕ). Inv o j t₀ w₀ v₀ y₀ u x v₁ y₁ s t' i m') (sym c) (go I.fuel I.enough I.follows)
            where
              go : (f : ℕ) → length o - at < f → read_opb o ≡ constraints_from f o at n k I.ks → Inv o j t₀ w₀ v₀ y₀ u x v₁ y₁ s t' (k + resulting (relation_of e)) m'
              go zero l c = absurd (not-suc-le-zero l)
              go (suc f) l c = record {
                fuel = f;
                enough = omega (arith, opb-later.0, opb-later.1);
                ks = I.ks ++ (is ∷ []);
                follows = c ∙ next f;
                place = W.inside;
                standing = P.standing;
                are = become;
                summands = words ∙ I.summands;
                long = long ∙ I.long;
                same = same ∙ I.same;
                stack = stack ∙ I.stack;
                tags = tags ∙ I.tags;
              }
