-- A whole line: what its words leave, and its clause in the table.
use mathlib.Core.Path.{◌≡◌, refl, sym, ap, subst, ◌∙◌}
use mathlib.Core.Bool.{Bool, true, false, cond}
use mathlib.Core.List.{List, [], ◌∷◌, ◌++◌}
use Prim.Native.Nat.{ℕ, zero, suc, ◌+◌, ◌-◌, ◌≤◌}
use native.Mathlib.Omega.{arith}
use borrow.Author.Tests.{le-ltb}
use lib.IntN.{ℤ, pos, negsuc, nat_abs}
use lib.ListN.{length}
use lib.Signed.{lt_z}
use Rattle.integer.specs.Integers.{Within}
use Rattle.calculus.specs.Entries.{Inequality}
use Rattle.calculus.specs.Limits.{max_nodes}
use Rattle.calculus.specs.Marks.{number_of}
use Rattle.calculus.specs.OpbWords.{plain, negated}
use Rattle.calculus.specs.OpbWriting.{Summand, times, entries_of, inequality}
use Rattle.calculus.specs.Pol.{max_literals, pol_result, finished, given_clause, given_answer}
use Rattle.calculus.specs.Terms.{Term}
use Rattle.calculus.specs.Words.{Res, max_numeral}
use Rattle.nodes.specs.Nodes.{capacity, decode, Table}
use Rattle.nodes.proofs.Tables.{kept_trans, table-less}
use Rattle.terms.specs.Names.{Names}
use Rattle.terms.specs.Reading.{Grown}
use Rattle.terms.specs.Spans.{max_joined}
use Rattle.opb.specs.Counts.{negations, sum_nodes, inequality_nodes}
use Rattle.opb.specs.Summands.{summand_at, summands_of}
use Rattle.opb_terms.specs.Making.{Numeral, turned_number, turned_if, Making, InequalityPut}
use Rattle.reader.specs.Commands.{PolRead, words_in, pol_words_of, words_from}
use Rattle.sums.specs.Lists.{res_of}
use Rattle.pol.specs.Stack.{window, constant_of, inequality_of}
use Rattle.ending.specs.Ending.{Finished}
use Rattle.lines.specs.Running.{ClausesAre, max_names, WordsRun}
use Rattle.lines.specs.Lines.{clause_nodes, LeftIs, LineRun}
use Rattle.lines.specs.declared.Left.{Left}
use Rattle.lines.specs.declared.Worked.{Worked}

-- ---- what the words leave
-- the words that the text has
words_are : (s w : List ℕ) (k : ℕ) (P : PolRead s w k) → pol_words_of s w k ≡ P.0
unfolding pol_words_of words_in
words_are s w k P = ap words_in P.3

module _ {s t u w z y : List ℕ} {k from n : ℕ} {ds : List ℤ} {ls : List ℕ} {r : Worked} (W : WordsRun s t u w z k from n ds ls r) (P : PolRead s w k) (begins : from ≡ words_from s w k) (N : Names s u y n) where
  abbrev left : Inequality
  left = inequality_of (decode s u) (window 0 ds) (window 0 ls)

  result : (at : List ℕ → List Term) → ClausesAre at s t w k → pol_result at (pol_words_of s w k) ≡ res_of r.number left
  result at C = ap (pol_result at) (words_are s w k P) ∙ W.is at C P.0 P.1 P.2 (rw begins P.3)

  grown : (c : ℕ) → Table t n c → Grown s t u y n c n c
  grown c T = let G = W.longer.grown c T in record { kept = G.kept; table = table-less G.table G.more T.used; names = N; more = omega arith; wider = omega arith }

  pub left-failed : {a : List ℕ} {count : ℕ} {constant : ℤ} → (r.number ≡ 0 → ⊥) → LeftIs s t u w y a k n (record { number = r.number; count = count; constant = constant })
  left-failed f = record { is = λ at C. (left, result at C, λ e. absurd (f e)); grown = grown; summands = λ e. absurd (f e) }

  pub left-done : {a : List ℕ} {es : List ℤ} {count : ℕ} {constant : ℤ} → r.number ≡ 0 → Finished s u ds ls es a count → constant ≡ constant_of (window 0 es) → LeftIs s t u w y a k n (record { number = 0; count = count; constant = constant })
  unfolding finished inequality_of
  left-done e F q = record {
    is = λ at C. (left, rw e at (result at C), λ z. (sym F.is, sym (q ∙ F.constant)));
    grown = grown;
    summands = λ z. (F.each, F.few, rw (q, F.constant) ((W.stack e).0.each 0 (omega arith)).constant);
  }

-- ---- its clause
negations-append : (xs : List Summand) (x : Summand) → negations (xs ++ (x ∷ [])) ≤ negations xs + 1
unfolding negations
negations-append [] (times k (plain x)) = omega arith
negations-append [] (times k (negated x)) = omega arith
negations-append (times k (plain x) ∷ xs) y = negations-append xs y
negations-append (times k (negated x) ∷ xs) y = omega (arith, negations-append xs y)

negations-few : (s a : List ℕ) (q : ℕ) → negations (summands_of s a q) ≤ q
unfolding summands_of negations
negations-few s a zero = omega arith
negations-few s a (suc q) = omega (arith, negations-append (summands_of s a q) (summand_at s a q), negations-few s a q)

sum-small : (q g : ℕ) → g ≤ q → q ≤ max_literals → sum_nodes q g ≤ 321
unfolding sum_nodes
sum-small zero g h l = omega arith
sum-small (suc zero) g h l = omega arith
sum-small (suc (suc q)) g h l = omega arith

clause-small : (s a : List ℕ) (q : ℕ) → q ≤ max_literals → inequality_nodes q (negations (summands_of s a q)) ≤ clause_nodes
unfolding inequality_nodes
clause-small s a q l = omega (arith, sum-small q (negations (summands_of s a q)) (negations-few s a q) l)

clause-some : (q g : ℕ) → 1 ≤ inequality_nodes q g
unfolding inequality_nodes
clause-some q g = omega arith

-- a number, and no clause
refused-number : (n : ℕ) (q : Inequality) (p : Res Inequality) → (n ≡ 0 → ⊥) → p ≡ res_of n q → n ≡ number_of (given_answer p)
unfolding res_of given_answer number_of
refused-number zero q p f e = absurd (f refl)
refused-number (suc n) q p f e = rw e

refused-clause : (n : ℕ) (q : Inequality) (p : Res Inequality) → (n ≡ 0 → ⊥) → p ≡ res_of n q → given_clause p ≡ []
unfolding res_of given_clause
refused-clause zero q p f e = absurd (f refl)
refused-clause (suc n) q p f e = rw e

-- no number, and the clause of what is left
done-number : (n : ℕ) (q : Inequality) (p : Res Inequality) → n ≡ 0 → p ≡ res_of n q → 0 ≡ number_of (given_answer p)
unfolding res_of given_answer number_of
done-number n q p z e = rw (e, z)

done-clause : (n : ℕ) (q : Inequality) (p : Res Inequality) (xs : List Summand) (k : ℤ) → n ≡ 0 → p ≡ res_of n q → (finished q).sum ≡ entries_of xs → q.const ≡ k → inequality xs k ∷ [] ≡ given_clause p
unfolding res_of given_clause inequality finished
done-clause n q p xs k z e f g = rw (e, z, f, g)

plain-summands : (xs : List Summand) (k : ℤ) → inequality (turned_if false xs) (turned_number false k) ≡ inequality xs k
unfolding turned_if turned_number
plain-summands xs k = refl

module _ {s t u w y a : List ℕ} {k n c : ℕ} {r : Left} (L : LeftIs s t u w y a k n r) (T : Table t n c) (room : n + max_names ≤ capacity t) where
  grown-left : Grown s t u y n c n c
  grown-left = L.grown c T

  -- where the line has a number
  pub line_refused : (r.number ≡ 0 → ⊥) → LineRun s t u w y k n c (record { number = r.number; nodes = n; children = c })
  line_refused f = record {
    grown = grown-left;
    small = omega arith;
    number = λ at C. let g = L.is at C in refused-number r.number g.0 (pol_result at (pol_words_of s w k)) f g.1;
    clause = λ e. absurd (f e);
    below = λ e. absurd (f e);
    some = λ e. absurd (f e);
    refused = λ g at C. let h = L.is at C in refused-clause r.number h.0 (pol_result at (pol_words_of s w k)) f h.1;
  }

  module _ (e : r.number ≡ 0) where
    -- what its maker asks
    pub clause-asked : {v : List ℕ} → length s ≤ max_joined → max_nodes ≤ length v → Making s a u v y r.count n c (inequality_nodes r.count (negations (summands_of s a r.count)))
    clause-asked text stack = record {
      summands = (L.summands e).0;
      ready = record { text = text; table = grown-left.table; names = grown-left.names; room = omega (arith, room, grown-left.kept.long, clause-small s a r.count (L.summands e).1) };
      stack = stack;
    }

    pub line_done : {u' y' : List ℕ} {m : ℕ} → InequalityPut s a u u' y' false r.count r.constant n c m → LineRun s t u' w y' k n c (record { number = 0; nodes = m; children = c + (m - n) })
    line_done {u'} {y'} {m} Q = record {
      grown = record { kept = kept_trans grown-left.kept Q.grown.kept (omega arith) (omega arith); table = Q.grown.table; names = Q.grown.names; more = Q.grown.more; wider = Q.grown.wider };
      small = omega (arith, Q.size, clause-small s a r.count (L.summands e).1);
      number = λ at C. let g = L.is at C in done-number r.number g.0 (pol_result at (pol_words_of s w k)) e g.1;
      clause = λ z at C.
          let g = L.is at C in
          Q.decoded ∙ ap (λ (x : Term). x ∷ []) (plain-summands (summands_of s a r.count) r.constant)
          ∙ done-clause r.number g.0 (pol_result at (pol_words_of s w k)) (summands_of s a r.count) r.constant e g.1 (g.2 e).0 (g.2 e).1;
      below = λ z. Q.below;
      some = λ z. omega (arith, Q.size, clause-some r.count (negations (summands_of s a r.count)));
      refused = λ f. absurd (f refl);
    }

-- ---- the constant as a numeral
minus-some : (z : ℤ) → lt_z z (pos 0) ≡ true → 1 ≤ nat_abs z
minus-some (pos n) e = absurd (subst (λ (b : Bool). cond b ⊥ Unit) (sym (le-ltb n 0 (omega arith)) ∙ e) tt)
minus-some (negsuc n) e = omega arith

pub constant-numeral : {z : ℤ} {b : Bool} {n : ℕ} → Within max_numeral z → b ≡ lt_z z (pos 0) → n ≡ nat_abs z → Numeral b n
constant-numeral {z} w e f = rw (e, f) record { size = w.within; minus = minus-some z }
