-- Every refused step's answer is one of document 01's numbers for its rule, and an accepted step's is 0.
-- Each check of a rule answers within the rule's list; so does the chain of them.
use mathlib.Core.Path.{◌≡◌, refl, sym, subst}
use mathlib.Core.Bool.{Bool, true, false, ◌&&◌, ◌||◌}
use mathlib.Core.List.{List, [], ◌∷◌}
use Prim.Native.Nat.{ℕ, zero, suc}
use lib.Dec.{T, eqb, eqb→eq}
use lib.IntN.{ℤ, pos, negsuc}
use Rattle.calculus.specs.Answers.{among, inequality_numbers, numbers_of, pol_numbers}
use Rattle.calculus.specs.Equality.{same_term}
use Rattle.calculus.specs.Links.{cp_transfer, nth, index, cp_part}
use Rattle.calculus.specs.Marks.{apply_rule, number_of}
use Rattle.calculus.specs.Matching.{or_bad, as_constant, binary}
use Rattle.calculus.specs.Normalize.{Ctv, entry_of, const_of, term_to_ctv, collect_one, collect, half_check, rel_of, relation, one_half, two_halves, rel_check, cp_normalize}
use Rattle.calculus.specs.Rules.{single, one, both, add_check, cp_addition, by_check, cp_multiplication, cp_division, sat_check, cp_saturation, lit_prod, cp_literal}
use Rattle.calculus.specs.Entries.{Entry, Inequality}
use Rattle.calculus.specs.Sums.{summand, summands, sum_or, pb_sum, split_summation, lone_constant, unwrap_inequality}
use Rattle.calculus.specs.Terms.{Op, Term, Terms, num, var, app, nil, cons, add, sub, mul, ge, gt, le, lt, eq, conj, Rule, addition, multiplication, division, saturation, literal, normalize, transfer, part, PolWord, line_word, plain_word, negated_word, plus-word, saturate-word, times-word, over_word}
use Rattle.calculus.specs.Words.{Res, ok, bad, bind, ensure}
use Rattle.calculus.specs.Pol.{line_inequality, axiom_of, added, multiplied, divided, saturated, stacked, push, on_top, on_two, pol_step, pol_steps, last_entry, pol_result}
use Rattle.calculus.proofs.Booleans.{and_l, and_r}

-- a refusal's number is in the list
Answers : {A : Type 0} → List ℕ → Res A → Type 0
Answers ns (ok a) = Unit {0}
Answers ns (bad n) = T (among n ns)

module _ (ns : List ℕ) where
  bind-in : {A B : Type 0} (r : Res A) (f : A → Res B) → Answers ns r → ((a : A) → Answers ns (f a)) → Answers ns (bind r f)
  unfolding Answers bind
  bind-in (ok a) f h k = k a
  bind-in (bad n) f h k = h

  ensure-in : {A : Type 0} (c : Bool) (n : ℕ) (r : Res A) → T (among n ns) → Answers ns r → Answers ns (ensure c n r)
  unfolding Answers ensure
  ensure-in true n r h k = k
  ensure-in false n r h k = h

  or_bad-in : {A : Type 0} (n : ℕ) (r : Res A) → T (among n ns) → Answers ns (or_bad n r)
  unfolding Answers or_bad
  or_bad-in n (ok a) h = tt
  or_bad-in n (bad m) h = h

  single-in : (c : List Term) → T (among 21 ns) → Answers ns (single c)
  unfolding Answers single
  single-in [] h = h
  single-in (t ∷ []) h = tt
  single-in (t ∷ (u ∷ r)) h = h

  one_in : {A : Type 0} (n : ℕ) (xs : List A) → T (among n ns) → Answers ns (one n xs)
  unfolding Answers one
  one_in n [] h = h
  one_in n (a ∷ []) h = tt
  one_in n (a ∷ (b ∷ r)) h = h

  both-in : (ps : List (List Term)) → T (among 20 ns) → Answers ns (both ps)
  unfolding Answers both
  both-in [] h = h
  both-in (a ∷ []) h = h
  both-in (a ∷ (b ∷ [])) h = tt
  both-in (a ∷ (b ∷ (c ∷ r))) h = h

-- a list within another
within : List ℕ → List ℕ → Bool
within [] ns = true
within (m ∷ ms) ns = among m ns && within ms ns

among-within : (n : ℕ) (ms ns : List ℕ) → T (among n ms) → T (within ms ns) → T (among n ns)
unfolding among within
among-within n [] ns t u = absurd t
among-within n (m ∷ ms) ns t u = go (eqb n m) (eqb→eq n m) (λ t. among-within n ms ns t (and_r (among m ns) (within ms ns) u)) t
  where
    go : (c : Bool) → (T c → n ≡ m) → (T (among n ms) → T (among n ns)) → T (c || among n ms) → T (among n ns)
    go true f ih t = subst (λ (k : ℕ). T (among k ns)) (sym (f tt)) (and_l (among m ns) (within ms ns) u)
    go false f ih t = ih t

wider : {A : Type 0} (ms ns : List ℕ) (r : Res A) → T (within ms ns) → Answers ms r → Answers ns r
unfolding Answers
wider ms ns (ok a) u h = tt
wider ms ns (bad n) u h = among-within n ms ns h u

-- ---- inequalities
summands-in : (ts : Terms) (acc : List Entry) → Answers inequality_numbers (summands ts acc)
unfolding summands summand Answers inequality_numbers among
summands-in nil acc = tt
summands-in (cons t ts) acc =
    bind-in inequality_numbers (summand t) _
    (bind-in inequality_numbers (or_bad 26 (binary mul t)) _ (or_bad-in inequality_numbers 26 _ tt) (λ p. bind-in inequality_numbers (or_bad 24 (as_constant p.0)) _ (or_bad-in inequality_numbers 24 _ tt) (λ c. tt)))
    (λ e. summands-in ts _)

sum-in : (t : Term) → Answers inequality_numbers (pb_sum t)
unfolding pb_sum sum_or Answers inequality_numbers among
sum-in t = ensure-in inequality_numbers _ 40 _ tt (go (lone_constant (split_summation t)))
  where
    go : (r : Res ℤ) → Answers inequality_numbers (sum_or (split_summation t) r)
    go (ok z) = ensure-in inequality_numbers _ 25 _ tt tt
    go (bad n) = summands-in (split_summation t) []

unwrap_in : (t : Term) → Answers inequality_numbers (unwrap_inequality t)
unfolding unwrap_inequality Answers inequality_numbers among
unwrap_in t =
    bind-in inequality_numbers (or_bad 23 (binary ge t)) _ (or_bad-in inequality_numbers 23 _ tt) (λ p.
    bind-in inequality_numbers (or_bad 24 (as_constant p.1)) _ (or_bad-in inequality_numbers 24 _ tt) (λ k. bind-in inequality_numbers (pb_sum p.0) _ (sum-in p.0) (λ E. tt)))

inequality-in : (ns : List ℕ) (t : Term) → T (within inequality_numbers ns) → Answers ns (unwrap_inequality t)
inequality-in ns t u = wider inequality_numbers ns (unwrap_inequality t) u (unwrap_in t)

-- ---- the rules over sums
three : (ns : List ℕ) (a b c : Bool) (p : Bool) → T (among 29 ns) → T (among 30 ns) → T (among 31 ns) → Answers ns (ensure a 29 (ensure b 30 (ensure c 31 (ok p))))
unfolding Answers
three ns a b c p h k l = ensure-in ns a 29 _ h (ensure-in ns b 30 _ k (ensure-in ns c 31 _ l tt))

addition-in : (ps : List (List Term)) (xs c : List Term) → Answers (numbers_of addition) (cp_addition ps xs c)
unfolding cp_addition add_check numbers_of inequality_numbers among within
addition-in ps xs c =
    let ns = numbers_of addition in
    bind-in ns _ _ (both-in ns ps tt) (λ p. bind-in ns _ _ (single-in ns _ tt) (λ l. bind-in ns _ _ (single-in ns _ tt) (λ r.
    ensure-in ns _ 22 _ tt (bind-in ns _ _ (single-in ns _ tt) (λ t.
    bind-in ns _ _ (inequality-in ns l tt) (λ L. bind-in ns _ _ (inequality-in ns r tt) (λ R. bind-in ns _ _ (inequality-in ns t tt) (λ C. three ns _ _ _ _ tt tt tt))))))))

by_in : (ns : List ℕ) (f : ℤ → ℤ) (A C : Inequality) → T (among 29 ns) → T (among 30 ns) → T (among 31 ns) → Answers ns (by_check f A C)
unfolding by_check
by_in ns f A C h k l = three ns _ _ _ _ h k l

multiplication_in : (ps : List (List Term)) (xs c : List Term) → Answers (numbers_of multiplication) (cp_multiplication ps xs c)
unfolding cp_multiplication numbers_of inequality_numbers among within
multiplication_in ps xs c =
    let ns = numbers_of multiplication in
    bind-in ns _ _ (one_in ns 20 ps tt) (λ p. bind-in ns _ _ (single-in ns _ tt) (λ a. bind-in ns _ _ (one_in ns 22 xs tt) (λ s.
    bind-in ns _ _ (or_bad-in ns 24 _ tt) (λ m. ensure-in ns _ 27 _ tt (bind-in ns _ _ (single-in ns _ tt) (λ t.
    bind-in ns _ _ (inequality-in ns a tt) (λ A. bind-in ns _ _ (inequality-in ns t tt) (λ C. by_in ns _ A C tt tt tt))))))))

division_in : (ps : List (List Term)) (xs c : List Term) → Answers (numbers_of division) (cp_division ps xs c)
unfolding cp_division numbers_of inequality_numbers among within
division_in ps xs c =
    let ns = numbers_of division in
    bind-in ns _ _ (one_in ns 20 ps tt) (λ p. bind-in ns _ _ (single-in ns _ tt) (λ a. bind-in ns _ _ (one_in ns 22 xs tt) (λ s.
    bind-in ns _ _ (or_bad-in ns 24 _ tt) (λ d. ensure-in ns _ 27 _ tt (ensure-in ns _ 28 _ tt (bind-in ns _ _ (single-in ns _ tt) (λ t.
    bind-in ns _ _ (inequality-in ns a tt) (λ A. bind-in ns _ _ (inequality-in ns t tt) (λ C. by_in ns _ A C tt tt tt)))))))))

saturation_in : (ps : List (List Term)) (xs c : List Term) → Answers (numbers_of saturation) (cp_saturation ps xs c)
unfolding cp_saturation sat_check numbers_of inequality_numbers among within
saturation_in ps xs c =
    let ns = numbers_of saturation in
    bind-in ns _ _ (one_in ns 20 ps tt) (λ p. ensure-in ns _ 22 _ tt (bind-in ns _ _ (single-in ns _ tt) (λ a. bind-in ns _ _ (single-in ns _ tt) (λ t.
    bind-in ns _ _ (inequality-in ns a tt) (λ A. bind-in ns _ _ (inequality-in ns t tt) (λ C.
    ensure-in ns _ 32 _ tt (ensure-in ns _ 32 _ tt (three ns _ _ _ _ tt tt tt))))))))

literal_in : (ps : List (List Term)) (xs c : List Term) → Answers (numbers_of literal) (cp_literal ps xs c)
unfolding cp_literal lit_prod numbers_of among Answers
literal_in ps xs c =
    let ns = numbers_of literal in
    bind-in ns _ _ (single-in ns _ tt) (λ t. bind-in ns _ _ (one_in ns 22 xs tt) (λ a. ensure-in ns _ 33 _ tt
    (bind-in ns _ _ (or_bad-in ns 36 _ tt) (λ s. go a (binary mul s) (ensure (same_term s a) 35 (ok true)) (ensure-in ns (same_term s a) 35 (ok true) tt tt)))))
  where
    go : (a : Term) (m : Res (Term × Term)) (r : Res Bool) → Answers (numbers_of literal) r → Answers (numbers_of literal) (lit_prod a m r)
    go a (ok p) r h = bind-in (numbers_of literal) _ _ (or_bad-in (numbers_of literal) 24 _ tt) (λ c. ensure-in (numbers_of literal) _ 34 _ tt (ensure-in (numbers_of literal) _ 35 _ tt tt))
    go a (bad n) r h = h

-- ---- cp_normalize
collect-in : (ts : Terms) → Answers (numbers_of normalize) (collect ts)
unfolding collect collect_one numbers_of among Answers
collect-in nil = tt
collect-in (cons t ts) = bind-in (numbers_of normalize) (collect_one (term_to_ctv t)) _ (go (term_to_ctv t)) (λ e. bind-in (numbers_of normalize) (collect ts) _ (collect-in ts) (λ E. tt))
  where
    go : (v : Ctv) → Answers (numbers_of normalize) (collect_one v)
    go (entry_of e) = tt
    go (const_of k) = tt

half_in : (G : List Entry) (K : ℤ) (s k : Term) → Answers (numbers_of normalize) (half_check G K s k)
unfolding half_check numbers_of among Answers
half_in G K s k =
    let ns = numbers_of normalize in
    ensure-in ns _ 40 _ tt (bind-in ns _ _ (collect-in _) (λ E. bind-in ns _ _ (or_bad-in ns 24 _ tt) (λ z.
    ensure-in ns _ 39 _ tt (ensure-in ns _ 29 _ tt tt))))

one-half_in : (G : List Entry) (K : ℤ) (n : Term) → Answers (numbers_of normalize) (one_half G K n)
unfolding one_half numbers_of among
one-half_in G K n = bind-in (numbers_of normalize) _ _ (or_bad-in (numbers_of normalize) 23 _ tt) (λ p. half_in G K p.0 p.1)

two-halves_in : (G : List Entry) (K : ℤ) (n : Term) → Answers (numbers_of normalize) (two_halves G K n)
unfolding two_halves numbers_of among Answers
two-halves_in G K n =
    let ns = numbers_of normalize in
    bind-in ns _ _ (or_bad-in ns 23 _ tt) (λ q. bind-in ns _ _ (or_bad-in ns 23 _ tt) (λ a. bind-in ns _ _ (or_bad-in ns 23 _ tt) (λ b.
    bind-in ns _ _ (half_in _ _ _ _) (λ x. bind-in ns _ _ (half_in _ _ _ _) (λ y. tt)))))

rel_in : (o : Op) (G : List Entry) (K : ℤ) (n : Term) → Answers (numbers_of normalize) (rel_check o G K n)
unfolding rel_check numbers_of among Answers
rel_in add G K n = tt
rel_in sub G K n = tt
rel_in mul G K n = tt
rel_in ge G K n = one-half_in _ _ _
rel_in gt G K n = one-half_in _ _ _
rel_in le G K n = one-half_in _ _ _
rel_in lt G K n = one-half_in _ _ _
rel_in eq G K n = two-halves_in _ _ _
rel_in conj G K n = tt

relation-in : (t : Term) → Answers (numbers_of normalize) (relation t)
unfolding relation rel_of numbers_of among Answers
relation-in (num z) = tt
relation-in (var x) = tt
relation-in (app add ts) = tt
relation-in (app sub ts) = tt
relation-in (app mul ts) = tt
relation-in (app ge ts) = bind-in (numbers_of normalize) _ _ (or_bad-in (numbers_of normalize) 22 _ tt) (λ p. tt)
relation-in (app gt ts) = bind-in (numbers_of normalize) _ _ (or_bad-in (numbers_of normalize) 22 _ tt) (λ p. tt)
relation-in (app le ts) = bind-in (numbers_of normalize) _ _ (or_bad-in (numbers_of normalize) 22 _ tt) (λ p. tt)
relation-in (app lt ts) = bind-in (numbers_of normalize) _ _ (or_bad-in (numbers_of normalize) 22 _ tt) (λ p. tt)
relation-in (app eq ts) = bind-in (numbers_of normalize) _ _ (or_bad-in (numbers_of normalize) 22 _ tt) (λ p. tt)
relation-in (app conj ts) = tt

normalize_in : (ps : List (List Term)) (xs c : List Term) → Answers (numbers_of normalize) (cp_normalize ps xs c)
unfolding cp_normalize numbers_of among Answers
normalize_in ps xs c =
    let ns = numbers_of normalize in
    bind-in ns _ _ (single-in ns c tt) (λ t. bind-in ns _ _ (or_bad-in ns 23 _ tt) (λ p. bind-in ns _ _ (relation-in p.0) (λ r.
    ensure-in ns _ 40 _ tt (bind-in ns _ _ (rel_in r.op _ _ p.1) (λ m. tt)))))

-- ---- the links
transfer_in : (ps : List (List Term)) (xs c : List Term) → Answers (numbers_of transfer) (cp_transfer ps xs c)
unfolding cp_transfer numbers_of among Answers
transfer_in ps xs c =
    let ns = numbers_of transfer in
    bind-in ns _ _ (both-in ns ps tt) (λ p. bind-in ns _ _ (single-in ns _ tt) (λ r. bind-in ns _ _ (single-in ns _ tt) (λ e.
    ensure-in ns _ 22 _ tt (bind-in ns _ _ (single-in ns _ tt) (λ n.
    bind-in ns _ _ (or_bad-in ns 41 _ tt) (λ q. ensure-in ns _ 41 _ tt (ensure-in ns _ 41 _ tt tt)))))))

nth_in : (ts : Terms) (i : ℕ) → Answers (numbers_of part) (nth ts i)
unfolding nth numbers_of among Answers
nth_in nil i = tt
nth_in (cons t ts) zero = tt
nth_in (cons t ts) (suc i) = nth_in ts i

index_in : (z : ℤ) → Answers (numbers_of part) (index z)
unfolding index numbers_of among Answers
index_in (pos n) = tt
index_in (negsuc n) = tt

part_in : (ps : List (List Term)) (xs c : List Term) → Answers (numbers_of part) (cp_part ps xs c)
unfolding cp_part numbers_of among Answers
part_in ps xs c =
    let ns = numbers_of part in
    bind-in ns _ _ (one_in ns 20 ps tt) (λ p. bind-in ns _ _ (single-in ns _ tt) (λ a. bind-in ns _ _ (one_in ns 22 xs tt) (λ s.
    bind-in ns _ _ (single-in ns _ tt) (λ n. bind-in ns _ _ (or_bad-in ns 41 _ tt) (λ ts. bind-in ns _ _ (or_bad-in ns 41 _ tt) (λ z.
    bind-in ns _ _ (index_in z) (λ i. bind-in ns _ _ (nth_in ts i) (λ u. ensure-in ns _ 41 _ tt tt))))))))

-- ---- the theorem
rule-in : (r : Rule) (ps : List (List Term)) (xs c : List Term) → Answers (numbers_of r) (apply_rule r ps xs c)
unfolding apply_rule
rule-in addition = addition-in
rule-in multiplication = multiplication_in
rule-in division = division_in
rule-in saturation = saturation_in
rule-in literal = literal_in
rule-in normalize = normalize_in
rule-in transfer = transfer_in
rule-in part = part_in

-- a step that is refused has a number of its rule
pub refused-number : (r : Rule) (ps : List (List Term)) (xs c : List Term) (n : ℕ) → apply_rule r ps xs c ≡ bad n → T (among n (numbers_of r))
unfolding Answers
refused-number r ps xs c n e = subst (Answers (numbers_of r)) e (rule-in r ps xs c)

-- one that is accepted has the answer 0
pub accepted_zero : (r : Rule) (ps : List (List Term)) (xs c : List Term) (p : Bool) → apply_rule r ps xs c ≡ ok p → number_of (apply_rule r ps xs c) ≡ 0
unfolding number_of
accepted_zero r ps xs c p e = rw e refl

-- ---- pol lines
stacked-in : (S : List Inequality) (q : Inequality) → Answers pol_numbers (stacked S q)
unfolding stacked pol_numbers among Answers
stacked-in S q = ensure-in pol_numbers _ 53 _ tt tt

push-in : (S : List Inequality) (r : Res Inequality) → Answers pol_numbers r → Answers pol_numbers (push S r)
unfolding push pol_numbers among
push-in S r h = ensure-in pol_numbers _ 52 _ tt (bind-in pol_numbers r (stacked S) h (stacked-in S))

top_in : (f : Inequality → Res Inequality) → ((q : Inequality) → Answers pol_numbers (f q)) → (S : List Inequality) → Answers pol_numbers (on_top f S)
unfolding on_top pol_numbers among Answers
top_in f h [] = tt
top_in f h (q ∷ S) = bind-in pol_numbers (f q) (stacked S) (h q) (stacked-in S)

two_in : (S : List Inequality) → Answers pol_numbers (on_two S)
unfolding on_two pol_numbers among Answers
two_in [] = tt
two_in (r ∷ []) = tt
two_in (r ∷ (l ∷ S)) = stacked-in S (added l r)

multiplied-in : (m : ℤ) (q : Inequality) → Answers pol_numbers (multiplied m q)
unfolding multiplied pol_numbers among Answers
multiplied-in m q = ensure-in pol_numbers _ 54 _ tt tt

divided-in : (d : ℤ) (q : Inequality) → Answers pol_numbers (divided d q)
unfolding divided pol_numbers among Answers
divided-in d q = ensure-in pol_numbers _ 54 _ tt (ensure-in pol_numbers _ 54 _ tt tt)

saturated-in : (q : Inequality) → Answers pol_numbers (saturated q)
unfolding saturated pol_numbers among Answers
saturated-in q = ensure-in pol_numbers _ 54 _ tt (ensure-in pol_numbers _ 54 _ tt tt)

line_in : (c : List Term) → Answers pol_numbers (line_inequality c)
unfolding line_inequality pol_numbers among Answers
line_in [] = tt
line_in (t ∷ []) = bind-in pol_numbers _ _ (or_bad-in pol_numbers 54 _ tt) (λ q. ensure-in pol_numbers _ 54 _ tt tt)
line_in (t ∷ (u ∷ c)) = tt

last-in : (S : List Inequality) → Answers pol_numbers (last_entry S)
unfolding last_entry pol_numbers among Answers
last-in [] = tt
last-in (q ∷ []) = tt
last-in (q ∷ (r ∷ S)) = tt

axiom_in : (x : List ℕ) (b : Bool) → Answers pol_numbers (ok (axiom_of x b))
unfolding Answers
axiom_in x b = tt

pol-step-in : (at : List ℕ → List Term) (w : PolWord) (S : List Inequality) → Answers pol_numbers (pol_step at w S)
unfolding pol_step
pol-step-in at (line_word d) S = push-in S (line_inequality (at d)) (line_in (at d))
pol-step-in at (plain_word x) S = push-in S (ok (axiom_of x false)) (axiom_in x false)
pol-step-in at (negated_word x) S = push-in S (ok (axiom_of x true)) (axiom_in x true)
pol-step-in at plus-word S = two_in S
pol-step-in at saturate-word S = top_in saturated saturated-in S
pol-step-in at (times-word m) S = top_in (multiplied m) (multiplied-in m) S
pol-step-in at (over_word d) S = top_in (divided d) (divided-in d) S

pol-steps_in : (at : List ℕ → List Term) (ws : List PolWord) (S : List Inequality) → Answers pol_numbers (pol_steps at ws S)
unfolding pol_steps
pol-steps_in at [] S = unfold Answers in tt
pol-steps_in at (w ∷ ws) S = bind-in pol_numbers (pol_step at w S) (pol_steps at ws) (pol-step-in at w S) (pol-steps_in at ws)

-- a pol line that is refused has 52, 53 or 54
pub refused-pol : (at : List ℕ → List Term) (ws : List PolWord) (n : ℕ) → pol_result at ws ≡ bad n → T (among n pol_numbers)
unfolding pol_result Answers
refused-pol at ws n e = subst (Answers pol_numbers) e (bind-in pol_numbers (pol_steps at ws []) last_entry (pol-steps_in at ws []) last-in)
