-- One assumption more in the tables: its nodes, its words and its id.
use mathlib.Core.Path.{◌≡◌, sym, ap, ap₂, subst, ◌∙◌}
use mathlib.Core.Bool.{Bool, true, false}
use mathlib.Core.List.{List, [], ◌∷◌, ◌++◌, map, append_assoc, append-nil}
use Prim.Native.Nat.{ℕ, zero, suc, ◌+◌, ◌-◌, ◌*◌, ◌≤◌, ◌<◌}
use native.Mathlib.Decide.{dec_lt}
use native.Mathlib.Numerals.{add-one}
use native.Mathlib.Omega.{arith}
use lib.IntN.{ℤ, neg_ℤ}
use lib.Dec.{eqb}
use lib.ListN.{length, get_or, take}
use lib.Seq.{slice}
use Rattle.integer.specs.Integers.{signed}
use Rattle.calculus.specs.OpbWriting.{Summand, compare, inequality, constraint_id, assumptions_of}
use Rattle.calculus.specs.Terms.{Term, Command, assume}
use Rattle.calculus.specs.Words.{max_name}
use Rattle.calculus.specs.Limits.{max_nodes, max_commands, nodes, command_nodes, all_nodes}
use Rattle.theorems.proofs.FaithfulFile.{nodes-append}
use Rattle.theorems.proofs.OpbIds.{id-once}
use Rattle.nodes.specs.Nodes.{children_at, decode, Below}
use Rattle.terms.specs.Index.{Fresh, Indexed}
use Rattle.terms.specs.Reading.{Grown}
use Rattle.terms.specs.Spans.{max_joined, max_short, string_at, Spans}
use Rattle.reader.specs.Commands.{id_index, all_words, word_at, kind_word, part_at, pol_kind, PolRead, command_as, command_of, commands_of, CommandIn, Put}
use Rattle.reader.proofs.Words.{id_same, string-put, put-short, put-spans, commands-more, one_more}
use Rattle.opb.specs.Counts.{resulting, negations, inequality_nodes}
use Rattle.opb.specs.Summands.{summands_of}
use Rattle.opb.specs.Tokens.{relation_of}
use Rattle.opb.proofs.Counting.{inequality-nodes, turned-nodes}
use Rattle.opb_terms.specs.Making.{turned_if, turned_number, Numeral, Making, words_behind, InequalityPut}
use Rattle.opb_terms.proofs.Turning.{summands-long}
use Rattle.opb_reader.specs.Ids.{id_start}
use Rattle.opb_reader.specs.Reading.{Assuming}
use Rattle.opb_reader.specs.Standing.{Standing, AssumptionPut, ConstraintPut}
use Rattle.opb_reader.proofs.Ids.{start-near, last-id}

-- ---- an assumption
-- its term
abbrev term_of : (j a : List ℕ) (d : Bool) (q : ℕ) (b : ℤ) → Term
term_of j a d q b = inequality (turned_if d (summands_of j a q)) (turned_number d b)

module _ {j a t u w x v y z : List ℕ} {d : Bool} {q k n m from to : ℕ} {b : ℤ}
    (S : Standing j t w v y k n) (few : k < max_commands) (P : InequalityPut j a t u z d q b n n m) (Q : Put w x k (length j - from) (length j - to) 0 (m - 1) 1 0 0 0 0) (X : Indexed j x id_index (k + 1))
    (up : from ≤ to) (inside : to ≤ length j) (near : to ≤ from + max_name) (is : slice from to j ≡ constraint_id (suc k)) where
  spans : Spans j x (k + 1)
  spans = put-spans j Q up inside S.commands.ids few S.commands.room

  short : get_or x (2 * k) 0 ≤ get_or x (2 * k + 1) 0 + max_name
  short = put-short j Q up inside near

  id : string_at j x k ≡ constraint_id (suc k)
  id = string-put j x k from to Q.starts Q.ends up inside ∙ is

  some : n < m
  unfolding inequality_nodes
  some = omega (arith, P.size)

  grown : Grown j t u z n n m m
  grown = let e : n + (m - n) ≡ m = omega (arith, some) in subst (λ (i : ℕ). Grown j t u z n n m i) e P.grown

  place : words_behind n n m ≡ m - 1
  place = omega (arith, some)

  decoded : map (decode j u) (children_at u (m - 1) 1) ≡ term_of j a d q b ∷ []
  decoded = subst (λ (i : ℕ). map (decode j u) (children_at u i 1) ≡ term_of j a d q b ∷ []) place P.decoded

  below : Below m (children_at u (m - 1) 1)
  below = subst (λ (i : ℕ). Below m (children_at u i 1)) place P.below

  says : command_of j u x k ≡ assume (constraint_id (suc k)) (term_of j a d q b)
  unfolding command_of command_as part_at
  says = rw (id, Q.kinds, Q.clause, Q.clauses, decoded)

  this : CommandIn u x k m m
  unfolding part_at children_at Below
  this = record {
    kind = rw Q.kinds (omega arith);
    one = λ _. Q.clauses;
    clause = rw (Q.clause, Q.clauses) (omega (arith, some));
    premises = rw (Q.premises, Q.cited) (omega arith);
    arguments = rw (Q.arguments, Q.given) (omega arith);
    terms = rw (Q.clause, Q.clauses) below;
    above = rw (Q.premises, Q.cited) tt;
    given = rw (Q.arguments, Q.given) tt;
  }

  no-pol : word_at x k kind_word ≡ pol_kind → PolRead j x k
  no-pol z = let e : 0 ≡ pol_kind = sym Q.kinds ∙ z in let n : ⊥ = omega arith in absurd n

  named : (i : ℕ) → i < k + 1 → string_at j x i ≡ constraint_id (suc i)
  named i h = go (dec_lt i k)
    where
      go : Dec (i < k) → string_at j x i ≡ constraint_id (suc i)
      go (yes l) = id_same Q.same j i l ∙ S.named i l
      go (no l) = let e : i ≡ k = omega arith in rw e id

  added : commands_of j u x (k + 1) ≡ commands_of j t w k ++ (assume (constraint_id (suc k)) (term_of j a d q b) ∷ [])
  added =
      one_more S.table S.commands grown.kept grown.more grown.wider Q.same few spans short this no-pol
      ∙ ap (λ (c : Command). commands_of j t w k ++ (c ∷ [])) says

  counted : nodes (term_of j a d q b) ≡ inequality_nodes q (negations (summands_of j a q)) → all_nodes (commands_of j u x (k + 1)) ≡ m
  unfolding all_nodes command_nodes
  counted e =
      ap all_nodes added ∙ nodes-append (commands_of j t w k) (assume (constraint_id (suc k)) (term_of j a d q b) ∷ [])
      ∙ omega (arith, S.nodes, e, P.size)

  pub assumption-put : nodes (term_of j a d q b) ≡ inequality_nodes q (negations (summands_of j a q)) → (v' : List ℕ) → length v' ≡ length v → AssumptionPut j a t u w x v' z d q b k n m
  assumption-put e v' long = record {
    standing = record {
      whole = rw grown.kept.long S.whole;
      table = grown.table;
      names = grown.names;
      stack = rw long S.stack;
      commands = commands-more S.table S.commands grown.kept grown.more grown.wider Q.same few spans short this no-pol;
      indexed = X;
      named = named;
      nodes = counted e;
    };
    more = added;
    size = P.size;
  }

-- its id is new
pub id-fresh : {j t w v y : List ℕ} {k n : ℕ} (from to : ℕ) → Standing j t w v y k n → k < max_commands → slice from to j ≡ constraint_id (suc k) → Fresh j w k (slice from to j)
id-fresh from to S few is i h e = let z : suc i ≡ suc _ = id-once (suc i) (suc _) (omega arith) (omega arith) (sym (S.named i h) ∙ e ∙ is) in omega arith

-- ---- what the makers ask, and what they leave
-- the nodes of an assumption's term
term-nodes : (j a : List ℕ) (d : Bool) (q : ℕ) (b : ℤ) → nodes (term_of j a d q b) ≡ inequality_nodes q (negations (summands_of j a q))
unfolding turned_if turned_number
term-nodes j a true q b = turned-nodes (summands_of j a q) (neg_ℤ b) ∙ ap (λ (i : ℕ). inequality_nodes i (negations (summands_of j a q))) (summands-long j a q)
term-nodes j a false q b = inequality-nodes (summands_of j a q) b ∙ ap (λ (i : ℕ). inequality_nodes i (negations (summands_of j a q))) (summands-long j a q)

-- it has a node
pub some-node : {j a t u z : List ℕ} {d : Bool} {q n c m : ℕ} {b : ℤ} → InequalityPut j a t u z d q b n c m → 1 ≤ m
unfolding inequality_nodes
some-node P = omega (arith, P.size)

module _ {j a t w v y : List ℕ} {b q k n : ℕ} {negative : Bool} {magnitude : ℕ} (A : Assuming j a t w v y b q negative magnitude k n 1) where
  pub making : Making j a t v y q n n (inequality_nodes q (negations (summands_of j a q))) × Numeral negative magnitude
  making = (
    record {
      summands = A.summands;
      ready = record { text = A.long; table = A.standing.table; names = A.standing.names; room = omega (arith, A.room) };
      stack = A.standing.stack;
    },
    A.constant,
  )

  -- its id begins in the string
  pub start_fits : (f : ℕ) → f ≡ id_start k → b + f ≤ max_joined
  start_fits f e = omega (arith, A.long, A.ids.room, e, (start-near k (omega (arith, A.few))).0, (start-near k (omega (arith, A.few))).2)

  -- the id of assumption k, from f to g behind the first
  module _ (f g : ℕ) (starts : f ≡ id_start k) (ends : g ≡ id_start (k + 1)) where
    few : k < max_commands
    few = omega (arith, A.few)

    ends_next : g ≡ id_start (suc k)
    ends_next = ends ∙ ap id_start (add-one k)

    id-room : b + g ≤ length j
    id-room = omega (arith, A.ids.room, ends_next, (start-near k few).2)

    pub id-fits : b + g ≤ max_joined
    id-fits = omega (arith, A.long, id-room)

    up : b + f ≤ b + g
    up = omega (arith, starts, ends_next, (start-near k few).0)

    near : b + g ≤ b + f + max_name
    near = omega (arith, starts, ends_next, (start-near k few).1)

    is : slice (b + f) (b + g) j ≡ constraint_id (suc k)
    is = ap₂ (λ (p q : ℕ). slice (b + p) (b + q) j) starts ends_next ∙ A.ids.each k few

    -- what put_command asks
    pub commanding : (i : ℕ) → i ≤ max_short → (all_words ≤ length w) × (k < max_commands) × (b + f ≤ b + g) × (b + g ≤ length j) × (length j ≤ b + f + max_short) × (i ≤ max_short) × (1 ≤ max_short) × (0 ≤ max_short) × (0 ≤ max_short) × (0 ≤ max_short) × (0 ≤ max_short)
        × Indexed j w id_index k × Fresh j w k (slice (b + f) (b + g) j)
    commanding i h = (
      A.standing.commands.room,
      few,
      up,
      id-room,
      omega (arith, A.ids.near, last-id),
      h,
      omega arith,
      omega arith,
      omega arith,
      omega arith,
      omega arith,
      A.standing.indexed,
      id-fresh (b + f) (b + g) A.standing few is,
    )

    pub assumed : {u x z v' : List ℕ} {d : Bool} {m : ℕ} → InequalityPut j a t u z d q (signed negative magnitude) n n m
        → Put w x k (length j - (b + f)) (length j - (b + g)) 0 (m - 1) 1 0 0 0 0 × Indexed j x id_index (k + 1) → length v' ≡ length v → AssumptionPut j a t u w x v' z d q (signed negative magnitude) k n m
    assumed {u} {x} {z} {v'} {d} {m} P (Q, X) long =
        assumption-put {from = b + f} {to = b + g} A.standing few P Q X up id-room near is (term-nodes j a d q (signed negative magnitude)) v' long

-- ---- one assumption after another
-- the first i assumptions of a constraint stand in the tables u and x
pub record Partly (j a t u w x v y : List ℕ) (e : Bool) (q : ℕ) (z : ℤ) (k n i m : ℕ) : Type 0 where
  pub standing : Standing j u x v y (k + i) m
  pub more : commands_of j u x (k + i) ≡ commands_of j t w k ++ take i (assumptions_of k (compare (summands_of j a q) (relation_of e) z))
  pub size : m ≡ n + i * inequality_nodes q (negations (summands_of j a q))

-- assumption i of a constraint: the second has all signs turned
next_of : (e : Bool) (k i : ℕ) (ss : List Summand) (z : ℤ) → i < resulting (relation_of e)
    → take (i + 1) (assumptions_of k (compare ss (relation_of e) z)) ≡ take i (assumptions_of k (compare ss (relation_of e) z)) ++ (assume (constraint_id (suc (k + i))) (inequality (turned_if (eqb i 1) ss) (turned_number (eqb i 1) z)) ∷ [])
unfolding resulting relation_of assumptions_of turned_if turned_number
next_of false k zero ss z h = let same : k + 0 ≡ k = omega arith in rw same
next_of false k (suc i) ss z h = let z : ⊥ = omega arith in absurd z
next_of true k zero ss z h = let same : k + 0 ≡ k = omega arith in rw same
next_of true k (suc zero) ss z h = let same : k + 1 ≡ suc k = omega arith in rw same
next_of true k (suc (suc i)) ss z h = let z : ⊥ = omega arith in absurd z

all_of : (e : Bool) (k i : ℕ) (ss : List Summand) (z : ℤ) → i ≡ resulting (relation_of e) → take i (assumptions_of k (compare ss (relation_of e) z)) ≡ assumptions_of k (compare ss (relation_of e) z)
unfolding resulting relation_of assumptions_of
all_of false k i ss z h = rw h
all_of true k i ss z h = rw h

-- room for one more of r
one-more-room : (r i I n m l : ℕ) → r ≤ 2 → i < r → m ≡ n + i * I → n + r * I ≤ l → m + 1 * I ≤ l
one-more-room zero i I n m l f h s b = let z : ⊥ = omega arith in absurd z
one-more-room (suc zero) zero I n m l f h s b = omega arith
one-more-room (suc zero) (suc i) I n m l f h s b = let z : ⊥ = omega arith in absurd z
one-more-room (suc (suc zero)) zero I n m l f h s b = omega arith
one-more-room (suc (suc zero)) (suc zero) I n m l f h s b = omega arith
one-more-room (suc (suc zero)) (suc (suc i)) I n m l f h s b = let z : ⊥ = omega arith in absurd z
one-more-room (suc (suc (suc r))) i I n m l f h s b = let z : ⊥ = omega arith in absurd z

one-more-size : (i I n m m' : ℕ) → i < 2 → m ≡ n + i * I → m' ≡ m + I → m' ≡ n + (i + 1) * I
one-more-size zero I n m m' h s e = omega arith
one-more-size (suc zero) I n m m' h s e = omega arith
one-more-size (suc (suc i)) I n m m' h s e = let z : ⊥ = omega arith in absurd z

at_most_two : (e : Bool) → resulting (relation_of e) ≤ 2
unfolding resulting relation_of
at_most_two true = omega arith
at_most_two false = omega arith

module _ {j a t w v y : List ℕ} {b q k n : ℕ} {negative : Bool} {magnitude : ℕ} (e : Bool) (A : Assuming j a t w v y b q negative magnitude k n (resulting (relation_of e))) where
  pub partly-start : (z : ℤ) → Partly j a t t w w v y e q z k n 0 n
  partly-start z =
      let same : k + 0 ≡ k = omega arith in
      record {
        standing = rw same A.standing;
        more = rw same (sym (append-nil (commands_of j t w k)));
        size = omega arith;
      }

  module _ {u x v' y' : List ℕ} {i m : ℕ} {z : ℤ} (P : Partly j a t u w x v' y' e q z k n i m) where
    module _ (h : i < resulting (relation_of e)) where
      -- there is room for the next
      pub partly_asks : Assuming j a u x v' y' b q negative magnitude (k + i) m 1
      partly_asks = record {
        long = A.long;
        ids = A.ids;
        standing = P.standing;
        summands = A.summands;
        constant = A.constant;
        few = omega (arith, A.few);
        room = one-more-room (resulting (relation_of e)) i _ n m max_nodes (at_most_two e) h P.size A.room;
      }

      pub partly_more : {u' x' v'' y'' : List ℕ} {m' : ℕ} → AssumptionPut j a u u' x x' v'' y'' (eqb i 1) q z (k + i) m m' → Partly j a t u' w x' v'' y'' e q z k n (i + 1) m'
      partly_more {u'} {x'} {v''} {y''} {m'} B =
          let next : k + i + 1 ≡ k + (i + 1) = omega arith in
          record {
            standing = subst (λ (p : ℕ). Standing j u' x' v'' y'' p m') next B.standing;
            more =
                ap (commands_of j u' x') (sym next) ∙ B.more ∙ ap (λ (cs : List Command). cs ++ (assume (constraint_id (suc (k + i))) (inequality (turned_if (eqb i 1) (summands_of j a q)) (turned_number (eqb i 1) z)) ∷ [])) P.more
                ∙ append_assoc (commands_of j t w k) _ _ ∙ ap (λ (cs : List Command). commands_of j t w k ++ cs) (sym (next_of e k i (summands_of j a q) z h));
            size = one-more-size i _ n m m' (omega (arith, at_most_two e)) P.size B.size;
          }

    pub partly_end : i ≡ resulting (relation_of e) → ConstraintPut j a t u w x v' y' e q z k n m
    partly_end same =
        record {
          standing = subst (λ (p : ℕ). Standing j u x v' y' (k + p) m) same P.standing;
          more = ap (λ (p : ℕ). commands_of j u x (k + p)) (sym same) ∙ P.more ∙ ap (λ (cs : List Command). commands_of j t w k ++ cs) (all_of e k i (summands_of j a q) z same);
          size = subst (λ (p : ℕ). m ≡ n + p * inequality_nodes q (negations (summands_of j a q))) same P.size;
        }
