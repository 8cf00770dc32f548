-- An OPB text with the words of constraints within the limits is read as these constraints.
use mathlib.Core.Path.{◌≡◌, sym, ap, ap₂, ◌∙◌}
use mathlib.Core.Bool.{Bool, cond, ◌&&◌}
use mathlib.Core.List.{List, [], ◌∷◌, ◌++◌, append_assoc, append-nil}
use Prim.Native.Nat.{ℕ, zero, suc, ◌+◌, ◌≤◌, ◌<◌}
use native.Mathlib.Omega.{arith}
use lib.Dec.{leb, le→leb}
use lib.IntN.{ℤ}
use lib.ListN.{length, length-append}
use Rattle.calculus.specs.Commands.{enough}
use Rattle.calculus.specs.Terms.{Command}
use Rattle.calculus.specs.Limits.{max_text, max_nodes, max_commands, all_nodes}
use Rattle.calculus.specs.OpbWords.{Relation, OpbWord, number_word, relation-word, semicolon, OpbToken, ended, word, inside_at, outside_at}
use Rattle.calculus.specs.OpbWriting.{Summand, times, Constraint, compare, assumptions_of, assumptions_behind, assumptions, summands_words, constraint_words, HasInside, HasConstraint, HasConstraints, IsOpb}
use Rattle.calculus.specs.OpbReading.{found, on_begin, on_literal, on_number, on_semicolon, constant_at, constraint_from, OpbRead, constraints, refused_at, on_one, on_outside, constraints_from, read_opb}
use Rattle.calculus.proofs.Booleans.{is_true}
use Rattle.theorems.proofs.FaithfulFile.{nodes-append}
use Rattle.theorems.proofs.OpbFaithful.{From, ending, from-inside, from_outside}
use Rattle.theorems.proofs.OpbTokens.{one-long, one_inside, few-summands, constraints-long, constraints-inside}

-- ---- constraints
constant-eq : (s : List ℕ) (xs : List Summand) (r : Relation) (k : ℤ) (at e : ℕ) → HasInside s at (number_word k ∷ semicolon ∷ []) e → constant_at s xs r at ≡ found (compare xs r k) e
unfolding constant_at on_number on_semicolon HasInside
constant-eq s xs r k at e (p, t, h, (q, u, g, i)) = ap (on_number _) h ∙ ap (on_semicolon _) g ∙ ap (found (compare xs r k)) i

constraint_eq : (f : ℕ) (s : List ℕ) (ys xs : List Summand) (r : Relation) (k : ℤ) (w : OpbToken) (e : ℕ) → length ys < f → From s w (summands_words ys ++ ending r k) e → constraint_from f s xs w ≡ found (compare (xs ++ ys) r k) e
unfolding constraint_from From HasInside summands_words ending on_begin on_literal
constraint_eq zero s ys xs r k w e l h = let v : ⊥ = omega arith in absurd v
constraint_eq (suc f) s [] xs r k w e l (p, t, h, g) = ap (on_begin _ (λ r t. constant_at s xs r t)) h ∙ constant-eq s xs r k t e g ∙ ap (λ (zs : List Summand). found (compare zs r k) e) (sym (append-nil xs))
constraint_eq (suc f) s (times z y ∷ ys) xs r k w e l (p, t, h, (q, u, g, i)) =
    ap (on_begin (λ z t. on_literal (λ y t. constraint_from f s (xs ++ (times z y ∷ [])) (inside_at s t)) (inside_at s t)) _) h
    ∙ ap (on_literal (λ y t. constraint_from f s (xs ++ (times z y ∷ [])) (inside_at s t))) g
    ∙ constraint_eq f s ys (xs ++ (times z y ∷ [])) r k (inside_at s u) e (omega arith) ((from-inside s ys r k u e).1 i)
    ∙ ap (λ (zs : List Summand). found (compare zs r k) e) (append_assoc xs (times z y ∷ []) ys)

-- the words of a constraint behind blanks and comments are read as it, from their first token
first-token : (s : List ℕ) (k : Constraint) (at e : ℕ) → HasConstraint s at (constraint_words k) e → (w : OpbWord) × (p : ℕ) × (t : ℕ) × (outside_at s at ≡ word w p t)
unfolding HasConstraint constraint_words summands_words
first-token s (compare [] r k) at e (p, t, h, g) = (relation-word r, p, t, h)
first-token s (compare (times z l ∷ ys) r k) at e (p, t, h, g) = (number_word z, p, t, h)

whole-eq : (s : List ℕ) → length s ≤ max_text → (k : Constraint) (at e : ℕ) → at ≤ length s → HasConstraint s at (constraint_words k) e → constraint_from enough s [] (outside_at s at) ≡ found k e
whole-eq s short (compare ys r k) at e l h =
    let a : at + length (constraint_words (compare ys r k)) ≤ e = one-long s (constraint_words (compare ys r k)) at e h in
    let b : e ≤ length s = one_inside s (constraint_words (compare ys r k)) at e l h in
    constraint_eq enough s ys [] r k (outside_at s at) e (omega (arith, few-summands ys r k)) ((from_outside s ys r k at e).1 h)

-- ---- texts
one-eq : (go : Constraint → ℕ → OpbRead) (p n c : ℕ) (k : Constraint) (t : ℕ) → n + all_nodes (assumptions_of c k) ≤ max_nodes → c + length (assumptions_of c k) ≤ max_commands → on_one go p n c (found k t) ≡ go k t
unfolding on_one
one-eq go p n c k t h g =
    ap₂ (λ (a b : Bool). cond (a && b) (go k t) (refused_at 7 p)) (is_true (leb (n + all_nodes (assumptions_of c k)) max_nodes) (le→leb _ _ h)) (is_true (leb (c + length (assumptions_of c k)) max_commands) (le→leb _ _ g))

module _ (s : List ℕ) (short : length s ≤ max_text) where
  constraints-eq : (f : ℕ) (ds : List Constraint) (at n c e z : ℕ) (ks : List Constraint) → length ds < f → at ≤ length s → n + all_nodes (assumptions_behind c ds) ≤ max_nodes → c + length (assumptions_behind c ds) ≤ max_commands → HasConstraints s at ds e → outside_at s e ≡ ended z → constraints_from f s at n c ks ≡ constraints (ks ++ ds)
  unfolding constraints_from assumptions_behind HasConstraints on_outside
  constraints-eq zero ds at n c e z ks f i a b h g = let v : ⊥ = omega arith in absurd v
  constraints-eq (suc f) [] at n c e z ks l i a b h g =
      let next : OpbToken → ℕ → OpbRead = λ w p. on_one (λ k t. constraints_from f s t (n + all_nodes (assumptions_of c k)) (c + length (assumptions_of c k)) (ks ++ (k ∷ []))) p n c (constraint_from enough s [] w) in
      ap (on_outside next ks) (ap (outside_at s) h ∙ g) ∙ ap constraints (sym (append-nil ks))
  constraints-eq (suc f) (k ∷ ds) at n c e z ks l i a b (t, h, j) g =
      let cs : List Command = assumptions_of c k in
      let more : List Command = assumptions_behind (c + length cs) ds in
      let x : all_nodes (cs ++ more) ≡ all_nodes cs + all_nodes more = nodes-append cs more in
      let y : length (cs ++ more) ≡ length cs + length more = length-append cs more in
      let (w, p, u, o) = first-token s k at t h in
      let go : Constraint → ℕ → OpbRead = λ k t. constraints_from f s t (n + all_nodes (assumptions_of c k)) (c + length (assumptions_of c k)) (ks ++ (k ∷ [])) in
      let next : OpbToken → ℕ → OpbRead = λ w p. on_one go p n c (constraint_from enough s [] w) in
      ap (on_outside next ks) o
      ∙ ap (on_one go p n c) (ap (constraint_from enough s []) (sym o) ∙ whole-eq s short k at t i h)
      ∙ one-eq go p n c k t (omega arith) (omega arith)
      ∙ constraints-eq f ds t (n + all_nodes cs) (c + length cs) e z (ks ++ (k ∷ [])) (omega arith) (one_inside s (constraint_words k) at t i h) (omega arith) (omega arith) j g
      ∙ ap constraints (append_assoc ks (k ∷ []) ds)

-- an OPB text with the words of constraints within the limits is read as these constraints
pub opb_complete : (s : List ℕ) (ks : List Constraint) → IsOpb s ks → read_opb s ≡ constraints ks
unfolding read_opb assumptions
opb_complete s ks r =
    ap (λ (b : Bool). cond b (constraints_from enough s 0 0 0 []) (refused_at 2 max_text)) (is_true (leb (length s) max_text) (le→leb (length s) max_text r.short))
    ∙ constraints-eq s r.short enough ks 0 0 0 r.last r.size []
    (omega (arith, r.short, constraints-long s ks 0 r.last r.words, constraints-inside s ks 0 r.last (omega arith) r.words))
    (omega arith) (omega (arith, r.nodes)) (omega (arith, r.commands)) r.words r.none

-- a text is an OPB text of at most one list of constraints
pub opb_once : (s : List ℕ) (ks ds : List Constraint) → IsOpb s ks → IsOpb s ds → ks ≡ ds
opb_once s ks ds r q = let e : constraints ks ≡ constraints ds = sym (opb_complete s ks r) ∙ opb_complete s ds q in cc
