-- An OPB text that is read as ks has exactly the words of ks, and ks keeps the limits.
use mathlib.Core.Path.{◌≡◌, refl, sym, ap, subst, ◌∙◌}
use mathlib.Core.Bool.{Bool, true, false, cond, ◌&&◌}
use mathlib.Core.List.{List, [], ◌∷◌, ◌++◌, append_assoc, append-nil}
use mathlib.Core.Logic.{◌⊎◌, inl, inr, ◌↔◌}
use Prim.Native.Nat.{ℕ, zero, suc, ◌+◌, ◌≤◌}
use native.Mathlib.Omega.{arith}
use lib.Dec.{T, leb, leb→le}
use lib.IntN.{ℤ}
use lib.ListN.{length, length-append}
use Rattle.calculus.specs.Commands.{enough}
use Rattle.calculus.specs.Terms.{Command}
use Rattle.calculus.specs.Limits.{max_text, max_nodes, max_commands, all_nodes}
use Rattle.calculus.specs.OpbWords.{Literal, Relation, OpbWord, number_word, literal-word, relation-word, semicolon, OpbToken, ended, word, wrong, inside_at, outside_at}
use Rattle.calculus.specs.OpbWriting.{Summand, times, Constraint, compare, assumptions_of, assumptions_behind, assumptions, summands_words, constraint_words, HasInside, HasConstraint, HasConstraints, IsOpb}
use Rattle.calculus.specs.OpbReading.{OneRead, found, fault, on_begin, on_literal, on_number, on_semicolon, constant_at, constraint_from, OpbRead, constraints, refused_at, on_one, on_outside, constraints_from, read_opb}
use Rattle.theorems.proofs.FaithfulFile.{nodes-append}

-- ---- what a successful step tells about its token
fault-found : {e p t : ℕ} {a : Constraint} → fault e p ≡ found a t → ⊥
fault-found e = let z : ◌≡◌ {A = ℕ} 0 1 = cc in omega arith

begin-got : (k : ℤ → ℕ → OneRead) (j : Relation → ℕ → OneRead) (w : OpbToken) (a : Constraint) (t : ℕ) → on_begin k j w ≡ found a t →
    ((z : ℤ) × (p : ℕ) × (u : ℕ) × (w ≡ word (number_word z) p u) × (k z u ≡ found a t)) ⊎ ((r : Relation) × (p : ℕ) × (u : ℕ) × (w ≡ word (relation-word r) p u) × (j r u ≡ found a t))
unfolding on_begin
begin-got k j (ended p) a t e = absurd (fault-found e)
begin-got k j (word (number_word z) p u) a t e = inl (z, p, u, refl, e)
begin-got k j (word (literal-word l) p u) a t e = absurd (fault-found e)
begin-got k j (word (relation-word r) p u) a t e = inr (r, p, u, refl, e)
begin-got k j (word semicolon p u) a t e = absurd (fault-found e)
begin-got k j (wrong x p) a t e = absurd (fault-found e)

literal-got : (k : Literal → ℕ → OneRead) (w : OpbToken) (a : Constraint) (t : ℕ) → on_literal k w ≡ found a t → (l : Literal) × (p : ℕ) × (u : ℕ) × (w ≡ word (literal-word l) p u) × (k l u ≡ found a t)
unfolding on_literal
literal-got k (ended p) a t e = absurd (fault-found e)
literal-got k (word (number_word z) p u) a t e = absurd (fault-found e)
literal-got k (word (literal-word l) p u) a t e = (l, p, u, refl, e)
literal-got k (word (relation-word r) p u) a t e = absurd (fault-found e)
literal-got k (word semicolon p u) a t e = absurd (fault-found e)
literal-got k (wrong x p) a t e = absurd (fault-found e)

number-got : (k : ℤ → ℕ → OneRead) (w : OpbToken) (a : Constraint) (t : ℕ) → on_number k w ≡ found a t → (z : ℤ) × (p : ℕ) × (u : ℕ) × (w ≡ word (number_word z) p u) × (k z u ≡ found a t)
unfolding on_number
number-got k (ended p) a t e = absurd (fault-found e)
number-got k (word (number_word z) p u) a t e = (z, p, u, refl, e)
number-got k (word (literal-word l) p u) a t e = absurd (fault-found e)
number-got k (word (relation-word r) p u) a t e = absurd (fault-found e)
number-got k (word semicolon p u) a t e = absurd (fault-found e)
number-got k (wrong x p) a t e = absurd (fault-found e)

semicolon-got : (k : ℕ → OneRead) (w : OpbToken) (a : Constraint) (t : ℕ) → on_semicolon k w ≡ found a t → (p : ℕ) × (u : ℕ) × (w ≡ word semicolon p u) × (k u ≡ found a t)
unfolding on_semicolon
semicolon-got k (ended p) a t e = absurd (fault-found e)
semicolon-got k (word (number_word z) p u) a t e = absurd (fault-found e)
semicolon-got k (word (literal-word l) p u) a t e = absurd (fault-found e)
semicolon-got k (word (relation-word r) p u) a t e = absurd (fault-found e)
semicolon-got k (word semicolon p u) a t e = (p, u, refl, e)
semicolon-got k (wrong x p) a t e = absurd (fault-found e)

-- ---- constraints
-- the words ws of the text s, of which the first is the token w
unfoldable pub From : List ℕ → OpbToken → List OpbWord → ℕ → Type 0
From s w [] e = ⊥
From s w (v ∷ vs) e = (b : ℕ) × (t : ℕ) × (w ≡ word v b t) × HasInside s t vs e

-- a relation, a constant and `;`
unfoldable pub ending : Relation → ℤ → List OpbWord
ending r k = relation-word r ∷ number_word k ∷ semicolon ∷ []

-- the words of the summands ys and the rest, from the next token inside a constraint, and from that outside
pub from-inside : (s : List ℕ) (ys : List Summand) (r : Relation) (k : ℤ) (p e : ℕ) → From s (inside_at s p) (summands_words ys ++ ending r k) e ↔ HasInside s p (summands_words ys ++ ending r k) e
unfolding From HasInside summands_words ending
from-inside s [] r k p e = (λ h. h, λ h. h)
from-inside s (times c l ∷ ys) r k p e = (λ h. h, λ h. h)

pub from_outside : (s : List ℕ) (ys : List Summand) (r : Relation) (k : ℤ) (p e : ℕ) → From s (outside_at s p) (summands_words ys ++ ending r k) e ↔ HasConstraint s p (constraint_words (compare ys r k)) e
unfolding From HasConstraint constraint_words summands_words ending
from_outside s [] r k p e = (λ h. h, λ h. h)
from_outside s (times c l ∷ ys) r k p e = (λ h. h, λ h. h)

-- the constraint k was read up to t, from the token w on, with the summands xs before it
record Rest (s : List ℕ) (xs : List Summand) (w : OpbToken) (k : Constraint) (t : ℕ) : Type 0 where
  rest : List Summand
  relation : Relation
  constant : ℤ
  all : k ≡ compare (xs ++ rest) relation constant
  has : From s w (summands_words rest ++ ending relation constant) t

constraint-step : (f : ℕ) (s : List ℕ) → ((xs : List Summand) (w : OpbToken) (k : Constraint) (t : ℕ) → constraint_from f s xs w ≡ found k t → Rest s xs w k t) → (xs : List Summand) (w : OpbToken) (k : Constraint) (t : ℕ) → constraint_from (suc f) s xs w ≡ found k t → Rest s xs w k t
unfolding constraint_from constant_at summands_words ending From HasInside
constraint-step f s ih xs w k t e = go (begin-got _ _ w k t e)
  where
    more : ℤ → ℕ → OneRead
    more z u = on_literal (λ l t. constraint_from f s (xs ++ (times z l ∷ [])) (inside_at s t)) (inside_at s u)

    go : ((z : ℤ) × (p : ℕ) × (u : ℕ) × (w ≡ word (number_word z) p u) × (more z u ≡ found k t)) ⊎ ((r : Relation) × (p : ℕ) × (u : ℕ) × (w ≡ word (relation-word r) p u) × (constant_at s xs r u ≡ found k t)) → Rest s xs w k t
    go (inl (z, p, u, h, g)) =
        let (l, q, v, h₁, g₁) = literal-got _ (inside_at s u) k t g in
        let r : Rest s (xs ++ (times z l ∷ [])) (inside_at s v) k t = ih (xs ++ (times z l ∷ [])) (inside_at s v) k t g₁ in
        record {
          rest = times z l ∷ r.rest;
          relation = r.relation;
          constant = r.constant;
          all = r.all ∙ ap (λ (ys : List Summand). compare ys r.relation r.constant) (append_assoc xs (times z l ∷ []) r.rest);
          has = (p, u, h, (q, v, h₁, (from-inside s r.rest r.relation r.constant v t).0 r.has));
        }
    go (inr (r, p, u, h, g)) =
        let (z, q, v, h₁, g₁) = number-got _ (inside_at s u) k t g in
        let (o, x, h₂, g₂) = semicolon-got _ (inside_at s v) k t g₁ in
        let a : compare xs r z ≡ k = cc in
        let b : x ≡ t = cc in
        record {
          rest = [];
          relation = r;
          constant = z;
          all = sym a ∙ ap (λ (ys : List Summand). compare ys r z) (sym (append-nil xs));
          has = (p, u, h, (q, v, h₁, (o, x, h₂, b)));
        }

constraint-has : (f : ℕ) (s : List ℕ) (xs : List Summand) (w : OpbToken) (k : Constraint) (t : ℕ) → constraint_from f s xs w ≡ found k t → Rest s xs w k t
unfolding constraint_from
constraint-has zero s xs w k t e = absurd (fault-found e)
constraint-has (suc f) s xs w k t e = constraint-step f s (constraint-has f s) xs w k t e

-- a constraint that was read from the token behind blanks and comments has its words
pub whole_has : (f : ℕ) (s : List ℕ) (at : ℕ) (k : Constraint) (t : ℕ) → constraint_from f s [] (outside_at s at) ≡ found k t → HasConstraint s at (constraint_words k) t
whole_has f s at k t e =
    let r : Rest s [] (outside_at s at) k t = constraint-has f s [] (outside_at s at) k t e in
    subst (λ (j : Constraint). HasConstraint s at (constraint_words j) t) (sym r.all) ((from_outside s r.rest r.relation r.constant at t).0 r.has)

-- ---- texts
refused-constraints : {e p : ℕ} {ks : List Constraint} → refused_at e p ≡ constraints ks → ⊥
refused-constraints h = let z : ◌≡◌ {A = ℕ} 0 1 = cc in omega arith

one-got : (go : Constraint → ℕ → OpbRead) (p n c : ℕ) (o : OneRead) (ds : List Constraint) → on_one go p n c o ≡ constraints ds → (k : Constraint) × (t : ℕ) × (o ≡ found k t) × (go k t ≡ constraints ds) × (n + all_nodes (assumptions_of c k) ≤ max_nodes) × (c + length (assumptions_of c k) ≤ max_commands)
unfolding on_one
one-got go p n c (found k t) ds e = by (leb (n + all_nodes (assumptions_of c k)) max_nodes) (leb (c + length (assumptions_of c k)) max_commands) (leb→le _ _) (leb→le _ _) e
  where
    by : (a b : Bool) → (T a → n + all_nodes (assumptions_of c k) ≤ max_nodes) → (T b → c + length (assumptions_of c k) ≤ max_commands) → cond (a && b) (go k t) (refused_at 7 p) ≡ constraints ds →
        (j : Constraint) × (u : ℕ) × (found k t ≡ found j u) × (go j u ≡ constraints ds) × (n + all_nodes (assumptions_of c j) ≤ max_nodes) × (c + length (assumptions_of c j) ≤ max_commands)
    by true true f g e = (k, t, refl, e, f tt, g tt)
    by true false f g e = absurd (refused-constraints e)
    by false b f g e = absurd (refused-constraints e)
one-got go p n c (fault x q) ds e = absurd (refused-constraints e)

outside-got : (go : OpbToken → ℕ → OpbRead) (ks : List Constraint) (w : OpbToken) (ds : List Constraint) → on_outside go ks w ≡ constraints ds → ((p : ℕ) × (w ≡ ended p) × (ds ≡ ks)) ⊎ ((p : ℕ) × (go w p ≡ constraints ds))
unfolding on_outside
outside-got go ks (ended p) ds e = inl (p, refl, cc)
outside-got go ks (word w p t) ds e = inr (p, e)
outside-got go ks (wrong x p) ds e = absurd (refused-constraints e)

-- the constraints behind ks, up to the text's end
record All (s : List ℕ) (at n c : ℕ) (ks ds : List Constraint) : Type 0 where
  rest : List Constraint
  all : ds ≡ ks ++ rest
  spelled : ℕ
  size : ℕ
  has : HasConstraints s at rest spelled
  none : outside_at s spelled ≡ ended size
  room : n ≤ max_nodes → n + all_nodes (assumptions_behind c rest) ≤ max_nodes
  few : c ≤ max_commands → c + length (assumptions_behind c rest) ≤ max_commands

constraints-step : (f : ℕ) (s : List ℕ) → ((at n c : ℕ) (ks ds : List Constraint) → constraints_from f s at n c ks ≡ constraints ds → All s at n c ks ds) → (at n c : ℕ) (ks ds : List Constraint) → constraints_from (suc f) s at n c ks ≡ constraints ds → All s at n c ks ds
unfolding constraints_from HasConstraints assumptions_behind all_nodes
constraints-step f s ih at n c ks ds e = go (outside-got _ ks (outside_at s at) ds e)
  where
    next : ℕ → OpbRead
    next p = on_one (λ k t. constraints_from f s t (n + all_nodes (assumptions_of c k)) (c + length (assumptions_of c k)) (ks ++ (k ∷ []))) p n c (constraint_from enough s [] (outside_at s at))

    go : ((p : ℕ) × (outside_at s at ≡ ended p) × (ds ≡ ks)) ⊎ ((p : ℕ) × (next p ≡ constraints ds)) → All s at n c ks ds
    go (inl (p, h, g)) = record { rest = []; all = g ∙ sym (append-nil ks); spelled = at; size = p; has = refl; none = h; room = λ l. omega arith; few = λ l. omega arith }
    go (inr (p, g)) =
        let (k, t, h, g₁, a, b) = one-got _ p n c (constraint_from enough s [] (outside_at s at)) ds g in
        let cs : List Command = assumptions_of c k in
        let r : All s t (n + all_nodes cs) (c + length cs) (ks ++ (k ∷ [])) ds = ih t (n + all_nodes cs) (c + length cs) (ks ++ (k ∷ [])) ds g₁ in
        let more : List Command = assumptions_behind (c + length cs) r.rest in
        record {
          rest = k ∷ r.rest;
          all = r.all ∙ append_assoc ks (k ∷ []) r.rest;
          spelled = r.spelled;
          size = r.size;
          has = (t, whole_has enough s at k t h, r.has);
          none = r.none;
          room = λ l. omega (arith, nodes-append cs more, r.room a);
          few = λ l. omega (arith, length-append cs more, r.few b);
        }

constraints-has : (f : ℕ) (s : List ℕ) (at n c : ℕ) (ks ds : List Constraint) → constraints_from f s at n c ks ≡ constraints ds → All s at n c ks ds
unfolding constraints_from
constraints-has zero s at n c ks ds e = absurd (refused-constraints e)
constraints-has (suc f) s at n c ks ds e = constraints-step f s (constraints-has f s) at n c ks ds e

-- an OPB text that is read has the words of its constraints and no others, and keeps the limits
pub opb_faithful : (s : List ℕ) (ks : List Constraint) → read_opb s ≡ constraints ks → IsOpb s ks
unfolding read_opb assumptions
opb_faithful s ks e = go (leb (length s) max_text) (leb→le (length s) max_text) e
  where
    go : (c : Bool) → (T c → length s ≤ max_text) → cond c (constraints_from enough s 0 0 0 []) (refused_at 2 max_text) ≡ constraints ks → IsOpb s ks
    go true f e =
        let r : All s 0 0 0 [] ks = constraints-has enough s 0 0 0 [] ks e in
        subst (IsOpb s) (sym r.all) (record { short = f tt; nodes = omega (arith, r.room (omega arith)); commands = omega (arith, r.few (omega arith)); last = r.spelled; size = r.size; words = r.has; none = r.none })
    go false f e = absurd (refused-constraints e)
