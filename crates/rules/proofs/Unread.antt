-- Inequalities that were all looked at and not all read: the first refusal is the rule's.
use mathlib.Core.Path.{◌≡◌, ap, ◌∙◌}
use mathlib.Core.Bool.{Bool}
use mathlib.Core.List.{List}
use Prim.Native.Nat.{ℕ, ◌<◌}
use native.Mathlib.Omega.{arith}
use lib.IntN.{ℤ}
use Rattle.calculus.specs.Entries.{Inequality}
use Rattle.calculus.specs.Sums.{unwrap_inequality}
use Rattle.calculus.specs.Words.{Res, ok, bad, bind}
use Rattle.matching.specs.Matched.{refusal_number, Text, term}
use Rattle.matching.specs.declared.Refusal.{Refusal}
use Rattle.matching.specs.Places.{placed, Apart}
use Rattle.matching.proofs.Checks.{bind-of, bind-bad}
use Rattle.std.specs.Prelude.{Result, Ok, Err}
use Rattle.sums.specs.Found.{InequalityAt}
use Rattle.sums.specs.Places.{slotted, left_at, right_at, conclusion_at, Aside, Rooms, Elsewhere}
use Rattle.sums.specs.declared.Inequality.{Inequality as Read}
use Rattle.sums.proofs.Places.{sum-still, rooms-still, conclusion-aside, right-aside}
use Rattle.rules.specs.Checked.{OneRead, FirstOf, TwoUnread, TwoAt, ThreeUnread, ThreeAt, add_terms}
use Rattle.rules.proofs.Adding.{three-first, three-second, three-third}

-- ---- what reading at a place leaves there
one-read : (t : List ℕ) (i at : ℕ) (cs : List ℤ) (ks sl : List ℕ) (ds : List ℤ) (ls tl : List ℕ) (r : Result Read Refusal)
    → InequalityAt t i at cs ks sl ds ls tl r → OneRead t i r (placed at ds) (placed at ls) (slotted at tl) × Elsewhere at cs ks sl ds ls tl
one-read t i at cs ks sl ds ls tl (Ok r) I = I
one-read t i at cs ks sl ds ls tl (Err e) I = I

-- under a later write elsewhere
module _ {at : ℕ} {cs ds : List ℤ} {ks ls sl tl : List ℕ} (E : Elsewhere at cs ks sl ds ls tl) (t : List ℕ) (i : ℕ) (r : Result Read Refusal) (b : ℕ) (f : Apart at b) where
  one-still : Aside at b → OneRead t i r (placed b cs) (placed b ks) (slotted b sl) → OneRead t i r (placed b ds) (placed b ls) (slotted b tl)
  one-still g I = sum-still E (λ us vs ws. OneRead t i r us vs ws) b f g I

  -- whose slots may have been written since
  one-past : (past : List ℕ) → OneRead t i r (placed b cs) (placed b ks) past → OneRead t i r (placed b ds) (placed b ls) past
  one-past past I = rw (E.coefficients.there b f, E.keys.there b f) I

-- ---- two and three, one behind the other
module _ (t : List ℕ) (a : ℕ) (cs : List ℤ) (ks sl : List ℕ) (ds : List ℤ) (ls tl : List ℕ) (p : Result Read Refusal) (P : InequalityAt t a left_at cs ks sl ds ls tl p) where
  pub two-unread : (c : ℕ) (es : List ℤ) (ms ul : List ℕ) (q : Result Read Refusal) → InequalityAt t c conclusion_at ds ls tl es ms ul q → Rooms t cs ks sl
      → (e : Refusal) → FirstOf e p (FirstOf e q ⊥) → TwoAt t a c es ms ul (Err e)
  two-unread c es ms ul q Q R e n =
      let I = one-read t a left_at cs ks sl ds ls tl p P in
      let J = one-read t c conclusion_at ds ls tl es ms ul q Q in
      (record { p = p; q = q; first = one-still J.1 t a p left_at (λ i j a b z. omega arith) conclusion-aside I.0; second = J.0; number = n }, rooms-still J.1 (rooms-still I.1 R))

  pub three-unread : (b : ℕ) (es : List ℤ) (ms ul : List ℕ) (q : Result Read Refusal) → InequalityAt t b right_at ds ls tl es ms ul q
      → (c : ℕ) (fs : List ℤ) (ns vl : List ℕ) (o : Result Read Refusal) → InequalityAt t c conclusion_at es ms ul fs ns vl o → Rooms t cs ks sl
      → (e : Refusal) → FirstOf e p (FirstOf e q (FirstOf e o ⊥)) → ThreeAt t a b c fs ns vl (Err e)
  three-unread b es ms ul q Q c fs ns vl o O R e n =
      let I = one-read t a left_at cs ks sl ds ls tl p P in
      let J = one-read t b right_at ds ls tl es ms ul q Q in
      let K = one-read t c conclusion_at es ms ul fs ns vl o O in (
        record {
          p = p;
          q = q;
          o = o;
          past = slotted right_at ul;
          left = one-still K.1 t a p left_at (λ i j a b z. omega arith) conclusion-aside (one-still J.1 t a p left_at (λ i j a b z. omega arith) right-aside I.0);
          right = one-past K.1 t b q right_at (λ i j a b z. omega arith) (slotted right_at ul) J.0;
          conclusion = K.0;
          number = n;
        },
        rooms-still K.1 (rooms-still J.1 (rooms-still I.1 R)),
      )

-- ---- what they make of a rule
-- the first of them
first-refused : (t : List ℕ) (i : ℕ) (cs : List ℤ) (ks sl : List ℕ) (r : Result Read Refusal) (e : Refusal) (others : Type 0) → OneRead t i r cs ks sl → FirstOf e r others
    → (f : Inequality → Res Bool) → ((A : Inequality) → others → f A ≡ bad (refusal_number e)) → (x : Text t) → i < x.n → bind (unwrap_inequality (term x i)) f ≡ bad (refusal_number e)
first-refused t i cs ks sl (Ok r) e others I F f g x u = bind-of _ _ _ (I.is x u) ∙ g _ F
first-refused t i cs ks sl (Err d) e others I F f g x u = bind-bad _ _ _ (I x u ∙ ap (λ (z : Refusal). bad (refusal_number z)) F)

pub two-refused : {t : List ℕ} {a c : ℕ} {e : Refusal} {cs : List ℤ} {ks sl : List ℕ} {ds : List ℤ} {ls tl : List ℕ} → TwoUnread t a c e cs ks sl ds ls tl → (x : Text t) → a < x.n → c < x.n
    → (rest : Inequality → Inequality → Res Bool) → bind (unwrap_inequality (term x a)) (λ (A : Inequality). bind (unwrap_inequality (term x c)) (λ (C : Inequality). rest A C)) ≡ bad (refusal_number e)
two-refused U x u v rest = first-refused _ _ _ _ _ U.p _ _ U.first U.number _ (λ A n. first-refused _ _ _ _ _ U.q _ _ U.second n _ (λ C z. absurd z) x v) x u

pub add-refused : {t : List ℕ} {a b c : ℕ} {e : Refusal} {cs : List ℤ} {ks sl : List ℕ} {ds : List ℤ} {ls : List ℕ} {es : List ℤ} {ms ul : List ℕ} → ThreeUnread t a b c e cs ks sl ds ls es ms ul
    → (x : Text t) → a < x.n → b < x.n → c < x.n → add_terms (term x a) (term x b) (term x c) ≡ bad (refusal_number e)
add-refused {t} {a} {b} {c} {e} {cs} {ks} {sl} {ds} {ls} {es} {ms} {ul} U x u v w = first U.p U.left U.number
  where
    third : (o : Result Read Refusal) → OneRead t c o es ms ul → FirstOf e o ⊥ → {L M : Inequality} → unwrap_inequality (term x a) ≡ ok L → unwrap_inequality (term x b) ≡ ok M
        → add_terms (term x a) (term x b) (term x c) ≡ bad (refusal_number e)
    third (Ok r) K n f g = absurd n
    third (Err d) K n f g = three-third (term x a) (term x b) (term x c) f g (K x w ∙ ap (λ (z : Refusal). bad (refusal_number z)) n)

    second : (q : Result Read Refusal) → OneRead t b q ds ls U.past → FirstOf e q (FirstOf e U.o ⊥) → {L : Inequality} → unwrap_inequality (term x a) ≡ ok L
        → add_terms (term x a) (term x b) (term x c) ≡ bad (refusal_number e)
    second (Ok r) J n f = third U.o U.conclusion n f (J.is x v)
    second (Err d) J n f = three-second (term x a) (term x b) (term x c) f (J x v ∙ ap (λ (z : Refusal). bad (refusal_number z)) n)

    first : (p : Result Read Refusal) → OneRead t a p cs ks sl → FirstOf e p (FirstOf e U.q (FirstOf e U.o ⊥)) → add_terms (term x a) (term x b) (term x c) ≡ bad (refusal_number e)
    first (Ok r) I n = second U.q U.right n (I.is x u)
    first (Err d) I n = three-first (term x a) (term x b) (term x c) (I x u ∙ ap (λ (z : Refusal). bad (refusal_number z)) n)
