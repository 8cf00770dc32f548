-- What a pushed id makes of the stack, from what its parts answer.
use mathlib.Core.Path.{◌≡◌, refl, sym, ap, subst, ◌∙◌}
use mathlib.Core.Bool.{Bool, true, false, cond}
use mathlib.Core.List.{List, [], ◌∷◌, map}
use Prim.Native.Nat.{ℕ, zero, suc, ◌+◌, ◌-◌, ◌≤◌, ◌<◌}
use native.Mathlib.Decide.{dec_lt}
use native.Mathlib.Omega.{arith}
use borrow.Author.Tests.{lt-ltb, le-ltb}
use lib.Dec.{T}
use lib.IntN.{ℤ, pos}
use lib.ListN.{length, get_or}
use Rattle.calculus.specs.Entries.{Entry, Inequality}
use Rattle.calculus.specs.Matching.{or_bad, is_name}
use Rattle.calculus.specs.Pol.{max_stack, max_literals, fits_entry, line_inequality, stacked, push}
use Rattle.calculus.specs.Sums.{unwrap_inequality, all_names}
use Rattle.calculus.specs.Terms.{Term, num}
use Rattle.calculus.specs.Words.{Res, ok, bad, bind, ensure}
use Rattle.nodes.specs.Nodes.{plus_kind, minus_kind, name_kind, kind_at, decode, Node}
use Rattle.nodes.proofs.Tables.{decode-application, decode-plus, decode-minus}
use Rattle.matching.specs.Entries.{entry_at, entries, Under, Variables, NamesAre}
use Rattle.matching.specs.Matched.{Text, term}
use Rattle.matching.specs.Places.{placed}
use Rattle.links.specs.Steps.{AllUnder}
use Rattle.sums.specs.Found.{InequalityIs}
use Rattle.sums.specs.Lists.{OverNames, res_of}
use Rattle.sums.specs.Places.{left_at, Elsewhere}
use Rattle.pol.specs.Stack.{window, count_of, stack_of, Stack, Stored, KeptIs, StackUnder}
use Rattle.pol.specs.Pushing.{LinePushed}
use Rattle.pol.proofs.Keeping.{stack_same, stored-count, stored-key, stored-entry, stored-stands, stored-coefficients, stored-keys, stored-stack}
use Rattle.pol.proofs.Ranges.{all-at, fits-few, fits-constant-within, fits-within}
use Rattle.pol.proofs.Windows.{window-still}
use Rattle.pol.proofs.Working.{stack-one, kept-fitting}

-- ---- the stack's height
pub stack-length : (f : ℕ → Term) (cs : List ℤ) (ks : List ℕ) (d : ℕ) → length (stack_of f cs ks d) ≡ d
unfolding stack_of
stack-length f cs ks zero = refl
stack-length f cs ks (suc d) = ap suc (stack-length f cs ks d)

-- a push on a full stack
pub push-full : (f : ℕ → Term) (cs : List ℤ) (ks : List ℕ) (d : ℕ) (r : Res Inequality) → max_stack ≤ d → push (stack_of f cs ks d) r ≡ bad 52
unfolding push ensure
push-full f cs ks d r h = rw (stack-length f cs ks d, le-ltb d max_stack h)

-- a push where there is room
pub push-room : (f : ℕ → Term) (cs : List ℤ) (ks : List ℕ) (d : ℕ) (r : Res Inequality) → d < max_stack → push (stack_of f cs ks d) r ≡ bind r (stacked (stack_of f cs ks d))
unfolding push ensure
push-room f cs ks d r h = rw (stack-length f cs ks d, lt-ltb d max_stack h)

-- ---- keys over names
-- what is read as a name is one
name-kind : {t : List ℕ} {v : ℕ} → Node t v → is_name (decode [] t v) ≡ true → name_kind ≤ kind_at t v
unfolding is_name
name-kind {t} {v} N e = go (dec_lt (kind_at t v) plus_kind) (dec_lt (kind_at t v) minus_kind) (dec_lt (kind_at t v) name_kind)
  where
    never : {A : Type 0} → false ≡ true → A
    never q = absurd (subst (λ (b : Bool). cond b ⊥ Unit) q tt)

    go : Dec (kind_at t v < plus_kind) → Dec (kind_at t v < minus_kind) → Dec (kind_at t v < name_kind) → name_kind ≤ kind_at t v
    go (yes h) a b = never (sym (ap is_name (decode-application N.table [] v N.below h)) ∙ e)
    go (no h) (yes a) b = never (sym (ap is_name (decode-plus N.table [] v N.below (omega arith))) ∙ e)
    go (no h) (no a) (yes b) = never (sym (ap is_name (decode-minus N.table [] v N.below (omega arith))) ∙ e)
    go (no h) (no a) (no b) = omega arith

over-names : {t : List ℕ} (ks : List ℕ) {n : ℕ} → NamesAre t ks n true → Variables t ks n → OverNames t ks n
unfolding all_names
over-names {t} ks {n} N W i h =
    let z : 0 + i ≡ i = omega arith in
    name-kind (W i h) (rw z at (all-at (λ (e : Entry). is_name e.lit.variable) (entry_at (decode [] t) [] ks) 0 n i (sym (N [] [])) h))

-- ---- a clause as a pushed id
-- of no term or of several
pub line-none : (f : ℕ → Term) (l : List ℕ) → (length l ≡ 1 → ⊥) → line_inequality (map f l) ≡ bad 54
unfolding line_inequality
line-none f [] h = refl
line-none f (a ∷ []) h = absurd (h refl)
line-none f (a ∷ (b ∷ l)) h = refl

-- of one term
pub line-one : (f : ℕ → Term) (l : List ℕ) → length l ≡ 1 → line_inequality (map f l) ≡ bind (or_bad 54 (unwrap_inequality (f (get_or l 0 0)))) (λ q. ensure (all_names q.sum) 54 (ok q))
unfolding line_inequality
line-one f [] h = let z : ⊥ = omega arith in absurd z
line-one f (a ∷ []) h = refl
line-one f (a ∷ (b ∷ l)) h = let z : ⊥ = omega arith in absurd z

-- a push that fails leaves nothing
refused : {t l : List ℕ} {cs bs : List ℤ} {ks js : List ℕ} {d n : ℕ} → ((x : Text t) → StackUnder x.n ks d → AllUnder x.n l → push (stack_of (term x) cs ks d) (line_inequality (map (term x) l)) ≡ bad (suc n)) → LinePushed t l cs ks d bs js (suc n)
unfolding res_of
refused f = record { is = f; stack = λ e. let z : ⊥ = omega arith in absurd z; under = λ e. let z : ⊥ = omega arith in absurd z }

pub pushed_full : (t l : List ℕ) (cs : List ℤ) (ks : List ℕ) (d : ℕ) → max_stack ≤ d → LinePushed t l cs ks d cs ks 52
pushed_full t l cs ks d h = refused (λ x U B. push-full (term x) cs ks d (line_inequality (map (term x) l)) h)

module _ (t l : List ℕ) (cs : List ℤ) (ks : List ℕ) (d : ℕ) (low : d < max_stack) where
  failing : (x : Text t) → line_inequality (map (term x) l) ≡ bad 54 → push (stack_of (term x) cs ks d) (line_inequality (map (term x) l)) ≡ bad 54
  unfolding bind
  failing x e = push-room (term x) cs ks d (line_inequality (map (term x) l)) low ∙ rw e

  pub pushed_none : (length l ≡ 1 → ⊥) → LinePushed t l cs ks d cs ks 54
  pushed_none h = refused (λ x U B. failing x (line-none (term x) l h))

  module _ (one : length l ≡ 1) where
    pub pushed_unread : {number : ℕ} → ((x : Text t) → get_or l 0 0 < x.n → unwrap_inequality (term x (get_or l 0 0)) ≡ bad number) → {bs : List ℤ} {js : List ℕ} → LinePushed t l cs ks d bs js 54
    unfolding bind or_bad
    pushed_unread R = refused {l = l} (λ x U B. failing x (line-one (term x) l one ∙ rw (R x (B 0 (omega arith)))))

    module _ {us : List ℤ} {vs sl : List ℕ} {n : ℕ} {c : ℤ} (Q : InequalityIs t (get_or l 0 0) c us vs sl n) where
      read : (x : Text t) → AllUnder x.n l → line_inequality (map (term x) l) ≡ ensure (all_names (entries (term x) us vs n)) 54 (ok (record { sum = entries (term x) us vs n; const = c }))
      unfolding bind or_bad
      read x B = line-one (term x) l one ∙ rw (Q.is x (B 0 (omega arith)))

      pub pushed-other : {bs : List ℤ} {js : List ℕ} {b : Bool} → NamesAre t vs n b → b ≡ false → LinePushed t l cs ks d bs js 54
      unfolding ensure
      pushed-other N e = refused (λ x U B. failing x (read x B ∙ rw (← N x.text us, e)))

  -- over names, and kept or too large
  module _ (one : length l ≡ 1) {sl tl ml : List ℕ} {bs ds : List ℤ} {js ls : List ℕ} {n r : ℕ} {c : ℤ} (Q : InequalityIs t (get_or l 0 0) c (placed left_at bs) (placed left_at js) ml n) (E : Elsewhere left_at cs ks sl bs js tl)
      (N : NamesAre t (placed left_at js) n true) (K : Stack t cs ks d) (P : KeptIs bs js left_at left_at n c d ds ls r) where
    coefficients : (e : ℕ) → window e bs ≡ window e cs
    coefficients e = window-still (pos 0) e (omega arith) E.coefficients

    keys : (e : ℕ) → window e js ≡ window e ks
    keys e = window-still 0 e (omega arith) E.keys

    -- the stack before the new entry
    before : Stack t bs js d
    before = record { few = K.few; coefficients = omega (arith, K.coefficients, E.coefficients.long); keys = omega (arith, K.keys, E.keys.long); each = λ e h. rw (coefficients e, keys e) (K.each e h) }

    module _ (zero_is : r ≡ 0) where
      fitting : T (fits_entry (record { sum = entries (λ i. num (pos 0)) (placed left_at bs) [] n; const = c }))
      fitting = kept-fitting (placed left_at bs) n c (sym (P.number (λ i. num (pos 0)) []) ∙ zero_is)

      few : n ≤ max_literals
      few = fits-few (placed left_at bs) n c fitting

      stored : Stored bs js left_at left_at n c d ds ls
      stored = P.stored zero_is

      below : (e : ℕ) → e < d → window e ds ≡ window e cs
      below e h = stored-coefficients stored few low before.coefficients before.keys e h ∙ coefficients e

      under : (e : ℕ) → e < d → window e ls ≡ window e ks
      under e h = stored-keys stored few low before.coefficients before.keys e h ∙ keys e

      line-stack : Stack t ds ls (d + 1)
      line-stack =
          stored-stack stored few low before.coefficients before.keys (omega arith) before
          (stored-stands stored few Q.fine.literals (over-names (placed left_at js) N (λ i h. (Q.fine.literals i h).node)) (fits-within (placed left_at bs) n c fitting) (fits-constant-within (placed left_at bs) n c fitting))

      line-under : (m : ℕ) → StackUnder m ks d → AllUnder m l → StackUnder m ls (d + 1)
      line-under m U B e h = go (dec_lt e d)
        where
          go : Dec (e < d) → Under m (window e ls) (count_of (window e ls))
          go (yes q) = rw (under e q) (U e q)
          go (no q) =
              let z : e ≡ d = omega arith in
              rw z (λ i g. let k : i < n = omega (arith, stored-count stored few) in rw (stored-key stored few i k) (omega (arith, Q.under i k, B 0 (omega arith))))

    pub pushed-kept : LinePushed t l cs ks d ds ls r
    unfolding bind or_bad res_of stacked ensure
    pushed-kept = record {
      is = λ x U B. push-room (term x) cs ks d (line_inequality (map (term x) l)) low ∙ rw (line-one (term x) l one, Q.is x (B 0 (omega arith)), ← N x.text (placed left_at bs)) (go x (fits_entry (made x)) refl);
      stack = line-stack;
      under = line-under;
    }
      where
        made : Text t → Inequality
        made x = record { sum = entries (term x) (placed left_at bs) (placed left_at js) n; const = c }

        go : (x : Text t) (b : Bool) → fits_entry (made x) ≡ b → ensure (fits_entry (made x)) 53 (ok (made x ∷ stack_of (term x) cs ks d)) ≡ res_of r (stack_of (term x) ds ls (d + 1))
        go x true e =
            let q : r ≡ 0 = P.number (term x) (placed left_at js) ∙ ap (λ (b : Bool). cond b 0 53) e in
            let n : d + 1 - 1 ≡ d = omega arith in
            rw (e, q, stack-one (term x) ds ls (d + 1) (omega arith), n, stored-entry (stored q) (few q) (term x), stack_same (term x) cs ds ks ls d (below q) (under q))
        go x false e =
            let q : r ≡ 53 = P.number (term x) (placed left_at js) ∙ ap (λ (b : Bool). cond b 0 53) e in
            rw (e, q)
