-- What a successful step of the reader tells about the token that it read.
use mathlib.Core.Path.{◌≡◌, refl, sym, ap, ap₂, subst, ◌∙◌}
use mathlib.Core.Bool.{Bool, true, false, not, cond, ◌&&◌}
use mathlib.Core.List.{List, [], ◌∷◌}
use mathlib.Core.Logic.{◌⊎◌, inl, inr}
use Prim.Native.Nat.{ℕ, zero, suc, ◌+◌, ◌<◌, ◌≤◌}
use native.Mathlib.Omega.{arith}
use lib.Dec.{T, eqb→eq, leb, ltb, ltb→lt}
use Rattle.calculus.specs.Grammar.{mark_of, Reads, got, off, then, mark_number, same_mark, on_mark, on_option, on_name, on_close, Head, leaf, stop, limited, on_operator, on_term, on_head, on_item}
use Rattle.calculus.specs.Terms.{Op, Term, num, var}
use Rattle.calculus.specs.Words.{Mark, opening, closing, cl-word, assume-word, step-word, rule-word, premises-word, args-word, Word, mark, operator, numeral, name, negated-name}
use Rattle.calculus.specs.Tokens.{Token, ended, word, wrong, token_at}
use Rattle.calculus.specs.Limits.{max_depth, max_nodes, nodes, fits}
use Rattle.calculus.specs.Writing.{term_words}

mark-back : (m : Mark) → mark_of (mark_number m) ≡ m
unfolding mark_of mark_number
mark-back opening = refl
mark-back closing = refl
mark-back cl-word = refl
mark-back assume-word = refl
mark-back step-word = refl
mark-back rule-word = refl
mark-back premises-word = refl
mark-back args-word = refl

pub same_mark-eq : (a b : Mark) → T (same_mark a b) → a ≡ b
unfolding same_mark
same_mark-eq a b t = sym (mark-back a) ∙ ap mark_of (eqb→eq (mark_number a) (mark_number b) t) ∙ mark-back b

pub off-got : {A : Type 0} {e p t n : ℕ} {a : A} → off e p ≡ got a t n → ⊥
off-got e = let z : ◌≡◌ {A = ℕ} 0 1 = cc in omega arith

pub got-value : {A : Type 0} {a b : A} {t u n m : ℕ} → got a t n ≡ got b u m → a ≡ b
got-value e = cc

pub got-place : {A : Type 0} {a b : A} {t u n m : ℕ} → got a t n ≡ got b u m → t ≡ u
got-place e = cc

pub got-nodes : {A : Type 0} {a b : A} {t u n m : ℕ} → got a t n ≡ got b u m → n ≡ m
got-nodes e = cc

pub then-got : {A B : Type 0} (r : Reads A) (k : A → ℕ → ℕ → Reads B) (b : B) (t n : ℕ) → then r k ≡ got b t n → (a : A) × (u : ℕ) × (m : ℕ) × (r ≡ got a u m) × (k a u m ≡ got b t n)
unfolding then
then-got (got a u m) k b t n e = (a, u, m, refl, e)
then-got (off x p) k b t n e = absurd (off-got e)

-- the mark m stood there, and what follows it was read
pub mark-got : {A : Type 0} (m : Mark) (k : ℕ → Reads A) (w : Token) (a : A) (t n : ℕ) → on_mark m k w ≡ got a t n → (p : ℕ) × (u : ℕ) × (w ≡ word (mark m) p u) × (k u ≡ got a t n)
unfolding on_mark
mark-got m k (ended p) a t n e = absurd (off-got e)
mark-got {A} m k (word (mark b) p u) a t n e = go (same_mark b m) (same_mark-eq b m) e
  where
    go : (c : Bool) → (T c → b ≡ m) → cond c (k u) (off 6 p) ≡ got a t n → (p' : ℕ) × (u' : ℕ) × (word (mark b) p u ≡ word (mark m) p' u') × (k u' ≡ got a t n)
    go true f e = (p, u, ap (λ (x : Mark). word (mark x) p u) (f tt), e)
    go false f e = absurd (off-got e)
mark-got m k (word (operator o) p u) a t n e = absurd (off-got e)
mark-got m k (word (numeral z) p u) a t n e = absurd (off-got e)
mark-got m k (word (name x) p u) a t n e = absurd (off-got e)
mark-got m k (word (negated-name x) p u) a t n e = absurd (off-got e)
mark-got m k (wrong x p) a t n e = absurd (off-got e)

pub option-got : {A : Type 0} (m : Mark) (k : ℕ → Reads A) (r : Reads A) (w : Token) (a : A) (t n : ℕ) → on_option m k r w ≡ got a t n → ((p : ℕ) × (u : ℕ) × (w ≡ word (mark m) p u) × (k u ≡ got a t n)) ⊎ (r ≡ got a t n)
unfolding on_option
option-got m k r (ended p) a t n e = inr e
option-got m k r (word (mark b) p u) a t n e = go (same_mark b m) (same_mark-eq b m) e
  where
    go : (c : Bool) → (T c → b ≡ m) → cond c (k u) r ≡ got a t n → ((p' : ℕ) × (u' : ℕ) × (word (mark b) p u ≡ word (mark m) p' u') × (k u' ≡ got a t n)) ⊎ (r ≡ got a t n)
    go true f e = inl (p, u, ap (λ (x : Mark). word (mark x) p u) (f tt), e)
    go false f e = inr e
option-got m k r (word (operator o) p u) a t n e = inr e
option-got m k r (word (numeral z) p u) a t n e = inr e
option-got m k r (word (name x) p u) a t n e = inr e
option-got m k r (word (negated-name x) p u) a t n e = inr e
option-got m k r (wrong x p) a t n e = inr e

pub name-got : {A : Type 0} (k : List ℕ → ℕ → ℕ → Reads A) (w : Token) (a : A) (t n : ℕ) → on_name k w ≡ got a t n → (x : List ℕ) × (p : ℕ) × (u : ℕ) × (w ≡ word (name x) p u) × (k x p u ≡ got a t n)
unfolding on_name
name-got k (ended p) a t n e = absurd (off-got e)
name-got k (word (mark b) p u) a t n e = absurd (off-got e)
name-got k (word (operator o) p u) a t n e = absurd (off-got e)
name-got k (word (numeral z) p u) a t n e = absurd (off-got e)
name-got k (word (name x) p u) a t n e = (x, p, u, refl, e)
name-got k (word (negated-name x) p u) a t n e = absurd (off-got e)
name-got k (wrong x p) a t n e = absurd (off-got e)

pub cond-got : {A : Type 0} (c : Bool) (e p : ℕ) (r : Reads A) (a : A) (t n : ℕ) → cond c (off e p) r ≡ got a t n → T (not c) × (r ≡ got a t n)
cond-got true e p r a t n h = absurd (off-got h)
cond-got false e p r a t n h = (tt, h)

pub cond_not : {A : Type 0} (c : Bool) (e p : ℕ) (r : Reads A) (a : A) (t n : ℕ) → cond c r (off e p) ≡ got a t n → T c × (r ≡ got a t n)
cond_not true e p r a t n h = (tt, h)
cond_not false e p r a t n h = absurd (off-got h)

close-is : (w : Token) (t : ℕ) → on_close w ≡ suc t → (p : ℕ) × (w ≡ word (mark closing) p (suc t))
unfolding on_close
close-is (ended p) t e = let z : ⊥ = omega arith in absurd z
close-is (word (mark b) p u) t e = go (same_mark b closing) (same_mark-eq b closing) e
  where
    go : (c : Bool) → (T c → b ≡ closing) → cond c u 0 ≡ suc t → (q : ℕ) × (word (mark b) p u ≡ word (mark closing) q (suc t))
    go true f e = (p, ap₂ (λ (x : Mark) (y : ℕ). word (mark x) p y) (f tt) e)
    go false f e = let z : ⊥ = omega arith in absurd z
close-is (word (operator o) p u) t e = let z : ⊥ = omega arith in absurd z
close-is (word (numeral y) p u) t e = let z : ⊥ = omega arith in absurd z
close-is (word (name x) p u) t e = let z : ⊥ = omega arith in absurd z
close-is (word (negated-name x) p u) t e = let z : ⊥ = omega arith in absurd z
close-is (wrong x p) t e = let z : ⊥ = omega arith in absurd z

-- the closing bracket stood there and the items are all; or one more was read
pub item-got : {A : Type 0} (k : Reads (List A)) (xs : List A) (n : ℕ) (w : Token) (ys : List A) (t m : ℕ) → on_item k xs n (on_close w) ≡ got ys t m → ((p : ℕ) × (w ≡ word (mark closing) p t) × (ys ≡ xs) × (m ≡ n)) ⊎ (k ≡ got ys t m)
unfolding on_item
item-got k xs n w ys t m e = go (on_close w) refl e
  where
    go : (c : ℕ) → on_close w ≡ c → on_item k xs n c ≡ got ys t m → ((p : ℕ) × (w ≡ word (mark closing) p t) × (ys ≡ xs) × (m ≡ n)) ⊎ (k ≡ got ys t m)
    go zero q e = inr e
    go (suc u) q e = let (p, h) = close-is w u q in inl (p, cc, cc, cc)

-- ---- how a term begins
pub data Begun (s : List ℕ) (k : Op → ℕ → Reads Term) (l n : ℕ) (w : Token) (x : Term) (t m : ℕ) : Type 0 where
  a-leaf : (v : Word) (p : ℕ) → w ≡ word v p t → term_words x ≡ v ∷ [] → T (fits l x) → m ≡ n + nodes x → m ≤ max_nodes → Begun s k l n w x t m
  an-app : (o : Op) (p u q v : ℕ) → w ≡ word (mark opening) p u → token_at s u ≡ word (operator o) q v → k o v ≡ got x t m → T (leb l max_depth) → n < max_nodes → Begun s k l n w x t m

operator-got : (k : Op → ℕ → Reads Term) (n : ℕ) (w : Token) (x : Term) (t m : ℕ) → on_head k n (on_operator w) ≡ got x t m → (o : Op) × (q : ℕ) × (v : ℕ) × (w ≡ word (operator o) q v) × (k o v ≡ got x t m)
unfolding on_operator on_head
operator-got k n (ended p) x t m e = absurd (off-got e)
operator-got k n (word (mark b) p u) x t m e = absurd (off-got e)
operator-got k n (word (operator o) p u) x t m e = (o, p, u, refl, e)
operator-got k n (word (numeral z) p u) x t m e = absurd (off-got e)
operator-got k n (word (name y) p u) x t m e = absurd (off-got e)
operator-got k n (word (negated-name y) p u) x t m e = absurd (off-got e)
operator-got k n (wrong y p) x t m e = absurd (off-got e)

limited-got : (k : Op → ℕ → Reads Term) (l n p : ℕ) (h : Head) (x : Term) (t m : ℕ) → on_head k n (limited l n p h) ≡ got x t m → T (leb l max_depth) × (n < max_nodes) × (on_head k n h ≡ got x t m)
unfolding limited on_head
limited-got k l n p h x t m e = go (leb l max_depth) (ltb n max_nodes) (ltb→lt n max_nodes) e
  where
    go : (c d : Bool) → (T d → n < max_nodes) → on_head k n (cond (c && d) h (stop 7 p)) ≡ got x t m → T c × (n < max_nodes) × (on_head k n h ≡ got x t m)
    go true true f e = (tt, f tt, e)
    go true false f e = absurd (off-got e)
    go false d f e = absurd (off-got e)

leaf-begun : (s : List ℕ) (k : Op → ℕ → Reads Term) (l n p u : ℕ) (y : Term) (v : Word) (x : Term) (t m : ℕ) → got y u (suc n) ≡ got x t m → term_words y ≡ v ∷ [] → T (fits l y) → nodes y ≡ 1 → n < max_nodes → Begun s k l n (word v p u) x t m
leaf-begun s k l n p u y v x t m h e f c r =
    let a : y ≡ x = got-value h in
    let b : u ≡ t = got-place h in
    let i : suc n ≡ m = got-nodes h in
    let j : nodes x ≡ 1 = ap nodes (sym a) ∙ c in
    a-leaf v p (ap (word v p) b) (ap term_words (sym a) ∙ e) (subst (λ (z : Term). T (fits l z)) a f) (omega arith) (omega arith)

pub head-got : (s : List ℕ) (k : Op → ℕ → Reads Term) (l n : ℕ) (w : Token) (x : Term) (t m : ℕ) → on_head k n (on_term s l n w) ≡ got x t m → Begun s k l n w x t m
unfolding on_term on_head
head-got s k l n (ended p) x t m e = absurd (off-got e)
head-got s k l n (word (mark b) p u) x t m e = go (same_mark b opening) (same_mark-eq b opening) e
  where
    go : (c : Bool) → (T c → b ≡ opening) → on_head k n (cond c (limited l n p (on_operator (token_at s u))) (stop 6 p)) ≡ got x t m → Begun s k l n (word (mark b) p u) x t m
    go true f e =
        let (d, r, i) = limited-got k l n p (on_operator (token_at s u)) x t m e in
        let (o, q, v, h, g) = operator-got k n (token_at s u) x t m i in
        an-app o p u q v (ap (λ (y : Mark). word (mark y) p u) (f tt)) h g d r
    go false f e = absurd (off-got e)
head-got s k l n (word (operator o) p u) x t m e = absurd (off-got e)
head-got s k l n (word (numeral z) p u) x t m e =
    let (d, r, h) = limited-got k l n p (leaf (num z) u) x t m e in
    leaf-begun s k l n p u (num z) (numeral z) x t m h (unfold term_words in refl) (unfold fits in d) (unfold nodes in refl) r
head-got s k l n (word (name y) p u) x t m e =
    let (d, r, h) = limited-got k l n p (leaf (var y) u) x t m e in
    leaf-begun s k l n p u (var y) (name y) x t m h (unfold term_words in refl) (unfold fits in d) (unfold nodes in refl) r
head-got s k l n (word (negated-name y) p u) x t m e = absurd (off-got e)
head-got s k l n (wrong y p) x t m e = absurd (off-got e)
