-- A refusal of a file has a number from 2 to 8 and a byte within the text: the steps `enough` never run out.
use mathlib.Core.Path.{◌≡◌, refl, subst}
use mathlib.Core.Bool.{Bool, true, false, not, cond, ◌&&◌}
use mathlib.Core.List.{List, [], ◌∷◌, ◌++◌}
use Prim.Native.Nat.{ℕ, zero, suc, ◌+◌, ◌-◌, ◌*◌, ◌≤◌, ◌<◌}
use native.Mathlib.Omega.{arith}
use lib.Dec.{T, eqb, leb, ltb, leb→le, nleb→lt}
use lib.IntN.{ℤ, pos}
use lib.ListN.{length, take, drop, length-drop}
use Rattle.calculus.specs.Bytes.{is_blank, in_word, class_of, opens, closes, bytes}
use Rattle.calculus.specs.Commands.{enough, new_id, premise, premises, premises_at, args_at, rule_among, rule_of, on_rule, rule_at, assume_at, step_at, command_at, Read, whole, refused, begin, halt, on_lead, lead_at, on_command, on_read, commands, read_behind, read_file, pol_at, pol_or}
use Rattle.calculus.specs.Grammar.{Reads, got, off, then, same_mark, on_mark, expect, on_option, on_name, name_at, close_at, Head, leaf, stop, limited, on_operator, on_term, head_at, on_head, on_item, term, items}
use Rattle.calculus.specs.Terms.{Op, Term, num, var, app, same_name, Rule, Command, rule_text, add, mul, PolWord, line_word, plain_word, negated_word, plus-word, saturate-word, times-word, over_word}
use Rattle.calculus.specs.Words.{Res, ok, bad, bind, ensure, Mark, opening, closing, cl-word, assume-word, step-word, rule-word, premises-word, args-word, Word, mark, operator, numeral, name, word_of, word_text, fixed_or, fixed_words, name_of, is_name_text, max_name, numeral_first, numeral_of, magnitude, negative, digits, leading_zero, value_from, max_numeral, negated-name, behind_tilde, tilde_first}
use Rattle.calculus.specs.Tokens.{Token, ended, word, wrong, token_at, token_from, token_behind, span, judged}
use Rattle.calculus.specs.Limits.{max_nodes, max_depth, max_text, max_commands, known, all_nodes, max_pols, pol_lines}
use Rattle.calculus.specs.Writing.{term_words, pol_word}
use Rattle.calculus.specs.Equality.{same_op}
use Rattle.calculus.specs.PolGrammar.{on_named, on_factor, named_word, on_word, word_at, more_words, words_at}
use Rattle.theorems.proofs.Faithful.{Took, More, written}
use Rattle.theorems.proofs.FaithfulPol.{TookWord, word_at-has}
use Rattle.theorems.proofs.FaithfulFile.{premise-got, premises_at-has, args_at-has, Stands, command_at-has}
use Rattle.calculus.proofs.Tokens.{token-later, has-long, has-inside, span-le}

-- ---- numbers of words
NumberIn : {A : Type 0} → ℕ → ℕ → Res A → Type 0
NumberIn low high (ok a) = Unit {0}
NumberIn low high (bad n) = (low ≤ n) × (n ≤ high)

ensure-in : {A : Type 0} (low high : ℕ) (c : Bool) (n : ℕ) (r : Res A) → low ≤ n → n ≤ high → NumberIn low high r → NumberIn low high (ensure c n r)
unfolding NumberIn ensure
ensure-in low high true n r h k i = i
ensure-in low high false n r h k i = (h, k)

bind-in : {A B : Type 0} (low high : ℕ) (r : Res A) (f : A → Res B) → NumberIn low high r → ((a : A) → NumberIn low high (f a)) → NumberIn low high (bind r f)
unfolding NumberIn bind
bind-in low high (ok a) f h k = k a
bind-in low high (bad n) f h k = h

cond_in : {A : Type 0} (low high : ℕ) (c : Bool) (r q : Res A) → NumberIn low high r → NumberIn low high q → NumberIn low high (cond c r q)
cond_in low high true r q h k = h
cond_in low high false r q h k = k

magnitude-in : (bs : List ℕ) → NumberIn 4 5 (magnitude bs)
unfolding NumberIn magnitude
magnitude-in bs =
    ensure-in 4 5 (digits bs) 4 _ (omega arith) (omega arith)
    (ensure-in 4 5 (not (leading_zero bs)) 4 _ (omega arith) (omega arith)
    (ensure-in 4 5 (leb (value_from 0 bs) max_numeral) 4 (ok (value_from 0 bs)) (omega arith) (omega arith) tt))

negative-in : (n : ℕ) → NumberIn 4 5 (negative n)
unfolding NumberIn negative
negative-in zero = (omega arith, omega arith)
negative-in (suc n) = tt

numeral-in : (bs : List ℕ) → NumberIn 4 5 (numeral_of bs)
unfolding NumberIn numeral_of
numeral-in [] = (omega arith, omega arith)
numeral-in (b ∷ bs) = cond_in 4 5 (eqb b 45) _ _ (bind-in 4 5 (magnitude bs) negative (magnitude-in bs) negative-in) (bind-in 4 5 (magnitude (b ∷ bs)) (λ n. ok (pos n)) (magnitude-in (b ∷ bs)) (λ n. tt))

fixed_in : (ws : List Word) (bs : List ℕ) → NumberIn 4 5 (fixed_or ws bs)
unfolding NumberIn fixed_or name_of
fixed_in [] bs = ensure-in 4 5 (is_name_text bs && leb (length bs) max_name) 5 (ok (name bs)) (omega arith) (omega arith) tt
fixed_in (w ∷ ws) bs = cond_in 4 5 (same_name (word_text w) bs) (ok w) (fixed_or ws bs) tt (fixed_in ws bs)

tilde_in : (w : Word) → NumberIn 4 5 (behind_tilde w)
unfolding NumberIn behind_tilde
tilde_in (mark m) = (omega arith, omega arith)
tilde_in (operator o) = (omega arith, omega arith)
tilde_in (numeral z) = (omega arith, omega arith)
tilde_in (name x) = tt
tilde_in (negated-name x) = (omega arith, omega arith)

word_in : (bs : List ℕ) → NumberIn 4 5 (word_of bs)
unfolding NumberIn word_of
word_in bs =
    cond_in 4 5 (numeral_first bs) _ _ (bind-in 4 5 (numeral_of bs) (λ z. ok (numeral z)) (numeral-in bs) (λ z. tt))
    (cond_in 4 5 (tilde_first bs) _ _ (bind-in 4 5 (fixed_or fixed_words (drop 1 bs)) behind_tilde (fixed_in fixed_words (drop 1 bs)) tilde_in) (fixed_in fixed_words bs))

rule-in : (rs : List Rule) (bs : List ℕ) → NumberIn 2 8 (rule_among rs bs)
unfolding NumberIn rule_among
rule-in [] bs = (omega arith, omega arith)
rule-in (r ∷ rs) bs = cond_in 2 8 (same_name (rule_text r) bs) (ok r) (rule_among rs bs) tt (rule-in rs bs)

-- ---- tokens
pub record Refusal (s : List ℕ) (e p : ℕ) : Type 0 where
  pub low : 2 ≤ e
  pub high : e ≤ 8
  pub inside : p ≤ length s

ProperRead : List ℕ → Read → Type 0
ProperRead s (whole cs) = Unit {0}
ProperRead s (refused e p) = Refusal s e p

module _ (s : List ℕ) where
  TokenIn : Token → Type 0
  TokenIn (ended p) = p ≤ length s
  TokenIn (word w p t) = (p ≤ length s) × (t ≤ length s)
  TokenIn (wrong e p) = Refusal s e p

  judged-in : (p t : ℕ) (r : Res Word) → p ≤ length s → t ≤ length s → NumberIn 4 5 r → TokenIn (judged p t r)
  unfolding TokenIn judged NumberIn
  judged-in p t (ok w) h k i = (h, k)
  judged-in p t (bad n) h k i = record { low = omega arith; high = omega arith; inside = h }

  from_in : (p : ℕ) (bs : List ℕ) → p + length bs ≤ length s → TokenIn (token_from p bs)
  unfolding TokenIn token_from
  from_in p [] h = omega arith
  from_in p (b ∷ bs) h = go (in_word b) (eqb (class_of b) opens) (eqb (class_of b) closes) (span-le in_word (b ∷ bs))
    where
      k : ℕ
      k = span in_word (b ∷ bs)

      go : (c d f : Bool) → k ≤ suc (length bs) → TokenIn (cond c (judged p (p + k) (word_of (take k (b ∷ bs)))) (cond d (word (mark opening) p (p + 1)) (cond f (word (mark closing) p (p + 1)) (wrong 3 p))))
      go true d f l = judged-in p (p + k) (word_of (take k (b ∷ bs))) (omega arith) (omega arith) (word_in (take k (b ∷ bs)))
      go false true f l = (omega arith, omega arith)
      go false false true l = (omega arith, omega arith)
      go false false false l = record { low = omega arith; high = omega arith; inside = omega arith }

  token_in : (at : ℕ) → at ≤ length s → TokenIn (token_at s at)
  unfolding token_at token_behind
  token_in at h =
      let bs = drop at s in
      let k = span is_blank bs in
      let a : k ≤ length bs = span-le is_blank bs in
      let b : length (drop k bs) ≡ length bs - k = length-drop k bs in
      let c : length bs ≡ length s - at = length-drop at s in
      from_in (at + k) (drop k bs) (omega arith)

  -- ---- what is read
  Proper : {A : Type 0} → Reads A → Type 0
  Proper (got a t n) = Unit {0}
  Proper (off e p) = Refusal s e p

  refusal : (e p : ℕ) → 2 ≤ e → e ≤ 8 → p ≤ length s → Refusal s e p
  refusal e p l h i = record { low = l; high = h; inside = i }

  then-proper : {A B : Type 0} (r : Reads A) (k : A → ℕ → ℕ → Reads B) → Proper r → ((a : A) (t n : ℕ) → r ≡ got a t n → Proper (k a t n)) → Proper (then r k)
  unfolding Proper then
  then-proper (got a t n) k h f = f a t n refl
  then-proper (off e p) k h f = h

  cond_proper : {A : Type 0} (c : Bool) (r q : Reads A) → Proper r → Proper q → Proper (cond c r q)
  cond_proper true r q h k = h
  cond_proper false r q h k = k

  on-mark : {A : Type 0} (m : Mark) (k : ℕ → Reads A) (w : Token) → TokenIn w → ((u : ℕ) → u ≤ length s → Proper (k u)) → Proper (on_mark m k w)
  unfolding on_mark TokenIn Proper
  on-mark m k (ended p) i f = refusal 6 p (omega arith) (omega arith) i
  on-mark m k (word (mark a) p t) i f = cond_proper (same_mark a m) (k t) (off 6 p) (f t i.1) (refusal 6 p (omega arith) (omega arith) i.0)
  on-mark m k (word (operator o) p t) i f = refusal 6 p (omega arith) (omega arith) i.0
  on-mark m k (word (numeral z) p t) i f = refusal 6 p (omega arith) (omega arith) i.0
  on-mark m k (word (name x) p t) i f = refusal 6 p (omega arith) (omega arith) i.0
  on-mark m k (word (negated-name x) p t) i f = refusal 5 p (omega arith) (omega arith) i.0
  on-mark m k (wrong e p) i f = i

  on-option : {A : Type 0} (m : Mark) (k : ℕ → Reads A) (r : Reads A) (w : Token) → TokenIn w → ((u : ℕ) → u ≤ length s → Proper (k u)) → Proper r → Proper (on_option m k r w)
  unfolding on_option TokenIn
  on-option m k r (ended p) i f h = h
  on-option m k r (word (mark a) p t) i f h = cond_proper (same_mark a m) (k t) r (f t i.1) h
  on-option m k r (word (operator o) p t) i f h = h
  on-option m k r (word (numeral z) p t) i f h = h
  on-option m k r (word (name x) p t) i f h = h
  on-option m k r (word (negated-name x) p t) i f h = h
  on-option m k r (wrong e p) i f h = h

  on-name : {A : Type 0} (k : List ℕ → ℕ → ℕ → Reads A) (w : Token) → TokenIn w → ((x : List ℕ) (p u : ℕ) → p ≤ length s → u ≤ length s → Proper (k x p u)) → Proper (on_name k w)
  unfolding on_name TokenIn Proper
  on-name k (ended p) i f = refusal 6 p (omega arith) (omega arith) i
  on-name k (word (mark a) p t) i f = refusal 6 p (omega arith) (omega arith) i.0
  on-name k (word (operator o) p t) i f = refusal 6 p (omega arith) (omega arith) i.0
  on-name k (word (numeral z) p t) i f = refusal 6 p (omega arith) (omega arith) i.0
  on-name k (word (name x) p t) i f = f x p t i.0 i.1
  on-name k (word (negated-name x) p t) i f = refusal 5 p (omega arith) (omega arith) i.0
  on-name k (wrong e p) i f = i

  expect-proper : {A : Type 0} (m : Mark) (at : ℕ) (k : ℕ → Reads A) → at ≤ length s → ((u : ℕ) → u ≤ length s → Proper (k u)) → Proper (expect m s at k)
  unfolding expect
  expect-proper m at k h f = on-mark m k (token_at s at) (token_in at h) f

  name-proper : {A : Type 0} (at : ℕ) (k : List ℕ → ℕ → ℕ → Reads A) → at ≤ length s → ((x : List ℕ) (p u : ℕ) → p ≤ length s → u ≤ length s → Proper (k x p u)) → Proper (name_at s at k)
  unfolding name_at
  name-proper at k h f = on-name k (token_at s at) (token_in at h) f

  on-rule : {A : Type 0} (k : Rule → Reads A) (p : ℕ) (r : Res Rule) → p ≤ length s → NumberIn 2 8 r → ((r : Rule) → Proper (k r)) → Proper (on_rule k p r)
  unfolding on_rule NumberIn Proper
  on-rule k p (ok r) h i f = f r
  on-rule k p (bad n) h i f = refusal n p i.0 i.1 h

  -- ---- terms
  on-operator : (k : Op → ℕ → Reads Term) (n : ℕ) (w : Token) → TokenIn w → ((o : Op) (q v : ℕ) → w ≡ word (operator o) q v → v ≤ length s → Proper (k o v)) → Proper (on_head k n (on_operator w))
  unfolding on_operator on_head TokenIn Proper
  on-operator k n (ended p) i f = refusal 6 p (omega arith) (omega arith) i
  on-operator k n (word (mark a) p t) i f = refusal 6 p (omega arith) (omega arith) i.0
  on-operator k n (word (operator o) p t) i f = f o p t refl i.1
  on-operator k n (word (numeral z) p t) i f = refusal 6 p (omega arith) (omega arith) i.0
  on-operator k n (word (name x) p t) i f = refusal 6 p (omega arith) (omega arith) i.0
  on-operator k n (word (negated-name x) p t) i f = refusal 5 p (omega arith) (omega arith) i.0
  on-operator k n (wrong e p) i f = i

  limited-proper : (k : Op → ℕ → Reads Term) (l n p : ℕ) (h : Head) → p ≤ length s → Proper (on_head k n h) → Proper (on_head k n (limited l n p h))
  unfolding limited on_head Proper
  limited-proper k l n p h i j = go (leb l max_depth && ltb n max_nodes)
    where
      go : (c : Bool) → Proper (on_head k n (cond c h (stop 7 p)))
      go true = j
      go false = refusal 7 p (omega arith) (omega arith) i

  on-term : (k : Op → ℕ → Reads Term) (l n at : ℕ) (w : Token) → TokenIn w → token_at s at ≡ w → ((o : Op) (v : ℕ) → at < v → v ≤ length s → Proper (k o v)) → Proper (on_head k n (on_term s l n w))
  unfolding on_term on_head TokenIn Proper
  on-term k l n at (ended p) i e f = refusal 6 p (omega arith) (omega arith) i
  on-term k l n at (word (mark a) p t) i e f = go (same_mark a opening)
    where
      go : (c : Bool) → Proper (on_head k n (cond c (limited l n p (on_operator (token_at s t))) (stop 6 p)))
      go true = limited-proper k l n p (on_operator (token_at s t)) i.0 (on-operator k n (token_at s t) (token_in t i.1) (λ o q v g j. f o v (omega (arith, (token-later s at (mark a) p t e).0, (token-later s t (operator o) q v g).0)) j))
      go false = refusal 6 p (omega arith) (omega arith) i.0
  on-term k l n at (word (operator o) p t) i e f = refusal 6 p (omega arith) (omega arith) i.0
  on-term k l n at (word (numeral z) p t) i e f = limited-proper k l n p (leaf (num z) t) i.0 tt
  on-term k l n at (word (name x) p t) i e f = limited-proper k l n p (leaf (var x) t) i.0 tt
  on-term k l n at (word (negated-name x) p t) i e f = refusal 5 p (omega arith) (omega arith) i.0
  on-term k l n at (wrong e p) i g f = i

  -- a term takes at least one byte
  took-later : (at l n : ℕ) (x : Term) (t m : ℕ) → at ≤ length s → Took s at l n x t m → (at < t) × (t ≤ length s)
  unfolding term_words
  took-later at l n (num z) t m h r = (omega (arith, has-long s (term_words (num z)) at t r.has), has-inside s (term_words (num z)) at t h r.has)
  took-later at l n (var x) t m h r = (omega (arith, has-long s (term_words (var x)) at t r.has), has-inside s (term_words (var x)) at t h r.has)
  took-later at l n (app o ts) t m h r = (omega (arith, has-long s (term_words (app o ts)) at t r.has), has-inside s (term_words (app o ts)) at t h r.has)

  record Ends (f : ℕ) : Type 0 where
    a-term : (at l n : ℕ) → at ≤ length s → 2 * (length s - at) < f → Proper (term f s at l n)
    some-items : (at l n : ℕ) (xs : List Term) → at ≤ length s → 2 * (length s - at) + 1 < f → Proper (items f s at l n xs)

  item_proper : {A : Type 0} (more : Reads (List A)) (xs : List A) (n c : ℕ) → Proper more → Proper (on_item more xs n c)
  unfolding on_item Proper
  item_proper more xs n zero h = h
  item_proper more xs n (suc t) h = tt

  term-ends : (f : ℕ) → Ends f → (at l n : ℕ) → at ≤ length s → 2 * (length s - at) < suc f → Proper (term (suc f) s at l n)
  unfolding term head_at Proper
  term-ends f w at l n h k =
      on-term _ l n at (token_at s at) (token_in at h) refl
      (λ o v j i. then-proper (term f s v (suc l) (suc n)) _ (w.a-term v (suc l) (suc n) i (omega arith))
      (λ x t m e. let (a, b) = took-later v (suc l) (suc n) x t m i ((written f s).a-term v (suc l) (suc n) x t m e) in
      then-proper (items f s t (suc l) m (x ∷ [])) _ (w.some-items t (suc l) m (x ∷ []) b (omega arith)) (λ xs u r g. tt)))

  items-ends : (f : ℕ) → Ends f → (at l n : ℕ) (xs : List Term) → at ≤ length s → 2 * (length s - at) + 1 < suc f → Proper (items (suc f) s at l n xs)
  unfolding term
  items-ends f w at l n xs h k =
      item_proper _ xs n (close_at s at)
      (then-proper (term f s at l n) _ (w.a-term at l n h (omega arith))
      (λ x t m e. let (a, b) = took-later at l n x t m h ((written f s).a-term at l n x t m e) in w.some-items t l m (xs ++ (x ∷ [])) b (omega arith)))

  ends : (f : ℕ) → Ends f
  ends zero = record { a-term = λ at l n h k. let v : ⊥ = omega arith in absurd v; some-items = λ at l n xs h k. let v : ⊥ = omega arith in absurd v }
  ends (suc f) = let w : Ends f = ends f in record { a-term = term-ends f w; some-items = items-ends f w }

  -- ---- commands
  module _ (short : length s ≤ max_text) where
    term-proper : (at n : ℕ) → at ≤ length s → Proper (term enough s at 1 n)
    term-proper at n h = (ends enough).a-term at 1 n h (omega arith)

    items-proper : (at n : ℕ) (xs : List Term) → at ≤ length s → Proper (items enough s at 1 n xs)
    items-proper at n xs h = (ends enough).some-items at 1 n xs h (omega arith)

    term-inside : (at n : ℕ) (x : Term) (t m : ℕ) → at ≤ length s → term enough s at 1 n ≡ got x t m → t ≤ length s
    term-inside at n x t m h e = (took-later at 1 n x t m h ((written enough s).a-term at 1 n x t m e)).1

    items-inside : (at n : ℕ) (xs ys : List Term) (t m : ℕ) → at ≤ length s → items enough s at 1 n xs ≡ got ys t m → t ≤ length s
    items-inside at n xs ys t m h e = let r : More s at 1 n xs ys t m = (written enough s).some-items at 1 n xs ys t m e in has-inside s _ at t h r.has

    id-proper : {A : Type 0} (cs : List Command) (at : ℕ) (k : List ℕ → ℕ → Reads A) → at ≤ length s → ((d : List ℕ) (u : ℕ) → u ≤ length s → Proper (k d u)) → Proper (new_id cs s at k)
    unfolding new_id Proper
    id-proper cs at k h f = name-proper at _ h (λ d p u i j. cond_proper (known cs d) (off 8 p) (k d u) (refusal 8 p (omega arith) (omega arith) i) (f d u j))

    premise-proper : (cs : List Command) (at n : ℕ) → at ≤ length s → Proper (premise cs s at n)
    unfolding premise Proper
    premise-proper cs at n h = name-proper at _ h (λ d p u i j. cond_proper (ltb n max_nodes) _ (off 7 p) (cond_proper (known cs d) (got d u (suc n)) (off 8 p) tt (refusal 8 p (omega arith) (omega arith) i)) (refusal 7 p (omega arith) (omega arith) i))

    premise-inside : (cs : List Command) (at n : ℕ) (d : List ℕ) (t m : ℕ) → premise cs s at n ≡ got d t m → (at < t) × (t ≤ length s)
    premise-inside cs at n d t m e = let (p, h, k, o, c) = premise-got cs s at n d t m e in token-later s at (name d) p t h

    premises-proper : (f : ℕ) (cs : List Command) (at n : ℕ) (ds : List (List ℕ)) → at ≤ length s → length s - at < f → Proper (premises f cs s at n ds)
    unfolding premises
    premises-proper zero cs at n ds h k = let v : ⊥ = omega arith in absurd v
    premises-proper (suc f) cs at n ds h k =
        item_proper _ ds n (close_at s at)
        (then-proper (premise cs s at n) _ (premise-proper cs at n h)
        (λ d t m e. let (a, b) = premise-inside cs at n d t m e in premises-proper f cs t m (ds ++ (d ∷ [])) b (omega arith)))

    premises_at-proper : (cs : List Command) (at n : ℕ) → at ≤ length s → Proper (premises_at cs s at n)
    unfolding premises_at Proper
    premises_at-proper cs at n h =
        on-option premises-word _ (got [] at n) (token_at s at) (token_in at h)
        (λ u i. expect-proper opening u _ i (λ v j. then-proper (premise cs s v n) _ (premise-proper cs v n j) (λ d t m e. let (a, b) = premise-inside cs v n d t m e in premises-proper enough cs t m (d ∷ []) b (omega arith))))
        tt

    args_at-proper : (at n : ℕ) → at ≤ length s → Proper (args_at s at n)
    unfolding args_at Proper
    args_at-proper at n h =
        on-option args-word _ (got [] at n) (token_at s at) (token_in at h)
        (λ u i. expect-proper opening u _ i (λ v j. then-proper (term enough s v 1 n) _ (term-proper v n j) (λ x t m e. items-proper t m (x ∷ []) (term-inside v n x t m j e))))
        tt

    rule-proper : {A : Type 0} (at : ℕ) (k : Rule → ℕ → Reads A) → at ≤ length s → ((r : Rule) (u : ℕ) → u ≤ length s → Proper (k r u)) → Proper (rule_at s at k)
    unfolding rule_at rule_of
    rule-proper {A} at k h f = name-proper at _ h (λ x p u i j. on-rule (λ r. k r u) p (rule_among _ x) i (rule-in _ x) (λ r. f r u j))

    assume-proper : (cs : List Command) (at n : ℕ) → at ≤ length s → Proper (assume_at cs s at n)
    unfolding assume_at Proper
    assume-proper cs at n h = id-proper cs at _ h (λ d u i. then-proper (term enough s u 1 n) _ (term-proper u n i) (λ x t m e. expect-proper closing t _ (term-inside u n x t m i e) (λ v j. tt)))

    step-proper : (cs : List Command) (at n : ℕ) → at ≤ length s → Proper (step_at cs s at n)
    unfolding step_at Proper
    step-proper cs at n h =
        id-proper cs at _ h (λ d t₁ i₁. expect-proper opening t₁ _ i₁ (λ t₂ i₂. expect-proper cl-word t₂ _ i₂ (λ t₃ i₃.
        then-proper (items enough s t₃ 1 n []) _ (items-proper t₃ n [] i₃) (λ c t₄ n₄ e₄. expect-proper rule-word t₄ _ (items-inside t₃ n [] c t₄ n₄ i₃ e₄) (λ t₅ i₅. rule-proper t₅ _ i₅ (λ r t₆ i₆.
        then-proper (premises_at cs s t₆ n₄) _ (premises_at-proper cs t₆ n₄ i₆) (λ ds t₇ n₇ e₇.
        let i₇ : t₇ ≤ length s = has-inside s _ t₆ t₇ i₆ (premises_at-has cs s t₆ n₄ ds t₇ n₇ e₇).1.has in
        then-proper (args_at s t₇ n₇) _ (args_at-proper t₇ n₇ i₇) (λ xs t₈ n₈ e₈.
        let i₈ : t₈ ≤ length s = has-inside s _ t₇ t₈ i₇ (args_at-has s t₇ n₇ xs t₈ n₈ e₈).1.has in
        expect-proper closing t₈ _ i₈ (λ t₉ i₉. tt)))))))))

    -- ---- pol lines
    six : (p : ℕ) → p ≤ length s → Refusal s 6 p
    six p h = refusal 6 p (omega arith) (omega arith) h

    factor_proper : (z : ℤ) (n : ℕ) (w : Token) → TokenIn w → Proper (on_factor z n w)
    unfolding on_factor TokenIn Proper
    factor_proper z n (ended p) i = six p i
    factor_proper z n (word (mark a) p t) i = six p i.0
    factor_proper z n (word (operator o) p t) i = cond_proper (same_op mul o) (got (times-word z) t n) (off 6 p) tt (six p i.0)
    factor_proper z n (word (numeral y) p t) i = six p i.0
    factor_proper z n (word (name x) p t) i = cond_proper (same_name (bytes "d") x) (got (over_word z) t n) (off 6 p) tt (six p i.0)
    factor_proper z n (word (negated-name x) p t) i = six p i.0
    factor_proper z n (wrong e p) i = i

    on-word : (above : List ℕ → Bool) (n : ℕ) (w : Token) → TokenIn w → Proper (on_word above s n w)
    unfolding on_word named_word TokenIn Proper
    on-word above n (ended p) i = six p i
    on-word above n (word (mark a) p t) i = six p i.0
    on-word above n (word (operator o) p t) i = cond_proper (same_op add o) (got plus-word t n) (off 6 p) tt (six p i.0)
    on-word above n (word (numeral z) p t) i = factor_proper z n (token_at s t) (token_in t i.1)
    on-word above n (word (name x) p t) i =
        cond_proper (same_name (bytes "d") x) (off 6 p) _ (six p i.0)
        (cond_proper (same_name (bytes "s") x) (got saturate-word t n) _ tt (cond_proper (above x) (got (line_word x) t n) (got (plain_word x) t n) tt tt))
    on-word above n (word (negated-name x) p t) i = tt
    on-word above n (wrong e p) i = i

    word-proper : (above : List ℕ → Bool) (at n : ℕ) → at ≤ length s → Proper (word_at above s at n)
    unfolding word_at
    word-proper above at n h = on-word above n (token_at s at) (token_in at h)

    -- a word takes at least one byte
    word-inside : (above : List ℕ → Bool) (at n : ℕ) (w : PolWord) (t m : ℕ) → at ≤ length s → word_at above s at n ≡ got w t m → (at < t) × (t ≤ length s)
    unfolding pol_word
    word-inside above at n w t m h e =
        let r : TookWord above s at n w t m = word_at-has above s at n w t m e in
        (omega (arith, has-long s (pol_word w) at t r.has, some w), has-inside s (pol_word w) at t h r.has)
      where
        some : (w : PolWord) → 1 ≤ length (pol_word w)
        some (line_word d) = omega arith
        some (plain_word x) = omega arith
        some (negated_word x) = omega arith
        some plus-word = omega arith
        some saturate-word = omega arith
        some (times-word z) = omega arith
        some (over_word z) = omega arith

    more-proper : (f : ℕ) (above : List ℕ → Bool) (at n : ℕ) (ws : List PolWord) → at ≤ length s → length s - at < f → Proper (more_words f above s at n ws)
    unfolding more_words
    more-proper zero above at n ws h k = let v : ⊥ = omega arith in absurd v
    more-proper (suc f) above at n ws h k =
        item_proper _ ws n (close_at s at)
        (then-proper (word_at above s at n) _ (word-proper above at n h)
        (λ w t m e. let (a, b) = word-inside above at n w t m h e in more-proper f above t m (ws ++ (w ∷ [])) b (omega arith)))

    pol-proper : (cs : List Command) (at n : ℕ) → at ≤ length s → Proper (pol_at cs s at n)
    unfolding pol_at words_at Proper
    pol-proper cs at n h =
        id-proper cs at _ h (λ d u i. then-proper (words_at enough (known cs) s u n) _
        (then-proper (word_at (known cs) s u n) _ (word-proper (known cs) u n i) (λ w t m e. let (a, b) = word-inside (known cs) u n w t m i e in more-proper enough (known cs) t m (w ∷ []) b (omega arith)))
        (λ ws t m e. tt))

    on-named : (x : List ℕ) (k : ℕ → ℕ → Reads Command) (r : Reads Command) (w : Token) → TokenIn w → ((p u : ℕ) → p ≤ length s → u ≤ length s → Proper (k p u)) → Proper r → Proper (on_named x k r w)
    unfolding on_named TokenIn
    on-named x k r (ended p) i f h = h
    on-named x k r (word (mark a) p t) i f h = h
    on-named x k r (word (operator o) p t) i f h = h
    on-named x k r (word (numeral z) p t) i f h = h
    on-named x k r (word (name y) p t) i f h = cond_proper (same_name x y) (k p t) r (f p t i.0 i.1) h
    on-named x k r (word (negated-name y) p t) i f h = h
    on-named x k r (wrong e p) i f h = h

    or_proper : (cs : List Command) (at n : ℕ) (r : Reads Command) → at ≤ length s → Proper r → Proper (pol_or cs s at n r)
    unfolding pol_or Proper
    or_proper cs at n r h k =
        on-named (bytes "pol") _ r (token_at s at) (token_in at h)
        (λ p u i j. cond_proper (ltb (pol_lines cs) max_pols) (pol_at cs s u n) (off 7 p) (pol-proper cs u n j) (refusal 7 p (omega arith) (omega arith) i)) k

    command_proper : (cs : List Command) (at n : ℕ) → at ≤ length s → Proper (command_at cs s at n)
    unfolding command_at
    command_proper cs at n h = on-option assume-word _ _ (token_at s at) (token_in at h) (λ u i. assume-proper cs u n i) (or_proper cs at n _ h (expect-proper step-word at _ h (λ u i. step-proper cs u n i)))

    -- ---- files
    on-lead : (k : ℕ → Read) (cs : List Command) (j at : ℕ) (w : Token) → TokenIn w → token_at s at ≡ w → ((u : ℕ) → at < u → u ≤ length s → ProperRead s (k u)) → ProperRead s (on_command k cs (on_lead j w))
    unfolding on_lead on_command TokenIn ProperRead
    on-lead k cs j at (ended p) i e f = tt
    on-lead k cs j at (word (mark a) p t) i e f = go (same_mark a opening) (ltb j max_commands)
      where
        go : (c d : Bool) → ProperRead s (on_command k cs (cond c (cond d (begin t) (halt 7 p)) (halt 6 p)))
        go true true = f t (token-later s at (mark a) p t e).0 i.1
        go true false = refusal 7 p (omega arith) (omega arith) i.0
        go false d = refusal 6 p (omega arith) (omega arith) i.0
    on-lead k cs j at (word (operator o) p t) i e f = refusal 6 p (omega arith) (omega arith) i.0
    on-lead k cs j at (word (numeral z) p t) i e f = refusal 6 p (omega arith) (omega arith) i.0
    on-lead k cs j at (word (name x) p t) i e f = refusal 6 p (omega arith) (omega arith) i.0
    on-lead k cs j at (word (negated-name x) p t) i e f = refusal 5 p (omega arith) (omega arith) i.0
    on-lead k cs j at (wrong e p) i g f = i

    on_read_lem : (k : Command → ℕ → ℕ → Read) (r : Reads Command) → Proper r → ((c : Command) (t n : ℕ) → r ≡ got c t n → ProperRead s (k c t n)) → ProperRead s (on_read k r)
    unfolding on_read Proper ProperRead
    on_read_lem k (got c t n) h f = f c t n refl
    on_read_lem k (off e p) h f = h

    commands-proper : (f at n : ℕ) (cs : List Command) → at ≤ length s → length s - at < f → ProperRead s (commands f s at n cs)
    unfolding commands lead_at
    commands-proper zero at n cs h k = let v : ⊥ = omega arith in absurd v
    commands-proper (suc f) at n cs h k =
        on-lead _ cs (length cs) at (token_at s at) (token_in at h) refl
        (λ u a b. on_read_lem _ (command_at cs s u n) (command_proper cs u n b)
        (λ c t m e.
        let r : Stands cs s u n c t m = command_at-has cs s u n c t m e in
        let i : t ≤ length s = has-inside s _ u t b r.part.has in
        let j : u + _ ≤ t = has-long s _ u t r.part.has in
        commands-proper f t m (cs ++ (c ∷ [])) i (omega arith)))

-- a refusal has a number from 2 to 8 and a byte of the text, or its length, whatever commands stand before
pub proper-behind : (before : List Command) (s : List ℕ) (n p : ℕ) → read_behind before s ≡ refused n p → Refusal s n p
unfolding read_behind ProperRead
proper-behind before s n p e = subst (ProperRead s) e (go (leb (length s) max_text) (leb→le (length s) max_text) (nleb→lt (length s) max_text))
  where
    go : (c : Bool) → (T c → length s ≤ max_text) → (T (not c) → max_text < length s) → ProperRead s (cond c (commands enough s 0 (all_nodes before) before) (refused 2 max_text))
    go true f g = commands-proper s (f tt) enough 0 (all_nodes before) before (omega arith) (let h : length s ≤ max_text = f tt in omega arith)
    go false f g = let h : max_text < length s = g tt in record { low = omega arith; high = omega arith; inside = omega arith }

pub proper : (s : List ℕ) (n p : ℕ) → read_file s ≡ refused n p → Refusal s n p
unfolding read_file
proper s n p e = proper-behind [] s n p e
