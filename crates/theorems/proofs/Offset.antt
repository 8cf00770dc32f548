-- A text that stands behind other bytes is read there as it is read alone, with every place that much later: so two texts may stand in one string.
use mathlib.Core.Path.{◌≡◌, refl, sym, ap, ◌∙◌}
use mathlib.Core.Bool.{Bool, true, false, cond, ◌&&◌}
use mathlib.Core.List.{List, [], ◌∷◌, ◌++◌}
use Prim.Native.Nat.{ℕ, zero, suc, ◌+◌, ◌≤◌, ◌<◌}
use native.Mathlib.Omega.{arith}
use lib.Dec.{leb, ltb, eqb, le→leb}
use lib.ListN.{length, take, drop}
use lib.Seq.{drop-append_seam, drop-drop}
use lib.IntN.{ℤ}
use Rattle.calculus.specs.Bytes.{is_blank, in_word, class_of, opens, closes, bytes}
use Rattle.calculus.specs.Commands.{enough, new_id, premise, premises, premises_at, args_at, rule_of, on_rule, rule_at, assume_at, step_at, pol_at, pol_or, command_at, Read, whole, refused, Lead, finish, begin, halt, on_lead, lead_at, on_command, on_read, commands, read_behind}
use Rattle.calculus.specs.Grammar.{Reads, got, off, then, same_mark, on_mark, expect, on_option, on_name, name_at, on_close, close_at, Head, leaf, start, stop, limited, on_operator, on_term, head_at, on_head, on_item, term, items}
use Rattle.calculus.specs.Terms.{Op, Term, num, var, app, listed, Rule, Command, assume, step, pol, add, mul, same_name, PolWord, line_word, plain_word, plus-word, saturate-word, times-word, over_word}
use Rattle.calculus.specs.Words.{Res, ok, bad, Mark, opening, closing, cl-word, assume-word, step-word, rule-word, premises-word, args-word, Word, mark, operator, numeral, name, word_of, negated-name}
use Rattle.calculus.specs.Tokens.{Token, ended, word, wrong, span, judged, token_from, token_behind, token_at}
use Rattle.calculus.specs.Limits.{known, pol_lines, max_pols, max_nodes, max_depth, max_text, max_commands, all_nodes}
use Rattle.calculus.specs.Equality.{same_op}
use Rattle.calculus.specs.PolGrammar.{on_named, on_factor, named_word, on_word, word_at, more_words, words_at}
use Rattle.calculus.proofs.Booleans.{is_true}
use Rattle.calculus.proofs.Tokens.{token-later}

-- ---- every place m later
unfoldable pub later_token : ℕ → Token → Token
later_token m (ended p) = ended (m + p)
later_token m (word w p t) = word w (m + p) (m + t)
later_token m (wrong e p) = wrong e (m + p)

unfoldable pub later_reads : {A : Type 0} → ℕ → Reads A → Reads A
later_reads m (got a t n) = got a (m + t) n
later_reads m (off e p) = off e (m + p)

unfoldable pub later_head : ℕ → Head → Head
later_head m (leaf x t) = leaf x (m + t)
later_head m (start o t) = start o (m + t)
later_head m (stop e p) = stop e (m + p)

unfoldable pub later_lead : ℕ → Lead → Lead
later_lead m finish = finish
later_lead m (begin t) = begin (m + t)
later_lead m (halt e p) = halt e (m + p)

unfoldable pub later_read : ℕ → Read → Read
later_read m (whole cs) = whole cs
later_read m (refused e p) = refused e (m + p)

add_assoc : (m p k : ℕ) → m + p + k ≡ m + (p + k)
add_assoc m p k = omega arith

judged-later : (m p t : ℕ) (r : Res Word) → judged (m + p) (m + t) r ≡ later_token m (judged p t r)
unfolding judged later_token
judged-later m p t (ok w) = refl
judged-later m p t (bad n) = refl

from-later : (m p : ℕ) (bs : List ℕ) → token_from (m + p) bs ≡ later_token m (token_from p bs)
unfolding token_from later_token
from-later m p [] = refl
from-later m p (b ∷ bs) = go (in_word b) (eqb (class_of b) opens) (eqb (class_of b) closes)
  where
    k : ℕ
    k = span in_word (b ∷ bs)

    r : Res Word
    r = word_of (take k (b ∷ bs))

    go : (c d f : Bool) → cond c (judged (m + p) (m + p + k) r) (cond d (word (mark opening) (m + p) (m + p + 1)) (cond f (word (mark closing) (m + p) (m + p + 1)) (wrong 3 (m + p)))) ≡
        later_token m (cond c (judged p (p + k) r) (cond d (word (mark opening) p (p + 1)) (cond f (word (mark closing) p (p + 1)) (wrong 3 p))))
    go true d f = ap (λ (t : ℕ). judged (m + p) t r) (add_assoc m p k) ∙ judged-later m p (p + k) r
    go false true f = ap (word (mark opening) (m + p)) (add_assoc m p 1)
    go false false true = ap (word (mark closing) (m + p)) (add_assoc m p 1)
    go false false false = refl

-- ---- the combinators
module _ (m : ℕ) where
  -- what goes on with a place goes on m later
  abbrev Later : {A : Type 0} → (ℕ → Reads A) → (ℕ → Reads A) → Type 0
  Later k j = (t : ℕ) → k (m + t) ≡ later_reads m (j t)

  then-later : {A B : Type 0} (r q : Reads A) (k j : A → ℕ → ℕ → Reads B) → r ≡ later_reads m q → ((a : A) (t n : ℕ) → k a (m + t) n ≡ later_reads m (j a t n)) → then r k ≡ later_reads m (then q j)
  unfolding then later_reads
  then-later r (got a t n) k j e h = ap (λ (z : Reads _). then z k) e ∙ h a t n
  then-later r (off x p) k j e h = ap (λ (z : Reads _). then z k) e

  cond-later : {A : Type 0} (c : Bool) (r q x y : Reads A) → r ≡ later_reads m x → q ≡ later_reads m y → cond c r q ≡ later_reads m (cond c x y)
  cond-later true r q x y e h = e
  cond-later false r q x y e h = h

  mark-later : {A : Type 0} (a : Mark) (k j : ℕ → Reads A) (w : Token) → Later k j → on_mark a k (later_token m w) ≡ later_reads m (on_mark a j w)
  unfolding on_mark later_token later_reads
  mark-later a k j (ended p) h = refl
  mark-later a k j (word (mark b) p t) h = cond-later (same_mark b a) (k (m + t)) (off 6 (m + p)) (j t) (off 6 p) (h t) refl
  mark-later a k j (word (operator o) p t) h = refl
  mark-later a k j (word (numeral z) p t) h = refl
  mark-later a k j (word (name x) p t) h = refl
  mark-later a k j (word (negated-name x) p t) h = refl
  mark-later a k j (wrong e p) h = refl

  option-later : {A : Type 0} (a : Mark) (k j : ℕ → Reads A) (r q : Reads A) (w : Token) → Later k j → r ≡ later_reads m q → on_option a k r (later_token m w) ≡ later_reads m (on_option a j q w)
  unfolding on_option later_token
  option-later a k j r q (ended p) h e = e
  option-later a k j r q (word (mark b) p t) h e = cond-later (same_mark b a) (k (m + t)) r (j t) q (h t) e
  option-later a k j r q (word (operator o) p t) h e = e
  option-later a k j r q (word (numeral z) p t) h e = e
  option-later a k j r q (word (name x) p t) h e = e
  option-later a k j r q (word (negated-name x) p t) h e = e
  option-later a k j r q (wrong x p) h e = e

  name-later : {A : Type 0} (k j : List ℕ → ℕ → ℕ → Reads A) (w : Token) → ((x : List ℕ) (p t : ℕ) → k x (m + p) (m + t) ≡ later_reads m (j x p t)) → on_name k (later_token m w) ≡ later_reads m (on_name j w)
  unfolding on_name later_token later_reads
  name-later k j (ended p) h = refl
  name-later k j (word (mark a) p t) h = refl
  name-later k j (word (operator o) p t) h = refl
  name-later k j (word (numeral z) p t) h = refl
  name-later k j (word (name x) p t) h = h x p t
  name-later k j (word (negated-name x) p t) h = refl
  name-later k j (wrong e p) h = refl

  limited-later : (l n p : ℕ) (h g : Head) → h ≡ later_head m g → limited l n (m + p) h ≡ later_head m (limited l n p g)
  unfolding limited later_head
  limited-later l n p h g e = go (leb l max_depth && ltb n max_nodes)
    where
      go : (c : Bool) → cond c h (stop 7 (m + p)) ≡ later_head m (cond c g (stop 7 p))
      go true = e
      go false = refl

  operator-later : (w : Token) → on_operator (later_token m w) ≡ later_head m (on_operator w)
  unfolding on_operator later_token later_head
  operator-later (ended p) = refl
  operator-later (word (mark a) p t) = refl
  operator-later (word (operator o) p t) = refl
  operator-later (word (numeral z) p t) = refl
  operator-later (word (name x) p t) = refl
  operator-later (word (negated-name x) p t) = refl
  operator-later (wrong e p) = refl

  head-later : (k j : Op → ℕ → Reads Term) (n : ℕ) (h : Head) → ((o : Op) (t : ℕ) → k o (m + t) ≡ later_reads m (j o t)) → on_head k n (later_head m h) ≡ later_reads m (on_head j n h)
  unfolding on_head later_head later_reads
  head-later k j n (leaf x t) h = refl
  head-later k j n (start o t) h = h o t
  head-later k j n (stop e p) h = refl

  close-later : {A : Type 0} (r q : Reads (List A)) (xs : List A) (n : ℕ) (t : ℕ) → r ≡ later_reads m q → 0 < t → on_item r xs n (m + t) ≡ later_reads m (on_item q xs n t)
  unfolding on_item later_reads
  close-later r q xs n zero e h = let v : ⊥ = omega arith in absurd v
  close-later r q xs n (suc t) e h = let g : m + suc t ≡ suc (m + t) = omega arith in ap (on_item r xs n) g ∙ ap (λ (z : ℕ). got xs z n) (sym g)

  item-later : {A : Type 0} (r q : Reads (List A)) (xs : List A) (n : ℕ) (w : Token) → r ≡ later_reads m q → ((v : Word) (p t : ℕ) → w ≡ word v p t → 0 < t) → on_item r xs n (on_close (later_token m w)) ≡ later_reads m (on_item q xs n (on_close w))
  unfolding on_item on_close later_token
  item-later r q xs n (ended p) e h = e
  item-later r q xs n (word (mark a) p t) e h = go (same_mark a closing)
    where
      go : (c : Bool) → on_item r xs n (cond c (m + t) 0) ≡ later_reads m (on_item q xs n (cond c t 0))
      go true = close-later r q xs n t e (h (mark a) p t refl)
      go false = e
  item-later r q xs n (word (operator o) p t) e h = e
  item-later r q xs n (word (numeral z) p t) e h = e
  item-later r q xs n (word (name x) p t) e h = e
  item-later r q xs n (word (negated-name x) p t) e h = e
  item-later r q xs n (wrong x p) e h = e

  named-later : {A : Type 0} (x : List ℕ) (k j : ℕ → ℕ → Reads A) (r q : Reads A) (w : Token) → ((p t : ℕ) → k (m + p) (m + t) ≡ later_reads m (j p t)) → r ≡ later_reads m q → on_named x k r (later_token m w) ≡ later_reads m (on_named x j q w)
  unfolding on_named later_token
  named-later x k j r q (ended p) h e = e
  named-later x k j r q (word (mark a) p t) h e = e
  named-later x k j r q (word (operator o) p t) h e = e
  named-later x k j r q (word (numeral z) p t) h e = e
  named-later x k j r q (word (name y) p t) h e = cond-later (same_name x y) (k (m + p) (m + t)) r (j p t) q (h p t) e
  named-later x k j r q (word (negated-name y) p t) h e = e
  named-later x k j r q (wrong i p) h e = e

  factor-later : (z : ℤ) (n : ℕ) (w : Token) → on_factor z n (later_token m w) ≡ later_reads m (on_factor z n w)
  unfolding on_factor later_token later_reads
  factor-later z n (ended p) = refl
  factor-later z n (word (mark a) p t) = refl
  factor-later z n (word (operator o) p t) = cond-later (same_op mul o) (got (times-word z) (m + t) n) (off 6 (m + p)) (got (times-word z) t n) (off 6 p) refl refl
  factor-later z n (word (numeral y) p t) = refl
  factor-later z n (word (name x) p t) = cond-later (same_name (bytes "d") x) (got (over_word z) (m + t) n) (off 6 (m + p)) (got (over_word z) t n) (off 6 p) refl refl
  factor-later z n (word (negated-name x) p t) = refl
  factor-later z n (wrong e p) = refl

  named-word-later : (above : List ℕ → Bool) (n : ℕ) (x : List ℕ) (p t : ℕ) → named_word above n x (m + p) (m + t) ≡ later_reads m (named_word above n x p t)
  unfolding named_word later_reads
  named-word-later above n x p t =
      cond-later (same_name (bytes "d") x) (off 6 (m + p)) _ (off 6 p) _ refl
      (cond-later (same_name (bytes "s") x) (got saturate-word (m + t) n) _ (got saturate-word t n) _ refl
      (cond-later (above x) (got (line_word x) (m + t) n) (got (plain_word x) (m + t) n) (got (line_word x) t n) (got (plain_word x) t n) refl refl))

  rule-later : {A : Type 0} (k j : Rule → Reads A) (p : ℕ) (r : Res Rule) → ((r : Rule) → k r ≡ later_reads m (j r)) → on_rule k (m + p) r ≡ later_reads m (on_rule j p r)
  unfolding on_rule later_reads
  rule-later k j p (ok r) h = h r
  rule-later k j p (bad e) h = refl

  lead-later : (i : ℕ) (w : Token) → on_lead i (later_token m w) ≡ later_lead m (on_lead i w)
  unfolding on_lead later_token later_lead
  lead-later i (ended p) = refl
  lead-later i (word (mark a) p t) = go (same_mark a opening) (ltb i max_commands)
    where
      go : (c d : Bool) → cond c (cond d (begin (m + t)) (halt 7 (m + p))) (halt 6 (m + p)) ≡ later_lead m (cond c (cond d (begin t) (halt 7 p)) (halt 6 p))
      go true true = refl
      go true false = refl
      go false d = refl
  lead-later i (word (operator o) p t) = refl
  lead-later i (word (numeral z) p t) = refl
  lead-later i (word (name x) p t) = refl
  lead-later i (word (negated-name x) p t) = refl
  lead-later i (wrong e p) = refl

  command-later : (k j : ℕ → Read) (cs : List Command) (l : Lead) → ((t : ℕ) → k (m + t) ≡ later_read m (j t)) → on_command k cs (later_lead m l) ≡ later_read m (on_command j cs l)
  unfolding on_command later_lead later_read
  command-later k j cs finish h = refl
  command-later k j cs (begin t) h = h t
  command-later k j cs (halt e p) h = refl

  read-later : (k j : Command → ℕ → ℕ → Read) (r q : Reads Command) → r ≡ later_reads m q → ((c : Command) (t n : ℕ) → k c (m + t) n ≡ later_read m (j c t n)) → on_read k r ≡ later_read m (on_read j q)
  unfolding on_read later_reads later_read
  read-later k j r (got c t n) e h = ap (on_read k) e ∙ h c t n
  read-later k j r (off x p) e h = ap (on_read k) e

-- ---- the text s behind the bytes o
module _ (o s : List ℕ) where
  abbrev m : ℕ
  m = length o

  abbrev u : List ℕ
  u = o ++ s

  -- the next token behind them
  pub token-behind : (at : ℕ) → token_at u (m + at) ≡ later_token m (token_at s at)
  unfolding token_at token_behind
  token-behind at =
      let d : drop (m + at) u ≡ drop at s = sym (drop-drop at m u) ∙ ap (drop at) (drop-append_seam o s) in
      ap (λ (bs : List ℕ). token_from (m + at + span is_blank bs) (drop (span is_blank bs) bs)) d
      ∙ ap (λ (p : ℕ). token_from p (drop (span is_blank (drop at s)) (drop at s))) (add_assoc m at (span is_blank (drop at s)))
      ∙ from-later m (at + span is_blank (drop at s)) (drop (span is_blank (drop at s)) (drop at s))

  expect-behind : {A : Type 0} (a : Mark) (at : ℕ) (k j : ℕ → Reads A) → Later m k j → expect a u (m + at) k ≡ later_reads m (expect a s at j)
  unfolding expect
  expect-behind a at k j h = ap (on_mark a k) (token-behind at) ∙ mark-later m a k j (token_at s at) h

  option-behind : {A : Type 0} (a : Mark) (at : ℕ) (k j : ℕ → Reads A) (r q : Reads A) → Later m k j → r ≡ later_reads m q → on_option a k r (token_at u (m + at)) ≡ later_reads m (on_option a j q (token_at s at))
  option-behind a at k j r q h e = ap (on_option a k r) (token-behind at) ∙ option-later m a k j r q (token_at s at) h e

  name-behind : {A : Type 0} (at : ℕ) (k j : List ℕ → ℕ → ℕ → Reads A) → ((x : List ℕ) (p t : ℕ) → k x (m + p) (m + t) ≡ later_reads m (j x p t)) → name_at u (m + at) k ≡ later_reads m (name_at s at j)
  unfolding name_at
  name-behind at k j h = ap (on_name k) (token-behind at) ∙ name-later m k j (token_at s at) h

  item-behind : {A : Type 0} (r q : Reads (List A)) (xs : List A) (n at : ℕ) → r ≡ later_reads m q → on_item r xs n (close_at u (m + at)) ≡ later_reads m (on_item q xs n (close_at s at))
  unfolding close_at
  item-behind r q xs n at e =
      ap (λ (w : Token). on_item r xs n (on_close w)) (token-behind at)
      ∙ item-later m r q xs n (token_at s at) e (λ v p t g. omega (arith, (token-later s at v p t g).0))

  -- ---- terms
  on-term-behind : (l n : ℕ) (w : Token) → on_term u l n (later_token m w) ≡ later_head m (on_term s l n w)
  unfolding on_term later_token later_head
  on-term-behind l n (ended p) = refl
  on-term-behind l n (word (mark a) p t) = go (same_mark a opening)
    where
      h : limited l n (m + p) (on_operator (token_at u (m + t))) ≡ later_head m (limited l n p (on_operator (token_at s t)))
      h = limited-later m l n p (on_operator (token_at u (m + t))) (on_operator (token_at s t)) (ap on_operator (token-behind t) ∙ operator-later m (token_at s t))

      go : (c : Bool) → cond c (limited l n (m + p) (on_operator (token_at u (m + t)))) (stop 6 (m + p)) ≡ later_head m (cond c (limited l n p (on_operator (token_at s t))) (stop 6 p))
      go true = h
      go false = refl
  on-term-behind l n (word (operator x) p t) = refl
  on-term-behind l n (word (numeral z) p t) = limited-later m l n p (leaf (num z) (m + t)) (leaf (num z) t) (unfold later_head in refl)
  on-term-behind l n (word (name x) p t) = limited-later m l n p (leaf (var x) (m + t)) (leaf (var x) t) (unfold later_head in refl)
  on-term-behind l n (word (negated-name x) p t) = refl
  on-term-behind l n (wrong e p) = refl

  head-behind : (at l n : ℕ) → head_at u (m + at) l n ≡ later_head m (head_at s at l n)
  unfolding head_at
  head-behind at l n = ap (on_term u l n) (token-behind at) ∙ on-term-behind l n (token_at s at)

  record Behind (f : ℕ) : Type 0 where
    a-term : (at l n : ℕ) → term f u (m + at) l n ≡ later_reads m (term f s at l n)
    some-items : (at l n : ℕ) (xs : List Term) → items f u (m + at) l n xs ≡ later_reads m (items f s at l n xs)

  got_later : {A : Type 0} (a : A) (t n : ℕ) → got a (m + t) n ≡ later_reads m (got a t n)
  unfolding later_reads
  got_later a t n = refl

  term-behind : (f : ℕ) → Behind f → (at l n : ℕ) → term (suc f) u (m + at) l n ≡ later_reads m (term (suc f) s at l n)
  unfolding term
  term-behind f b at l n =
      ap (on_head _ n) (head-behind at l n)
      ∙ head-later m _ _ n (head_at s at l n) (λ x t.
      then-later m (term f u (m + t) (suc l) (suc n)) (term f s t (suc l) (suc n)) _ _ (b.a-term t (suc l) (suc n)) (λ y t i.
      then-later m (items f u (m + t) (suc l) i (y ∷ [])) (items f s t (suc l) i (y ∷ [])) _ _ (b.some-items t (suc l) i (y ∷ [])) (λ ys t i. got_later (app x (listed ys)) t i)))

  items-behind : (f : ℕ) → Behind f → (at l n : ℕ) (xs : List Term) → items (suc f) u (m + at) l n xs ≡ later_reads m (items (suc f) s at l n xs)
  unfolding term
  items-behind f b at l n xs =
      item-behind (then (term f u (m + at) l n) (λ x t i. items f u t l i (xs ++ (x ∷ [])))) (then (term f s at l n) (λ x t i. items f s t l i (xs ++ (x ∷ [])))) xs n at
      (then-later m (term f u (m + at) l n) (term f s at l n) _ _ (b.a-term at l n) (λ x t i. b.some-items t l i (xs ++ (x ∷ []))))

  behind : (f : ℕ) → Behind f
  unfolding term later_reads
  behind zero = record { a-term = λ at l n. refl; some-items = λ at l n xs. refl }
  behind (suc f) = let b : Behind f = behind f in record { a-term = term-behind f b; some-items = items-behind f b }

  -- ---- commands
  id-behind : {A : Type 0} (cs : List Command) (at : ℕ) (k j : List ℕ → ℕ → Reads A) → ((d : List ℕ) (t : ℕ) → k d (m + t) ≡ later_reads m (j d t)) → new_id cs u (m + at) k ≡ later_reads m (new_id cs s at j)
  unfolding new_id later_reads
  id-behind cs at k j h = name-behind at _ _ (λ d p t. cond-later m (known cs d) (off 8 (m + p)) (k d (m + t)) (off 8 p) (j d t) refl (h d t))

  premise-behind : (cs : List Command) (at n : ℕ) → premise cs u (m + at) n ≡ later_reads m (premise cs s at n)
  unfolding premise later_reads
  premise-behind cs at n = name-behind at _ _ (λ d p t. cond-later m (ltb n max_nodes) (cond (known cs d) (got d (m + t) (suc n)) (off 8 (m + p))) (off 7 (m + p)) (cond (known cs d) (got d t (suc n)) (off 8 p)) (off 7 p)
      (cond-later m (known cs d) (got d (m + t) (suc n)) (off 8 (m + p)) (got d t (suc n)) (off 8 p) refl refl) refl)

  premises-behind : (f : ℕ) (cs : List Command) (at n : ℕ) (ds : List (List ℕ)) → premises f cs u (m + at) n ds ≡ later_reads m (premises f cs s at n ds)
  unfolding premises later_reads
  premises-behind zero cs at n ds = refl
  premises-behind (suc f) cs at n ds =
      item-behind (then (premise cs u (m + at) n) (λ d t i. premises f cs u t i (ds ++ (d ∷ [])))) (then (premise cs s at n) (λ d t i. premises f cs s t i (ds ++ (d ∷ [])))) ds n at
      (then-later m (premise cs u (m + at) n) (premise cs s at n) _ _ (premise-behind cs at n) (λ d t i. premises-behind f cs t i (ds ++ (d ∷ []))))

  premises_at-behind : (cs : List Command) (at n : ℕ) → premises_at cs u (m + at) n ≡ later_reads m (premises_at cs s at n)
  unfolding premises_at
  premises_at-behind cs at n =
      option-behind premises-word at _ _ (got [] (m + at) n) (got [] at n)
      (λ t. expect-behind opening t _ _ (λ t. then-later m (premise cs u (m + t) n) (premise cs s t n) _ _ (premise-behind cs t n) (λ d t i. premises-behind enough cs t i (d ∷ []))))
      (got_later [] at n)

  args_at-behind : (at n : ℕ) → args_at u (m + at) n ≡ later_reads m (args_at s at n)
  unfolding args_at
  args_at-behind at n =
      option-behind args-word at _ _ (got [] (m + at) n) (got [] at n)
      (λ t. expect-behind opening t _ _ (λ t. then-later m (term enough u (m + t) 1 n) (term enough s t 1 n) _ _ ((behind enough).a-term t 1 n) (λ x t i. (behind enough).some-items t 1 i (x ∷ []))))
      (got_later [] at n)

  rule-behind : {A : Type 0} (at : ℕ) (k j : Rule → ℕ → Reads A) → ((r : Rule) (t : ℕ) → k r (m + t) ≡ later_reads m (j r t)) → rule_at u (m + at) k ≡ later_reads m (rule_at s at j)
  unfolding rule_at
  rule-behind at k j h = name-behind at _ _ (λ x p t. rule-later m (λ r. k r (m + t)) (λ r. j r t) p (rule_of x) (λ r. h r t))

  assume-behind : (cs : List Command) (at n : ℕ) → assume_at cs u (m + at) n ≡ later_reads m (assume_at cs s at n)
  unfolding assume_at
  assume-behind cs at n = id-behind cs at _ _ (λ d t. then-later m (term enough u (m + t) 1 n) (term enough s t 1 n) _ _ ((behind enough).a-term t 1 n) (λ x t i. expect-behind closing t _ _ (λ t. got_later (assume d x) t i)))

  step-behind : (cs : List Command) (at n : ℕ) → step_at cs u (m + at) n ≡ later_reads m (step_at cs s at n)
  unfolding step_at
  step-behind cs at n =
      id-behind cs at _ _ (λ d t. expect-behind opening t _ _ (λ t. expect-behind cl-word t _ _ (λ t. then-later m (items enough u (m + t) 1 n []) (items enough s t 1 n []) _ _ ((behind enough).some-items t 1 n []) (λ c t i.
      expect-behind rule-word t _ _ (λ t. rule-behind t _ _ (λ r t. then-later m (premises_at cs u (m + t) i) (premises_at cs s t i) _ _ (premises_at-behind cs t i) (λ ds t i. then-later m (args_at u (m + t) i) (args_at s t i) _ _ (args_at-behind t i) (λ xs t i.
      expect-behind closing t _ _ (λ t. got_later (step d c r ds xs) t i)))))))))

  -- ---- pol lines
  on-word-behind : (above : List ℕ → Bool) (n : ℕ) (w : Token) → on_word above u n (later_token m w) ≡ later_reads m (on_word above s n w)
  unfolding on_word later_token later_reads
  on-word-behind above n (ended p) = refl
  on-word-behind above n (word (mark a) p t) = refl
  on-word-behind above n (word (operator x) p t) = cond-later m (same_op add x) (got plus-word (m + t) n) (off 6 (m + p)) (got plus-word t n) (off 6 p) refl refl
  on-word-behind above n (word (numeral z) p t) = ap (on_factor z n) (token-behind t) ∙ factor-later m z n (token_at s t)
  on-word-behind above n (word (name x) p t) = named-word-later m above n x p t
  on-word-behind above n (word (negated-name x) p t) = refl
  on-word-behind above n (wrong e p) = refl

  word-behind : (above : List ℕ → Bool) (at n : ℕ) → word_at above u (m + at) n ≡ later_reads m (word_at above s at n)
  unfolding word_at
  word-behind above at n = ap (on_word above u n) (token-behind at) ∙ on-word-behind above n (token_at s at)

  more-behind : (f : ℕ) (above : List ℕ → Bool) (at n : ℕ) (ws : List PolWord) → more_words f above u (m + at) n ws ≡ later_reads m (more_words f above s at n ws)
  unfolding more_words later_reads
  more-behind zero above at n ws = refl
  more-behind (suc f) above at n ws =
      item-behind (then (word_at above u (m + at) n) (λ w t i. more_words f above u t i (ws ++ (w ∷ [])))) (then (word_at above s at n) (λ w t i. more_words f above s t i (ws ++ (w ∷ [])))) ws n at
      (then-later m (word_at above u (m + at) n) (word_at above s at n) _ _ (word-behind above at n) (λ w t i. more-behind f above t i (ws ++ (w ∷ []))))

  words-behind : (f : ℕ) (above : List ℕ → Bool) (at n : ℕ) → words_at f above u (m + at) n ≡ later_reads m (words_at f above s at n)
  unfolding words_at
  words-behind f above at n = then-later m (word_at above u (m + at) n) (word_at above s at n) _ _ (word-behind above at n) (λ w t i. more-behind f above t i (w ∷ []))

  pol-behind : (cs : List Command) (at n : ℕ) → pol_at cs u (m + at) n ≡ later_reads m (pol_at cs s at n)
  unfolding pol_at
  pol-behind cs at n = id-behind cs at _ _ (λ d t. then-later m (words_at enough (known cs) u (m + t) n) (words_at enough (known cs) s t n) _ _ (words-behind enough (known cs) t n) (λ ws t i. got_later (pol d ws) t i))

  pol-or-behind : (cs : List Command) (at n : ℕ) (r q : Reads Command) → r ≡ later_reads m q → pol_or cs u (m + at) n r ≡ later_reads m (pol_or cs s at n q)
  unfolding pol_or later_reads
  pol-or-behind cs at n r q e =
      ap (on_named (bytes "pol") _ r) (token-behind at)
      ∙ named-later m (bytes "pol") _ _ r q (token_at s at) (λ p t. cond-later m (ltb (pol_lines cs) max_pols) (pol_at cs u (m + t) n) (off 7 (m + p)) (pol_at cs s t n) (off 7 p) (pol-behind cs t n) refl) e

  command-behind : (cs : List Command) (at n : ℕ) → command_at cs u (m + at) n ≡ later_reads m (command_at cs s at n)
  unfolding command_at
  command-behind cs at n = option-behind assume-word at _ _ _ _ (λ t. assume-behind cs t n) (pol-or-behind cs at n _ _ (expect-behind step-word at _ _ (λ t. step-behind cs t n)))

  lead-behind : (at i : ℕ) → lead_at u (m + at) i ≡ later_lead m (lead_at s at i)
  unfolding lead_at
  lead-behind at i = ap (on_lead i) (token-behind at) ∙ lead-later m i (token_at s at)

  pub commands-behind : (f at n : ℕ) (cs : List Command) → commands f u (m + at) n cs ≡ later_read m (commands f s at n cs)
  unfolding commands later_read
  commands-behind zero at n cs = refl
  commands-behind (suc f) at n cs =
      ap (on_command _ cs) (lead-behind at (length cs))
      ∙ command-later m _ _ cs (lead_at s at (length cs)) (λ t.
      read-later m _ _ (command_at cs u (m + t) n) (command_at cs s t n) (command-behind cs t n) (λ c t i. commands-behind f t i (cs ++ (c ∷ []))))

  -- the text s, read where it stands behind the bytes o
  pub read_behind_lem : (before : List Command) → length s ≤ max_text → commands enough u m (all_nodes before) before ≡ later_read m (read_behind before s)
  unfolding read_behind
  read_behind_lem before short =
      let e : m ≡ m + 0 = omega arith in
      ap (λ (p : ℕ). commands enough u p (all_nodes before) before) e
      ∙ commands-behind enough 0 (all_nodes before) before
      ∙ sym (ap (λ (b : Bool). later_read m (cond b (commands enough s 0 (all_nodes before) before) (refused 2 max_text))) (is_true (leb (length s) max_text) (le→leb (length s) max_text short)))
