-- What each word makes of the stack, from what the function for it answers.
use mathlib.Core.Path.{◌≡◌, refl, sym, subst, ap, ◌∙◌}
use mathlib.Core.Bool.{Bool, true, false, cond}
use mathlib.Core.List.{List, ◌∷◌, map}
use Prim.Native.Nat.{ℕ, ◌+◌, ◌-◌, ◌≤◌, ◌<◌}
use native.Mathlib.Decide.{dec_lt}
use native.Mathlib.Omega.{arith}
use borrow.Author.Tests.{lt-ltb, le-ltb}
use lib.Dec.{T, ltb}
use lib.IntN.{ℤ, pos}
use lib.ListN.{length, get_or, set, length-set}
use lib.Seq.{slice, get_or-set_same}
use Rattle.integer.specs.Integers.{signed}
use Rattle.lexer.specs.Tokens.{place}
use Rattle.calculus.specs.Entries.{Lit, Inequality}
use Rattle.calculus.specs.Grammar.{got}
use Rattle.calculus.specs.Pol.{max_stack, max_literals, axiom_of, multiplied, divided, saturated, stacked, push, on_top, on_two, pol_step, fits_entry, in_range, line_inequality}
use Rattle.calculus.specs.Sums.{has, all}
use Rattle.calculus.specs.Terms.{Term, var, PolWord, line_word, plain_word, saturate-word, times-word, over_word}
use Rattle.calculus.specs.Words.{Res, ok, bind, ensure}
use Rattle.nodes.specs.Nodes.{name_kind, kind_at, decode, Table}
use Rattle.nodes.proofs.Tables.{kept_refl, decode-kept, decode-name}
use Rattle.terms.specs.Names.{Names}
use Rattle.terms.specs.Reading.{Grown}
use Rattle.terms.specs.Spans.{string_at, strings}
use Rattle.terms.proofs.Places.{string-found, string-none}
use Rattle.matching.specs.Entries.{run, Under}
use Rattle.matching.specs.Matched.{key_of, Variable, Text}
use Rattle.matching.specs.Places.{placed}
use Rattle.matching.proofs.Matches.{key-variable, key-literal}
use Rattle.matching.proofs.Places.{coefficient-at, key-at}
use Rattle.heads.specs.PolHeads.{pol_word_of}
use Rattle.heads.specs.declared.PolHead.{PolHead}
use Rattle.heads.specs.declared.PolHead.TheVariants.{Plain, Negated, Add, Saturate, Times, Over}
use Rattle.sums.specs.Lists.{res_of}
use Rattle.sums.specs.Places.{left_at}
use Rattle.pol.specs.Stack.{stack_words, window, count_of, stack_of, Standing, Stack, StackUnder, WorkedIs, TopIs}
use Rattle.pol.specs.Pushing.{LinePushed, NumberedAs, AxiomPut}
use Rattle.pol.proofs.Keeping.{stack_same, stored-count, stored-key, stored-entry, stored-stands, stored-coefficients, stored-keys, stored-stack}
use Rattle.pol.proofs.Pushing.{push-full, push-room}
use Rattle.pol.proofs.Working.{stack-one}
use Rattle.reader.specs.Commands.{clause_word, part_at, above_in}
use Rattle.reader.specs.Reading.{Ids}
use Rattle.lines.specs.Running.{Above, held_in, AllHeld, Running, Longer, literal_word, LiteralHead, WordDone, LiteralDone}
use Rattle.lines.proofs.Words.{got-is}
use Rattle.lines.proofs.Holding.{or_right, push-holds, two-holds, cap-holds, times-holds, over-holds, axiom-holds}
use Rattle.lines.proofs.Growing.{stack-terms, grown-stack, grown-rooms, rooms_same, under_more, set-window}

-- ---- the table as it was
pub longer-none : {s t y : List ℕ} {m : ℕ} → Names s t y m → Longer s t t y m m
longer-none {s} {t} {y} {m} N = record {
  grown = λ c T. record { kept = kept_refl t m c; table = T; names = N; more = omega arith; wider = omega arith };
  first = λ k h l. let z : ⊥ = omega arith in absurd z;
}

-- ---- ids above
-- one that is found above
pub among : (s w x : List ℕ) {all k j : ℕ} → k ≤ all → j ≡ place (strings s w 0 all) x → j < k → ltb (place (strings s w 0 k) x) k ≡ true
among s w x {all} {k} {j} few found before = go (dec_lt (place (strings s w 0 k) x) k)
  where
    go : Dec (place (strings s w 0 k) x < k) → ltb (place (strings s w 0 k) x) k ≡ true
    go (yes h) = lt-ltb (place (strings s w 0 k) x) k h
    go (no h) = absurd (string-none s w k x (place (strings s w 0 k) x) refl (omega arith) j before (string-found s w all x j found (omega arith)))

-- and one that is not
pub not-among : {s w : List ℕ} (x : List ℕ) {all k j : ℕ} → Ids s w all → k ≤ all → j ≡ place (strings s w 0 all) x → k ≤ j → above_in s w k x ≡ false
unfolding above_in
not-among {s} {w} x {all} {k} {j} I few found behind = go (dec_lt (place (strings s w 0 k) x) k) (dec_lt j all)
  where
    go : Dec (place (strings s w 0 k) x < k) → Dec (j < all) → ltb (place (strings s w 0 k) x) k ≡ false
    go (no h) c = le-ltb (place (strings s w 0 k) x) k (omega arith)
    go (yes h) (yes c) =
        absurd (I.indexed.apart j c (place (strings s w 0 k) x) (omega arith) (string-found s w k x (place (strings s w 0 k) x) refl h ∙ sym (string-found s w all x j found c)))
    go (yes h) (no c) = absurd (string-none s w all x j found (omega arith) (place (strings s w 0 k) x) (omega arith) (string-found s w k x (place (strings s w 0 k) x) refl h))

-- the word of a literal pushes its axiom
literal_pushes : (at : List ℕ → List Term) (b : Bool) (x : List ℕ) (S : List Inequality) → pol_step at (literal_word b x) S ≡ push S (ok (axiom_of x b))
unfolding pol_step literal_word
literal_pushes at true x S = refl
literal_pushes at false x S = refl

-- what is on the stack stays on it
stays : (f : ℕ → Term) (S S' : List Inequality) → ((k : Lit) → T (held_in k S) → T (held_in k S')) → (n m : ℕ) → ((k : ℕ) → n ≤ k → k < m → (b : Bool) × T (held_in (record { variable = f k; negated = b }) S))
    → (k : ℕ) → n ≤ k → k < m → (b : Bool) × T (held_in (record { variable = f k; negated = b }) S')
stays f S S' keeps n m H k a b = let g = H k a b in (g.0, keeps (record { variable = f k; negated = g.0 }) g.1)

-- an answer that is no number
done : {A : Type 0} {r : ℕ} {a : A} {q : Res A} → r ≡ 0 → q ≡ res_of r a → q ≡ ok a
unfolding res_of
done z e = rw z at e

module _ {s t y : List ℕ} {cs : List ℤ} {ks sl : List ℕ} {m c₀ d : ℕ} (R : Running s t y cs ks sl m c₀ d) where
  abbrev here : Text t
  here = record { text = s; n = m; named = R.names.named }

  module _ {ds : List ℤ} {ls tl : List ℕ} (a : length ds ≡ length cs) (b : length ls ≡ length ks) (g : length tl ≡ length sl) where
    -- a word that leaves the table as it is
    goes_on : {e r : ℕ} → (r ≡ 0 → Stack t ds ls e) → (r ≡ 0 → StackUnder m ls e) → (c : ℕ) → Table t m c → r ≡ 0 → Running s t y ds ls tl m c e
    goes_on f h c T z = record {
      text = R.text;
      table = T;
      names = R.names;
      stack = f z;
      under = h z;
      rooms = rooms_same R.rooms a b g;
    }

    pub add_done : {w : List ℕ} {k next e r : ℕ} → WorkedIs t on_two cs ks d ds ls e r → WordDone s t t w y k (Add next) cs ks m d ds ls tl (record { number = r; nodes = m; entries = e })
    unfolding pol_word_of pol_step
    add_done {w} {k} {next} {e} {r} W = record {
      is = λ at C x to n q. rw (got-is q) (W.is here R.under);
      longer = longer-none R.names;
      held = λ z n. stays (decode s t) (stack_of (decode s t) cs ks d) (stack_of (decode s t) ds ls e) (λ k. two-holds k (stack_of (decode s t) cs ks d) (done z (W.is here R.under))) n m;
      running = goes_on W.stack (λ z. W.under z m R.under);
    }

    -- an id that is pushed
    module _ {w : List ℕ} {all k from to : ℕ} (A : Above s t w all k m c₀) (j : ℕ) (found : j ≡ place (strings s w 0 all) (slice from to s)) (before : j < k) where
      pub line_done : {r : ℕ} → LinePushed t (part_at t w j clause_word) cs ks d ds ls r → WordDone s t t w y k (Plain from to) cs ks m d ds ls tl (record { number = r; nodes = m; entries = d + 1 })
      unfolding pol_word_of pol_step above_in
      line_done W = record {
        is = λ at C x next n q. rw (got-is (ap (λ (b : Bool). cond b (got (line_word (slice from to s)) to n) (got (plain_word (slice from to s)) to n)) (sym known) ∙ q), id-is, C j before) (W.is here R.under (A.under j before));
        longer = longer-none R.names;
        held = λ z n. stays (decode s t) (stack_of (decode s t) cs ks d) (stack_of (decode s t) ds ls (d + 1)) (λ i. push-holds i (stack_of (decode s t) cs ks d) (line_inequality (map (decode s t) (part_at t w j clause_word))) (done z (W.is here R.under (A.under j before)))) n m;
        running = goes_on W.stack (λ z. W.under z m R.under (A.under j before));
      }
        where
          id-is : slice from to s ≡ string_at s w j
          id-is = sym (string-found s w all (slice from to s) j found (omega (arith, A.few)))

          known : ltb (place (strings s w 0 k) (slice from to s)) k ≡ true
          known = among s w (slice from to s) A.few found before

  module _ {ds : List ℤ} (a : length ds ≡ length cs) {w : List ℕ} {k next r : ℕ} where
    topping : (head : PolHead) (word : PolWord) (f : Inequality → Res Inequality) → ((k : Lit) (S : List Inequality) (S' : List Inequality) → on_top f S ≡ ok S' → T (held_in k S) → T (held_in k S')) → ((n : ℕ) → pol_word_of (above_in s w k) s n head ≡ got word next n) → ((at : List ℕ → List Term) (S : List Inequality) → pol_step at word S ≡ on_top f S)
        → TopIs (on_top f) cs ks d ds r → WordDone s t t w y k head cs ks m d ds ks sl (record { number = r; nodes = m; entries = d })
    topping head word f keeps h g W = record {
      is = λ at C x to n q. rw (got-is (sym (h n) ∙ q)) (g at (stack_of (decode s t) cs ks d) ∙ (W t R.stack).is here R.under);
      longer = longer-none R.names;
      held = λ z n. stays (decode s t) (stack_of (decode s t) cs ks d) (stack_of (decode s t) ds ks d) (λ k. keeps k (stack_of (decode s t) cs ks d) (stack_of (decode s t) ds ks d) (done z ((W t R.stack).is here R.under))) n m;
      running = goes_on a refl refl (W t R.stack).stack (λ z. (W t R.stack).under z m R.under);
    }

    pub saturate_done : TopIs (on_top saturated) cs ks d ds r → WordDone s t t w y k (Saturate next) cs ks m d ds ks sl (record { number = r; nodes = m; entries = d })
    unfolding pol_word_of pol_step
    saturate_done = topping (Saturate next) saturate-word saturated (λ k S S'. cap-holds k S) (λ n. refl) (λ at S. refl)

    pub times-done : {b : Bool} {v : ℕ} → TopIs (on_top (multiplied (signed b v))) cs ks d ds r → WordDone s t t w y k (Times b v next) cs ks m d ds ks sl (record { number = r; nodes = m; entries = d })
    unfolding pol_word_of pol_step
    times-done {b} {v} = topping (Times b v next) (times-word (signed b v)) (multiplied (signed b v)) (λ k S S'. times-holds k (signed b v) S) (λ n. refl) (λ at S. refl)

    pub over_done : {b : Bool} {v : ℕ} → TopIs (on_top (divided (signed b v))) cs ks d ds r → WordDone s t t w y k (Over b v next) cs ks m d ds ks sl (record { number = r; nodes = m; entries = d })
    unfolding pol_word_of pol_step
    over_done {b} {v} = topping (Over b v next) (over_word (signed b v)) (divided (signed b v)) (λ k S S'. over-holds k (signed b v) S) (λ n. refl) (λ at S. refl)

  -- ---- the axiom of a literal
  -- on a full stack
  pub literal_full : (b : Bool) (x : List ℕ) → max_stack ≤ d → LiteralDone s t t y b x cs ks m d cs ks sl (record { number = 52; nodes = m; entries = d })
  unfolding res_of
  literal_full b x full w k to head h = record {
    is = λ at C x' next n q. rw (got-is (sym (h n) ∙ q)) (literal_pushes at b x (stack_of (decode s t) cs ks d) ∙ push-full (decode s t) cs ks d (ok (axiom_of x b)) full);
    longer = longer-none R.names;
    held = λ z. let f : ⊥ = omega arith in absurd f;
    running = λ c T z. let f : ⊥ = omega arith in absurd f;
  }

  -- where there is room
  module _ (low : d < max_stack) {u z x : List ℕ} {v l : ℕ} (N : NumberedAs s t u z m x v l) (b : Bool) {ds : List ℤ} {ls : List ℕ} (P : AxiomPut cs ks v b d ds ls) where
    grown : Grown s t u z m c₀ l c₀
    grown = N.grown c₀ R.table

    long : stack_words ≤ length (set cs left_at (pos 1))
    long = omega (arith, R.stack.coefficients, length-set cs left_at (pos 1))

    same : stack_words ≤ length (set ks left_at (key_of v b))
    same = omega (arith, R.stack.keys, length-set ks left_at (key_of v b))

    few : 1 ≤ max_literals
    few = omega arith

    coefficients : (e : ℕ) → e < d → window e ds ≡ window e cs
    coefficients e h = stored-coefficients P few low long same e h ∙ set-window (pos 0) cs left_at (pos 1) e (omega arith) (omega arith) R.stack.coefficients long

    keys : (e : ℕ) → e < d → window e ls ≡ window e ks
    keys e h = stored-keys P few low long same e h ∙ set-window 0 ks left_at (key_of v b) e (omega arith) (omega arith) R.stack.keys same

    key : get_or (placed left_at (set ks left_at (key_of v b))) 0 0 ≡ key_of v b
    key = key-at left_at (set ks left_at (key_of v b)) 0 (omega arith) ∙ get_or-set_same ks left_at (key_of v b) 0 (omega (arith, R.stack.keys))

    one : get_or (placed left_at (set cs left_at (pos 1))) 0 (pos 0) ≡ pos 1
    one = coefficient-at left_at (set cs left_at (pos 1)) 0 (omega arith) ∙ get_or-set_same cs left_at (pos 1) (pos 0) (omega (arith, R.stack.coefficients))

    high : name_kind ≤ kind_at u v
    high = omega (arith, N.first)

    name-is : decode s u v ≡ var x
    name-is = decode-name grown.table s v N.before high ∙ ap var N.name

    literal-stack : stack_of (decode s u) ds ls (d + 1) ≡ axiom_of x b ∷ stack_of (decode s t) cs ks d
    unfolding axiom_of run
    literal-stack =
        let n : d + 1 - 1 ≡ d = omega arith in
        rw (stack-one (decode s u) ds ls (d + 1) (omega arith), n, stored-entry P few (decode s u), stack_same (decode s u) cs ds ks ls d coefficients keys, stack-terms (λ i h. decode-kept R.table grown.kept s i h) cs ks d R.under, key, one, key-literal (decode s u) v b, name-is)

    variable : Variable u v
    variable = record {
      node = record { n = l; c = c₀; table = grown.table; firsts = grown.names.firsts; below = N.before };
      first = λ g. N.first;
    }

    standing : Standing u (window d ds) (window d ls)
    standing =
        stored-stands P few
        (λ i h. let e : i ≡ 0 = omega arith in rw (e, key, key-variable v b) variable)
        (λ i h. let e : i ≡ 0 = omega arith in rw (e, key, key-variable v b) high)
        (λ i h. let e : i ≡ 0 = omega arith in rw (e, one) (record { within = omega arith }))
        (record { within = omega arith })

    before : Stack u (set cs left_at (pos 1)) (set ks left_at (key_of v b)) d
    before =
        let K = grown-stack grown R.under R.stack in
        record {
          few = K.few;
          coefficients = long;
          keys = same;
          each = λ e h.
              rw (set-window (pos 0) cs left_at (pos 1) e (omega arith) (omega arith) R.stack.coefficients long, set-window 0 ks left_at (key_of v b) e (omega arith) (omega arith) R.stack.keys same) (K.each e h);
        }

    under : StackUnder l ls (d + 1)
    under e h = go (dec_lt e d)
      where
        go : Dec (e < d) → Under l (window e ls) (count_of (window e ls))
        go (yes q) = rw (keys e q) (under_more ks d grown.more R.under e q)
        go (no q) =
            let y : e ≡ d = omega arith in
            rw y (λ i g. let f : i ≡ 0 = omega (arith, stored-count P few) in rw (f, stored-key P few 0 (omega arith), key, key-variable v b) N.before)

    longer : Longer s t u z m l
    longer = record { grown = N.grown; first = λ k g h. rw (N.new k g h) N.first }

    goes : (c : ℕ) → Table t m c → Running s u z ds ls sl l c (d + 1)
    goes c T = record {
      text = R.text;
      table = (N.grown c T).table;
      names = grown.names;
      stack = stored-stack P few low long same (omega arith) before standing;
      under = under;
      rooms = rooms_same (grown-rooms grown R.rooms) (P.long ∙ length-set cs left_at (pos 1)) (P.same ∙ length-set ks left_at (key_of v b)) refl;
    }

    pushes : push (stack_of (decode s t) cs ks d) (ok (axiom_of x b)) ≡ ok (stack_of (decode s u) ds ls (d + 1))
    unfolding bind stacked ensure axiom_of fits_entry in_range all
    pushes = push-room (decode s t) cs ks d (ok (axiom_of x b)) low ∙ ap ok (sym literal-stack)

    literal-held : (n : ℕ) → AllHeld (decode s t) cs ks n m d → AllHeld (decode s u) ds ls n l (d + 1)
    unfolding held_in
    literal-held n H k a h = rw literal-stack (go (dec_lt k m))
      where
        go : Dec (k < m) → (c : Bool) × T (held_in (record { variable = decode s u k; negated = c }) (axiom_of x b ∷ stack_of (decode s t) cs ks d))
        go (yes q) = let g = H k a q in (g.0, subst (λ (w : Term). T (held_in (record { variable = w; negated = g.0 }) (axiom_of x b ∷ stack_of (decode s t) cs ks d))) (sym (decode-kept R.table grown.kept s k q)) (or_right (has (record { variable = decode s t k; negated = g.0 }) (axiom_of x b).sum) (held_in (record { variable = decode s t k; negated = g.0 }) (stack_of (decode s t) cs ks d)) g.1))
        go (no q) = (b, axiom-holds (record { variable = decode s u k; negated = b }) x (stack_of (decode s t) cs ks d) (ap (decode s u) (N.new k (omega arith) h) ∙ name-is))

    pub literal_done : LiteralDone s t u z b x cs ks m d ds ls sl (record { number = 0; nodes = l; entries = d + 1 })
    unfolding res_of
    literal_done w k to head h = record {
      is = λ at C x' next n q. rw (got-is (sym (h n) ∙ q)) (literal_pushes at b x (stack_of (decode s t) cs ks d) ∙ pushes);
      longer = longer;
      held = λ e. literal-held;
      running = λ c T e. goes c T;
    }

-- the heads of literals
pub negated-head : (s w : List ℕ) (k from to : ℕ) → LiteralHead s w k (Negated from to) true (slice from to s) to
unfolding pol_word_of literal_word
negated-head s w k from to n = refl

pub plain-head : (s w : List ℕ) (k from to : ℕ) → above_in s w k (slice from to s) ≡ false → LiteralHead s w k (Plain from to) false (slice from to s) to
unfolding pol_word_of literal_word
plain-head s w k from to e n = rw e
