-- A text with the words of commands within the limits is read as these commands.
use mathlib.Core.Path.{◌≡◌, refl, sym, ap, ap₂, ◌∙◌}
use mathlib.Core.Bool.{Bool, true, false, not, cond, ◌&&◌}
use mathlib.Core.List.{List, [], ◌∷◌, ◌++◌, append_assoc, append-nil}
use Prim.Native.Nat.{ℕ, zero, suc, ◌+◌, ◌≤◌, ◌<◌}
use native.Mathlib.Omega.{arith}
use lib.Dec.{T, eqb, eqb_refl, leb, ltb, lt→ltb, le→leb}
use lib.ListN.{length, length-append}
use Rattle.calculus.specs.Bytes.{bytes}
use Rattle.calculus.specs.Commands.{enough, new_id, premise, premises, premises_at, args_at, rule_among, rule_of, on_rule, rule_at, assume_at, step_at, command_at, Read, whole, refused, begin, halt, on_lead, lead_at, on_command, on_read, commands, read_behind, read_file, pol_at, pol_or}
use Rattle.calculus.specs.Grammar.{Reads, got, off, then, mark_number, same_mark, on_mark, expect, on_option, on_name, name_at, on_close, close_at, on_item, term, items}
use Rattle.calculus.specs.PolGrammar.{on_named, words_at}
use Rattle.calculus.specs.Terms.{Term, same_name, Rule, addition, multiplication, division, saturation, literal, normalize, transfer, part, PolWord, Command, assume, step, pol, listed, rule_text}
use Rattle.calculus.specs.Words.{ok, Mark, opening, closing, cl-word, assume-word, step-word, rule-word, premises-word, args-word, Word, mark, name}
use Rattle.calculus.specs.Tokens.{Token, ended, word, token_at}
use Rattle.calculus.specs.Limits.{max_nodes, max_text, max_commands, known, nodes, nodes_in, fits, fit_all, all_known, allowed, allowed_behind, command_nodes, all_nodes, max_pols, pol_lines, some_word, allowed_words}
use Rattle.calculus.specs.Writing.{term_words, terms_words, name_words, premises_words, args_words, pol_words, command_words, words_of, Has, IsReadBehind, IsRead}
use Rattle.calculus.proofs.Booleans.{and_l, and_r, is_true}
use Rattle.theorems.proofs.Readable.{has_split, unlisted_back, got-eq, item_close, completes}
use Rattle.theorems.proofs.ReadablePol.{words_at-eq, words_long}
use Rattle.theorems.proofs.Faithful.{has-as, terms-listed}
use Rattle.theorems.proofs.FaithfulFile.{body, command-words, nodes-append}
use Rattle.calculus.proofs.Tokens.{token-later, has-long, has-inside}

not_false : (b : Bool) → T (not b) → b ≡ false
not_false true t = absurd t
not_false false t = refl

same_mark-self : (m : Mark) → same_mark m m ≡ true
unfolding same_mark
same_mark-self m = is_true (eqb (mark_number m) (mark_number m)) (eqb_refl (mark_number m))

then-eq : {A B : Type 0} (r : Reads A) (k : A → ℕ → ℕ → Reads B) (a : A) (t n : ℕ) → r ≡ got a t n → then r k ≡ k a t n
unfolding then
then-eq r k a t n e = ap (λ (q : Reads _). then q k) e

module _ (s : List ℕ) where
  expect-eq : {A : Type 0} (m : Mark) (at p u : ℕ) (k : ℕ → Reads A) → token_at s at ≡ word (mark m) p u → expect m s at k ≡ k u
  unfolding expect on_mark
  expect-eq m at p u k e = ap (on_mark m k) e ∙ ap (λ (b : Bool). cond b (k u) (off 6 p)) (same_mark-self m)

  option-yes : {A : Type 0} (m : Mark) (at p u : ℕ) (k : ℕ → Reads A) (r : Reads A) → token_at s at ≡ word (mark m) p u → on_option m k r (token_at s at) ≡ k u
  unfolding on_option
  option-yes m at p u k r e = ap (on_option m k r) e ∙ ap (λ (b : Bool). cond b (k u) r) (same_mark-self m)

  option-no : {A : Type 0} (m a : Mark) (at p u : ℕ) (k : ℕ → Reads A) (r : Reads A) → token_at s at ≡ word (mark a) p u → same_mark a m ≡ false → on_option m k r (token_at s at) ≡ r
  unfolding on_option
  option-no m a at p u k r e h = ap (on_option m k r) e ∙ ap (λ (b : Bool). cond b (k u) r) h

  id-eq : {A : Type 0} (cs : List Command) (at : ℕ) (k : List ℕ → ℕ → Reads A) (d : List ℕ) (p u : ℕ) → token_at s at ≡ word (name d) p u → T (not (known cs d)) → new_id cs s at k ≡ k d u
  unfolding new_id name_at on_name
  id-eq cs at k d p u e h = ap (on_name _) e ∙ ap (λ (b : Bool). cond b (off 8 p) (k d u)) (not_false (known cs d) h)

  premise-eq : (cs : List Command) (at n : ℕ) (d : List ℕ) (p u : ℕ) → token_at s at ≡ word (name d) p u → n < max_nodes → T (known cs d) → premise cs s at n ≡ got d u (suc n)
  unfolding premise name_at on_name
  premise-eq cs at n d p u e h k =
      ap (on_name _) e
      ∙ ap₂ (λ (a b : Bool). cond a (cond b (got d u (suc n)) (off 8 p)) (off 7 p)) (is_true (ltb n max_nodes) (lt→ltb n max_nodes h)) (is_true (known cs d) k)

  rule-eq : (r : Rule) → rule_of (rule_text r) ≡ ok r
  unfolding rule_of rule_among rule_text same_name
  rule-eq addition = refl
  rule-eq multiplication = refl
  rule-eq division = refl
  rule-eq saturation = refl
  rule-eq literal = refl
  rule-eq normalize = refl
  rule-eq transfer = refl
  rule-eq part = refl

  rule_at-eq : {A : Type 0} (at p u : ℕ) (k : Rule → ℕ → Reads A) (r : Rule) → token_at s at ≡ word (name (rule_text r)) p u → rule_at s at k ≡ k r u
  unfolding rule_at name_at on_name on_rule
  rule_at-eq at p u k r e = ap (on_name _) e ∙ ap (on_rule (λ r. k r u) p) (rule-eq r)

  name-not_close : (at p u : ℕ) (d : List ℕ) → token_at s at ≡ word (name d) p u → on_close (token_at s at) ≡ 0
  unfolding on_close
  name-not_close at p u d e = ap on_close e

  premises-eq : (f : ℕ) (cs : List Command) (es : List (List ℕ)) (at n : ℕ) (ds : List (List ℕ)) (t : ℕ) → T (all_known cs es) → n + length es ≤ max_nodes → length es < f → Has s at (name_words es ++ (mark closing ∷ [])) t → premises f cs s at n ds ≡ got (ds ++ es) t (n + length es)
  unfolding premises close_at Has name_words all_known on_item
  premises-eq zero cs es at n ds t d k j h = let v : ⊥ = omega arith in absurd v
  premises-eq (suc f) cs [] at n ds t d k j (p, u, e, h) = item_close s _ at n p u ds e ∙ ap₂ (λ (a : List (List ℕ)) (b : ℕ). got a b n) (sym (append-nil ds)) h ∙ got-eq _ _ t _ _ refl (omega arith)
  premises-eq (suc f) cs (c ∷ es) at n ds t d k j (p, u, e, h) =
      ap (on_item (then (premise cs s at n) (λ d t m. premises f cs s t m (ds ++ (d ∷ [])))) ds n) (name-not_close at p u c e)
      ∙ then-eq (premise cs s at n) (λ d t m. premises f cs s t m (ds ++ (d ∷ []))) c u (suc n) (premise-eq cs at n c p u e (omega arith) (and_l (known cs c) _ d))
      ∙ premises-eq f cs es u (suc n) (ds ++ (c ∷ [])) t (and_r (known cs c) _ d) (omega arith) (omega arith) h
      ∙ got-eq _ _ t _ _ (append_assoc ds (c ∷ []) es) (omega arith)

  -- what stands behind the premises begins with no `:premises`
  args-first : (xs : List Term) (at t : ℕ) → Has s at (args_words xs ++ (mark closing ∷ [])) t → (a : Mark) × (p : ℕ) × (u : ℕ) × (token_at s at ≡ word (mark a) p u) × (same_mark a premises-word ≡ false)
  unfolding Has args_words same_mark mark_number
  args-first [] at t (p, u, e, h) = (closing, p, u, e, refl)
  args-first (x ∷ xs) at t (p, u, e, h) = (args-word, p, u, e, refl)

  module _ (short : length s ≤ max_text) where
    term-eq : (x : Term) (at n t : ℕ) → at ≤ length s → T (fits 1 x) → n + nodes x ≤ max_nodes → Has s at (term_words x) t → term enough s at 1 n ≡ got x t (n + nodes x)
    term-eq x at n t i d k h = (completes s enough).a-term x at 1 n t d k (omega (arith, has-long s (term_words x) at t h, has-inside s (term_words x) at t i h)) h

    items-eq : (ys : List Term) (at n : ℕ) (xs : List Term) (t : ℕ) → at ≤ length s → T (fit_all 1 (listed ys)) → n + nodes_in (listed ys) ≤ max_nodes → Has s at (terms_words (listed ys) ++ (mark closing ∷ [])) t → items enough s at 1 n xs ≡ got (xs ++ ys) t (n + nodes_in (listed ys))
    items-eq ys at n xs t i d k h =
        let g : Has s at (terms_words (listed ys) ++ (mark closing ∷ [])) t = has-as s at t _ _ (ap (λ (r : List Word). r ++ (mark closing ∷ [])) (sym (terms-listed ys))) h in
        let l : length (terms_words (listed ys) ++ (mark closing ∷ [])) ≡ length (terms_words (listed ys)) + 1 = length-append (terms_words (listed ys)) (mark closing ∷ []) in
        (completes s enough).some-items (listed ys) at 1 n xs t d k (omega (arith, has-long s _ at t g, has-inside s _ at t i g)) g
        ∙ got-eq _ _ t _ _ (ap (λ (r : List Term). xs ++ r) (unlisted_back ys)) refl

    premises_at-eq : (cs : List Command) (ds : List (List ℕ)) (xs : List Term) (at n t : ℕ) → at ≤ length s → T (all_known cs ds) → n + length ds ≤ max_nodes → Has s at (premises_words ds ++ (args_words xs ++ (mark closing ∷ []))) t → (b : ℕ) × (b ≤ length s) × (premises_at cs s at n ≡ got ds b (n + length ds)) × Has s b (args_words xs ++ (mark closing ∷ [])) t
    unfolding premises_at premises_words name_words all_known Has
    premises_at-eq cs [] xs at n t i d k h =
        let (a, p, u, e, g) = args-first xs at t h in
        (at, i, option-no premises-word a at p u _ (got [] at n) e g ∙ got-eq _ _ at _ _ refl (omega arith), h)
    premises_at-eq cs (c ∷ ds) xs at n t i d k (p, u, e, (q, v, g, (o, w, f, h))) =
        let (b, h₁, h₂) = has_split s (name_words ds ++ (mark closing ∷ [])) (args_words xs ++ (mark closing ∷ [])) w t h in
        let j : w ≤ length s = (token-later s v (name c) o w f).1 in
        let l : length (name_words ds ++ (mark closing ∷ [])) ≡ length (name_words ds) + 1 = length-append (name_words ds) (mark closing ∷ []) in
        let z : length (name_words ds) ≡ length ds = name-count ds in
        let y : b ≤ length s = has-inside s (name_words ds ++ (mark closing ∷ [])) w b j h₁ in (
          b,
          y,
          option-yes premises-word at p u _ (got [] at n) e
              ∙ expect-eq opening u q v _ g
              ∙ then-eq (premise cs s v n) _ c w (suc n) (premise-eq cs v n c o w f (omega arith) (and_l (known cs c) _ d))
              ∙ premises-eq enough cs ds w (suc n) (c ∷ []) b (and_r (known cs c) _ d) (omega arith) (omega (arith, has-long s (name_words ds ++ (mark closing ∷ [])) w b h₁)) h₁
              ∙ got-eq _ _ b _ _ refl (omega arith),
          h₂,
        )
      where
        name-count : (ds : List (List ℕ)) → length (name_words ds) ≡ length ds
        name-count [] = refl
        name-count (d ∷ ds) = ap suc (name-count ds)

    args_at-eq : (xs : List Term) (at n t : ℕ) → at ≤ length s → T (fit_all 1 (listed xs)) → n + nodes_in (listed xs) ≤ max_nodes → Has s at (args_words xs ++ (mark closing ∷ [])) t → (b : ℕ) × (p : ℕ) × (args_at s at n ≡ got xs b (n + nodes_in (listed xs))) × (token_at s b ≡ word (mark closing) p t)
    unfolding args_at args_words Has fits nodes listed same_mark mark_number term_words
    args_at-eq [] at n t i d k (p, u, e, h) = (at, p, option-no args-word closing at p u _ (got [] at n) e refl ∙ got-eq _ _ at _ _ refl (omega arith), e ∙ ap (word (mark closing) p) h)
    args_at-eq (x ∷ xs) at n t i d k (p, u, e, (q, v, g, h)) =
        let (b, h₁, (o, w, f, h₂)) = has_split s ((term_words x ++ terms_words (listed xs)) ++ (mark closing ∷ [])) (mark closing ∷ []) v t h in
        let (a, h₃, h₄) = has_split s (term_words x) (terms_words (listed xs) ++ (mark closing ∷ [])) v b (has-as s v b _ _ (append_assoc (term_words x) (terms_words (listed xs)) (mark closing ∷ [])) h₁) in
        let j : v ≤ length s = (token-later s u (mark opening) q v g).1 in
        let y : a ≤ length s = has-inside s (term_words x) v a j h₃ in (
          b,
          o,
          option-yes args-word at p u _ (got [] at n) e
              ∙ expect-eq opening u q v _ g
              ∙ then-eq (term enough s v 1 n) _ x a (n + nodes x) (term-eq x v n a j (and_l (fits 1 x) _ d) (omega arith) h₃)
              ∙ items-eq xs a (n + nodes x) (x ∷ []) b y (and_r (fits 1 x) _ d) (omega arith) h₄
              ∙ got-eq _ _ b _ _ refl (omega arith),
          f ∙ ap (word (mark closing) o) h₂,
        )

    assume-eq : (cs : List Command) (d : List ℕ) (x : Term) (at n t : ℕ) → T (not (known cs d)) → T (fits 1 x) → n + nodes x ≤ max_nodes → Has s at (name d ∷ (term_words x ++ (mark closing ∷ []))) t → assume_at cs s at n ≡ got (assume d x) t (n + nodes x)
    unfolding assume_at Has
    assume-eq cs d x at n t h f k (p, u, e, g) =
        let (b, g₁, (q, v, g₂, g₃)) = has_split s (term_words x) (mark closing ∷ []) u t g in
        let j : u ≤ length s = (token-later s at (name d) p u e).1 in
        id-eq cs at _ d p u e h
        ∙ then-eq (term enough s u 1 n) _ x b (n + nodes x) (term-eq x u n b j f k g₁)
        ∙ expect-eq closing b q v _ g₂
        ∙ ap (λ (z : ℕ). got (assume d x) z (n + nodes x)) g₃

    step-eq : (cs : List Command) (d : List ℕ) (c : List Term) (r : Rule) (ds : List (List ℕ)) (xs : List Term) (at n t : ℕ) → T (not (known cs d)) → T (fit_all 1 (listed c)) → T (all_known cs ds) → T (fit_all 1 (listed xs)) → n + (nodes_in (listed c) + (length ds + nodes_in (listed xs))) ≤ max_nodes →
        Has s at (name d ∷ mark opening ∷ mark cl-word ∷ (terms_words (listed c) ++ (mark closing ∷ mark rule-word ∷ name (rule_text r) ∷ (premises_words ds ++ (args_words xs ++ (mark closing ∷ [])))))) t → step_at cs s at n ≡ got (step d c r ds xs) t (n + (nodes_in (listed c) + (length ds + nodes_in (listed xs))))
    unfolding step_at Has
    step-eq cs d c r ds xs at n t f₁ f₂ f₃ f₄ k (p₁, t₁, h₁, (p₂, t₂, h₂, (p₃, t₃, h₃, g))) =
        let ws = premises_words ds ++ (args_words xs ++ (mark closing ∷ [])) in
        let (t₄, g₄, (p₅, t₅, h₅, (p₆, t₆, h₆, g₆))) = has_split s (terms_words (listed c) ++ (mark closing ∷ [])) (mark rule-word ∷ name (rule_text r) ∷ ws) t₃ t (has-as s t₃ t _ _ (sym (append_assoc (terms_words (listed c)) (mark closing ∷ []) (mark rule-word ∷ name (rule_text r) ∷ ws))) g) in
        let j₃ : t₃ ≤ length s = (token-later s t₂ (mark cl-word) p₃ t₃ h₃).1 in
        let j₆ : t₆ ≤ length s = (token-later s t₅ (name (rule_text r)) p₆ t₆ h₆).1 in
        let n₄ = n + nodes_in (listed c) in
        let (t₇, j₇, e₇, g₇) = premises_at-eq cs ds xs t₆ n₄ t j₆ f₃ (omega arith) g₆ in
        let (t₈, p₉, e₈, h₉) = args_at-eq xs t₇ (n₄ + length ds) t j₇ f₄ (omega arith) g₇ in
        id-eq cs at _ d p₁ t₁ h₁ f₁
        ∙ expect-eq opening t₁ p₂ t₂ _ h₂
        ∙ expect-eq cl-word t₂ p₃ t₃ _ h₃
        ∙ then-eq (items enough s t₃ 1 n []) _ c t₄ n₄ (items-eq c t₃ n [] t₄ j₃ f₂ (omega arith) g₄)
        ∙ expect-eq rule-word t₄ p₅ t₅ _ h₅
        ∙ rule_at-eq t₅ p₆ t₆ _ r h₆
        ∙ then-eq (premises_at cs s t₆ n₄) _ ds t₇ (n₄ + length ds) e₇
        ∙ then-eq (args_at s t₇ (n₄ + length ds)) _ xs t₈ (n₄ + length ds + nodes_in (listed xs)) e₈
        ∙ expect-eq closing t₈ p₉ t _ h₉
        ∙ got-eq _ _ t _ _ refl (omega arith)

    pol-eq : (cs : List Command) (d : List ℕ) (ws : List PolWord) (at n t : ℕ) → T (not (known cs d)) → T (some_word ws) → T (allowed_words (known cs) ws) → Has s at (name d ∷ (pol_words ws ++ (mark closing ∷ []))) t → pol_at cs s at n ≡ got (pol d ws) t n
    unfolding pol_at Has
    pol-eq cs d ws at n t h f a (p, u, e, g) =
        let j : u ≤ length s = (token-later s at (name d) p u e).1 in
        let l : length (pol_words ws ++ (mark closing ∷ [])) ≡ length (pol_words ws) + 1 = length-append (pol_words ws) (mark closing ∷ []) in
        id-eq cs at _ d p u e h
        ∙ then-eq (words_at enough (known cs) s u n) _ ws t n (words_at-eq (known cs) s enough ws u n t f a (omega (arith, words_long ws, has-long s (pol_words ws ++ (mark closing ∷ [])) u t g, has-inside s (pol_words ws ++ (mark closing ∷ [])) u t j g)) g)

    -- where `pol` stands, and where a mark does
    pol-or : (cs : List Command) (at n p u : ℕ) (r : Reads Command) → token_at s at ≡ word (name (bytes "pol")) p u → T (ltb (pol_lines cs) max_pols) → pol_or cs s at n r ≡ pol_at cs s u n
    unfolding pol_or on_named same_name
    pol-or cs at n p u r e l = ap (on_named (bytes "pol") (λ p t. cond (ltb (pol_lines cs) max_pols) (pol_at cs s t n) (off 7 p)) r) e ∙ ap (λ (b : Bool). cond b (pol_at cs s u n) (off 7 p)) (is_true (ltb (pol_lines cs) max_pols) l)

    mark-or : (cs : List Command) (at n p u : ℕ) (m : Mark) (r : Reads Command) → token_at s at ≡ word (mark m) p u → pol_or cs s at n r ≡ r
    unfolding pol_or on_named
    mark-or cs at n p u m r e = ap (on_named (bytes "pol") (λ p t. cond (ltb (pol_lines cs) max_pols) (pol_at cs s t n) (off 7 p)) r) e

    name-option : (m : Mark) (at p u : ℕ) (x : List ℕ) (k : ℕ → Reads Command) (r : Reads Command) → token_at s at ≡ word (name x) p u → on_option m k r (token_at s at) ≡ r
    unfolding on_option
    name-option m at p u x k r e = ap (on_option m k r) e

    command_eq : (cs : List Command) (c : Command) (at n t : ℕ) → T (allowed cs c) → n + command_nodes c ≤ max_nodes → Has s at (body c) t → command_at cs s at n ≡ got c t (n + command_nodes c)
    unfolding command_at allowed command_nodes body Has same_mark mark_number
    command_eq cs (assume d x) at n t a k (p, u, e, h) =
        option-yes assume-word at p u _ (pol_or cs s at n (expect step-word s at (λ t. step_at cs s t n))) e
        ∙ assume-eq cs d x u n t (and_l (not (known cs d)) _ a) (and_r (not (known cs d)) _ a) k h
    command_eq cs (step d c r ds xs) at n t a k (p, u, e, h) =
        let b : T (fit_all 1 (listed c) && (all_known cs ds && fit_all 1 (listed xs))) = and_r (not (known cs d)) _ a in
        let g : T (all_known cs ds && fit_all 1 (listed xs)) = and_r (fit_all 1 (listed c)) _ b in
        option-no assume-word step-word at p u (λ t. assume_at cs s t n) (pol_or cs s at n (expect step-word s at (λ t. step_at cs s t n))) e refl
        ∙ mark-or cs at n p u step-word (expect step-word s at (λ t. step_at cs s t n)) e
        ∙ expect-eq step-word at p u _ e
        ∙ step-eq cs d c r ds xs u n t (and_l (not (known cs d)) _ a) (and_l (fit_all 1 (listed c)) _ b) (and_l (all_known cs ds) _ g) (and_r (all_known cs ds) _ g) k h
    command_eq cs (pol d ws) at n t a k (p, u, e, h) =
        let b : T (ltb (pol_lines cs) max_pols && (some_word ws && allowed_words (known cs) ws)) = and_r (not (known cs d)) _ a in
        let g : T (some_word ws && allowed_words (known cs) ws) = and_r (ltb (pol_lines cs) max_pols) _ b in
        name-option assume-word at p u (bytes "pol") (λ t. assume_at cs s t n) (pol_or cs s at n (expect step-word s at (λ t. step_at cs s t n))) e
        ∙ pol-or cs at n p u (expect step-word s at (λ t. step_at cs s t n)) e (and_l (ltb (pol_lines cs) max_pols) _ b)
        ∙ pol-eq cs d ws u n t (and_l (not (known cs d)) _ a) (and_l (some_word ws) _ g) (and_r (some_word ws) _ g) h
        ∙ got-eq _ _ t _ _ refl (omega arith)

    lead-begin : (at p u k : ℕ) → token_at s at ≡ word (mark opening) p u → k < max_commands → lead_at s at k ≡ begin u
    unfolding lead_at on_lead same_mark mark_number
    lead-begin at p u k e h = ap (on_lead k) e ∙ ap (λ (b : Bool). cond b (begin u) (halt 7 p)) (is_true (ltb k max_commands) (lt→ltb k max_commands h))

    commands-eq : (f : ℕ) (ds : List Command) (at n e z : ℕ) (cs : List Command) → length ds < f → T (allowed_behind cs ds) → n + all_nodes ds ≤ max_nodes → length cs + length ds ≤ max_commands → Has s at (words_of ds) e → token_at s e ≡ ended z → commands f s at n cs ≡ whole (cs ++ ds)
    unfolding commands allowed_behind all_nodes words_of Has lead_at on_lead on_command on_read
    commands-eq zero ds at n e z cs f a k j h g = let v : ⊥ = omega arith in absurd v
    commands-eq (suc f) [] at n e z cs i a k j h g =
        let next : ℕ → Read = λ t. on_read (λ c t m. commands f s t m (cs ++ (c ∷ []))) (command_at cs s t n) in
        ap (λ (w : Token). on_command next cs (on_lead (length cs) w)) (ap (token_at s) h ∙ g) ∙ ap whole (sym (append-nil cs))
    commands-eq (suc f) (c ∷ ds) at n e z cs i a k j h g =
        let (b, h₁, h₂) = has_split s (command_words c) (words_of ds) at e h in
        let (p, u, g₁, h₃) = has-open c at b h₁ in
        let next : ℕ → Read = λ t. on_read (λ c t m. commands f s t m (cs ++ (c ∷ []))) (command_at cs s t n) in
        let l : length (cs ++ (c ∷ [])) ≡ length cs + 1 = length-append cs (c ∷ []) in
        ap (on_command next cs) (lead-begin at p u (length cs) g₁ (omega arith))
        ∙ ap (on_read (λ c t m. commands f s t m (cs ++ (c ∷ [])))) (command_eq cs c u n b (and_l (allowed cs c) _ a) (omega arith) h₃)
        ∙ commands-eq f ds b (n + command_nodes c) e z (cs ++ (c ∷ [])) (omega arith) (and_r (allowed cs c) _ a) (omega arith) (omega arith) h₂ g
        ∙ ap whole (append_assoc cs (c ∷ []) ds)
      where
        has-open : (c : Command) (at b : ℕ) → Has s at (command_words c) b → (p : ℕ) × (u : ℕ) × (token_at s at ≡ word (mark opening) p u) × Has s u (body c) b
        has-open c at b h = has-as s at b (command_words c) (mark opening ∷ body c) (sym (command-words c)) h

-- a text with the words of commands within the limits is read as these commands, behind those before it
pub complete-behind : (before : List Command) (s : List ℕ) (cs : List Command) → IsReadBehind before s cs → read_behind before s ≡ whole (before ++ cs)
unfolding read_behind
complete-behind before s cs r =
    let n : all_nodes before + all_nodes cs ≤ max_nodes = omega (arith, nodes-append before cs, r.limits.nodes) in
    let k : length before + length cs ≤ max_commands = omega (arith, length-append before cs, r.limits.commands) in
    ap (λ (b : Bool). cond b (commands enough s 0 (all_nodes before) before) (refused 2 max_text)) (is_true (leb (length s) max_text) (le→leb (length s) max_text r.short))
    ∙ commands-eq s r.short enough cs 0 (all_nodes before) r.words.last r.words.size before (omega arith) r.limits.allowed n k r.words.words r.words.none

pub complete : (s : List ℕ) (cs : List Command) → IsRead s cs → read_file s ≡ whole cs
unfolding read_file
complete s cs r = complete-behind [] s cs r

-- one list in front of two
pub append-same : {A : Type 0} (xs ys zs : List A) → xs ++ ys ≡ xs ++ zs → ys ≡ zs
append-same [] ys zs e = e
append-same {A} (x ∷ xs) ys zs e = append-same xs ys zs (ap rest e)
  where
    rest : List A → List A
    rest [] = []
    rest (y ∷ ys) = ys

-- a text is a file of at most one list of commands, behind those before it
pub read-once-behind : (before : List Command) (s : List ℕ) (cs ds : List Command) → IsReadBehind before s cs → IsReadBehind before s ds → cs ≡ ds
read-once-behind before s cs ds r q =
    let e : whole (before ++ cs) ≡ whole (before ++ ds) = sym (complete-behind before s cs r) ∙ complete-behind before s ds q in
    let g : before ++ cs ≡ before ++ ds = cc in
    append-same before cs ds g

pub read-once : (s : List ℕ) (cs ds : List Command) → IsRead s cs → IsRead s ds → cs ≡ ds
read-once s cs ds r q = read-once-behind [] s cs ds r q
