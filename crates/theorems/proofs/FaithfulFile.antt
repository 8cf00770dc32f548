-- A text that is read as cs has exactly the words `words_of cs`, and cs keeps the limits.
use mathlib.Core.Path.{◌≡◌, refl, sym, ap, ap₂, subst, subst₂, ◌∙◌}
use mathlib.Core.Bool.{Bool, true, false, not, cond}
use mathlib.Core.List.{List, [], ◌∷◌, ◌++◌, append_assoc, append-nil}
use mathlib.Core.Logic.{◌⊎◌, inl, inr}
use Prim.Native.Nat.{ℕ, zero, suc, ◌+◌, ◌≤◌, ◌<◌}
use native.Mathlib.Omega.{arith}
use lib.Dec.{T, leb, ltb, ltb→lt, leb→le}
use lib.ListN.{length, length-append}
use Rattle.calculus.specs.Bytes.{bytes}
use Rattle.calculus.specs.Commands.{enough, new_id, premise, premises, premises_at, args_at, rule_among, rule_of, on_rule, rule_at, assume_at, step_at, command_at, Read, whole, refused, begin, halt, on_lead, lead_at, on_command, on_read, commands, read_behind, read_file, pol_at, pol_or}
use Rattle.calculus.specs.Grammar.{Reads, got, off, then, same_mark, expect, name_at, close_at, term, items}
use Rattle.calculus.specs.PolGrammar.{words_at}
use Rattle.calculus.specs.Terms.{Term, same_name, Rule, Command, assume, step, pol, listed, rule_text}
use Rattle.calculus.specs.Words.{Res, ok, bad, Mark, opening, closing, cl-word, assume-word, step-word, rule-word, premises-word, args-word, Word, mark, operator, numeral, name, negated-name}
use Rattle.calculus.specs.Tokens.{Token, ended, word, wrong, token_at}
use Rattle.calculus.specs.Limits.{max_nodes, max_text, max_commands, known, nodes, nodes_in, fits, fit_all, all_known, allowed, allowed_behind, command_nodes, all_nodes, max_pols, pol_lines, some_word, allowed_words}
use Rattle.calculus.specs.Writing.{term_words, terms_words, name_words, premises_words, args_words, pol_words, command_words, words_of, Has, IsReadBehind, IsRead}
use Rattle.calculus.proofs.Booleans.{and_mk}
use Rattle.theorems.proofs.Faithful.{has-append, has_word, has_one, has-as, Took, More, written}
use Rattle.theorems.proofs.FaithfulPol.{named-got, WordsTook, words_at-has}
use Rattle.theorems.proofs.Inversion.{same_mark-eq, off-got, got-value, got-place, got-nodes, then-got, mark-got, option-got, name-got, cond-got, cond_not, item-got}
use Rattle.calculus.proofs.TermLaws.{same_name_eq}

-- ---- ids, premises, rules
id-got : {A : Type 0} (cs : List Command) (s : List ℕ) (at : ℕ) (k : List ℕ → ℕ → Reads A) (a : A) (t n : ℕ) → new_id cs s at k ≡ got a t n → (d : List ℕ) × (p : ℕ) × (u : ℕ) × (token_at s at ≡ word (name d) p u) × T (not (known cs d)) × (k d u ≡ got a t n)
unfolding new_id name_at
id-got cs s at k a t n e =
    let (d, p, u, h, g) = name-got _ (token_at s at) a t n e in
    let (f, i) = cond-got (known cs d) 8 p (k d u) a t n g in
    (d, p, u, h, f, i)

pub premise-got : (cs : List Command) (s : List ℕ) (at n : ℕ) (d : List ℕ) (t m : ℕ) → premise cs s at n ≡ got d t m → (p : ℕ) × (token_at s at ≡ word (name d) p t) × T (known cs d) × (n < max_nodes) × (m ≡ suc n)
unfolding premise name_at
premise-got cs s at n d t m e = let (c, p, u, h, g) = name-got _ (token_at s at) d t m e in go c p u h g
  where
    go : (c : List ℕ) (p u : ℕ) → token_at s at ≡ word (name c) p u → cond (ltb n max_nodes) (cond (known cs c) (got c u (suc n)) (off 8 p)) (off 7 p) ≡ got d t m → (q : ℕ) × (token_at s at ≡ word (name d) q t) × T (known cs d) × (n < max_nodes) × (m ≡ suc n)
    go c p u h g =
        let (r, g₁) = cond_not (ltb n max_nodes) 7 p (cond (known cs c) (got c u (suc n)) (off 8 p)) d t m g in
        let (k, g₂) = cond_not (known cs c) 8 p (got c u (suc n)) d t m g₁ in
        let v : c ≡ d = got-value g₂ in
        (p, h ∙ ap₂ (λ (x : List ℕ) (y : ℕ). word (name x) p y) v (got-place g₂), subst (λ (x : List ℕ). T (known cs x)) v k, ltb→lt n max_nodes r, sym (got-nodes g₂))

-- a part of a command: its words, and the nodes that it takes
pub record Part (s : List ℕ) (at n : ℕ) (ws : List Word) (c t m : ℕ) : Type 0 where
  pub has : Has s at ws t
  pub count : m ≡ n + c
  pub room : n ≤ max_nodes → m ≤ max_nodes

-- the premises behind ds, up to the closing bracket
record MoreNames (cs : List Command) (s : List ℕ) (at n : ℕ) (ds es : List (List ℕ)) (t m : ℕ) : Type 0 where
  rest : List (List ℕ)
  all : es ≡ ds ++ rest
  known : T (all_known cs rest)
  part : Part s at n (name_words rest ++ (mark closing ∷ [])) (length rest) t m

premises-step : (f : ℕ) (cs : List Command) (s : List ℕ) → ((at n : ℕ) (ds es : List (List ℕ)) (t m : ℕ) → premises f cs s at n ds ≡ got es t m → MoreNames cs s at n ds es t m) → (at n : ℕ) (ds es : List (List ℕ)) (t m : ℕ) → premises (suc f) cs s at n ds ≡ got es t m → MoreNames cs s at n ds es t m
unfolding premises close_at name_words all_known
premises-step f cs s ih at n ds es t m e = go (item-got _ ds n (token_at s at) es t m e)
  where
    go : ((p : ℕ) × (token_at s at ≡ word (mark closing) p t) × (es ≡ ds) × (m ≡ n)) ⊎ (then (premise cs s at n) (λ d t m. premises f cs s t m (ds ++ (d ∷ []))) ≡ got es t m) → MoreNames cs s at n ds es t m
    go (inl (p, h, k, c)) = record { rest = []; all = k ∙ sym (append-nil ds); known = tt; part = record { has = has_one s (mark closing) at p t h; count = omega arith; room = λ r. omega arith } }
    go (inr g) =
        let (d, a, i, g₁, g₂) = then-got (premise cs s at n) _ es t m g in
        let (p, h, k, o, c) = premise-got cs s at n d a i g₁ in
        let r : MoreNames cs s a i (ds ++ (d ∷ [])) es t m = ih a i (ds ++ (d ∷ [])) es t m g₂ in
        record {
          rest = d ∷ r.rest;
          all = r.all ∙ append_assoc ds (d ∷ []) r.rest;
          known = and_mk (known cs d) (all_known cs r.rest) k r.known;
          part = record { has = has_word s (name d) _ at p a t h r.part.has; count = omega (arith, c, r.part.count); room = λ l. r.part.room (omega (arith, c, o)) };
        }

premises-has : (f : ℕ) (cs : List Command) (s : List ℕ) (at n : ℕ) (ds es : List (List ℕ)) (t m : ℕ) → premises f cs s at n ds ≡ got es t m → MoreNames cs s at n ds es t m
unfolding premises
premises-has zero cs s at n ds es t m e = absurd (off-got e)
premises-has (suc f) cs s at n ds es t m e = premises-step f cs s (premises-has f cs s) at n ds es t m e

option-none : (s : List ℕ) (at : ℕ) (ws : List Word) (t : ℕ) → ws ≡ [] → at ≡ t → Has s at ws t
unfolding Has
option-none s at ws t e h = has-as s at t [] ws (sym e) h

pub premises_at-has : (cs : List Command) (s : List ℕ) (at n : ℕ) (ds : List (List ℕ)) (t m : ℕ) → premises_at cs s at n ≡ got ds t m → T (all_known cs ds) × Part s at n (premises_words ds) (length ds) t m
unfolding premises_at expect premises_words name_words all_known
premises_at-has cs s at n ds t m e = go (option-got premises-word _ (got [] at n) (token_at s at) ds t m e)
  where
    k : ℕ → Reads (List (List ℕ))
    k u = expect opening s u (λ t. then (premise cs s t n) (λ d t m. premises enough cs s t m (d ∷ [])))

    go : ((p : ℕ) × (u : ℕ) × (token_at s at ≡ word (mark premises-word) p u) × (k u ≡ got ds t m)) ⊎ (got [] at n ≡ got ds t m) → T (all_known cs ds) × Part s at n (premises_words ds) (length ds) t m
    go (inl (p, u, h, g)) =
        let (q, v, h₁, g₁) = mark-got opening _ (token_at s u) ds t m g in
        let (d, a, i, g₂, g₃) = then-got (premise cs s v n) _ ds t m g₁ in
        let (o, h₂, f, l, c) = premise-got cs s v n d a i g₂ in
        let r : MoreNames cs s a i (d ∷ []) ds t m = premises-has enough cs s a i (d ∷ []) ds t m g₃ in
        subst (λ (y : List (List ℕ)). T (all_known cs y) × Part s at n (premises_words y) (length y) t m) (sym r.all) (
          and_mk (known cs d) (all_known cs r.rest) f r.known,
          record { has = has_word s (mark premises-word) _ at p u t h (has_word s (mark opening) _ u q v t h₁ (has_word s (name d) _ v o a t h₂ r.part.has)); count = omega (arith, c, r.part.count); room = λ z. r.part.room (omega (arith, c, l)) },
        )
    go (inr g) =
        let b : at ≡ t = got-place g in
        let c : n ≡ m = got-nodes g in
        subst (λ (y : List (List ℕ)). T (all_known cs y) × Part s at n (premises_words y) (length y) t m) (got-value g)
        (tt, record { has = option-none s at [] t refl b; count = omega arith; room = λ z. omega arith })

pub args_at-has : (s : List ℕ) (at n : ℕ) (xs : List Term) (t m : ℕ) → args_at s at n ≡ got xs t m → T (fit_all 1 (listed xs)) × Part s at n (args_words xs) (nodes_in (listed xs)) t m
unfolding args_at expect args_words fits nodes listed term_words
args_at-has s at n xs t m e = go (option-got args-word _ (got [] at n) (token_at s at) xs t m e)
  where
    k : ℕ → Reads (List Term)
    k u = expect opening s u (λ t. then (term enough s t 1 n) (λ x t m. items enough s t 1 m (x ∷ [])))

    go : ((p : ℕ) × (u : ℕ) × (token_at s at ≡ word (mark args-word) p u) × (k u ≡ got xs t m)) ⊎ (got [] at n ≡ got xs t m) → T (fit_all 1 (listed xs)) × Part s at n (args_words xs) (nodes_in (listed xs)) t m
    go (inl (p, u, h, g)) =
        let (q, v, h₁, g₁) = mark-got opening _ (token_at s u) xs t m g in
        let (x, a, i, g₂, g₃) = then-got (term enough s v 1 n) _ xs t m g₁ in
        let w : Took s v 1 n x a i = (written enough s).a-term v 1 n x a i g₂ in
        let r : More s a 1 i (x ∷ []) xs t m = (written enough s).some-items a 1 i (x ∷ []) xs t m g₃ in
        subst (λ (y : List Term). T (fit_all 1 (listed y)) × Part s at n (args_words y) (nodes_in (listed y)) t m) (sym r.all) (
          and_mk (fits 1 x) (fit_all 1 (listed r.rest)) w.fit r.fit,
          record {
            has = has-as s at t _ _ (ap (λ (y : List Word). mark args-word ∷ mark opening ∷ y) (sym (append_assoc (term_words x) (terms_words (listed r.rest)) (mark closing ∷ []))))
                (has_word s (mark args-word) _ at p u t h (has_word s (mark opening) _ u q v t h₁ (has-append s (term_words x) _ v a t w.has r.has)));
            count = omega (arith, w.count, r.count);
            room = λ z. r.room w.room;
          },
        )
    go (inr g) =
        let b : at ≡ t = got-place g in
        let c : n ≡ m = got-nodes g in
        subst (λ (y : List Term). T (fit_all 1 (listed y)) × Part s at n (args_words y) (nodes_in (listed y)) t m) (got-value g)
        (tt, record { has = option-none s at [] t refl b; count = omega arith; room = λ z. omega arith })

rule-among : (rs : List Rule) (bs : List ℕ) (r : Rule) → rule_among rs bs ≡ ok r → rule_text r ≡ bs
unfolding rule_among
rule-among [] bs r e = let z : ◌≡◌ {A = ℕ} 0 1 = cc in let w : ⊥ = omega arith in absurd w
rule-among (q ∷ rs) bs r e = go (same_name (rule_text q) bs) (same_name_eq (rule_text q) bs) (rule-among rs bs r) e
  where
    go : (c : Bool) → (T c → rule_text q ≡ bs) → (rule_among rs bs ≡ ok r → rule_text r ≡ bs) → cond c (ok q) (rule_among rs bs) ≡ ok r → rule_text r ≡ bs
    go true f ih e = let a : q ≡ r = cc in ap rule_text (sym a) ∙ f tt
    go false f ih e = ih e

rule-got : {A : Type 0} (s : List ℕ) (at : ℕ) (k : Rule → ℕ → Reads A) (a : A) (t n : ℕ) → rule_at s at k ≡ got a t n → (r : Rule) × (p : ℕ) × (u : ℕ) × (token_at s at ≡ word (name (rule_text r)) p u) × (k r u ≡ got a t n)
unfolding rule_at name_at rule_of on_rule
rule-got {A} s at k a t n e =
    let (x, p, u, h, g) = name-got _ (token_at s at) a t n e in
    go x p u h (rule_of x) refl g
  where
    go : (x : List ℕ) (p u : ℕ) → token_at s at ≡ word (name x) p u → (c : Res Rule) → rule_of x ≡ c → on_rule (λ r. k r u) p c ≡ got a t n → (r : Rule) × (p : ℕ) × (u : ℕ) × (token_at s at ≡ word (name (rule_text r)) p u) × (k r u ≡ got a t n)
    go x p u h (ok r) q g = (r, p, u, h ∙ ap (λ (y : List ℕ). word (name y) p u) (sym (rule-among _ x r q)), g)
    go x p u h (bad y) q g = absurd (off-got g)

-- ---- commands
-- the words behind the opening bracket
unfoldable pub body : Command → List Word
body (assume d x) = mark assume-word ∷ name d ∷ (term_words x ++ (mark closing ∷ []))
body (step d c r ds xs) = mark step-word ∷ name d ∷ mark opening ∷ mark cl-word ∷ (terms_words (listed c) ++ (mark closing ∷ mark rule-word ∷ name (rule_text r) ∷ (premises_words ds ++ (args_words xs ++ (mark closing ∷ [])))))
body (pol d ws) = name (bytes "pol") ∷ name d ∷ (pol_words ws ++ (mark closing ∷ []))

pub command-words : (c : Command) → mark opening ∷ body c ≡ command_words c
unfolding body command_words
command-words (assume d x) = refl
command-words (step d c r ds xs) = refl
command-words (pol d ws) = refl

-- a command was read behind the commands cs
pub record Stands (cs : List Command) (s : List ℕ) (at n : ℕ) (c : Command) (t m : ℕ) : Type 0 where
  pub allow : T (allowed cs c)
  pub part : Part s at n (body c) (command_nodes c) t m

stands_as : (cs : List Command) (s : List ℕ) (at n : ℕ) (c d : Command) (t u i m : ℕ) → got c t i ≡ got d u m → Stands cs s at n c t i → Stands cs s at n d u m
stands_as cs s at n c d t u i m e z =
    subst (λ (y : Command). Stands cs s at n y u m) (got-value e) (subst₂ (λ (y k : ℕ). Stands cs s at n c y k) (got-place e) (got-nodes e) z)

assume_at-has : (cs : List Command) (s : List ℕ) (at n q a : ℕ) (c : Command) (t m : ℕ) → token_at s a ≡ word (mark assume-word) q at → assume_at cs s at n ≡ got c t m → Stands cs s a n c t m
unfolding assume_at expect body allowed command_nodes
assume_at-has cs s at n q a c t m h e =
    let (d, p, u, h₁, f, g) = id-got cs s at _ c t m e in
    let (x, v, i, g₁, g₂) = then-got (term enough s u 1 n) _ c t m g in
    let (o, w, h₂, g₃) = mark-got closing _ (token_at s v) c t m g₂ in
    let r : Took s u 1 n x v i = (written enough s).a-term u 1 n x v i g₁ in
    let z : Stands cs s a n (assume d x) w i = record {
      allow = and_mk (not (known cs d)) (fits 1 x) f r.fit;
      part = record {
        has = has_word s (mark assume-word) _ a q at w h (has_word s (name d) _ at p u w h₁ (has-append s (term_words x) _ u v w r.has (has_one s (mark closing) v o w h₂)));
        count = r.count;
        room = λ l. r.room;
      };
    } in
    stands_as cs s a n (assume d x) c w t i m g₃ z

-- the clause's terms, its bracket, and the words ws behind it
clause-has : (s : List ℕ) (at l n t e m : ℕ) (c : List Term) (ws : List Word) → More s at l n [] c t m → Has s t ws e → Has s at (terms_words (listed c) ++ (mark closing ∷ ws)) e
clause-has s at l n t e m c ws r h =
    has-as s at e ((terms_words (listed r.rest) ++ (mark closing ∷ [])) ++ ws) (terms_words (listed c) ++ (mark closing ∷ ws))
    (append_assoc (terms_words (listed r.rest)) (mark closing ∷ []) ws ∙ ap (λ (y : List Term). terms_words (listed y) ++ (mark closing ∷ ws)) (sym r.all))
    (has-append s (terms_words (listed r.rest) ++ (mark closing ∷ [])) ws at t e r.has h)

step-stands : (cs : List Command) (s : List ℕ) (at n q a : ℕ) (d : List ℕ) (k : List Term) (r : Rule) (ds : List (List ℕ)) (xs : List Term) (p₁ t₁ p₂ t₂ p₃ t₃ t₄ n₄ p₅ t₅ p₆ t₆ t₇ n₇ t₈ n₈ p₉ t₉ : ℕ) (c : Command) (t m : ℕ) →
    token_at s a ≡ word (mark step-word) q at → token_at s at ≡ word (name d) p₁ t₁ → T (not (known cs d)) → token_at s t₁ ≡ word (mark opening) p₂ t₂ → token_at s t₂ ≡ word (mark cl-word) p₃ t₃ →
    More s t₃ 1 n [] k t₄ n₄ → token_at s t₄ ≡ word (mark rule-word) p₅ t₅ → token_at s t₅ ≡ word (name (rule_text r)) p₆ t₆ →
    T (all_known cs ds) × Part s t₆ n₄ (premises_words ds) (length ds) t₇ n₇ → T (fit_all 1 (listed xs)) × Part s t₇ n₇ (args_words xs) (nodes_in (listed xs)) t₈ n₈ →
    token_at s t₈ ≡ word (mark closing) p₉ t₉ → got (step d k r ds xs) t₉ n₈ ≡ got c t m → Stands cs s a n c t m
unfolding body allowed command_nodes
step-stands cs s at n q a d k r ds xs p₁ t₁ p₂ t₂ p₃ t₃ t₄ n₄ p₅ t₅ p₆ t₆ t₇ n₇ t₈ n₈ p₉ t₉ c t m h h₁ f₁ h₂ h₃ y h₅ h₆ (f₇, y₇) (f₈, y₈) h₉ e =
    let f₄ : T (fit_all 1 (listed k)) = subst (λ (z : List Term). T (fit_all 1 (listed z))) (sym y.all) y.fit in
    let c₄ : n₄ ≡ n + nodes_in (listed k) = y.count ∙ ap (λ (z : List Term). n + nodes_in (listed z)) (sym y.all) in
    let w : Has s a (body (step d k r ds xs)) t₉ =
    has_word s (mark step-word) _ a q at t₉ h (has_word s (name d) _ at p₁ t₁ t₉ h₁ (has_word s (mark opening) _ t₁ p₂ t₂ t₉ h₂ (has_word s (mark cl-word) _ t₂ p₃ t₃ t₉ h₃
    (clause-has s t₃ 1 n t₄ t₉ n₄ k _ y
    (has_word s (mark rule-word) _ t₄ p₅ t₅ t₉ h₅ (has_word s (name (rule_text r)) _ t₅ p₆ t₆ t₉ h₆
    (has-append s (premises_words ds) _ t₆ t₇ t₉ y₇.has (has-append s (args_words xs) _ t₇ t₈ t₉ y₈.has (has_one s (mark closing) t₈ p₉ t₉ h₉))))))))) in
    stands_as cs s a n (step d k r ds xs) c t₉ t n₈ m e (record {
      allow = and_mk (not (known cs d)) _ f₁ (and_mk (fit_all 1 (listed k)) _ f₄ (and_mk (all_known cs ds) (fit_all 1 (listed xs)) f₇ f₈));
      part = record { has = w; count = omega (arith, c₄, y₇.count, y₈.count); room = λ l. y₈.room (y₇.room (y.room l)) };
    })

-- a step from its rule on; apart from `step_at-has`, since each `let` of parts there writes out all that stand before it
step-behind : (cs : List Command) (s : List ℕ) (at n q a : ℕ) (d : List ℕ) (k : List Term) (p₁ t₁ p₂ t₂ p₃ t₃ t₄ n₄ : ℕ) (c : Command) (t m : ℕ) →
    token_at s a ≡ word (mark step-word) q at → token_at s at ≡ word (name d) p₁ t₁ → T (not (known cs d)) → token_at s t₁ ≡ word (mark opening) p₂ t₂ → token_at s t₂ ≡ word (mark cl-word) p₃ t₃ →
    More s t₃ 1 n [] k t₄ n₄ →
    expect rule-word s t₄ (λ t. rule_at s t (λ r t. then (premises_at cs s t n₄) (λ ds t m. then (args_at s t m) (λ xs t m. expect closing s t (λ t. got (step d k r ds xs) t m))))) ≡ got c t m → Stands cs s a n c t m
unfolding expect body allowed command_nodes
step-behind cs s at n q a d k p₁ t₁ p₂ t₂ p₃ t₃ t₄ n₄ c t m h h₁ f₁ h₂ h₃ y g₄ =
    let (p₅, t₅, h₅, g₅) = mark-got rule-word _ (token_at s t₄) c t m g₄ in
    let (r, p₆, t₆, h₆, g₆) = rule-got s t₅ _ c t m g₅ in
    let (ds, t₇, n₇, h₇, g₇) = then-got (premises_at cs s t₆ n₄) _ c t m g₆ in
    let (xs, t₈, n₈, h₈, g₈) = then-got (args_at s t₇ n₇) _ c t m g₇ in
    let (p₉, t₉, h₉, g₉) = mark-got closing _ (token_at s t₈) c t m g₈ in
    step-stands cs s at n q a d k r ds xs p₁ t₁ p₂ t₂ p₃ t₃ t₄ n₄ p₅ t₅ p₆ t₆ t₇ n₇ t₈ n₈ p₉ t₉ c t m h h₁ f₁ h₂ h₃ y h₅ h₆ (premises_at-has cs s t₆ n₄ ds t₇ n₇ h₇) (args_at-has s t₇ n₇ xs t₈ n₈ h₈) h₉ g₉

step_at-has : (cs : List Command) (s : List ℕ) (at n q a : ℕ) (c : Command) (t m : ℕ) → token_at s a ≡ word (mark step-word) q at → step_at cs s at n ≡ got c t m → Stands cs s a n c t m
unfolding step_at expect
step_at-has cs s at n q a c t m h e =
    let (d, p₁, t₁, h₁, f₁, g₁) = id-got cs s at _ c t m e in
    let (p₂, t₂, h₂, g₂) = mark-got opening _ (token_at s t₁) c t m g₁ in
    let (p₃, t₃, h₃, g₃) = mark-got cl-word _ (token_at s t₂) c t m g₂ in
    let (k, t₄, n₄, h₄, g₄) = then-got (items enough s t₃ 1 n []) _ c t m g₃ in
    step-behind cs s at n q a d k p₁ t₁ p₂ t₂ p₃ t₃ t₄ n₄ c t m h h₁ f₁ h₂ h₃ ((written enough s).some-items t₃ 1 n [] k t₄ n₄ h₄) g₄

pol_at-has : (cs : List Command) (s : List ℕ) (at n q a : ℕ) (c : Command) (t m : ℕ) → token_at s a ≡ word (name (bytes "pol")) q at → T (ltb (pol_lines cs) max_pols) → pol_at cs s at n ≡ got c t m → Stands cs s a n c t m
unfolding pol_at body allowed command_nodes
pol_at-has cs s at n q a c t m h l e =
    let (d, p, u, h₁, f, g) = id-got cs s at _ c t m e in
    let (ws, v, i, g₁, g₂) = then-got (words_at enough (known cs) s u n) _ c t m g in
    let r : WordsTook (known cs) s u n ws v i = words_at-has enough (known cs) s u n ws v i g₁ in
    let b : Stands cs s a n (pol d ws) v i = record {
      allow = and_mk (not (known cs d)) _ f (and_mk (ltb (pol_lines cs) max_pols) _ l (and_mk (some_word ws) (allowed_words (known cs) ws) r.some r.allow));
      part = record {
        has = has_word s (name (bytes "pol")) _ a q at v h (has_word s (name d) _ at p u v h₁ r.has);
        count = omega (arith, r.count);
        room = λ z. omega (arith, r.count);
      };
    } in
    stands_as cs s a n (pol d ws) c v t i m g₂ b

pub command_at-has : (cs : List Command) (s : List ℕ) (at n : ℕ) (c : Command) (t m : ℕ) → command_at cs s at n ≡ got c t m → Stands cs s at n c t m
unfolding command_at expect pol_or
command_at-has cs s at n c t m e = go (option-got assume-word _ (pol_or cs s at n (expect step-word s at (λ t. step_at cs s t n))) (token_at s at) c t m e)
  where
    other : ((p : ℕ) × (u : ℕ) × (token_at s at ≡ word (name (bytes "pol")) p u) × (cond (ltb (pol_lines cs) max_pols) (pol_at cs s u n) (off 7 p) ≡ got c t m)) ⊎ (expect step-word s at (λ t. step_at cs s t n) ≡ got c t m) → Stands cs s at n c t m
    other (inl (p, u, h, g)) = let (l, k) = cond_not (ltb (pol_lines cs) max_pols) 7 p (pol_at cs s u n) c t m g in pol_at-has cs s u n p at c t m h l k
    other (inr g) = let (p, u, h, k) = mark-got step-word _ (token_at s at) c t m g in step_at-has cs s u n p at c t m h k

    go : ((p : ℕ) × (u : ℕ) × (token_at s at ≡ word (mark assume-word) p u) × (assume_at cs s u n ≡ got c t m)) ⊎ (pol_or cs s at n (expect step-word s at (λ t. step_at cs s t n)) ≡ got c t m) → Stands cs s at n c t m
    go (inl (p, u, h, g)) = assume_at-has cs s u n p at c t m h g
    go (inr g) = other (named-got (bytes "pol") _ (expect step-word s at (λ t. step_at cs s t n)) (token_at s at) c t m g)

-- ---- files
refused-whole : {e p : ℕ} {cs : List Command} → refused e p ≡ whole cs → ⊥
refused-whole h = let z : ◌≡◌ {A = ℕ} 0 1 = cc in omega arith

read-got : (k : Command → ℕ → ℕ → Read) (r : Reads Command) (ds : List Command) → on_read k r ≡ whole ds → (c : Command) × (t : ℕ) × (n : ℕ) × (r ≡ got c t n) × (k c t n ≡ whole ds)
unfolding on_read
read-got k (got c t n) ds e = (c, t, n, refl, e)
read-got k (off x p) ds e = absurd (refused-whole e)

lead-got : (k : ℕ → Read) (cs : List Command) (j : ℕ) (w : Token) (ds : List Command) → on_command k cs (on_lead j w) ≡ whole ds → ((p : ℕ) × (w ≡ ended p) × (ds ≡ cs)) ⊎ ((p : ℕ) × (u : ℕ) × (w ≡ word (mark opening) p u) × (k u ≡ whole ds) × (j < max_commands))
unfolding on_lead on_command
lead-got k cs j (ended p) ds e = inl (p, refl, cc)
lead-got k cs j (word (mark b) p u) ds e = go (same_mark b opening) (ltb j max_commands) (same_mark-eq b opening) (ltb→lt j max_commands) e
  where
    go : (c d : Bool) → (T c → b ≡ opening) → (T d → j < max_commands) → on_command k cs (cond c (cond d (begin u) (halt 7 p)) (halt 6 p)) ≡ whole ds → ((q : ℕ) × (word (mark b) p u ≡ ended q) × (ds ≡ cs)) ⊎ ((q : ℕ) × (v : ℕ) × (word (mark b) p u ≡ word (mark opening) q v) × (k v ≡ whole ds) × (j < max_commands))
    go true true f i e = inr (p, u, ap (λ (x : Mark). word (mark x) p u) (f tt), e, i tt)
    go true false f i e = absurd (refused-whole e)
    go false d f i e = absurd (refused-whole e)
lead-got k cs j (word (operator o) p u) ds e = absurd (refused-whole e)
lead-got k cs j (word (numeral z) p u) ds e = absurd (refused-whole e)
lead-got k cs j (word (name x) p u) ds e = absurd (refused-whole e)
lead-got k cs j (word (negated-name x) p u) ds e = absurd (refused-whole e)
lead-got k cs j (wrong x p) ds e = absurd (refused-whole e)

-- the commands behind cs, up to the text's end
record Rest (s : List ℕ) (at n : ℕ) (cs ds : List Command) : Type 0 where
  rest : List Command
  all : ds ≡ cs ++ rest
  spelled : ℕ
  size : ℕ
  has : Has s at (words_of rest) spelled
  none : token_at s spelled ≡ ended size
  allow : T (allowed_behind cs rest)
  room : n ≤ max_nodes → n + all_nodes rest ≤ max_nodes
  few : length cs ≤ max_commands → length cs + length rest ≤ max_commands

commands-step : (f : ℕ) (s : List ℕ) → ((at n : ℕ) (cs ds : List Command) → commands f s at n cs ≡ whole ds → Rest s at n cs ds) → (at n : ℕ) (cs ds : List Command) → commands (suc f) s at n cs ≡ whole ds → Rest s at n cs ds
unfolding commands lead_at words_of Has allowed_behind all_nodes
commands-step f s ih at n cs ds e = go (lead-got _ cs (length cs) (token_at s at) ds e)
  where
    k : ℕ → Read
    k u = on_read (λ c t m. commands f s t m (cs ++ (c ∷ []))) (command_at cs s u n)

    go : ((p : ℕ) × (token_at s at ≡ ended p) × (ds ≡ cs)) ⊎ ((p : ℕ) × (u : ℕ) × (token_at s at ≡ word (mark opening) p u) × (k u ≡ whole ds) × (length cs < max_commands)) → Rest s at n cs ds
    go (inl (p, h, g)) = record { rest = []; all = g ∙ sym (append-nil cs); spelled = at; size = p; has = refl; none = h; allow = tt; room = λ l. omega arith; few = λ l. omega arith }
    go (inr (p, u, h, g, j)) =
        let (c, t, m, g₁, g₂) = read-got _ (command_at cs s u n) ds g in
        let r : Rest s t m (cs ++ (c ∷ [])) ds = ih t m (cs ++ (c ∷ [])) ds g₂ in
        let y : Stands cs s u n c t m = command_at-has cs s u n c t m g₁ in
        let w : Has s at (command_words c) t = has-as s at t (mark opening ∷ body c) (command_words c) (command-words c) (has_word s (mark opening) (body c) at p u t h y.part.has) in
        let l : length (cs ++ (c ∷ [])) ≡ length cs + 1 = length-append cs (c ∷ []) in
        let o : m ≡ n + command_nodes c = y.part.count in
        let b : length (cs ++ (c ∷ [])) + length r.rest ≤ max_commands = r.few (omega arith) in
        record {
          rest = c ∷ r.rest;
          all = r.all ∙ append_assoc cs (c ∷ []) r.rest;
          spelled = r.spelled;
          size = r.size;
          has = has-append s (command_words c) (words_of r.rest) at t r.spelled w r.has;
          none = r.none;
          allow = and_mk (allowed cs c) (allowed_behind (cs ++ (c ∷ [])) r.rest) y.allow r.allow;
          room = λ v. omega (arith, r.room (y.part.room v));
          few = λ v. omega arith;
        }

commands-has : (f : ℕ) (s : List ℕ) (at n : ℕ) (cs ds : List Command) → commands f s at n cs ≡ whole ds → Rest s at n cs ds
unfolding commands
commands-has zero s at n cs ds e = absurd (refused-whole e)
commands-has (suc f) s at n cs ds e = commands-step f s (commands-has f s) at n cs ds e

-- the nodes of commands one after the other
pub nodes-append : (cs ds : List Command) → all_nodes (cs ++ ds) ≡ all_nodes cs + all_nodes ds
unfolding all_nodes
nodes-append [] ds = omega arith
nodes-append (c ∷ cs) ds = omega (arith, nodes-append cs ds)

-- what is read behind commands within the limits is those commands and a file's: the text has the words of the file's and no others, and both together keep the limits
pub faithful-behind : (before : List Command) (s : List ℕ) (ds : List Command) → all_nodes before ≤ max_nodes → length before ≤ max_commands → read_behind before s ≡ whole ds → (cs : List Command) × (ds ≡ before ++ cs) × IsReadBehind before s cs
unfolding read_behind
faithful-behind before s ds n k e = go (leb (length s) max_text) (leb→le (length s) max_text) e
  where
    go : (c : Bool) → (T c → length s ≤ max_text) → cond c (commands enough s 0 (all_nodes before) before) (refused 2 max_text) ≡ whole ds → (cs : List Command) × (ds ≡ before ++ cs) × IsReadBehind before s cs
    go true f e =
        let r : Rest s 0 (all_nodes before) before ds = commands-has enough s 0 (all_nodes before) before ds e in (
          r.rest,
          r.all,
          record {
            short = f tt;
            limits = record { allowed = r.allow; nodes = omega (arith, nodes-append before r.rest, r.room n); commands = omega (arith, length-append before r.rest, r.few k) };
            words = record { last = r.spelled; size = r.size; words = r.has; none = r.none };
          },
        )
    go false f e = absurd (refused-whole e)

-- a text that is read has the words of its commands and no others, and keeps the limits
pub faithful : (s : List ℕ) (cs : List Command) → read_file s ≡ whole cs → IsRead s cs
unfolding read_file all_nodes
faithful s cs e = let (ds, g, r) = faithful-behind [] s cs (omega arith) (omega arith) e in subst (IsRead s) (sym g) r
