-- A report splits into the lines that it was rendered from, and the end of a line tells its mark.
use mathlib.Core.Path.{◌≡◌, refl, sym, ap, subst, ◌∙◌}
use mathlib.Core.Bool.{Bool, true, false, not, cond, ◌&&◌}
use mathlib.Core.List.{List, [], ◌∷◌, ◌++◌, map, append_assoc, append-nil}
use Prim.Native.Nat.{ℕ, zero, suc, ◌+◌, ◌/◌, ◌%◌, ◌<◌}
use native.Mathlib.Omega.{arith}
use native.Mathlib.Nat.{not-suc-le-zero, le_of_suc-le-suc}
use lib.Dec.{T, eqb, eqb→eq, ltb, ltb→lt, not_T}
use lib.ListN.{length, get_or, length-map}
use Rattle.calculus.specs.Bytes.{bytes}
use Rattle.calculus.specs.Claim.{lines_of, push_byte, last_line, EndsIn, holds_yes, refuted_yes}
use Rattle.calculus.specs.Clauses.{Said, said_at, clause_below, clauses_below, clauses_of}
use Rattle.calculus.specs.Marks.{Line, line_at, line_of, pick, pol_answer, run, plain_of, number_of, refused_in, refuted_by}
use Rattle.calculus.specs.Pol.{pol_result, given_clause}
use Rattle.calculus.specs.Report.{yes_no, line_text, totals_text, render, refusal_text}
use Rattle.calculus.specs.Terms.{Term, Command, assume, step, pol, same_name, Rule, addition, multiplication, division, saturation, literal, normalize, transfer, part, rule_text, id_of}
use Rattle.calculus.specs.Truth.{Assignment, Satisfies}
use Rattle.calculus.specs.Words.{decimal, decimal_from}
use Rattle.calculus.proofs.Booleans.{and_l, and_r}
use Rattle.theorems.proofs.Demand.{Held}

-- ---- bytes without a line feed
unfoldable pub Clean : List ℕ → Type 0
Clean [] = Unit {0}
Clean (b ∷ bs) = T (not (eqb b 10)) × Clean bs

pub clean_append : (a b : List ℕ) → Clean a → Clean b → Clean (a ++ b)
unfolding Clean
clean_append [] b p q = q
clean_append (x ∷ a) b p q = (p.0, clean_append a b p.1 q)

line-cut : (l r : List ℕ) → Clean l → lines_of (l ++ (10 ∷ r)) ≡ l ∷ lines_of r
unfolding lines_of Clean push_byte
line-cut [] r c = refl
line-cut (b ∷ l) r c = go (eqb b 10) c.0 (line-cut l r c.1)
  where
    go : (d : Bool) → T (not d) → lines_of (l ++ (10 ∷ r)) ≡ l ∷ lines_of r → cond d ([] ∷ lines_of (l ++ (10 ∷ r))) (push_byte b (lines_of (l ++ (10 ∷ r)))) ≡ (b ∷ l) ∷ lines_of r
    go true n e = absurd n
    go false n e = ap (push_byte b) e

big : (n : ℕ) → T (not (eqb (48 + n) 10))
big n = not_T (eqb (48 + n) 10) (λ t. let e : 48 + n ≡ 10 = eqb→eq (48 + n) 10 t in omega arith)

decimal-clean : (f n : ℕ) (ds : List ℕ) → Clean ds → Clean (decimal_from f n ds)
unfolding decimal_from Clean
decimal-clean zero n ds c = c
decimal-clean (suc f) n ds c = go (ltb n 10) (decimal-clean f (n / 10) ((48 + n % 10) ∷ ds) (big (n % 10), c))
  where
    go : (d : Bool) → Clean (decimal_from f (n / 10) ((48 + n % 10) ∷ ds)) → Clean (cond d ((48 + n) ∷ ds) (decimal_from f (n / 10) ((48 + n % 10) ∷ ds)))
    go true k = (big n, c)
    go false k = k

pub decimal-line : (n : ℕ) → Clean (decimal n)
unfolding decimal
decimal-line n = decimal-clean (suc n) n [] (unfold Clean in tt)

-- a text that is written out is clean by computation
feedless : List ℕ → Bool
feedless [] = true
feedless (b ∷ bs) = not (eqb b 10) && feedless bs

clean_by : (bs : List ℕ) → T (feedless bs) → Clean bs
unfolding feedless Clean
clean_by [] t = tt
clean_by (b ∷ bs) t = (and_l (not (eqb b 10)) _ t, clean_by bs (and_r (not (eqb b 10)) _ t))

yes-clean : (b : Bool) → Clean (yes_no b)
unfolding yes_no feedless
yes-clean true = clean_by (yes_no true) tt
yes-clean false = clean_by (yes_no false) tt

-- ---- lines and commands
pub record CleanLine (l : Line) : Type 0 where
  pub id : Clean l.id
  pub rule : Clean l.rule

unfoldable pub CleanLines : List Line → Type 0
CleanLines [] = Unit {0}
CleanLines (l ∷ ls) = CleanLine l × CleanLines ls

unfoldable pub CleanIds : List Command → Type 0
CleanIds [] = Unit {0}
CleanIds (c ∷ cs) = Clean (id_of c) × CleanIds cs

line_clean : (l : Line) → CleanLine l → Clean (line_text l)
unfolding line_text feedless
line_clean l c =
    clean_append (bytes "id=") _ (clean_by (bytes "id=") tt) (clean_append l.id _ c.id (clean_append (bytes " rule=") _ (clean_by (bytes " rule=") tt)
    (clean_append l.rule _ c.rule (clean_append (bytes " answer=") _ (clean_by (bytes " answer=") tt)
    (clean_append (decimal (number_of l.answer)) _ (decimal-line _) (clean_append (bytes " plain=") _ (clean_by (bytes " plain=") tt)
    (clean_append (yes_no (plain_of l.answer)) _ (yes-clean _) (clean_append (bytes " holds=") _ (clean_by (bytes " holds=") tt) (yes-clean _)))))))))

totals_clean : (ls : List Line) → Clean (totals_text ls)
unfolding totals_text feedless
totals_clean ls =
    clean_append (bytes "commands=") _ (clean_by (bytes "commands=") tt) (clean_append (decimal (length ls)) _ (decimal-line _)
    (clean_append (bytes " refused=") _ (clean_by (bytes " refused=") tt) (clean_append (decimal (refused_in ls)) _ (decimal-line _)
    (clean_append (bytes " refuted=") _ (clean_by (bytes " refuted=") tt) (yes-clean _)))))

rule-clean : (r : Rule) → Clean (rule_text r)
unfolding rule_text feedless
rule-clean addition = clean_by (rule_text addition) tt
rule-clean multiplication = clean_by (rule_text multiplication) tt
rule-clean division = clean_by (rule_text division) tt
rule-clean saturation = clean_by (rule_text saturation) tt
rule-clean literal = clean_by (rule_text literal) tt
rule-clean normalize = clean_by (rule_text normalize) tt
rule-clean transfer = clean_by (rule_text transfer) tt
rule-clean part = clean_by (rule_text part) tt

line_of_clean : (ls : List Line) (c : Command) → Clean (id_of c) → CleanLine (line_of ls c)
unfolding line_of id_of feedless
line_of_clean ls (assume d x) h = record { id = h; rule = clean_by (bytes "assume") tt }
line_of_clean ls (step d c r ds xs) h = record { id = h; rule = rule-clean r }
line_of_clean ls (pol d ws) h = record { id = h; rule = clean_by (bytes "pol") tt }

lines-add : (ls : List Line) (l : Line) → CleanLines ls → CleanLine l → CleanLines (ls ++ (l ∷ []))
unfolding CleanLines
lines-add [] l h k = (k, tt)
lines-add (m ∷ ls) l h k = (h.0, lines-add ls l h.1 k)

pub run-clean : (ls : List Line) (cs : List Command) → CleanLines ls → CleanIds cs → CleanLines (run ls cs)
unfolding run CleanIds
run-clean ls [] h k = h
run-clean ls (c ∷ cs) h k = run-clean (ls ++ (line_of ls c ∷ [])) cs (lines-add ls (line_of ls c) h (line_of_clean ls c k.0)) k.1

-- the report's lines are the lines that were rendered, and the totals
pub render-lines : (ls : List Line) (totals : List ℕ) → CleanLines ls → Clean totals → lines_of (render ls totals) ≡ map line_text ls ++ (totals ∷ [])
unfolding render CleanLines
render-lines [] totals h k = line-cut totals [] k ∙ unfold lines_of in refl
render-lines (l ∷ ls) totals h k = line-cut (line_text l) (render ls totals) (line_clean l h.0) ∙ ap (λ (r : List (List ℕ)). line_text l ∷ r) (render-lines ls totals h.1 k)

pub totals_line : (ls : List Line) → Clean (totals_text ls)
totals_line ls = totals_clean ls

pub last_line_lem : (ls : List (List ℕ)) (t : List ℕ) → last_line (ls ++ (t ∷ [])) ≡ t
unfolding last_line
last_line_lem [] t = refl
last_line_lem (l ∷ []) t = refl
last_line_lem (l ∷ (m ∷ ls)) t = last_line_lem (m ∷ ls) t

-- ---- the last byte of a line
last_byte : ℕ → List ℕ → ℕ
last_byte d [] = d
last_byte d (b ∷ bs) = last_byte b bs

last-append : (d : ℕ) (a b : List ℕ) → last_byte d (a ++ b) ≡ last_byte (last_byte d a) b
unfolding last_byte
last-append d [] b = refl
last-append d (x ∷ a) b = last-append x a b

-- a text that ends in " key=yes" and, by its making, in the answer c
yes-only : (text front end body : List ℕ) (c : Bool) → text ≡ front ++ end → text ≡ body ++ yes_no c → ((d : ℕ) → last_byte d end ≡ 115) → T c
unfolding yes_no last_byte
yes-only text front end body true e h k = tt
yes-only text front end body false e h k =
    let a : last_byte 0 text ≡ 115 = ap (last_byte 0) e ∙ last-append 0 front end ∙ k _ in
    let b : last_byte 0 text ≡ 111 = ap (last_byte 0) h ∙ last-append 0 body (110 ∷ 111 ∷ []) in
    let z : ◌≡◌ {A = ℕ} 111 115 = sym b ∙ a in
    absurd (omega arith)

pub ends-holds : (l : Line) → EndsIn (line_text l) holds_yes → T l.holds
unfolding line_text holds_yes last_byte
ends-holds l (front, e) =
    yes-only (line_text l) front holds_yes
    (bytes "id=" ++ (l.id ++ (bytes " rule=" ++ (l.rule ++ (bytes " answer=" ++ (decimal (number_of l.answer) ++ (bytes " plain=" ++ (yes_no (plain_of l.answer) ++ bytes " holds="))))))))
    l.holds e (sym (simp append_assoc)) (λ d. refl)

pub ends-refuted : (ls : List Line) → EndsIn (totals_text ls) refuted_yes → T (refuted_by ls)
unfolding totals_text refuted_yes last_byte
ends-refuted ls (front, e) =
    yes-only (totals_text ls) front refuted_yes
    (bytes "commands=" ++ (decimal (length ls) ++ (bytes " refused=" ++ (decimal (refused_in ls) ++ bytes " refuted="))))
    (refuted_by ls) e (sym (simp append_assoc)) (λ d. refl)

-- ---- the line of a refusal, which ends in a digit
refusal_line : ℕ → ℕ → List ℕ
refusal_line n p = bytes "refused=" ++ (decimal n ++ (bytes " byte=" ++ decimal p))

refusal-lines : (n p : ℕ) → lines_of (refusal_text n p) ≡ refusal_line n p ∷ []
unfolding refusal_text refusal_line feedless lines_of
refusal-lines n p =
    let e : refusal_text n p ≡ refusal_line n p ++ (10 ∷ []) = sym (simp append_assoc) in
    ap lines_of e
    ∙ line-cut (refusal_line n p) []
    (clean_append (bytes "refused=") _ (clean_by (bytes "refused=") tt) (clean_append (decimal n) _ (decimal-line n)
    (clean_append (bytes " byte=") _ (clean_by (bytes " byte=") tt) (decimal-line p))))

decimal-last : (f n d x : ℕ) (ds : List ℕ) → last_byte d (decimal_from f n (x ∷ ds)) ≡ last_byte x ds
unfolding decimal_from last_byte
decimal-last zero n d x ds = refl
decimal-last (suc f) n d x ds = go (ltb n 10) (decimal-last f (n / 10) d (48 + n % 10) (x ∷ ds))
  where
    more : List ℕ
    more = decimal_from f (n / 10) ((48 + n % 10) ∷ (x ∷ ds))

    go : (c : Bool) → last_byte d more ≡ last_byte x ds → last_byte d (cond c ((48 + n) ∷ (x ∷ ds)) more) ≡ last_byte x ds
    go true e = refl
    go false e = e

decimal_digit : (n d : ℕ) → last_byte d (decimal n) < 58
unfolding decimal decimal_from last_byte
decimal_digit n d = go (ltb n 10) (ltb→lt n 10) (decimal-last n (n / 10) d (48 + n % 10) [])
  where
    more : List ℕ
    more = decimal_from n (n / 10) ((48 + n % 10) ∷ [])

    go : (c : Bool) → (T c → n < 10) → last_byte d more ≡ 48 + n % 10 → last_byte d (cond c ((48 + n) ∷ []) more) < 58
    go true l e = omega (arith, l tt)
    go false l e = subst (λ (b : ℕ). b < 58) (sym e) (omega arith)

-- so it ends in no text with an `s` at its end
no-mark : (n p : ℕ) (end : List ℕ) → ((d : ℕ) → last_byte d end ≡ 115) → ¬ (EndsIn (refusal_line n p) end)
unfolding refusal_line
no-mark n p end k (front, e) =
    let a : last_byte 0 (refusal_line n p) ≡ 115 = ap (last_byte 0) e ∙ last-append 0 front end ∙ k _ in
    let body : List ℕ = bytes "refused=" ++ (decimal n ++ bytes " byte=") in
    let b : last_byte 0 (refusal_line n p) ≡ last_byte (last_byte 0 body) (decimal p) = ap (last_byte 0) (sym (simp append_assoc)) ∙ last-append 0 body (decimal p) in
    let c : last_byte (last_byte 0 body) (decimal p) < 58 = decimal_digit p _ in
    let z : ◌≡◌ {A = ℕ} (last_byte (last_byte 0 body) (decimal p)) 115 = sym b ∙ a in
    omega (arith, c, z)

pub refusal_not-refuted : (n p : ℕ) → ¬ (EndsIn (last_line (lines_of (refusal_text n p))) refuted_yes)
unfolding last_line refuted_yes last_byte
refusal_not-refuted n p h = no-mark n p refuted_yes (λ d. refl) (subst (λ (ls : List (List ℕ)). EndsIn (last_line ls) refuted_yes) (refusal-lines n p) h)

pub refusal_not-marked : (n p i : ℕ) → ¬ (EndsIn (get_or (lines_of (refusal_text n p)) i []) holds_yes)
unfolding holds_yes last_byte
refusal_not-marked n p i h = go i (subst (λ (ls : List (List ℕ)). EndsIn (get_or ls i []) holds_yes) (refusal-lines n p) h)
  where
    go : (i : ℕ) → EndsIn (get_or (refusal_line n p ∷ []) i []) holds_yes → ⊥
    go zero k = no-mark n p holds_yes (λ d. refl) k
    go (suc i) (front, e) =
        let z : ◌≡◌ {A = ℕ} 0 115 = ap (last_byte 0) e ∙ last-append 0 front holds_yes in
        omega (arith, z)

-- ---- line i and command i
clauses : List Line → List (List Term)
clauses ls = map (λ (l : Line). l.clause) ls

map_append : (ls : List Line) (l : Line) → clauses (ls ++ (l ∷ [])) ≡ clauses ls ++ (l.clause ∷ [])
unfolding clauses
map_append [] l = refl
map_append (m ∷ ls) l = ap (λ (r : List (List Term)). m.clause ∷ r) (map_append ls l)

-- the lines as the claim has them: ids with clauses
said : Line → Said
said l = record { id = l.id; clause = l.clause }

sayings : List Line → List Said
sayings ls = map said ls

sayings_append : (ls : List Line) (l : Line) → sayings (ls ++ (l ∷ [])) ≡ sayings ls ++ (said l ∷ [])
unfolding sayings
sayings_append [] l = refl
sayings_append (m ∷ ls) l = ap (λ (r : List Said). said m ∷ r) (sayings_append ls l)

said_at_lem : (ls : List Line) (d : List ℕ) → (line_at ls d).clause ≡ said_at (sayings ls) d
unfolding line_at said_at sayings said
said_at_lem [] d = refl
said_at_lem (l ∷ ls) d = go (same_name l.id d) (said_at_lem ls d)
  where
    go : (c : Bool) → (line_at ls d).clause ≡ said_at (sayings ls) d → (pick c l (line_at ls d)).clause ≡ cond c l.clause (said_at (sayings ls) d)
    go true e = refl
    go false e = e

line-clause : (ls : List Line) (c : Command) → (line_of ls c).clause ≡ clause_below (sayings ls) c
unfolding line_of clause_below pol_answer
line-clause ls (assume d x) = refl
line-clause ls (step d c r ds xs) = refl
line-clause ls (pol d ws) = ap (λ (at : List ℕ → List Term). given_clause (pol_result at ws)) (λ i d. said_at_lem ls d i)

line-id : (ls : List Line) (c : Command) → (line_of ls c).id ≡ id_of c
unfolding line_of id_of
line-id ls (assume d x) = refl
line-id ls (step d c r ds xs) = refl
line-id ls (pol d ws) = refl

line_said : (ls : List Line) (c : Command) → said (line_of ls c) ≡ record { id = id_of c; clause = clause_below (sayings ls) c }
unfolding said
line_said ls c = let p : (line_of ls c).id ≡ id_of c = line-id ls c in let q : (line_of ls c).clause ≡ clause_below (sayings ls) c = line-clause ls c in λ i. record { id = p i; clause = q i }

run-clauses : (ls : List Line) (cs : List Command) → clauses (run ls cs) ≡ clauses ls ++ clauses_below (sayings ls) cs
unfolding run clauses_below
run-clauses ls [] = sym (append-nil (clauses ls))
run-clauses ls (c ∷ cs) =
    run-clauses (ls ++ (line_of ls c ∷ [])) cs
    ∙ ap (λ (r : List (List Term)). r ++ clauses_below (sayings (ls ++ (line_of ls c ∷ []))) cs) (map_append ls (line_of ls c))
    ∙ append_assoc (clauses ls) ((line_of ls c).clause ∷ []) (clauses_below (sayings (ls ++ (line_of ls c ∷ []))) cs)
    ∙ ap (λ (t : List Term). clauses ls ++ (t ∷ clauses_below (sayings (ls ++ (line_of ls c ∷ []))) cs)) (line-clause ls c)
    ∙ ap (λ (r : List Said). clauses ls ++ (clause_below (sayings ls) c ∷ clauses_below r cs)) (sayings_append ls (line_of ls c) ∙ ap (λ (l : Said). sayings ls ++ (l ∷ [])) (line_said ls c))

pub below_length : (ls : List Said) (cs : List Command) → length (clauses_below ls cs) ≡ length cs
unfolding clauses_below
below_length ls [] = refl
below_length ls (c ∷ cs) = ap suc (below_length (ls ++ (record { id = id_of c; clause = clause_below ls c } ∷ [])) cs)

pub run_length : (cs : List Command) → length (run [] cs) ≡ length cs
unfolding clauses sayings
run_length cs = sym (length-map (run [] cs) (λ (l : Line). l.clause)) ∙ ap length (run-clauses [] cs) ∙ below_length [] cs

held-line : (σ : Assignment) (ls : List Line) (totals : List ℕ) (i : ℕ) → i < length ls → Held σ ls → EndsIn (get_or (map line_text ls ++ (totals ∷ [])) i []) holds_yes → Satisfies σ (get_or (clauses ls) i [])
unfolding Held clauses
held-line σ [] totals i h k e = absurd (not-suc-le-zero h)
held-line σ (l ∷ ls) totals zero h k e = k.0 (ends-holds l e)
held-line σ (l ∷ ls) totals (suc i) h k e = held-line σ ls totals i (le_of_suc-le-suc h) k.1 e

pub marked-line : (σ : Assignment) (cs : List Command) (totals : List ℕ) (i : ℕ) → i < length cs → Held σ (run [] cs) → EndsIn (get_or (map line_text (run [] cs) ++ (totals ∷ [])) i []) holds_yes → Satisfies σ (get_or (clauses_of cs) i [])
unfolding clauses clauses_of sayings
marked-line σ cs totals i h k e =
    subst (λ (r : List (List Term)). Satisfies σ (get_or r i [])) (run-clauses [] cs)
    (held-line σ (run [] cs) totals i (subst (λ (n : ℕ). i < n) (sym (run_length cs)) h) k e)
