-- Demand 3 of a list of commands: what is marked as holding holds.
use mathlib.Core.Path.{◌≡◌, refl}
use mathlib.Core.Bool.{Bool, true, false, ◌&&◌, ◌||◌}
use mathlib.Core.List.{List, [], ◌∷◌, ◌++◌}
use Prim.Native.Nat.{ℕ}
use lib.Dec.{T}
use Rattle.calculus.specs.Greatest.{unreachable}
use Rattle.calculus.specs.Marks.{Line, all_hold, pol_answer, apply_rule, clauses_at, line_at, line_of, pick, plain_of, refuted_by, run}
use Rattle.calculus.specs.Pol.{given_answer, given_clause, pushed_ids}
use Rattle.calculus.specs.Terms.{Command, Rule, Term, assume, addition, division, literal, multiplication, normalize, part, pol, saturation, transfer, same_name, step, PolWord}
use Rattle.calculus.specs.Truth.{Assignment, Models, Satisfies, is_statement, truth}
use Rattle.calculus.specs.Words.{Res, bad, ok}
use Rattle.calculus.proofs.Booleans.{and_l, and_r}
use Rattle.theorems.proofs.GreatestSound.{unreachable-none}
use Rattle.theorems.proofs.NormalizeSound.{normalize_sound}
use Rattle.theorems.proofs.PolSound.{AllGiven, pol-sound}
use Rattle.theorems.proofs.RulesSound.{AllSat, addition-sound, division_sound, literal_sound, multiplication_sound, part_sound, saturation_sound, transfer_sound}

unfoldable pub Held : Assignment → List Line → Type 0
Held σ [] = Unit {0}
Held σ (l ∷ ls) = (T l.holds → Satisfies σ l.clause) × Held σ ls

plain_ok : (r : Res Bool) → T (plain_of r) → r ≡ ok true
unfolding plain_of
plain_ok (ok true) t = refl
plain_ok (ok false) t = absurd t
plain_ok (bad n) t = absurd t

rule-sound : (σ : Assignment) (r : Rule) (ps : List (List Term)) (xs c : List Term) → apply_rule r ps xs c ≡ ok true → AllSat σ ps → Satisfies σ c
unfolding apply_rule
rule-sound σ addition = addition-sound σ
rule-sound σ multiplication = multiplication_sound σ
rule-sound σ division = division_sound σ
rule-sound σ saturation = saturation_sound σ
rule-sound σ literal = literal_sound σ
rule-sound σ normalize = normalize_sound σ
rule-sound σ transfer = transfer_sound σ
rule-sound σ part = part_sound σ

held_at : (σ : Assignment) (ls : List Line) (i : List ℕ) → Held σ ls → T (line_at ls i).holds → Satisfies σ (line_at ls i).clause
unfolding Held line_at
held_at σ [] i h t = absurd t
held_at σ (l ∷ ls) i h t = go (same_name l.id i) (held_at σ ls i h.1) t
  where
    go : (c : Bool) → (T (line_at ls i).holds → Satisfies σ (line_at ls i).clause) → T (pick c l (line_at ls i)).holds → Satisfies σ (pick c l (line_at ls i)).clause
    go true ih t = h.0 t
    go false ih t = ih t

held_all : (σ : Assignment) (ls : List Line) (is : List (List ℕ)) → Held σ ls → T (all_hold ls is) → AllSat σ (clauses_at ls is)
unfolding all_hold clauses_at AllSat
held_all σ ls [] h t = tt
held_all σ ls (i ∷ is) h t = (held_at σ ls i h (and_l (line_at ls i).holds _ t), held_all σ ls is h (and_r (line_at ls i).holds _ t))

held-add : (σ : Assignment) (ls : List Line) (l : Line) → Held σ ls → (T l.holds → Satisfies σ l.clause) → Held σ (ls ++ (l ∷ []))
unfolding Held
held-add σ [] l h k = (k, tt)
held-add σ (m ∷ ls) l h k = (h.0, held-add σ ls l h.1 k)

step-held : (σ : Assignment) (ls : List Line) (c : List Term) (r : Rule) (is : List (List ℕ)) (xs : List Term) → Held σ ls → T (plain_of (apply_rule r (clauses_at ls is) xs c) && all_hold ls is) → Satisfies σ c
step-held σ ls c r is xs h t =
    rule-sound σ r (clauses_at ls is) xs c (plain_ok _ (and_l (plain_of (apply_rule r (clauses_at ls is) xs c)) _ t))
    (held_all σ ls is h (and_r (plain_of (apply_rule r (clauses_at ls is) xs c)) _ t))

-- the ids that a pol line pushed hold, so their clauses are satisfied
held-given : (σ : Assignment) (ls : List Line) (is : List (List ℕ)) → Held σ ls → T (all_hold ls is) → AllGiven σ (λ d. (line_at ls d).clause) is
unfolding all_hold AllGiven
held-given σ ls [] h t = tt
held-given σ ls (i ∷ is) h t = (held_at σ ls i h (and_l (line_at ls i).holds _ t), held-given σ ls is h (and_r (line_at ls i).holds _ t))

pol-held : (σ : Assignment) (ls : List Line) (ws : List PolWord) → Held σ ls → T (plain_of (given_answer (pol_answer ls ws)) && all_hold ls (pushed_ids ws)) → Satisfies σ (given_clause (pol_answer ls ws))
unfolding pol_answer
pol-held σ ls ws h t =
    pol-sound σ (λ d. (line_at ls d).clause) ws (and_l (plain_of (given_answer (pol_answer ls ws))) _ t)
    (held-given σ ls (pushed_ids ws) h (and_r (plain_of (given_answer (pol_answer ls ws))) _ t))

sat_stmt : (σ : Assignment) (t : Term) → T (is_statement t) → T (truth σ t) → Satisfies σ (t ∷ [])
unfolding Satisfies
sat_stmt σ t a b = (a, b)

run-held : (σ : Assignment) (ls : List Line) (cs : List Command) → Held σ ls → Models σ cs → Held σ (run ls cs)
unfolding run Models line_of
run-held σ ls [] h m = h
run-held σ ls (assume d t ∷ cs) h m = run-held σ (ls ++ (line_of ls (assume d t) ∷ [])) cs (held-add σ ls (line_of ls (assume d t)) h (λ s. sat_stmt σ t s (m.0 s))) m.1
run-held σ ls (step d c r is xs ∷ cs) h m = run-held σ (ls ++ (line_of ls (step d c r is xs) ∷ [])) cs (held-add σ ls (line_of ls (step d c r is xs)) h (step-held σ ls c r is xs h)) m
run-held σ ls (pol d ws ∷ cs) h m = run-held σ (ls ++ (line_of ls (pol d ws) ∷ [])) cs (held-add σ ls (line_of ls (pol d ws)) h (pol-held σ ls ws h)) m

-- the theorem, first half
pub sound : (cs : List Command) (σ : Assignment) → Models σ cs → Held σ (run [] cs)
unfolding Held
sound cs σ m = run-held σ [] cs tt m

-- the theorem, second half
refuted-lines : (σ : Assignment) (ls : List Line) → Held σ ls → T (refuted_by ls) → ⊥
unfolding Held refuted_by
refuted-lines σ [] h t = t
refuted-lines σ (l ∷ ls) h t = go l.holds (unreachable l.clause) h.0 (unreachable-none σ l.clause) (refuted-lines σ ls h.1) t
  where
    go : (a b : Bool) → (T a → Satisfies σ l.clause) → (T b → Satisfies σ l.clause → ⊥) → (T (refuted_by ls) → ⊥) → T ((a && b) || refuted_by ls) → ⊥
    go true true f g k t = g tt (f tt)
    go true false f g k t = k t
    go false b f g k t = k t

-- demand 3, of the commands that a text is read as
pub record Demand3 (cs : List Command) : Type 0 where
  pub marked : (σ : Assignment) → Models σ cs → Held σ (run [] cs)
  pub refuted : T (refuted_by (run [] cs)) → (σ : Assignment) → ¬ (Models σ cs)

pub demand3 : (cs : List Command) → Demand3 cs
demand3 cs = record { marked = sound cs; refuted = λ t σ m. refuted-lines σ (run [] cs) (sound cs σ m) t }
