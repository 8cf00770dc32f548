-- Demand 3 of a list of commands, against the bytes of its report: the report's lines are those of the run, and what is marked there holds.
use mathlib.Core.Path.{◌≡◌, refl, ap, subst, ◌∙◌}
use mathlib.Core.Bool.{Bool, true, false, not}
use mathlib.Core.List.{List, [], ◌∷◌, ◌++◌, map}
use Prim.Native.Nat.{ℕ, zero, suc, ◌<◌}
use native.Mathlib.Omega.{arith}
use lib.Dec.{T}
use lib.ListN.{length, get_or, length-append}
use Rattle.calculus.specs.Claim.{Claim, EndsIn, lines_of, last_line, holds_yes, refuted_yes}
use Rattle.calculus.specs.Clauses.{Said, clause_below, clauses_below, clauses_of}
use Rattle.calculus.specs.Marks.{run}
use Rattle.calculus.specs.Report.{line_text, totals_text, report_lines}
use Rattle.calculus.specs.Terms.{id_of, Term, Command, assume, step, pol}
use Rattle.calculus.specs.Truth.{Assignment, Models, clause_of}
use Rattle.theorems.proofs.Demand.{demand3}
use Rattle.theorems.proofs.Lines.{CleanLines, CleanIds, run-clean, render-lines, totals_line, last_line_lem, ends-refuted, marked-line, below_length}

report-lines : (cs : List Command) → CleanIds cs → lines_of (report_lines (run [] cs)) ≡ map line_text (run [] cs) ++ (totals_text (run [] cs) ∷ [])
unfolding report_lines CleanLines
report-lines cs h = render-lines (run [] cs) (totals_text (run [] cs)) (run-clean [] cs tt h) (totals_line (run [] cs))

-- the claim of the commands cs, of assignments that satisfy their assumptions that are statements
pub sound-whole : (Given : Assignment → Type 0) (cs : List Command) → ((σ : Assignment) → Given σ → Models σ cs) → CleanIds cs → Claim Given (clauses_of cs) (lines_of (report_lines (run [] cs)))
unfolding clauses_of
sound-whole Given cs g h =
    let e : lines_of (report_lines (run [] cs)) ≡ map line_text (run [] cs) ++ (totals_text (run [] cs) ∷ []) = report-lines cs h in
    record {
      marked = λ i l k σ m. marked-line σ cs (totals_text (run [] cs)) i (subst (λ (n : ℕ). i < n) (below_length [] cs) l) ((demand3 cs).marked σ (g σ m)) (subst (λ (ls : List (List ℕ)). EndsIn (get_or ls i []) holds_yes) e k);
      refuted = λ k σ m. (demand3 cs).refuted (ends-refuted (run [] cs) (subst (λ (l : List ℕ). EndsIn l refuted_yes) (ap last_line e ∙ last_line_lem (map line_text (run [] cs)) (totals_text (run [] cs))) k)) σ (g σ m);
    }

-- ---- with refusal 1, which writes nothing
nothing_ends : (end front : List ℕ) → 0 < length end → ¬ ([] ≡ front ++ end)
nothing_ends end front h e = omega (arith, simp length-append at (ap length e))

pub claim_nothing : (Given : Assignment → Type 0) (clauses : List (List Term)) → Claim Given clauses (lines_of [])
unfolding lines_of last_line holds_yes refuted_yes
claim_nothing Given clauses = record {
  marked = λ i l (front, e) σ m. absurd (nothing_ends holds_yes front (omega arith) e);
  refuted = λ (front, e) σ m. nothing_ends refuted_yes front (omega arith) e;
}

-- ---- without the pol lines' clauses
unfoldable pub is_pol : Command → Bool
is_pol (assume d x) = false
is_pol (step d c r ds xs) = false
is_pol (pol d ws) = true

-- of a command that is no pol line the clause is the one that it is written with
below-written : (ls : List Said) (cs : List Command) (i : ℕ) → T (not (get_or (map is_pol cs) i true)) → get_or (clauses_below ls cs) i [] ≡ get_or (map clause_of cs) i []
unfolding clauses_below clause_below clause_of is_pol
below-written ls [] i h = absurd h
below-written ls (assume d x ∷ cs) zero h = refl
below-written ls (step d c r ds xs ∷ cs) zero h = refl
below-written ls (pol d ws ∷ cs) zero h = absurd h
below-written ls (c ∷ cs) (suc i) h = below-written (ls ++ (record { id = id_of c; clause = clause_below ls c } ∷ [])) cs i h

pub written-clause : (cs : List Command) (i : ℕ) → T (not (get_or (map is_pol cs) i true)) → get_or (clauses_of cs) i [] ≡ get_or (map clause_of cs) i []
unfolding clauses_of
written-clause cs i h = below-written [] cs i h

pub clauses-length : (cs : List Command) → length (clauses_of cs) ≡ length cs
unfolding clauses_of
clauses-length cs = below_length [] cs
