-- Demand 3 of a proof text alone: the case of an empty OPB text, and what it says without one.
use mathlib.Core.Path.{◌≡◌, refl, sym, ap, subst}
use mathlib.Core.Bool.{true, not, cond, ◌&&◌}
use mathlib.Core.List.{List, [], ◌++◌, map}
use mathlib.Core.Logic.{◌↔◌}
use Prim.Native.Nat.{ℕ, ◌<◌}
use lib.Dec.{T, leb}
use lib.ListN.{length, get_or}
use Rattle.calculus.specs.Claim.{Claim, SolvesBoth, SoundBy, EndsIn, lines_of, last_line, holds_yes, refuted_yes}
use Rattle.calculus.specs.Clauses.{SoundBoth, Sound, clauses_of}
use Rattle.calculus.specs.Commands.{Read, whole, refused, read_file}
use Rattle.calculus.specs.Report.{report_read, report_of, min_report, min_table, written}
use Rattle.calculus.specs.Terms.{Command}
use Rattle.calculus.specs.Truth.{Assignment, Models, Satisfies, clause_of}
use Rattle.calculus.specs.Writing.{IsReadBehind, IsRead}
use Rattle.calculus.specs.OpbWriting.{Constraint, assumptions_behind, assumptions, IsOpb}
use Rattle.calculus.specs.OpbTruth.{Solves}
use Rattle.calculus.specs.OpbReading.{constraints, read_opb}
use Rattle.calculus.specs.OpbReport.{read_both, report_both, written_both}
use Rattle.calculus.proofs.Computing.{computing}
use Rattle.theorems.proofs.FaithfulFile.{faithful}
use Rattle.theorems.proofs.Lines.{refusal_not-refuted, refusal_not-marked}
use Rattle.theorems.proofs.OpbFaithful.{opb_faithful}
use Rattle.theorems.proofs.OpbReadable.{opb_once}
use Rattle.theorems.proofs.OpbSoundness.{sound-both, sound-both-written}
use Rattle.theorems.proofs.SoundWhole.{is_pol, written-clause, clauses-length}

-- ---- an empty OPB text: the reading, the report and the claim of one text
pub empty-read : (s : List ℕ) → read_both [] s ≡ read_file s
unfolding computing
empty-read s = refl

pub empty_report : (s : List ℕ) → report_both [] s ≡ report_of s
unfolding report_both report_of
empty_report s = ap report_read (empty-read s)

none_read : read_opb [] ≡ constraints []
unfolding computing
none_read = refl

none-opb : IsOpb [] []
none-opb = opb_faithful [] [] none_read

-- the claim of a text alone, without OPB texts
abbrev pub SoundAlone : List ℕ → List ℕ → Type 0
SoundAlone s report = (cs : List Command) → IsRead s cs → Claim (λ σ. Models σ cs) (clauses_of cs) (lines_of report)

pub empty_claim : (s r : List ℕ) → Sound s r ↔ SoundAlone s r
unfolding Sound SoundBoth SoundBy assumptions assumptions_behind Solves
empty_claim s r = (alone, both)
  where
    alone : Sound s r → SoundAlone s r
    alone f cs p = let c = f [] cs none-opb p in record { marked = λ i l k σ m. c.marked i l k σ (tt, m); refuted = λ k σ m. c.refuted k σ (tt, m) }

    -- the constraints of an empty text are none
    both : SoundAlone s r → Sound s r
    both f ks cs q = subst (λ (z : List Constraint). IsReadBehind (assumptions z) s cs → Claim (SolvesBoth z cs) (clauses_of (assumptions z ++ cs)) (lines_of r)) (opb_once [] [] ks none-opb q)
        (λ p. let c = f cs p in record { marked = λ i l k σ (h, m). c.marked i l k σ m; refuted = λ k σ (h, m). c.refuted k σ m })

-- ---- the theorem
pub sound : (s : List ℕ) → Sound s (report_of s)
unfolding Sound
sound s = subst (SoundBoth [] s) (empty_report s) (sound-both [] s)

-- whatever a call is lent, what it writes is sound
pub sound-written : (r n : ℕ) (s : List ℕ) → Sound s (written r n s)
unfolding Sound written written_both
sound-written r n s = subst (λ (z : List ℕ). SoundBoth [] s (cond (leb min_report r && leb min_table n) z [])) (empty_report s) (sound-both-written r n [] s)

-- the same without OPB texts
pub sound_file : (s : List ℕ) → SoundAlone s (report_of s)
sound_file s = (empty_claim s (report_of s)).0 (sound s)

-- ---- a text with a mark in its report is a file of commands: a refused text has none
-- of a text whose report says refuted=yes: it is a file, and no assignment satisfies its assumptions that are statements
pub refuted-file : (s : List ℕ) → EndsIn (last_line (lines_of (report_of s))) refuted_yes → (cs : List Command) × (IsRead s cs × ((σ : Assignment) → ¬ (Models σ cs)))
unfolding report_of report_read
refuted-file s k = go (read_file s) refl k
  where
    go : (z : Read) → read_file s ≡ z → EndsIn (last_line (lines_of (report_read z))) refuted_yes → (cs : List Command) × (IsRead s cs × ((σ : Assignment) → ¬ (Models σ cs)))
    go (whole cs) e h = let r : IsRead s cs = faithful s cs e in (cs, (r, (sound_file s cs r).refuted k))
    go (refused n p) e h = absurd (refusal_not-refuted n p h)

-- of a text whose report says holds=yes in line i: it is a file, and an assignment that satisfies its assumptions that are statements satisfies command i, where there is one
pub marked-file : (s : List ℕ) (i : ℕ) → EndsIn (get_or (lines_of (report_of s)) i []) holds_yes → (cs : List Command) × (IsRead s cs × (i < length cs → (σ : Assignment) → Models σ cs → Satisfies σ (get_or (clauses_of cs) i [])))
unfolding report_of report_read
marked-file s i k = go (read_file s) refl k
  where
    go : (z : Read) → read_file s ≡ z → EndsIn (get_or (lines_of (report_read z)) i []) holds_yes → (cs : List Command) × (IsRead s cs × (i < length cs → (σ : Assignment) → Models σ cs → Satisfies σ (get_or (clauses_of cs) i [])))
    go (whole cs) e h = let r : IsRead s cs = faithful s cs e in (cs, (r, λ l. (sound_file s cs r).marked i (subst (λ (n : ℕ). i < n) (sym (clauses-length cs)) l) k))
    go (refused n p) e h = absurd (refusal_not-marked n p i h)

-- of a line marked holds=yes that is no pol line: an assignment that satisfies the assumptions that are statements satisfies the clause that stands in the text
pub marked-written : (s : List ℕ) (i : ℕ) (cs : List Command) → IsRead s cs → EndsIn (get_or (lines_of (report_of s)) i []) holds_yes → i < length cs → T (not (get_or (map is_pol cs) i true)) → (σ : Assignment) → Models σ cs → Satisfies σ (get_or (map clause_of cs) i [])
marked-written s i cs r k l h σ m = subst (Satisfies σ) (written-clause cs i h) ((sound_file s cs r).marked i (subst (λ (n : ℕ). i < n) (sym (clauses-length cs)) l) k σ m)
