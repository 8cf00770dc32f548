-- The report of every OPB text and proof text behind it is sound, from the OPB text's own solutions onward (02, No. 1).
use mathlib.Core.Path.{◌≡◌, refl, sym, ap, subst, ◌∙◌}
use mathlib.Core.Bool.{Bool, true, false, not, cond, ◌&&◌}
use mathlib.Core.List.{List, [], ◌∷◌, ◌++◌, map}
use Prim.Native.Nat.{ℕ, suc, ◌+◌, ◌<◌}
use native.Mathlib.Nat.{not-suc-le-zero}
use native.Mathlib.Omega.{arith}
use lib.Dec.{T, leb}
use lib.ListN.{length, get_or}
use Rattle.calculus.specs.Claim.{Claim, SolvesBoth, SoundBy, EndsIn, lines_of, last_line, holds_yes, refuted_yes}
use Rattle.calculus.specs.Clauses.{clauses_of, SoundBoth}
use Rattle.calculus.specs.Commands.{Read, whole, refused}
use Rattle.calculus.specs.Marks.{Line, line_of, run}
use Rattle.calculus.specs.Report.{report_read, min_report, min_table}
use Rattle.calculus.specs.Terms.{Command, id_of}
use Rattle.calculus.specs.Truth.{Assignment, Satisfies, clause_of}
use Rattle.calculus.specs.Writing.{IsReadBehind}
use Rattle.calculus.specs.OpbWords.{at_least, equal}
use Rattle.calculus.specs.OpbWriting.{Constraint, compare, constraint_id, assumptions_of, assumptions_behind, assumptions, IsOpb}
use Rattle.calculus.specs.OpbReading.{OpbRead, constraints, refused_at, read_opb}
use Rattle.calculus.specs.OpbReport.{on_opb, read_both, report_both, written_both}
use Rattle.theorems.proofs.FaithfulFile.{faithful-behind}
use Rattle.theorems.proofs.Lines.{Clean, CleanIds, decimal-line, refusal_not-refuted, refusal_not-marked}
use Rattle.theorems.proofs.Names.{ids-clean}
use Rattle.theorems.proofs.OpbFaithful.{opb_faithful}
use Rattle.theorems.proofs.OpbReadable.{opb_complete, opb_once}
use Rattle.theorems.proofs.OpbSolutions.{solves_models, models_append}
use Rattle.theorems.proofs.ReadableFile.{complete-behind, read-once-behind}
use Rattle.theorems.proofs.SoundWhole.{sound-whole, claim_nothing, is_pol, written-clause, clauses-length}

-- ---- the ids of both texts hold no line feed
id-clean : (n : ℕ) → Clean (constraint_id n)
unfolding Clean constraint_id
id-clean n = (tt, decimal-line n)

clean-ids : (cs ds : List Command) → CleanIds cs → CleanIds ds → CleanIds (cs ++ ds)
unfolding CleanIds
clean-ids [] ds h k = k
clean-ids (c ∷ cs) ds (h, i) k = (h, clean-ids cs ds i k)

clean_of : (n : ℕ) (k : Constraint) → CleanIds (assumptions_of n k)
unfolding CleanIds assumptions_of id_of
clean_of n (compare xs at_least k) = (id-clean (suc n), tt)
clean_of n (compare xs equal k) = (id-clean (suc n), (id-clean (suc (suc n)), tt))

clean-behind : (n : ℕ) (ks : List Constraint) → CleanIds (assumptions_behind n ks)
unfolding CleanIds assumptions_behind
clean-behind n [] = tt
clean-behind n (k ∷ ks) = clean-ids (assumptions_of n k) _ (clean_of n k) (clean-behind (n + length (assumptions_of n k)) ks)

clean-assumptions : (ks : List Constraint) → CleanIds (assumptions ks)
unfolding assumptions
clean-assumptions ks = clean-behind 0 ks

-- ---- the texts and the commands of both
-- texts of constraints and of commands behind them are read as the assumptions and the commands
pub both-complete : (o s : List ℕ) (ks : List Constraint) (cs : List Command) → IsOpb o ks → IsReadBehind (assumptions ks) s cs → read_both o s ≡ whole (assumptions ks ++ cs)
unfolding read_both on_opb
both-complete o s ks cs p r = ap (on_opb s) (opb_complete o ks p) ∙ complete-behind (assumptions ks) s cs r

-- texts that are read are such texts
pub both-faithful : (o s : List ℕ) (ds : List Command) → read_both o s ≡ whole ds → (ks : List Constraint) × (cs : List Command) × IsOpb o ks × IsReadBehind (assumptions ks) s cs × (ds ≡ assumptions ks ++ cs)
unfolding read_both on_opb
both-faithful o s ds e = go (read_opb o) refl e
  where
    go : (z : OpbRead) → read_opb o ≡ z → on_opb s z ≡ whole ds → (ks : List Constraint) × (cs : List Command) × IsOpb o ks × IsReadBehind (assumptions ks) s cs × (ds ≡ assumptions ks ++ cs)
    go (constraints ks) h e =
        let p : IsOpb o ks = opb_faithful o ks h in
        let (cs, g, r) = faithful-behind (assumptions ks) s ds p.nodes p.commands e in
        (ks, cs, p, r, g)
    go (refused_at n p) h e = let z : ◌≡◌ {A = ℕ} 0 1 = cc in let v : ⊥ = omega arith in absurd v

-- of at most one list of constraints and one of commands
pub both-once : (o s : List ℕ) (ks js : List Constraint) (cs ds : List Command) → IsOpb o ks → IsReadBehind (assumptions ks) s cs → IsOpb o js → IsReadBehind (assumptions js) s ds → (ks ≡ js) × (cs ≡ ds)
both-once o s ks js cs ds p r q t =
    let e : ks ≡ js = opb_once o ks js p q in
    (e, read-once-behind (assumptions js) s cs ds (subst (λ (z : List Constraint). IsReadBehind (assumptions z) s cs) e r) t)

-- the lines of both: those of the assumptions, and behind them the proof text's
pub lines-behind : (ls : List Line) (before cs : List Command) → run ls (before ++ cs) ≡ run (run ls before) cs
unfolding run
lines-behind ls [] cs = refl
lines-behind ls (c ∷ before) cs = lines-behind (ls ++ (line_of ls c ∷ [])) before cs

-- ---- the theorem
pub sound-both : (o s : List ℕ) → SoundBoth o s (report_both o s)
unfolding SoundBoth SoundBy report_both report_read
sound-both o s ks cs p r =
    subst (λ (z : Read). Claim (SolvesBoth ks cs) (clauses_of (assumptions ks ++ cs)) (lines_of (report_read z))) (sym (both-complete o s ks cs p r))
    (sound-whole (SolvesBoth ks cs) (assumptions ks ++ cs) (λ σ (h, m). models_append σ (assumptions ks) cs ((solves_models σ ks).0 h) m)
    (clean-ids (assumptions ks) cs (clean-assumptions ks) (ids-clean s cs 0 r.words.last r.words.words)))

-- what it says of refuted=yes alone: no clauses are handed in, so nothing of pol lines is believed
pub sound-refuted : (o s : List ℕ) → SoundBy (λ cs. []) o s (report_both o s)
unfolding SoundBoth SoundBy
sound-refuted o s ks cs p r = record { marked = λ i l. absurd (not-suc-le-zero l); refuted = (sound-both o s ks cs p r).refuted }

-- whatever a call is lent, what it writes is sound
pub sound-both-written : (r n : ℕ) (o s : List ℕ) → SoundBoth o s (written_both r n o s)
unfolding written_both
sound-both-written r n o s = go (leb min_report r && leb min_table n)
  where
    nothing : SoundBoth o s []
    nothing = unfold SoundBoth SoundBy in λ ks cs p q. claim_nothing (SolvesBoth ks cs) (clauses_of (assumptions ks ++ cs))

    go : (c : Bool) → SoundBoth o s (cond c (report_both o s) [])
    go true = sound-both o s
    go false = nothing

-- ---- texts with a mark in their report are files: refused texts have none
-- of texts whose report says refuted=yes: no solution of the OPB text satisfies the proof text's own assumptions that are statements
pub refuted-both : (o s : List ℕ) → EndsIn (last_line (lines_of (report_both o s))) refuted_yes → (ks : List Constraint) × (cs : List Command) × IsOpb o ks × IsReadBehind (assumptions ks) s cs × ((σ : Assignment) → ¬ (SolvesBoth ks cs σ))
unfolding SoundBoth SoundBy report_both report_read
refuted-both o s k = go (read_both o s) refl k
  where
    go : (z : Read) → read_both o s ≡ z → EndsIn (last_line (lines_of (report_read z))) refuted_yes → (ks : List Constraint) × (cs : List Command) × IsOpb o ks × IsReadBehind (assumptions ks) s cs × ((σ : Assignment) → ¬ (SolvesBoth ks cs σ))
    go (whole ds) e h = let (ks, cs, p, r, g) = both-faithful o s ds e in (ks, cs, p, r, (sound-both o s ks cs p r).refuted k)
    go (refused n p) e h = absurd (refusal_not-refuted n p h)

-- of texts whose report says holds=yes in line i: each of them satisfies line i's clause, where there is one
pub marked-both : (o s : List ℕ) (i : ℕ) → EndsIn (get_or (lines_of (report_both o s)) i []) holds_yes →
    (ks : List Constraint) × (cs : List Command) × IsOpb o ks × IsReadBehind (assumptions ks) s cs × (i < length (assumptions ks ++ cs) → (σ : Assignment) → SolvesBoth ks cs σ → Satisfies σ (get_or (clauses_of (assumptions ks ++ cs)) i []))
unfolding SoundBoth SoundBy report_both report_read
marked-both o s i k = go (read_both o s) refl k
  where
    go : (z : Read) → read_both o s ≡ z → EndsIn (get_or (lines_of (report_read z)) i []) holds_yes →
        (ks : List Constraint) × (cs : List Command) × IsOpb o ks × IsReadBehind (assumptions ks) s cs × (i < length (assumptions ks ++ cs) → (σ : Assignment) → SolvesBoth ks cs σ → Satisfies σ (get_or (clauses_of (assumptions ks ++ cs)) i []))
    go (whole ds) e h = let (ks, cs, p, r, g) = both-faithful o s ds e in (ks, cs, p, r, λ l. (sound-both o s ks cs p r).marked i (subst (λ (n : ℕ). i < n) (sym (clauses-length (assumptions ks ++ cs))) l) k)
    go (refused n p) e h = absurd (refusal_not-marked n p i h)

-- of such a line that is no pol line: each of them satisfies the clause that stands in the text, or that the constraint becomes
pub marked-both-written : (o s : List ℕ) (i : ℕ) (ks : List Constraint) (cs : List Command) → IsOpb o ks → IsReadBehind (assumptions ks) s cs → EndsIn (get_or (lines_of (report_both o s)) i []) holds_yes →
    i < length (assumptions ks ++ cs) → T (not (get_or (map is_pol (assumptions ks ++ cs)) i true)) → (σ : Assignment) → SolvesBoth ks cs σ → Satisfies σ (get_or (map clause_of (assumptions ks ++ cs)) i [])
unfolding SoundBoth SoundBy
marked-both-written o s i ks cs p r k l h σ m =
    subst (Satisfies σ) (written-clause (assumptions ks ++ cs) i h)
    ((sound-both o s ks cs p r).marked i (subst (λ (n : ℕ). i < n) (sym (clauses-length (assumptions ks ++ cs))) l) k σ m)
