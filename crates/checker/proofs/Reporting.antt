-- The report of a file is that of its lines, and the report of a text is that of what the reader made of it.
use mathlib.Core.Path.{◌≡◌, refl, sym, ap, ap₂, subst}
use mathlib.Core.Bool.{Bool, true, false, cond, ◌&&◌}
use mathlib.Core.List.{List, [], map}
use Prim.Native.Nat.{ℕ, zero, suc, ◌≤◌, ◌<◌}
use native.Mathlib.Omega.{arith}
use borrow.Author.Tests.{lt-leb}
use lib.Dec.{eqb, leb, le→leb, leb→le, not_T}
use lib.ListN.{length, get_or}
use Rattle.calculus.specs.Bytes.{bytes}
use Rattle.calculus.specs.Clauses.{Sound, SoundBoth}
use Rattle.calculus.specs.Marks.{Line, line_of}
use Rattle.calculus.specs.OpbReading.{read_opb}
use Rattle.calculus.specs.OpbReport.{on_opb, read_both, report_both, written_both}
use Rattle.calculus.specs.Report.{min_report, min_table, report_lines, report_of, report_read, refusal_text, written}
use Rattle.calculus.specs.Terms.{Term, pol}
use Rattle.calculus.specs.Limits.{max_text}
use Rattle.calculus.proofs.Booleans.{is_true, is_false}
use Rattle.theorems.proofs.OpbSoundness.{sound-both-written}
use Rattle.theorems.proofs.Soundness.{sound-written}
use Rattle.nodes.specs.Nodes.{decode}
use Rattle.reader.specs.Commands.{all_words, word_at, kind_word, clause_word, premises_word, arguments_word, part_at, pol_kind, pol_words_of, command_as, command_of}
use Rattle.reader.specs.Reading.{ReadsFile}
use Rattle.reader.specs.Reading.{Whole, All, Refused, Small}
use Rattle.opb_reader.specs.Reading.{BothIs}
use Rattle.report.specs.Lines.{step_name, name_of, LineHas, LinesAre, Printable}
use Rattle.report.specs.Written.{Wrote}
use Rattle.terms.specs.Spans.{string_at}
use Rattle.checker.specs.Runs.{File, command_lines, command_line, Numbered, Plained, Marked}
use Rattle.checker.proofs.Lining.{lines_long, line_in, id-is}

-- ---- the lines
line-rule : (ls : List Line) (d : List ℕ) (kind : ℕ) (c : List Term) (ds : List (List ℕ)) (xs : List Term) → (line_of ls (command_as d kind c ds xs)).rule ≡ step_name kind
unfolding line_of command_as step_name
line-rule ls d zero c ds xs = refl
line-rule ls d (suc r) c ds xs = refl

module _ {s t w : List ℕ} {n : ℕ} (f : File s t w n) where
  rule-is : (k : ℕ) → (command_line s t w k).rule ≡ name_of (word_at w k kind_word)
  unfolding command_line command_of name_of line_of
  rule-is k = go (eqb (word_at w k kind_word) pol_kind)
    where
      go : (b : Bool) → (line_of (command_lines s t w k) (cond b (pol (string_at s w k) (pol_words_of s w k)) (command_as (string_at s w k) (word_at w k kind_word) (map (decode s t) (part_at t w k clause_word)) (map (string_at s w) (part_at t w k premises_word)) (map (decode s t) (part_at t w k arguments_word))))).rule
          ≡ cond b (bytes "pol") (step_name (word_at w k kind_word))
      go true = refl
      go false =
          line-rule (command_lines s t w k) (string_at s w k) (word_at w k kind_word) (map (decode s t) (part_at t w k clause_word))
          (map (string_at s w) (part_at t w k premises_word)) (map (decode s t) (part_at t w k arguments_word))

  -- the numbers and marks are those of the lines
  pub lines_are : {ns : List ℕ} {ps marks : List Bool} → Numbered s t w n ns → Plained s t w n ps → Marked s t w n marks → LinesAre s w ns ps marks n (command_lines s t w n)
  lines_are {ns} {ps} {marks} a p m = record {
    count = lines_long s t w n;
    each = λ k h. subst (λ (l : Line). LineHas l (string_at s w k) (word_at w k kind_word) (get_or ns k 0) (get_or ps k false) (get_or marks k false)) (sym (line_in s t w n k h))
        (record { id = id-is f k; rule = rule-is k; number = sym (a k h); plain = sym (p k h); holds = sym (m k h) });
  }

  pub printable : {ns : List ℕ} {ps marks : List Bool} → n ≤ length ns → n ≤ length ps → n ≤ length marks → Printable s w ns ps marks n
  printable a b c = record {
    room = f.commands.room;
    few = f.commands.few;
    ids = f.commands.ids;
    short = f.commands.short;
    kinds = λ j h. (f.commands.each j h).kind;
    numbered = a;
    plained = b;
    marked = c;
  }

-- ---- the report of a text, by what the reader answers
module _ (s t u w x : List ℕ) (r : Whole) (R : ReadsFile s t u w x r) where
  pub report-all : (k n c p : ℕ) → r ≡ All k n c p → {d e : List ℕ} {m : ℕ} → Wrote d 0 (report_lines (command_lines s u x k)) e m → Wrote d 0 (report_of s) e m
  unfolding report_of report_read command_lines
  report-all k n c p q {d} {e} {m} W =
      subst (λ (z : List ℕ). Wrote d 0 z e m) (sym (ap report_read (subst (ReadsFile s t u w x) q R).0)) W

  pub report-refused : (number byte : ℕ) → r ≡ Refused number byte → {d e : List ℕ} {m : ℕ} → Wrote d 0 (refusal_text number byte) e m → Wrote d 0 (report_of s) e m
  unfolding report_of report_read
  report-refused number byte q {d} {e} {m} W =
      subst (λ (z : List ℕ). Wrote d 0 z e m) (sym (ap report_read (subst (ReadsFile s t u w x) q R).0)) W

  -- tables of these sizes are not too small
  pub report-small : r ≡ Small → length t ≡ min_table → all_words ≤ length w → {A : Type 0} → A
  report-small q a b {A} = absurd ((subst (ReadsFile s t u w x) q R).0 a b)

-- ---- the report of both texts, by what the reader answers
module _ (o s j u x : List ℕ) (r : Whole) (R : BothIs o s j u x r) where
  pub both-report : (k n c p : ℕ) → r ≡ All k n c p → {d e : List ℕ} {m : ℕ} → Wrote d 0 (report_lines (command_lines j u x k)) e m → Wrote d 0 (report_both o s) e m
  unfolding report_both report_read command_lines
  both-report k n c p q {d} {e} {m} W = subst (λ (z : List ℕ). Wrote d 0 z e m) (sym (ap report_read (subst (BothIs o s j u x) q R).0)) W

  pub both-refusal : (number byte : ℕ) → r ≡ Refused number byte → {d e : List ℕ} {m : ℕ} → Wrote d 0 (refusal_text number byte) e m → Wrote d 0 (report_both o s) e m
  unfolding report_both report_read
  both-refusal number byte q {d} {e} {m} W = subst (λ (z : List ℕ). Wrote d 0 z e m) (sym (ap report_read (subst (BothIs o s j u x) q R))) W

-- an OPB text of more than 32,768 bytes
pub opb-long : (o s : List ℕ) → max_text < length o → {d e : List ℕ} {m : ℕ} → Wrote d 0 (refusal_text 2 max_text) e m → Wrote d 0 (report_both o s) e m
unfolding report_both read_both on_opb read_opb report_read
opb-long o s h {d} {e} {m} W = rw (lt-leb (length o) max_text h) W

-- ---- what a call writes, where its report is x
abbrev lent : ℕ → ℕ → List ℕ → List ℕ
lent r n x = cond (leb min_report r && leb min_table n) x []

-- enough was lent
lent-enough : (r n : ℕ) (x : List ℕ) → min_report ≤ r → min_table ≤ n → lent r n x ≡ x
lent-enough r n x a b = ap₂ (λ (c d : Bool). cond (c && d) x []) (is_true (leb min_report r) (le→leb min_report r a)) (is_true (leb min_table n) (le→leb min_table n b))

-- the report is too small
lent_report : (r n : ℕ) (x : List ℕ) → r < min_report → lent r n x ≡ []
lent_report r n x h = ap (λ (c : Bool). cond (c && leb min_table n) x []) (is_false (leb min_report r) (not_T (leb min_report r) (λ k. let e : min_report ≤ r = leb→le min_report r k in omega arith)))

-- the node table is too small
lent-table : (r n : ℕ) (x : List ℕ) → n < min_table → lent r n x ≡ []
lent-table r n x h = go (leb min_report r) (is_false (leb min_table n) (not_T (leb min_table n) (λ k. let e : min_table ≤ n = leb→le min_table n k in omega arith)))
  where
    go : (b : Bool) → leb min_table n ≡ false → cond (b && leb min_table n) x [] ≡ []
    go true e = ap (λ (c : Bool). cond c x []) e
    go false e = refl

-- of a text
pub written-enough : (r n : ℕ) (s : List ℕ) → min_report ≤ r → min_table ≤ n → written r n s ≡ report_of s
unfolding written
written-enough r n s = lent-enough r n (report_of s)

pub written-report : (r n : ℕ) (s : List ℕ) → r < min_report → written r n s ≡ []
unfolding written
written-report r n s = lent_report r n (report_of s)

pub written-table : (r n : ℕ) (s : List ℕ) → n < min_table → written r n s ≡ []
unfolding written
written-table r n s = lent-table r n (report_of s)

-- its report is sound
pub sound_report : (r n : ℕ) (s : List ℕ) {report : List ℕ} → report ≡ written r n s → Sound s report
sound_report r n s e = subst (Sound s) (sym e) (sound-written r n s)

-- of both texts
pub both-enough : (r n : ℕ) (o s : List ℕ) → min_report ≤ r → min_table ≤ n → written_both r n o s ≡ report_both o s
unfolding written_both
both-enough r n o s = lent-enough r n (report_both o s)

pub both-no-report : (r n : ℕ) (o s : List ℕ) → r < min_report → written_both r n o s ≡ []
unfolding written_both
both-no-report r n o s = lent_report r n (report_both o s)

pub both-no-table : (r n : ℕ) (o s : List ℕ) → n < min_table → written_both r n o s ≡ []
unfolding written_both
both-no-table r n o s = lent-table r n (report_both o s)

pub sound-both-report : (r n : ℕ) (o s : List ℕ) {report : List ℕ} → report ≡ written_both r n o s → SoundBoth o s report
sound-both-report r n o s e = subst (SoundBoth o s) (sym e) (sound-both-written r n o s)
