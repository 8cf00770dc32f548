-- A line and the report in the parts that the code writes, and the lines one by one.
use mathlib.Core.Path.{◌≡◌, refl, sym, ap, ◌∙◌}
use mathlib.Core.Bool.{Bool, false}
use mathlib.Core.List.{List, [], ◌∷◌, ◌++◌, append_assoc}
use Prim.Native.Nat.{ℕ, suc, ◌+◌, ◌-◌, ◌*◌, ◌≤◌, ◌<◌}
use native.Mathlib.Numerals.{add-one}
use native.Mathlib.Omega.{arith}
use lib.ListN.{length, get_or, take, drop}
use lib.Seq.{slice, take-suc, take_all}
use Rattle.calculus.specs.Bytes.{bytes}
use Rattle.calculus.specs.Marks.{Line, number_of, plain_of, no_line, refused_in, refuted_by}
use Rattle.calculus.specs.Report.{yes_no, line_text, totals_text, render, refusal_text, report_lines}
use Rattle.calculus.specs.Words.{decimal}
use Rattle.lexer.proofs.Spoken.{slice_from}
use Rattle.reader.specs.Commands.{word_at, kind_word}
use Rattle.terms.specs.Spans.{string_at}
use Rattle.report.specs.Written.{Wrote}
use Rattle.report.specs.Lines.{name_of, LineHas, LinesAre, IdShown, Printable, start_text, marks_text, lines_text}
use Rattle.report.proofs.Writing.{wrote_as, ◌⨟◌}

-- command k can be written
pub named : {s w numbers : List ℕ} {plains marks : List Bool} {n : ℕ} → Printable s w numbers plains marks n → (k : ℕ) → k < n → IdShown s w k
named p k h = record {
  room = p.room;
  few = omega (arith, p.few);
  up = p.ids.up k h;
  inside = p.ids.inside k h;
  short = p.short k h;
  kind = p.kinds k h;
}

-- a number that is at least k and not k
past : (k : ℕ) {n : ℕ} → (n ≡ k → ⊥) → k ≤ n → suc k ≤ n
past k f h = omega (arith, f)

-- ---- parts
-- a line up to its rule, from the words as they were read: the id's count from the text's end
pub start-parts : {s w : List ℕ} {k : ℕ} → IdShown s w k → {a b kind : ℕ} → a ≡ get_or w (2 * k) 0 → b ≡ get_or w (2 * k + 1) 0 → kind ≡ word_at w k kind_word
    → start_text (string_at s w k) (name_of (word_at w k kind_word)) ≡ bytes "id=" ++ take (length s - b - (length s - a)) (drop (length s - a) s) ++ bytes " rule=" ++ name_of kind
unfolding string_at
start-parts {s} {w} {k} named {a} {b} {kind} p q r =
    rw (← p, ← q, ← r) (ap (λ (x : List ℕ). start_text x (name_of kind)) (part (length s - a) (length s - b) (omega (arith, named.up))) ∙ whole _ (name_of kind))
  where
    part : (from to : ℕ) → from ≤ to → slice from to s ≡ take (to - from) (drop from s)
    part from to h = let i : to ≡ from + (to - from) = omega arith in ap (λ (n : ℕ). slice from n s) i ∙ slice_from from (to - from) s

    whole : (x y : List ℕ) → start_text x y ≡ bytes "id=" ++ x ++ bytes " rule=" ++ y
    whole x y = unfold start_text in refl

line_regrouped : (a i b r c d e p f h g : List ℕ)
    → (a ++ (i ++ (b ++ (r ++ (c ++ (d ++ (e ++ (p ++ (f ++ h))))))))) ++ g ≡ a ++ i ++ b ++ r ++ c ++ d ++ (e ++ p ++ f ++ h ++ g)
line_regrouped a i b r c d e p f h g = simp append_assoc

line_as : (l : Line) → line_text l ++ (10 ∷ []) ≡ start_text l.id l.rule ++ bytes " answer=" ++ decimal (number_of l.answer) ++ marks_text (plain_of l.answer) l.holds
unfolding line_text start_text marks_text
line_as l =
    line_regrouped (bytes "id=") l.id (bytes " rule=") l.rule (bytes " answer=") (decimal (number_of l.answer))
    (bytes " plain=") (yes_no (plain_of l.answer)) (bytes " holds=") (yes_no l.holds) (bytes "\n")

pub line_parts : {l : Line} {name : List ℕ} {kind answer : ℕ} {plainly held : Bool} → LineHas l name kind answer plainly held
    → line_text l ++ (10 ∷ []) ≡ start_text name (name_of kind) ++ bytes " answer=" ++ decimal answer ++ marks_text plainly held
line_parts {l} h = line_as l ∙ rw (h.id, h.rule, h.number, h.plain, h.holds)

totals_regrouped : (a b c d e f g : List ℕ) → (a ++ (b ++ (c ++ (d ++ (e ++ f))))) ++ g ≡ a ++ b ++ c ++ d ++ e ++ f ++ g
totals_regrouped a b c d e f g = simp append_assoc

totals_as : (ls : List Line)
    → totals_text ls ++ (10 ∷ []) ≡ bytes "commands=" ++ decimal (length ls) ++ bytes " refused=" ++ decimal (refused_in ls) ++ bytes " refuted=" ++ yes_no (refuted_by ls) ++ bytes "\n"
unfolding totals_text
totals_as ls =
    totals_regrouped (bytes "commands=") (decimal (length ls)) (bytes " refused=") (decimal (refused_in ls))
    (bytes " refuted=") (yes_no (refuted_by ls)) (bytes "\n")

pub totals_parts : (ls : List Line) {n refused : ℕ} {refuted : Bool} → length ls ≡ n → refused_in ls ≡ refused → refuted_by ls ≡ refuted
    → totals_text ls ++ (10 ∷ []) ≡ bytes "commands=" ++ decimal n ++ bytes " refused=" ++ decimal refused ++ bytes " refuted=" ++ yes_no refuted ++ bytes "\n"
totals_parts ls p q r = totals_as ls ∙ rw (p, q, r)

refusal_regrouped : (a b c d e : List ℕ) → a ++ (b ++ (c ++ (d ++ e))) ≡ a ++ b ++ c ++ d ++ e
refusal_regrouped a b c d e = simp append_assoc

pub refusal_parts : (n p : ℕ) → refusal_text n p ≡ bytes "refused=" ++ decimal n ++ bytes " byte=" ++ decimal p ++ bytes "\n"
unfolding refusal_text
refusal_parts n p = refusal_regrouped (bytes "refused=") (decimal n) (bytes " byte=") (decimal p) (bytes "\n")

render-parts : (ls : List Line) (totals : List ℕ) → render ls totals ≡ lines_text ls ++ (totals ++ (10 ∷ []))
unfolding render lines_text
render-parts [] totals = refl
render-parts (l ∷ ls) totals =
    ap (λ (x : List ℕ). line_text l ++ (10 ∷ x)) (render-parts ls totals)
    ∙ sym (append_assoc (line_text l) (10 ∷ lines_text ls) (totals ++ (10 ∷ [])))

pub report_parts : (ls : List Line) → report_lines ls ≡ lines_text ls ++ (totals_text ls ++ (10 ∷ []))
unfolding report_lines
report_parts ls = render-parts ls (totals_text ls)

-- ---- lines one by one
-- one line more
lines-append : (ls : List Line) (l : Line) → lines_text (ls ++ (l ∷ [])) ≡ lines_text ls ++ (line_text l ++ (10 ∷ []))
unfolding lines_text
lines-append [] l = refl
lines-append (m ∷ ls) l =
    ap (λ (x : List ℕ). line_text m ++ (10 ∷ x)) (lines-append ls l)
    ∙ sym (append_assoc (line_text m) (10 ∷ lines_text ls) (line_text l ++ (10 ∷ [])))

pub taken_more : (ls : List Line) (k : ℕ) → k < length ls → take (k + 1) ls ≡ take k ls ++ (get_or ls k no_line ∷ [])
taken_more ls k h = ap (λ (j : ℕ). take j ls) (add-one k) ∙ take-suc ls k no_line h

pub lines_none : (ls : List Line) → lines_text (take 0 ls) ≡ []
unfolding lines_text
lines_none ls = refl

module _ {s w numbers : List ℕ} {plains marks : List Bool} {n : ℕ} {ls : List Line} (are : LinesAre s w numbers plains marks n ls) where
  pub lines-turn : {d e f : List ℕ} {k o r : ℕ} → k < n → Wrote d 0 (lines_text (take k ls)) e o
      → ((l : Line) → LineHas l (string_at s w k) (word_at w k kind_word) (get_or numbers k 0) (get_or plains k false) (get_or marks k false) → Wrote e o (line_text l ++ (10 ∷ [])) f r)
      → Wrote d 0 (lines_text (take (k + 1) ls)) f r
  lines-turn {d} {e} {f} {k} {o} {r} h v one =
      wrote_as
      (ap lines_text (taken_more ls k (omega (arith, are.count))) ∙ lines-append (take k ls) (get_or ls k no_line))
      (v ⨟ one (get_or ls k no_line) (are.each k h))

  pub lines-all : {d e : List ℕ} {k o : ℕ} → n ≤ k → Wrote d 0 (lines_text (take k ls)) e o → Wrote d 0 (lines_text ls) e o
  lines-all {d} {e} {k} {o} h v = wrote_as (ap lines_text (sym (take_all k ls (omega (arith, are.count))))) v
