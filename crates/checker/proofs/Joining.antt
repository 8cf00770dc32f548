-- The string in which both texts stand.
use mathlib.Core.Path.{◌≡◌, ap, subst, ◌∙◌}
use mathlib.Core.List.{List, ◌++◌, append_assoc, append-nil}
use Prim.Native.Nat.{ℕ, ◌-◌, ◌≤◌, ◌<◌}
use native.Mathlib.Omega.{arith}
use borrow.Author.Tests.{le-leb, lt-leb}
use lib.ListN.{length, take}
use Rattle.calculus.specs.Report.{min_table}
use Rattle.calculus.specs.Limits.{max_text}
use Rattle.opb_reader.specs.Ids.{ids, kept, joined}
use Rattle.opb_reader.specs.Reading.{BothReady}
use Rattle.opb_reader.proofs.Ids.{last-id, kept-size, joined-size}
use Rattle.reader.specs.Commands.{all_words}
use Rattle.report.specs.Written.{Wrote}
use Rattle.report.proofs.Writing.{wrote-front}
use Rattle.terms.specs.Spans.{max_joined}

-- the proof text behind the ids
joined-all : (o s : List ℕ) → length s ≤ max_text → o ++ ids ++ s ≡ joined o s
unfolding joined kept
joined-all o s h = append_assoc o ids s ∙ rw (le-leb (length s) max_text h)

pub wrote-all : (o s : List ℕ) {d e : List ℕ} {r : ℕ} → length s ≤ max_text → Wrote d 0 (o ++ ids ++ s) e r → Wrote d 0 (joined o s) e r
wrote-all o s {d} {e} {r} h W = subst (λ (z : List ℕ). Wrote d 0 z e r) (joined-all o s h) W

-- a proof text that is too long
joined-cut : (o s : List ℕ) → max_text < length s → o ++ ids ≡ joined o s
unfolding joined kept
joined-cut o s h = rw (lt-leb (length s) max_text h, append-nil ids)

pub wrote-cut : (o s : List ℕ) {d e : List ℕ} {r : ℕ} → max_text < length s → Wrote d 0 (o ++ ids) e r → Wrote d 0 (joined o s) e r
wrote-cut o s {d} {e} {r} h W = subst (λ (z : List ℕ). Wrote d 0 z e r) (joined-cut o s h) W

-- what read_both asks of the bytes that were written
pub both-ready : (o s : List ℕ) {d e : List ℕ} (t w : List ℕ) {r : ℕ} → length o ≤ max_text → Wrote d 0 (joined o s) e r → length t ≡ min_table → all_words ≤ length w → BothReady o s (take (r - 0) e) t w
both-ready o s {d} {e} t w {r} h W room words =
    let z : r - 0 ≡ r = omega arith in
    record { short = h; joined = ap (λ (i : ℕ). take i e) z ∙ wrote-front W; room = room; words = words }

-- how many bytes they are
pub both_long : {o s j t w : List ℕ} → BothReady o s j t w → length j ≤ max_joined
both_long {o} {s} B = let size = ap length B.joined ∙ joined-size o s in omega (arith, size, B.short, kept-size s, last-id)
