-- `heads::expect` owes where the text goes on behind the mark m: by the mark that is seen. Assumes nothing.
use Rattle.heads.proofs.Laws.{want-yes, want-no, want-off, eq_yes, eq_no, other_mark}
use Rattle.heads.proofs.Refusals.{passed_on}
use Rattle.heads.specs.Heads.{seen_of, number_of}
use mathlib.Core.Path.{ap, sym, ◌∙◌}
use Rattle.heads.proofs.expect.Goals as goal

pub returns-then-eq : goal.returns-then-eq
returns-then-eq c = let h = want-yes c.args.text.now c.args.at _ (seen_of c.mark_at.result) c.mark_at.ensures.0 c.mark_at.ensures.1 _ _ _ (ap seen_of c.in_ok-k.was) (ap number_of (eq_yes _ _ (sym c.eq.ensures ∙ c.if-eq.true))) in (h.0, (h.1, h.2))

pub returns : goal.returns
returns c = (want-no c.args.text.now c.args.at _ (seen_of c.mark_at.result) c.mark_at.ensures.0 c.mark_at.ensures.1 _ _ _ (ap seen_of c.in_ok-k.was) (other_mark _ _ (eq_no _ _ (sym c.eq.ensures ∙ c.if-eq.false))), tt)

pub returns-in_err-k : goal.returns-in_err-k
returns-in_err-k c = rw (passed_on c.from_residual.result c.from_residual.ensures.1) (want-off c.args.text.now c.args.at _ (seen_of c.mark_at.result) c.mark_at.ensures.0 c.mark_at.ensures.1 _ _ (ap seen_of c.in_err-k.was), tt)
