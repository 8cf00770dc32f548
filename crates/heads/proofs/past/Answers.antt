-- `heads::past` owes what is past the mark of number m, or nothing: by the mark that is seen. Assumes nothing.
use Rattle.heads.proofs.Laws.{pass-yes, pass-no, pass-off}
use Rattle.heads.specs.Heads.{seen_of}
use mathlib.Core.Path.{ap, sym, ◌∙◌}
use Rattle.heads.proofs.past.Goals as goal

pub returns-then-from-m : goal.returns-then-from-m
returns-then-from-m c = pass-yes c.args.text.now c.args.at _ (seen_of c.mark_at.result) c.mark_at.ensures.0 c.mark_at.ensures.1 _ _ _ (ap seen_of c.in-Ok.is) (sym c.from.ensures ∙ c.if-from-m.true)

pub returns-else-from-m : goal.returns-else-from-m
returns-else-from-m c = (pass-no c.args.text.now c.args.at _ (seen_of c.mark_at.result) c.mark_at.ensures.0 c.mark_at.ensures.1 _ _ _ (ap seen_of c.in-Ok.is) (λ e. c.if-from-m.false (c.from.ensures ∙ e)), tt)

pub returns-in-Err : goal.returns-in-Err
returns-in-Err c = (pass-off c.args.text.now c.args.at _ (seen_of c.mark_at.result) c.mark_at.ensures.0 c.mark_at.ensures.1 _ _ (ap seen_of c.in-Err.is), tt)
