-- `lines::behind` owes where the text goes on, or 0 where no word stands.
use mathlib.Core.Path.{sym, ap, ◌∙◌}
use Rattle.lines.specs.Running.{behind_word}
use Rattle.lines.proofs.behind.Goals as goal

pub returns-in-Ok : goal.returns-in-Ok
returns-in-Ok c = c.end_of.ensures ∙ sym (ap behind_word c.in-Ok.is)
