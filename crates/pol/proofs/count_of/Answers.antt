-- `pol::count_of` owes the number of literals of an entry, behind them.
use mathlib.Core.Path.{sym, ◌∙◌}
use native.Mathlib.Omega.{arith}
use Rattle.pol.proofs.Windows.{window-get}
use Rattle.pol.proofs.count_of.Goals as goal

pub returns : goal.returns
returns c = c.wide.ensures ∙ sym (window-get c.args.e c.args.keys.now 0 64 (omega arith))
