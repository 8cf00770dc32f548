-- `terms::leave` owes the index without its latest string: the link of that string becomes the latest of its hash again. Assumes nothing.
use mathlib.Core.Path.{refl}
use Rattle.terms.specs.Index.{left}
use Rattle.terms.proofs.leave.Goals as goal

pub returns : goal.returns
unfolding left
returns c = refl
