-- `terms::enter` owes the index with one string more: the latest string of its hash so far becomes its link. Assumes nothing.
use mathlib.Core.Path.{refl}
use native.Mathlib.Omega.{arith}
use lib.ListN.{length-set}
use Rattle.terms.specs.Index.{entered}
use Rattle.terms.proofs.enter.Goals as goal

pub bounds-words-base-3 : goal.bounds-words-base-3
bounds-words-base-3 c = rw length-set (omega (arith, c.requires.0, c.requires.2))

pub returns : goal.returns
unfolding entered
returns c = refl
