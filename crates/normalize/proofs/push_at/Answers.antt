-- `normalize::push_at` writes what `push_one` answers, and adds what moves into the constant.
use native.Mathlib.Omega.{arith}
use Rattle.integer.specs.Integers.{Within}
use Rattle.calculus.specs.Words.{max_numeral}
use Rattle.matching.proofs.Matches.{kept}
use Rattle.normalize.proofs.Pushing.{moved-within, moved-fits}
use Rattle.normalize.proofs.push_at.Goals as goal

pub add-requires : goal.add-requires
add-requires c =
    let o = rw (kept (omega arith) c.requires.within) at c.push_one-one.ensures in
    let w : Within max_numeral c.push_one-one.result.constant = rw o.constant (moved-within _ c.requires.within) in
    rw (kept (omega (arith, c.requires.most)) c.requires.total, kept (omega arith) w) (moved-fits c.requires.most c.requires.total w)
