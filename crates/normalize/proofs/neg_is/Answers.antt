-- `normalize::neg_is`: what is negated is compared with the other term.
use Rattle.normalize.proofs.Comparing.{negation-same, negation_never}
use Rattle.matching.proofs.Matches.{pair-nodes}
use Rattle.normalize.proofs.neg_is.Goals as goal

pub equal-requires : goal.equal-requires
equal-requires c = rw (c.wide.ensures, c.wide-in-Some.ensures) (pair-nodes c.in-Some.ensures.inner.node c.requires.1)

pub returns-in-Some : goal.returns-in-Some
returns-in-Some c = negation-same c.in-Some.ensures (rw (c.wide.ensures, c.wide-in-Some.ensures) at c.equal.ensures)

pub returns-in-None : goal.returns-in-None
returns-in-None c = negation_never c.in-None.ensures
