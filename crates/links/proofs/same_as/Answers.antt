-- The comparison of two nodes is that of their terms.
use mathlib.Core.Path.{◌∙◌, sym}
use Rattle.links.proofs.Literals.{same-yes, same-no}
use Rattle.matching.proofs.Matches.{pair-nodes}
use Rattle.links.proofs.same_as.Goals as goal

pub equal-requires : goal.equal-requires
equal-requires c = rw (c.wide.ensures, c.wide-2.ensures) (pair-nodes c.requires.node c.requires.node_2)

pub returns-then-equal : goal.returns-then-equal
returns-then-equal c = λ x l a. same-yes x _ _ (sym c.if-equal.true ∙ rw (c.wide.ensures, c.wide-2.ensures) at c.equal.ensures x.text x.n x.named l a)

pub returns-else-equal : goal.returns-else-equal
returns-else-equal c = λ x l a. same-no x _ _ (sym c.if-equal.false ∙ rw (c.wide.ensures, c.wide-2.ensures) at c.equal.ensures x.text x.n x.named l a)
