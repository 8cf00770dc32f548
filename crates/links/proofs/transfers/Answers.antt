-- Each way out is one law of proofs/Linking.
use mathlib.Core.Path.{◌∙◌, sym}
use native.Mathlib.Omega.{arith}
use Rattle.links.proofs.Fronts.{refused}
use Rattle.links.proofs.Linking.{transfer-form, transfer-left, transfer-right, transfer-all}
use Rattle.matching.proofs.Matches.{pair-nodes}
use Rattle.links.proofs.transfers.Goals as goal

pub returns-in_err-left : goal.returns-in_err-left
returns-in_err-left c = rw (refused _ c.from_residual.ensures.1 c.in_err-left.ensures.ok_part c.in_err-left.ensures.value) (λ x r e n. transfer-form x _ _ _ (rw c.in_err-left.ensures.ok_part at c.binary.ensures))

pub equal-requires : goal.equal-requires
equal-requires c = rw (c.wide.ensures, c.wide-2.ensures) (pair-nodes c.requires.node (rw c.in_ok-left.ensures.ok_part at c.binary.ensures).left.node)

pub returns-then-not-equal : goal.returns-then-not-equal
returns-then-not-equal c = λ x r e n. let P = rw c.in_ok-left.ensures.ok_part at c.binary.ensures in transfer-left x _ _ _ P (sym c.if-not-equal.true ∙ rw (c.wide.ensures, c.wide-2.ensures) at c.equal.ensures x.text x.n x.named r (omega (arith, P.left.before)))

pub equal-requires-2 : goal.equal-requires-2
equal-requires-2 c = rw (c.wide-3.ensures, c.wide-4.ensures) (pair-nodes c.requires.node_3 (rw c.in_ok-left.ensures.ok_part at c.binary.ensures).right.node)

pub returns-then-not-equal-2 : goal.returns-then-not-equal-2
returns-then-not-equal-2 c = λ x r e n. let P = rw c.in_ok-left.ensures.ok_part at c.binary.ensures in transfer-right x _ _ _ P (sym c.if-not-equal.false ∙ rw (c.wide.ensures, c.wide-2.ensures) at c.equal.ensures x.text x.n x.named r (omega (arith, P.left.before))) (sym c.if-not-equal-2.true ∙ rw (c.wide-3.ensures, c.wide-4.ensures) at c.equal-2.ensures x.text x.n x.named n (omega (arith, P.right.before)))

pub returns : goal.returns
returns c = λ x r e n. let P = rw c.in_ok-left.ensures.ok_part at c.binary.ensures in transfer-all x _ _ _ P (sym c.if-not-equal.false ∙ rw (c.wide.ensures, c.wide-2.ensures) at c.equal.ensures x.text x.n x.named r (omega (arith, P.left.before))) (sym c.if-not-equal-2.false ∙ rw (c.wide-3.ensures, c.wide-4.ensures) at c.equal-2.ensures x.text x.n x.named n (omega (arith, P.right.before)))
