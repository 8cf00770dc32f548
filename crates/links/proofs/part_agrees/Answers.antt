-- Each way out is one law of proofs/Linking.
use mathlib.Core.Path.{◌∙◌, sym}
use native.Mathlib.Omega.{arith}
use Rattle.nodes.specs.Nodes.{first_at}
use Rattle.links.proofs.Linking.{part-node, part-before, part-form, part-number, part-index, part-other, part-all}
use Rattle.matching.proofs.Matches.{pair-nodes}
use Rattle.links.proofs.part_agrees.Goals as goal

pub returns-then-kind_of-ne-AND : goal.returns-then-kind_of-ne-AND
returns-then-kind_of-ne-AND c = λ x a s n. part-form x c.requires.node c.requires.node_2 _ (λ e. omega (arith, rw c.wide-at.ensures at c.kind_of.ensures))

pub returns-then-kind_of-ne-PLUS_KIND : goal.returns-then-kind_of-ne-PLUS_KIND
returns-then-kind_of-ne-PLUS_KIND c = λ x a s n. part-number x c.requires.node c.requires.node_2 _ (omega (arith, rw c.wide-at.ensures at c.kind_of.ensures)) c.children-parts.result.now (rw c.wide-at.ensures at c.children-parts.ensures) (λ e. omega (arith, rw c.wide.ensures at c.kind_of-2.ensures))

pub returns-then-i-parts : goal.returns-then-i-parts
returns-then-i-parts c = λ x a s n. part-index x c.requires.node c.requires.node_2 _ (omega (arith, rw c.wide-at.ensures at c.kind_of.ensures)) c.children-parts.result.now (rw c.wide-at.ensures at c.children-parts.ensures) (omega (arith, rw c.wide.ensures at c.kind_of-2.ensures)) (omega (arith, (rw c.wide-2.ensures at c.first_of-i.ensures)))

pub equal-requires : goal.equal-requires
equal-requires c = rw (c.wide-3.ensures, c.wide-4.ensures) (pair-nodes c.requires.node_3 (part-node c.requires.node (omega (arith, rw c.wide-at.ensures at c.kind_of.ensures)) c.children-parts.result.now (rw c.wide-at.ensures at c.children-parts.ensures) _ (omega arith)))

pub returns-then-not-equal : goal.returns-then-not-equal
returns-then-not-equal c = λ x a s n. part-other x c.requires.node c.requires.node_2 _ (omega (arith, rw c.wide-at.ensures at c.kind_of.ensures)) c.children-parts.result.now (rw c.wide-at.ensures at c.children-parts.ensures) (omega (arith, rw c.wide.ensures at c.kind_of-2.ensures)) (omega (arith, (rw c.wide-2.ensures at c.first_of-i.ensures))) (sym c.if-not-equal.true ∙ rw (c.wide-3.ensures, c.wide-4.ensures, (rw c.wide-2.ensures at c.first_of-i.ensures)) at c.equal.ensures x.text x.n x.named n (omega (arith, part-before c.requires.node (omega (arith, rw c.wide-at.ensures at c.kind_of.ensures)) c.children-parts.result.now (rw c.wide-at.ensures at c.children-parts.ensures) (first_at c.args.nodes.now c.args.s) (omega (arith, (rw c.wide-2.ensures at c.first_of-i.ensures))))))

pub returns : goal.returns
returns c = λ x a s n. part-all x c.requires.node c.requires.node_2 _ (omega (arith, rw c.wide-at.ensures at c.kind_of.ensures)) c.children-parts.result.now (rw c.wide-at.ensures at c.children-parts.ensures) (omega (arith, rw c.wide.ensures at c.kind_of-2.ensures)) (omega (arith, (rw c.wide-2.ensures at c.first_of-i.ensures))) (sym c.if-not-equal.false ∙ rw (c.wide-3.ensures, c.wide-4.ensures, (rw c.wide-2.ensures at c.first_of-i.ensures)) at c.equal.ensures x.text x.n x.named n (omega (arith, part-before c.requires.node (omega (arith, rw c.wide-at.ensures at c.kind_of.ensures)) c.children-parts.result.now (rw c.wide-at.ensures at c.children-parts.ensures) (first_at c.args.nodes.now c.args.s) (omega (arith, (rw c.wide-2.ensures at c.first_of-i.ensures))))))
