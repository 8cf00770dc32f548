-- An assumption's one term is looked at; a step that is plain holds where its premises do, which stand above it, and a pol line where the ids do that it pushes.
use mathlib.Core.List.{List}
use mathlib.Core.Path.{sym, ap, subst, ◌∙◌}
use Prim.Native.Nat.{ℕ}
use native.Mathlib.Omega.{arith}
use lib.ListN.{length, get_or}
use Rattle.calculus.specs.Truth.{is_statement}
use Rattle.nodes.specs.Nodes.{decode}
use Rattle.matching.specs.Matched.{AllNodes}
use Rattle.checker.specs.Runs.{all_marked, Cited}
use Rattle.checker.proofs.Lining.{clause-one}
use Rattle.checker.proofs.Marking.{clause-part, premises-part, clause-nodes, premises-above, ids-of, holds-assumed, holds_not, holds_pushed, holds-cited}
use Rattle.checker.proofs.holds.Goals as goal

pub part_of-clause-requires : goal.part_of-clause-requires
part_of-clause-requires c = clause-part c.requires.0 c.args.k c.requires.1

pub bounds-clause-0 : goal.bounds-clause-0
bounds-clause-0 c = omega (arith, ap length c.part_of-clause.ensures, clause-one c.requires.0 c.args.k c.requires.1 (omega (arith, c.word_of-kind.ensures, c.if-kind-eq0.true)))

pub is_statement-requires : goal.is_statement-requires
is_statement-requires c = subst (AllNodes c.args.nodes.now) (sym c.part_of-clause.ensures) (clause-nodes c.requires.0 c.args.k c.requires.1) 0 (omega (arith, ap length c.part_of-clause.ensures, clause-one c.requires.0 c.args.k c.requires.1 (omega (arith, c.word_of-kind.ensures, c.if-kind-eq0.true))))

pub returns-then-kind-eq0 : goal.returns-then-kind-eq0
returns-then-kind-eq0 c = λ p m. holds-assumed c.requires.0 c.args.k c.requires.1 c.is_statement.result (omega (arith, c.word_of-kind.ensures, c.if-kind-eq0.true)) (c.is_statement.ensures c.args.text.now ∙ ap (λ (l : List ℕ). is_statement (decode c.args.text.now c.args.nodes.now (get_or l 0 0))) c.part_of-clause.ensures)

pub returns-then-not-plain : goal.returns-then-not-plain
returns-then-not-plain c = λ p m. holds_not c.requires.0 c.args.k c.requires.1 c.args.marks.now m c.args.plain p (omega (arith, c.word_of-kind.ensures, c.if-kind-eq0.false)) c.if-not-plain.true

pub pushes_hold-requires : goal.pushes_hold-requires
pushes_hold-requires c = (ids-of c.requires.0, c.requires.1, c.requires.2, c.requires.0.commands.pols c.args.k c.requires.1 (omega (arith, c.word_of-kind.ensures, c.if-kind-eq-POL_KIND.true)))

pub returns-then-kind-eq-POL_KIND : goal.returns-then-kind-eq-POL_KIND
returns-then-kind-eq-POL_KIND c = λ p m. holds_pushed c.requires.0 c.args.k c.requires.1 c.args.marks.now m c.args.plain p c.pushes_hold.result (omega (arith, c.word_of-kind.ensures, c.if-kind-eq-POL_KIND.true)) c.if-not-plain.false c.pushes_hold.ensures

pub part_of-requires : goal.part_of-requires
part_of-requires c = premises-part c.requires.0 c.args.k c.requires.1

pub all_hold-requires : goal.all_hold-requires
all_hold-requires c = subst (Cited c.args.marks.now) (sym c.part_of.ensures) (λ i g. omega (arith, premises-above c.requires.0 c.args.k c.requires.1 i g, c.requires.2))

pub returns : goal.returns
returns c = λ p m. holds-cited c.requires.0 c.args.k c.requires.1 c.args.marks.now m c.args.plain p c.all_hold.result (omega (arith, c.word_of-kind.ensures, c.if-kind-eq0.false)) (λ z. omega (arith, z, c.word_of-kind.ensures, c.if-kind-eq-POL_KIND.false)) c.if-not-plain.false (c.all_hold.ensures ∙ ap (all_marked c.args.marks.now) c.part_of.ensures)
