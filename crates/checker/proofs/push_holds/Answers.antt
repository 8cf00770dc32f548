-- `checker::push_holds` owes whether what a word pushes is marked, by its head: only a name can be an id above.
use mathlib.Core.Path.{subst}
use Rattle.std.specs.Prelude.{Ok}
use native.Mathlib.Omega.{arith}
use Rattle.heads.specs.PolHeads.{PolHeadIn}
use Rattle.heads.specs.declared.PolHead.{PolHead}
use Rattle.checker.proofs.Pushing.{push-id, push-name, push-as}
use Rattle.checker.proofs.push_holds.Goals as goal

pub place_of-j-requires : goal.place_of-j-requires
place_of-j-requires c = let h = subst (λ (h : PolHead). PolHeadIn c.args.text.now c.requires.3.0 (Ok h)) c.in-Plain.is c.requires.3.1 in (c.requires.0.spans, c.requires.0.indexed, omega (arith, h.1), h.2)

pub returns-then-j-k : goal.returns-then-j-k
returns-then-j-k c = rw c.in-Plain.is (push-id c.args.text.now c.args.commands.now c.args.k c.args.marks.now _ _ c.requires.1 c.place_of-j.ensures.0 (omega (arith, c.if-j-k.true)))

pub returns-else-j-k : goal.returns-else-j-k
returns-else-j-k c = rw c.in-Plain.is (push-name c.args.text.now c.args.commands.now c.args.k c.args.marks.now _ _ c.requires.0 c.requires.1 c.place_of-j.ensures.0 (omega (arith, c.if-j-k.false)))

pub returns-in-Negated : goal.returns-in-Negated
returns-in-Negated c = push-as c.args.text.now c.args.commands.now c.args.k c.args.marks.now c.in-Negated.is tt

pub returns-in-Add : goal.returns-in-Add
returns-in-Add c = push-as c.args.text.now c.args.commands.now c.args.k c.args.marks.now c.in-Add.is tt

pub returns-in-Saturate : goal.returns-in-Saturate
returns-in-Saturate c = push-as c.args.text.now c.args.commands.now c.args.k c.args.marks.now c.in-Saturate.is tt

pub returns-in-Times : goal.returns-in-Times
returns-in-Times c = push-as c.args.text.now c.args.commands.now c.args.k c.args.marks.now c.in-Times.is tt

pub returns-in-Over : goal.returns-in-Over
returns-in-Over c = push-as c.args.text.now c.args.commands.now c.args.k c.args.marks.now c.in-Over.is tt
