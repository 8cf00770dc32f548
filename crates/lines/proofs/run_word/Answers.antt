-- `lines::run_word` owes what a word makes of the stack, by its head.
use mathlib.Core.Path.{subst}
use Rattle.std.specs.Prelude.{Ok}
use Rattle.heads.specs.PolHeads.{PolHeadIn}
use Rattle.heads.specs.declared.PolHead.{PolHead}
use Rattle.heads.specs.declared.PolHead.TheVariants.{Negated}
use Rattle.lines.proofs.Doing.{add_done, saturate_done, times-done, over_done, negated-head}
use Rattle.lines.proofs.run_word.Goals as goal

pub run_name-requires : goal.run_name-requires
run_name-requires c = let h = subst (λ (h : PolHead). PolHeadIn c.args.text.now c.requires.head_in.0 (Ok h)) c.in-Plain.is c.requires.head_in.1 in (c.requires.going.0, c.requires.going.1, h.1, h.2, h.3)

pub run_literal-requires : goal.run_literal-requires
run_literal-requires c = let h = subst (λ (h : PolHead). PolHeadIn c.args.text.now c.requires.head_in.0 (Ok h)) c.in-Negated.is c.requires.head_in.1 in ((c.requires.going.0.c, c.args.slots.now, c.requires.going.0.running), c.requires.going.1, h.1, h.2, h.3)

pub times_top-number-requires : goal.times_top-number-requires
times_top-number-requires c = let h = subst (λ (h : PolHead). PolHeadIn c.args.text.now c.requires.head_in.0 (Ok h)) c.in-Times.is c.requires.head_in.1 in ((c.args.nodes.now, c.requires.going.0.running.stack), h.0)

pub over_top-number-requires : goal.over_top-number-requires
over_top-number-requires c = let h = subst (λ (h : PolHead). PolHeadIn c.args.text.now c.requires.head_in.0 (Ok h)) c.in-Over.is c.requires.head_in.1 in ((c.args.nodes.now, c.requires.going.0.running.stack), h.0)

pub returns-in-Plain : goal.returns-in-Plain
returns-in-Plain c = rw c.in-Plain.is c.run_name.ensures

pub returns-in-Negated : goal.returns-in-Negated
returns-in-Negated c = rw c.in-Negated.is (c.run_literal.ensures c.requires.going.0.c c.args.slots.now c.requires.going.0.running c.args.commands.now c.args.k c.in-Negated.to (Negated c.in-Negated.from c.in-Negated.to) (negated-head c.args.text.now c.args.commands.now c.args.k c.in-Negated.from c.in-Negated.to))

pub returns-in-Add : goal.returns-in-Add
returns-in-Add c = rw (c.in-Add.is, c.fewer.ensures) (add_done c.requires.going.0.running c.add_top-number.auto.coeffs c.add_top-number.auto.keys c.add_top-number.auto.slots c.add_top-number.ensures)

pub returns-in-Saturate : goal.returns-in-Saturate
returns-in-Saturate c = rw c.in-Saturate.is (saturate_done c.requires.going.0.running c.saturate_top-number.auto.coeffs c.saturate_top-number.ensures)

pub returns-in-Times : goal.returns-in-Times
returns-in-Times c = rw c.in-Times.is (times-done c.requires.going.0.running c.times_top-number.auto.coeffs c.times_top-number.ensures)

pub returns-in-Over : goal.returns-in-Over
returns-in-Over c = rw c.in-Over.is (over_done c.requires.going.0.running c.over_top-number.auto.coeffs c.over_top-number.ensures)
