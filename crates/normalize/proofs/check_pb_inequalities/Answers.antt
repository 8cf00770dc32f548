-- `normalize::check_pb_inequalities`: the lists, then the constants, then the names.
use mathlib.Core.Path.{sym, ◌∙◌}
use native.Mathlib.Omega.{arith}
use mir.Facts.{to_z-of_z}
use Rattle.calculus.proofs.TermLaws.{same_integer-tests}
use Rattle.normalize.proofs.Comparing.{sides_differ, constants_differ, sides-agree, nodes-first, names-first}
use Rattle.normalize.proofs.check_pb_inequalities.Goals as goal

pub returns-then-not-all_agree : goal.returns-then-not-all_agree
returns-then-not-all_agree c = sides_differ (rw c.if-not-all_agree.true at c.all_agree.ensures)

pub returns-then-not-equal : goal.returns-then-not-equal
returns-then-not-equal c = constants_differ (rw c.if-not-all_agree.false at c.all_agree.ensures) (sym (rw (to_z-of_z c.ranges.total, to_z-of_z c.ranges.z) at (same_integer-tests _ _ c.equal.result c.equal.ensures)) ∙ c.if-not-equal.true)

pub all_names-requires : goal.all_names-requires
all_names-requires c = (nodes-first c.requires.general, omega (arith, c.requires.general.most, c.requires.room.keys), omega arith, omega (arith, c.requires.general.most))

pub returns : goal.returns
returns c = sides-agree (rw c.if-not-all_agree.false at c.all_agree.ensures) (sym (rw (to_z-of_z c.ranges.total, to_z-of_z c.ranges.z) at (same_integer-tests _ _ c.equal.result c.equal.ensures)) ∙ c.if-not-equal.false) (names-first c.requires.general c.all_names.ensures) c.all_names-2.ensures c.both.ensures
