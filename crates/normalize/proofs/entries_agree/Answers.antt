-- `normalize::entries_agree`: each way out is one case of `agree`.
use mathlib.Core.Path.{refl, sym, ◌∙◌}
use mir.Facts.{to_z-of_z}
use Rattle.calculus.proofs.TermLaws.{same_integer-tests}
use Rattle.normalize.proofs.Comparing.{agree-coefficient, agree_same, agree_left, agree_right, agree-neither}
use Rattle.matching.proofs.Matches.{pair-nodes}
use Rattle.normalize.proofs.entries_agree.Goals as goal

pub returns-then-not-equal : goal.returns-then-not-equal
returns-then-not-equal c = agree-coefficient (sym (rw (to_z-of_z c.ranges.c, to_z-of_z c.ranges.d) at (same_integer-tests _ _ c.equal.result c.equal.ensures)) ∙ c.if-not-equal.true)

pub equal-requires-2 : goal.equal-requires-2
equal-requires-2 c = rw (c.wide.ensures, c.wide-2.ensures, c.variable_of-v.ensures, c.variable_of-w.ensures) (pair-nodes c.requires.0 c.requires.1)

pub returns-then-equal : goal.returns-then-equal
returns-then-equal c =
    let same = (sym (rw (to_z-of_z c.ranges.c, to_z-of_z c.ranges.d) at (same_integer-tests _ _ c.equal.result c.equal.ensures)) ∙ c.if-not-equal.false) in
    agree_same same (rw (c.wide.ensures, c.wide-2.ensures, c.variable_of-v.ensures, c.variable_of-w.ensures, c.if-equal.true) at c.equal-2.ensures) _ (rw (c.negated_of-negated.ensures, c.negated_of-other_negated.ensures) refl)

pub neg_is-requires : goal.neg_is-requires
neg_is-requires c = rw (c.variable_of-v.ensures, c.variable_of-w.ensures) (c.requires.1, c.requires.0)

pub returns-then-negated : goal.returns-then-negated
returns-then-negated c =
    let same = (sym (rw (to_z-of_z c.ranges.c, to_z-of_z c.ranges.d) at (same_integer-tests _ _ c.equal.result c.equal.ensures)) ∙ c.if-not-equal.false) in
    let differ = (rw (c.wide.ensures, c.wide-2.ensures, c.variable_of-v.ensures, c.variable_of-w.ensures, c.if-equal.false) at c.equal-2.ensures) in
    agree_left same differ _ (sym c.negated_of-negated.ensures ∙ c.if-negated.true) (rw (c.variable_of-v.ensures, c.variable_of-w.ensures) at c.neg_is.ensures)

pub neg_is-requires-then-other_negated : goal.neg_is-requires-then-other_negated
neg_is-requires-then-other_negated c = rw (c.variable_of-v.ensures, c.variable_of-w.ensures) (c.requires.0, c.requires.1)

pub returns-then-other_negated : goal.returns-then-other_negated
returns-then-other_negated c =
    let same = (sym (rw (to_z-of_z c.ranges.c, to_z-of_z c.ranges.d) at (same_integer-tests _ _ c.equal.result c.equal.ensures)) ∙ c.if-not-equal.false) in
    let differ = (rw (c.wide.ensures, c.wide-2.ensures, c.variable_of-v.ensures, c.variable_of-w.ensures, c.if-equal.false) at c.equal-2.ensures) in
    let plain = (sym c.negated_of-negated.ensures ∙ c.if-negated.false) in
    agree_right same differ _ plain (sym c.negated_of-other_negated.ensures ∙ c.if-other_negated.true) (rw (c.variable_of-v.ensures, c.variable_of-w.ensures) at c.neg_is-then-other_negated.ensures)

pub returns : goal.returns
returns c =
    let same = (sym (rw (to_z-of_z c.ranges.c, to_z-of_z c.ranges.d) at (same_integer-tests _ _ c.equal.result c.equal.ensures)) ∙ c.if-not-equal.false) in
    let differ = (rw (c.wide.ensures, c.wide-2.ensures, c.variable_of-v.ensures, c.variable_of-w.ensures, c.if-equal.false) at c.equal-2.ensures) in
    let plain = (sym c.negated_of-negated.ensures ∙ c.if-negated.false) in
    agree-neither same differ plain (sym c.negated_of-other_negated.ensures ∙ c.if-other_negated.false)
