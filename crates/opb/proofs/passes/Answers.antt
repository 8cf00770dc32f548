-- `opb::passes` owes the test of blanks and of the bytes of comments, by the place. Assumes nothing.
use mathlib.Core.Path.{refl, sym, ◌∙◌}
use Rattle.opb.proofs.Comments.{comment_passes, blank-passes, star_passes, none_passes}
use Rattle.opb.proofs.passes.Goals as goal

pub returns-in-Comment : goal.returns-in-Comment
returns-in-Comment c = comment_passes c.args.place c.args.b _ c.in-Comment.is c.printable.ensures

pub returns-then-is_blank : goal.returns-then-is_blank
returns-then-is_blank c = blank-passes c.args.place c.args.b c.in_default.not-Comment (sym c.is_blank.ensures ∙ c.if-is_blank.true)

pub returns-in-First : goal.returns-in-First
returns-in-First c = star_passes c.args.place c.args.b _ c.in-First.is (sym c.is_blank.ensures ∙ c.if-is_blank.false) refl

pub returns : goal.returns
returns c = none_passes c.args.place c.args.b c.in_default.not-Comment c.in_default-place.not-First (sym c.is_blank.ensures ∙ c.if-is_blank.false)
