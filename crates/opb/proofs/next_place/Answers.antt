-- `opb::next_place` owes the place behind a byte: a line feed begins a line, `*` at its first byte a comment. Assumes nothing.
use Rattle.opb.proofs.Comments.{next-line, next-comment, next-later, next-same}
use Rattle.opb.proofs.next_place.Goals as goal

pub returns-then-b-eq10 : goal.returns-then-b-eq10
returns-then-b-eq10 c = next-line c.args.place c.args.b c.if-b-eq10.true

pub returns-then-b-eq42 : goal.returns-then-b-eq42
returns-then-b-eq42 c = next-comment c.args.place c.args.b c.if-b-eq10.false c.in-First.is c.if-b-eq42.true

pub returns-in-First : goal.returns-in-First
returns-in-First c = next-later c.args.place c.args.b c.if-b-eq10.false c.in-First.is c.if-b-eq42.false

pub returns : goal.returns
returns c = next-same c.args.place c.args.b c.if-b-eq10.false c.in_default.not-First
