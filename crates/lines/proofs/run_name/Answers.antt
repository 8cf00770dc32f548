-- `lines::run_name` owes what a name makes of the stack: an id above pushes its clause, any other is a literal.
use native.Mathlib.Omega.{arith}
use lib.Seq.{slice}
use Rattle.heads.specs.declared.PolHead.TheVariants.{Plain}
use Rattle.lines.proofs.Doing.{not-among, line_done, plain-head}
use Rattle.lines.proofs.run_name.Goals as goal

pub place_of-j-requires : goal.place_of-j-requires
place_of-j-requires c = (c.requires.0.above.ids.spans, c.requires.0.above.ids.indexed, omega (arith, c.requires.2), c.requires.3)

pub push_line-number-requires : goal.push_line-number-requires
push_line-number-requires c = record {
  stack = (c.requires.0.running.stack, c.requires.0.above.clauses c.place_of-j.result (omega arith));
  rooms = c.requires.0.running.rooms;
}

pub returns-then-j-k : goal.returns-then-j-k
returns-then-j-k c = line_done c.requires.0.running c.push_line-number.auto.coeffs c.push_line-number.auto.keys c.push_line-number.auto.slots c.requires.0.above c.place_of-j.result c.place_of-j.ensures.0 (omega arith) c.push_line-number.ensures

pub run_literal-requires : goal.run_literal-requires
run_literal-requires c = ((c.requires.0.c, c.args.slots.now, c.requires.0.running), c.requires.1, c.requires.2, c.requires.3, c.requires.4)

pub returns : goal.returns
returns c = c.run_literal.ensures c.requires.0.c c.args.slots.now c.requires.0.running c.args.commands.now c.args.k c.args.to (Plain c.args.from c.args.to) (plain-head c.args.text.now c.args.commands.now c.args.k c.args.from c.args.to (not-among (slice c.args.from c.args.to c.args.text.now) c.requires.0.above.ids c.requires.0.above.few c.place_of-j.ensures.0 (omega arith)))
