-- `reader::read_pol` owes a pol line: one of at most 64, a new id, one word or more and the closing bracket. Assumes nothing.
use mathlib.Core.Path.{ap}
use Rattle.heads.specs.Heads.{step_of}
use Rattle.heads.proofs.Refusals.{passed_on}
use native.Mathlib.Omega.{arith}
use Rattle.reader.proofs.Pols.{pol-full, pol-named-refused, pol-left, pol-new, pol-words-refused, pol-done}
use Rattle.reader.proofs.read_pol.Goals as goal

pub returns-then-pols-ge-MAX_POLS : goal.returns-then-pols-ge-MAX_POLS
returns-then-pols-ge-MAX_POLS c = pol-full c.args.text.now c.args.commands.now c.args.word c.args.at c.args.k c.args.n c.args.c c.args.pols c.requires.0 c.requires.1 c.requires.2 c.requires.3 c.if-pols-ge-MAX_POLS.true

pub read_words-requires : goal.read_words-requires
read_words-requires c = pol-left c.args.text.now c.args.commands.now c.args.word c.args.at c.args.k c.args.n c.args.c c.args.pols c.requires.0 c.requires.1 c.requires.2 c.requires.3 c.if-pols-ge-MAX_POLS.false c.new_id.result c.new_id.ensures _ _ c.in_ok-from.was

pub put_command-requires : goal.put_command-requires
put_command-requires c = let g = pol-new c.args.text.now c.args.commands.now c.args.word c.args.at c.args.k c.args.n c.args.c c.args.pols c.requires.0 c.requires.1 c.requires.2 c.requires.3 c.if-pols-ge-MAX_POLS.false c.new_id.result c.new_id.ensures _ _ c.in_ok-from.was in (c.requires.2.room, c.requires.3, g.0, g.1, g.2, c.requires.4, omega arith, c.requires.4, omega arith, c.requires.4, omega arith, c.requires.2.indexed, g.3)

pub returns-in_err-from : goal.returns-in_err-from
returns-in_err-from c = rw (passed_on c.from_residual.result c.from_residual.ensures.1) (pol-named-refused c.args.text.now c.args.commands.now c.args.word c.args.at c.args.k c.args.n c.args.c c.args.pols c.requires.0 c.requires.1 c.requires.2 c.requires.3 c.if-pols-ge-MAX_POLS.false c.new_id.result c.new_id.ensures _ c.in_err-from.was)

pub returns-in_err-end : goal.returns-in_err-end
returns-in_err-end c = rw (passed_on c.from_residual-in_err-end.result c.from_residual-in_err-end.ensures.1) (pol-words-refused c.args.text.now c.args.commands.now c.args.word c.args.at c.args.k c.args.n c.args.c c.args.pols c.requires.0 c.requires.1 c.requires.2 c.requires.3 c.if-pols-ge-MAX_POLS.false c.new_id.result c.new_id.ensures _ _ c.in_ok-from.was (step_of c.read_words.result) c.read_words.ensures _ _ (ap step_of c.in_err-end.was))

pub returns : goal.returns
returns c = pol-done c.args.text.now c.args.commands.now c.args.word c.args.at c.args.k c.args.n c.args.c c.args.pols c.requires.0 c.requires.1 c.requires.2 c.requires.3 c.if-pols-ge-MAX_POLS.false c.new_id.result c.new_id.ensures _ _ c.in_ok-from.was (step_of c.read_words.result) c.read_words.ensures _ _ (ap step_of c.in_ok-end.was) c.put_command.ensures
