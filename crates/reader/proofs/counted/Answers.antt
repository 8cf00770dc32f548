-- `reader::counted` owes the pol lines with command k, by its kind. Assumes nothing.
use Rattle.reader.proofs.Words.{count-pol, count-other}
use Rattle.reader.proofs.counted.Goals as goal

pub returns-then-commands-k-eq-POL_LINE : goal.returns-then-commands-k-eq-POL_LINE
returns-then-commands-k-eq-POL_LINE c = count-pol c.args.commands.now c.args.k c.args.pols c.if-commands-k-eq-POL_LINE.true

pub returns : goal.returns
returns c = count-other c.args.commands.now c.args.k c.args.pols c.if-commands-k-eq-POL_LINE.false
