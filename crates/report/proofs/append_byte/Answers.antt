-- append_byte: owes one byte at `at`: it is the element that was set.
use Rattle.report.proofs.Writing.{wrote-byte}
use Rattle.report.proofs.append_byte.Goals as goal

pub returns : goal.returns
returns c = wrote-byte c.args.report.now c.args.at c.args.b c.requires
