-- `heads::is_byte` owes whether a name is one byte: by its length and that byte. Assumes nothing.
use Rattle.heads.proofs.PolWords.{byte_more, byte_one}
use borrow.Author.Rules.{rules}
use Rattle.heads.proofs.is_byte.Goals as goal

pub returns-then-to-from-ne1 : goal.returns-then-to-from-ne1
returns-then-to-from-ne1 c = byte_more c.args.text.now c.args.from c.args.to c.args.b (search rules) (search rules) c.if-to-from-ne1.true

pub returns : goal.returns
returns c = byte_one c.args.text.now c.args.from c.args.to c.args.b (search rules) (search rules) c.if-to-from-ne1.false
