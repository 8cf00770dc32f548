-- `heads::closes` owes what is past a closing bracket: the first byte behind the blanks tells whether one stands there. Assumes nothing.
use Rattle.heads.proofs.Closing.{close_end, close-yes, close-no}
use borrow.Author.Rules.{rules}
use Rattle.heads.proofs.closes.Goals as goal

pub returns-then-text-from : goal.returns-then-text-from
returns-then-text-from c = (close_end c.args.text.now c.args.at c.behind_blanks-from.result c.behind_blanks-from.ensures.0 c.if-text-from.true, tt)

pub returns-then-text-from-eq41 : goal.returns-then-text-from-eq41
returns-then-text-from-eq41 c = (close-yes c.args.text.now c.args.at c.behind_blanks-from.result c.behind_blanks-from.ensures.0 (search rules) c.if-text-from-eq41.true, (search rules, search rules))

pub returns : goal.returns
returns c = (close-no c.args.text.now c.args.at c.behind_blanks-from.result c.behind_blanks-from.ensures.0 (search rules) c.if-text-from-eq41.false, tt)
