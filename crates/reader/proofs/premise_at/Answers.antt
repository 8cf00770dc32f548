-- `reader::premise_at` owes a cited premise: the limit of nodes comes first, then the place of the id among those above. Assumes nothing.
use Rattle.heads.proofs.Refusals.{passed_on}
use Rattle.reader.proofs.Ids.{found_in, premise-full, premise-known, premise-none, premise-other}
use borrow.Author.Rules.{rules}
use Rattle.reader.proofs.premise_at.Goals as goal

pub returns-then-n-ge-MAX_NODES : goal.returns-then-n-ge-MAX_NODES
returns-then-n-ge-MAX_NODES c = premise-full c.args.text.now c.args.commands.now c.args.k c.args.at c.name_at.result c.name_at.ensures.0 c.name_at.ensures.1 _ _ _ c.in_ok-from.was (search rules)

pub place_of-j-requires : goal.place_of-j-requires
place_of-j-requires c = let h = found_in c.args.text.now c.args.commands.now c.args.k c.args.at c.name_at.result c.name_at.ensures.0 c.name_at.ensures.1 _ _ c.in_ok-from.was in (c.requires.1.spans, c.requires.1.indexed, h.0, h.1)

pub returns-then-j-k : goal.returns-then-j-k
returns-then-j-k c = premise-known c.args.text.now c.args.commands.now c.args.k c.args.at c.name_at.result c.name_at.ensures.0 c.name_at.ensures.1 _ _ c.in_ok-from.was c.place_of-j.result c.place_of-j.ensures.0 _ (search rules) (search rules)

pub returns : goal.returns
returns c = premise-none c.args.text.now c.args.commands.now c.args.k c.args.at c.name_at.result c.name_at.ensures.0 c.name_at.ensures.1 _ _ c.in_ok-from.was c.place_of-j.result c.place_of-j.ensures.0 _ (search rules) (search rules)

pub returns-in_err-from : goal.returns-in_err-from
returns-in_err-from c = rw (passed_on c.from_residual.result c.from_residual.ensures.1) (premise-other c.args.text.now c.args.commands.now c.args.k c.args.at c.name_at.result c.name_at.ensures.0 c.name_at.ensures.1 _ _ c.in_err-from.was)
