-- `reader::new_id` owes an id that no command above has: its place among the ids tells. Assumes nothing.
use Rattle.heads.proofs.Refusals.{passed_on}
use Rattle.reader.proofs.Ids.{found_in, id-known, id-new, id_other}
use borrow.Author.Rules.{rules}
use Rattle.reader.proofs.new_id.Goals as goal

pub place_of-requires : goal.place_of-requires
place_of-requires c = let h = found_in c.args.text.now c.args.commands.now c.args.k c.args.at c.name_at.result c.name_at.ensures.0 c.name_at.ensures.1 _ _ c.in_ok-from.was in (c.requires.1.spans, c.requires.1.indexed, h.0, h.1)

pub returns-then-place_of-k : goal.returns-then-place_of-k
returns-then-place_of-k c = id-known c.args.text.now c.args.commands.now c.args.k c.args.at c.name_at.result c.name_at.ensures.0 c.name_at.ensures.1 _ _ c.in_ok-from.was c.place_of.result c.place_of.ensures.0 (search rules)

pub returns : goal.returns
returns c = id-new c.args.text.now c.args.commands.now c.args.k c.args.at c.name_at.result c.name_at.ensures.0 c.name_at.ensures.1 _ _ c.in_ok-from.was c.place_of.result c.place_of.ensures.0 (search rules)

pub returns-in_err-from : goal.returns-in_err-from
returns-in_err-from c = rw (passed_on c.from_residual.result c.from_residual.ensures.1) (id_other c.args.text.now c.args.commands.now c.args.k c.args.at c.name_at.result c.name_at.ensures.0 c.name_at.ensures.1 _ c.in_err-from.was)
