-- `reader::word_end` owes where the text goes on behind a word: each word ends at its last byte. Assumes nothing.
use Rattle.heads.proofs.Refusals.{passed_on}
use Rattle.reader.proofs.Pols.{word-refused, word-read}
use Rattle.reader.proofs.word_end.Goals as goal

pub returns-in-Plain : goal.returns-in-Plain
returns-in-Plain c = word-read c.args.text.now c.args.at c.pol_word.result c.pol_word.ensures.0 c.pol_word.ensures.1 _ c.in_ok-t.was _ c.in-Plain.is

pub returns-in-Plain-2 : goal.returns-in-Plain-2
returns-in-Plain-2 c = word-read c.args.text.now c.args.at c.pol_word.result c.pol_word.ensures.0 c.pol_word.ensures.1 _ c.in_ok-t.was _ c.in-Plain.is

pub returns-in-Plain-3 : goal.returns-in-Plain-3
returns-in-Plain-3 c = word-read c.args.text.now c.args.at c.pol_word.result c.pol_word.ensures.0 c.pol_word.ensures.1 _ c.in_ok-t.was _ c.in-Plain.is

pub returns-in-Plain-4 : goal.returns-in-Plain-4
returns-in-Plain-4 c = word-read c.args.text.now c.args.at c.pol_word.result c.pol_word.ensures.0 c.pol_word.ensures.1 _ c.in_ok-t.was _ c.in-Plain.is

pub returns-in-Plain-5 : goal.returns-in-Plain-5
returns-in-Plain-5 c = word-read c.args.text.now c.args.at c.pol_word.result c.pol_word.ensures.0 c.pol_word.ensures.1 _ c.in_ok-t.was _ c.in-Plain.is

pub returns-in-Plain-6 : goal.returns-in-Plain-6
returns-in-Plain-6 c = word-read c.args.text.now c.args.at c.pol_word.result c.pol_word.ensures.0 c.pol_word.ensures.1 _ c.in_ok-t.was _ c.in-Plain.is

pub returns-in_err-t : goal.returns-in_err-t
returns-in_err-t c = rw (passed_on c.from_residual.result c.from_residual.ensures.1) (word-refused c.args.text.now c.args.at c.pol_word.result c.pol_word.ensures.0 c.pol_word.ensures.1 _ c.in_err-t.was)
