-- `reader::put_command` owes the words of a command, pair by pair, and its id in the index. Assumes nothing.
use mathlib.Core.Path.{refl, ◌∙◌}
use native.Mathlib.Omega.{arith}
use lib.ListN.{length-set}
use Rattle.reader.proofs.Words.{put_is}
use Rattle.reader.proofs.put_command.Goals as goal

pub overflow_sub-text : goal.overflow_sub-text
overflow_sub-text c = omega (arith, c.requires.2, c.requires.3)

pub overflow_sub-text-2 : goal.overflow_sub-text-2
overflow_sub-text-2 c = c.requires.3

pub put_pair-requires : goal.put_pair-requires
put_pair-requires c = (omega (arith, c.requires.0, c.requires.1), omega (arith, c.requires.4), omega (arith, c.requires.2, c.requires.4))

pub put_pair-requires-2 : goal.put_pair-requires-2
put_pair-requires-2 c = (rw length-set (omega (arith, c.requires.0, c.requires.1, c.put_pair.auto.words)), c.requires.5, c.requires.6)

pub put_pair-requires-3 : goal.put_pair-requires-3
put_pair-requires-3 c = let h = rw length-set at c.put_pair-2.auto.words in (omega (arith, c.requires.0, c.requires.1, h, c.put_pair.auto.words), c.requires.7, c.requires.8)

pub put_pair-requires-4 : goal.put_pair-requires-4
put_pair-requires-4 c = let h = rw length-set at c.put_pair-2.auto.words in (omega (arith, c.requires.0, c.requires.1, h, c.put_pair.auto.words, c.put_pair-3.auto.words), c.requires.9, c.requires.10)

pub hash-h-requires : goal.hash-h-requires
hash-h-requires c = (c.requires.2, c.requires.3)

pub enter-requires : goal.enter-requires
enter-requires c = let h = rw length-set at c.put_pair-2.auto.words in (omega (arith, c.requires.0, c.requires.1, h, c.put_pair.auto.words, c.put_pair-3.auto.words, c.put_pair-4.auto.words), omega (arith, c.requires.1), c.hash-h.ensures.1)

pub shape_of-commands : goal.shape_of-commands
shape_of-commands c = let h = rw length-set at c.put_pair-2.auto.words in c.enter.auto.words ∙ c.put_pair-4.auto.words ∙ c.put_pair-3.auto.words ∙ h ∙ c.put_pair.auto.words

pub returns : goal.returns
returns c = put_is c.args.commands.now c.args.k _ _ _ c.args.kind c.args.clause c.args.terms c.args.premises c.args.cited c.args.arguments c.args.given refl c.requires.0 c.requires.1 c.args.text.now c.args.from c.args.to refl refl c.requires.2 c.requires.3 c.requires.11 c.requires.12 _ c.hash-h.ensures.0 _ _ _ _ _ c.put_pair.ensures c.put_pair-2.ensures c.put_pair-3.ensures c.put_pair-4.ensures c.enter.ensures
