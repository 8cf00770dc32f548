-- `reader::put_pair` owes two words. Assumes nothing.
use mathlib.Core.Path.{refl}
use Rattle.reader.specs.Commands.{pair}
use Rattle.reader.proofs.put_pair.Goals as goal

pub returns : goal.returns
unfolding pair
returns c = refl
