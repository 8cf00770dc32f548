-- `pol::push_axiom` owes the axiom of a literal as an entry.
use mathlib.Core.Path.{◌∙◌}
use lib.IntN.{pos}
use lib.ListN.{length-set}
use Rattle.pol.proofs.push_axiom.Goals as goal

pub shape_of-coeffs : goal.shape_of-coeffs
shape_of-coeffs c = c.store.auto.coeffs ∙ length-set c.args.coeffs.now 0 (pos 1)

pub shape_of-keys : goal.shape_of-keys
shape_of-keys c = c.store.auto.keys ∙ length-set c.args.keys.now 0 c.key_of-key.result

pub returns : goal.returns
returns c = rw c.key_of-key.ensures at c.store.ensures
