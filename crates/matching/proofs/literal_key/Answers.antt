-- `matching::literal_key` owes the literal's key by its variable's number: the literal is a negation's, or the term's own.
use mathlib.Core.Path.{refl}
use mathlib.Core.Bool.{true, false}
use Rattle.matching.proofs.Matches.{node-few, literal-negated, literal-plain, key-is}
use Rattle.matching.proofs.literal_key.Goals as goal

pub number_of-requires : goal.number_of-requires
number_of-requires c = (rw c.in-Some.is at c.negation_of.ensures).inner.node

pub key_of-requires : goal.key_of-requires
key_of-requires c = node-few c.number_of.ensures.variable.node

pub key_of-requires-in-None : goal.key_of-requires-in-None
key_of-requires-in-None c = node-few c.number_of-in-None.ensures.variable.node

pub returns-in-Some : goal.returns-in-Some
returns-in-Some c = key-is true (literal-negated (rw c.in-Some.is at c.negation_of.ensures) _ refl) c.number_of.ensures _ c.key_of.ensures

pub returns-in-None : goal.returns-in-None
returns-in-None c = key-is false (literal-plain (c.requires) (rw c.in-None.is at c.negation_of.ensures) _ refl) c.number_of-in-None.ensures _ c.key_of-in-None.ensures
