-- A negation's key, or the term's own.
use Rattle.matching.proofs.Matches.{node-few, literal-negated, literal-plain}
use Rattle.matching.proofs.literal_of.Goals as goal

pub key_of-requires : goal.key_of-requires
key_of-requires c = node-few (rw c.in-Some.is at c.negation_of.ensures).inner.node

pub key_of-requires-in-None : goal.key_of-requires-in-None
key_of-requires-in-None c = node-few (c.requires)

pub returns-in-Some : goal.returns-in-Some
returns-in-Some c = literal-negated (rw c.in-Some.is at c.negation_of.ensures) _ c.key_of.ensures

pub returns-in-None : goal.returns-in-None
returns-in-None c = literal-plain (c.requires) (rw c.in-None.is at c.negation_of.ensures) _ c.key_of-in-None.ensures
