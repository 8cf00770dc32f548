-- The two ways to write a key: the definition's.
use Rattle.matching.proofs.Matches.{key-yes, key-no}
use Rattle.matching.proofs.key_of.Goals as goal

pub returns-then-negated : goal.returns-then-negated
returns-then-negated c = key-yes _ _ c.if-negated.true

pub returns-else-negated : goal.returns-else-negated
returns-else-negated c = key-no _ _ c.if-negated.false
