-- The product, the quotient or the smaller fits, and is the rule's map.
use Rattle.rules.proofs.Mapping.{times-is}
use Rattle.rules.specs.Checked.{ByIs}
use mathlib.Core.Path.{subst}
use mathlib.Core.Path.{◌∙◌}
use native.Mathlib.Omega.{arith}
use mir.Facts.{to_z-of_z}
use Rattle.integer.proofs.Fits.{fits-within, within-mul, within-add}
use Rattle.integer.proofs.Signed.{back}
use Rattle.matching.proofs.Matches.{kept}
use Rattle.rules.proofs.apply.Goals as goal

pub multiply-requires : goal.multiply-requires
multiply-requires c = let m = subst ByIs c.in-Times.is c.requires.by_is in rw (kept (omega arith) m, to_z-of_z c.ranges.a) (fits-within (omega arith) (within-mul m c.requires.within))

pub divide_up-requires : goal.divide_up-requires
divide_up-requires c = let d = subst ByIs c.in-Over.is c.requires.by_is in record {
  pos_bound = rw (kept (omega arith) d.0) d.1;
  sfits = rw (kept (omega arith) d.0, to_z-of_z c.ranges.a) (fits-within (omega arith) (within-add c.requires.within d.0));
}

pub returns-in-Times : goal.returns-in-Times
returns-in-Times c = rw c.in-Times.is (times-is _ _ _ (back c.multiply.result c.multiply.type_inv ∙ (rw (kept (omega arith) (subst ByIs c.in-Times.is c.requires.by_is), to_z-of_z c.ranges.a) at c.multiply.ensures)))

pub returns-in-Over : goal.returns-in-Over
returns-in-Over c = rw c.in-Over.is (back c.divide_up.result c.divide_up.type_inv ∙ (rw (kept (omega arith) (subst ByIs c.in-Over.is c.requires.by_is).0, to_z-of_z c.ranges.a) at c.divide_up.ensures))

pub returns-in-Cap : goal.returns-in-Cap
returns-in-Cap c = rw c.in-Cap.is (back c.smaller.result c.smaller.type_inv ∙ (rw (kept (omega arith) (subst ByIs c.in-Cap.is c.requires.by_is), to_z-of_z c.ranges.a) at c.smaller.ensures))
