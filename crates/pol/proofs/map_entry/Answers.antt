-- `pol::map_entry` owes the map of each number of an entry. The invariant: so many of its coefficients are mapped.
use mathlib.Core.Path.{◌≡◌}
use native.Mathlib.Omega.{arith}
use Rattle.integer.proofs.Fits.{within_more}
use Rattle.integer.proofs.Signed.{back}
use Rattle.matching.proofs.Matches.{kept}
use Rattle.pol.proofs.Tops.{mapping-none, mapping-more, mapping-number, mapping-all}
use Rattle.pol.proofs.map_entry.Goals as goal

pub loop-i-init : goal.loop-i-init
loop-i-init c = mapping-none _ _ _

pub apply-a-requires : goal.apply-a-requires
apply-a-requires c = let w = mapping-number c.args.e c.loop-i.invariant c.loop-i.i (omega arith) (omega arith) (c.requires.e_lt_max_stack.3 c.loop-i.i (omega arith)) in record {
  by_is = c.requires.by_is;
  within = rw (kept (omega arith) w) (within_more (omega arith) w);
}

pub loop-i-preserved : goal.loop-i-preserved
loop-i-preserved c = let w = mapping-number c.args.e c.loop-i.invariant c.loop-i.i (omega arith) (omega arith) (c.requires.e_lt_max_stack.3 c.loop-i.i (omega arith)) in rw (back c.apply-a.result c.apply-a.type_inv) (mapping-more c.loop-i.invariant (omega arith) (rw (kept (omega arith) w) at c.apply-a.ensures))

pub apply-constant-requires : goal.apply-constant-requires
apply-constant-requires c = let w = mapping-number c.args.e c.loop-i.invariant 64 (omega arith) (omega arith) c.requires.e_lt_max_stack.4 in record {
  by_is = c.requires.by_is;
  within = rw (kept (omega arith) w) (within_more (omega arith) w);
}

pub returns : goal.returns
returns c = let w = mapping-number c.args.e c.loop-i.invariant 64 (omega arith) (omega arith) c.requires.e_lt_max_stack.4 in let e : c.loop-i.i ≡ c.args.n = omega arith in rw (back c.apply-constant.result c.apply-constant.type_inv) (mapping-all (rw e at c.loop-i.invariant) c.requires.e_lt_max_stack.1 c.requires.e_lt_max_stack.0 c.requires.e_lt_max_stack.2 (rw (kept (omega arith) w) at c.apply-constant.ensures))
