-- `pol::saturate_top` owes what `s` makes of the stack: 52, 54, 53 in that order.
use mathlib.Core.Path.{sym, ◌∙◌}
use Prim.Native.Nat.{◌-◌}
use native.Mathlib.Omega.{arith}
use Rattle.matching.proofs.Matches.{kept}
use Rattle.pol.proofs.Tops.{top-short, saturate-constant, saturate-coefficient, saturate_done}
use Rattle.pol.proofs.saturate_top.Goals as goal

pub returns-then-d-lt1 : goal.returns-then-d-lt1
returns-then-d-lt1 c = λ t K. top-short _ t c.args.coeffs.now c.args.keys.now c.args.d (omega arith)

pub returns-then-less : goal.returns-then-less
returns-then-less c = let w = rw (← c.constant_of-constant.ensures) at (c.requires.1.each (c.args.d - 1) (omega arith)).constant in saturate-constant c.args.coeffs.now c.args.keys.now (omega arith) c.constant_of-constant.ensures (sym (rw (kept (omega arith) w) at c.less.ensures) ∙ c.if-less.true)

pub nonnegative-requires : goal.nonnegative-requires
nonnegative-requires c = (omega (arith, c.requires.1.few), omega (arith, c.count_of-n.ensures, (c.requires.1.each (c.args.d - 1) (omega arith)).few, c.requires.1.few, c.requires.1.coefficients), omega (arith, c.count_of-n.ensures, (c.requires.1.each (c.args.d - 1) (omega arith)).few))

pub returns-then-not-nonnegative : goal.returns-then-not-nonnegative
returns-then-not-nonnegative c = let w = rw (← c.constant_of-constant.ensures) at (c.requires.1.each (c.args.d - 1) (omega arith)).constant in saturate-coefficient c.args.coeffs.now c.args.keys.now (omega arith) c.constant_of-constant.ensures (sym (rw (kept (omega arith) w) at c.less.ensures) ∙ c.if-less.false) (omega (arith, c.count_of-n.ensures, (c.requires.1.each (c.args.d - 1) (omega arith)).few)) c.count_of-n.ensures c.nonnegative.ensures c.if-not-nonnegative.true

pub map_top-requires : goal.map_top-requires
map_top-requires c = let w = rw (← c.constant_of-constant.ensures) at (c.requires.1.each (c.args.d - 1) (omega arith)).constant in rw (kept (omega arith) w) record {
  by_is = w;
  stacked = (c.requires, omega arith);
}

pub returns : goal.returns
returns c = let w = rw (← c.constant_of-constant.ensures) at (c.requires.1.each (c.args.d - 1) (omega arith)).constant in saturate_done c.args.coeffs.now c.args.keys.now (omega arith) c.constant_of-constant.ensures (sym (rw (kept (omega arith) w) at c.less.ensures) ∙ c.if-less.false) (omega (arith, c.count_of-n.ensures, (c.requires.1.each (c.args.d - 1) (omega arith)).few)) c.count_of-n.ensures c.nonnegative.ensures c.if-not-nonnegative.false (rw (kept (omega arith) w) at c.map_top.ensures)
