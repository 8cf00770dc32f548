-- `pol::times_top` owes what a numeral and `*` make of the stack: 52, 54, 53 in that order.
use mathlib.Core.Path.{sym, ◌∙◌}
use native.Mathlib.Omega.{arith}
use Rattle.integer.specs.Integers.{signed}
use Rattle.integer.proofs.Fits.{within_signed}
use Rattle.matching.proofs.Matches.{kept}
use Rattle.pol.proofs.Tops.{top-short, times-refused, times-done}
use Rattle.pol.proofs.times_top.Goals as goal

pub returns-then-d-lt1 : goal.returns-then-d-lt1
returns-then-d-lt1 c = λ t K. top-short _ t c.args.coeffs.now c.args.keys.now c.args.d (omega arith)

pub returns-then-less : goal.returns-then-less
returns-then-less c = let w = within_signed c.args.negative c.requires.1 in λ t K. times-refused c.args.coeffs.now c.args.keys.now (omega arith) (signed c.args.negative c.args.magnitude) (sym (rw (kept (omega arith) w) at (rw c.with_sign-scalar.ensures at c.less.ensures)) ∙ c.if-less.true) t K

pub map_top-requires : goal.map_top-requires
map_top-requires c = let w = within_signed c.args.negative c.requires.1 in rw (c.with_sign-scalar.ensures, kept (omega arith) w) record {
  by_is = w;
  stacked = (c.requires.0, omega arith);
}

pub returns : goal.returns
returns c = let w = within_signed c.args.negative c.requires.1 in times-done c.args.coeffs.now c.args.keys.now (omega arith) (signed c.args.negative c.args.magnitude) (sym (rw (kept (omega arith) w) at (rw c.with_sign-scalar.ensures at c.less.ensures)) ∙ c.if-less.false) (rw (c.with_sign-scalar.ensures, kept (omega arith) w) at c.map_top.ensures)
