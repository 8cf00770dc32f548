-- `pol::over_top` owes what a numeral and `d` make of the stack: 52, 54, 53 in that order.
use mathlib.Core.Path.{◌≡◌, sym, ◌∙◌}
use mathlib.Core.Bool.{false}
use native.Mathlib.Omega.{arith}
use lib.IntN.{pos}
use lib.Signed.{lt_z}
use Rattle.rules.proofs.Mapping.{positive}
use Rattle.integer.specs.Integers.{signed}
use Rattle.integer.proofs.Fits.{within_signed}
use Rattle.matching.proofs.Matches.{kept}
use Rattle.pol.proofs.Tops.{top-short, over-refused, over_zero, over_done}
use Rattle.pol.proofs.over_top.Goals as goal

pub returns-then-d-lt1 : goal.returns-then-d-lt1
returns-then-d-lt1 c = λ t K. top-short _ t c.args.coeffs.now c.args.keys.now c.args.d (omega arith)

pub returns-then-less : goal.returns-then-less
returns-then-less c = let w = within_signed c.args.negative c.requires.1 in λ t K. over-refused c.args.coeffs.now c.args.keys.now (omega arith) (signed c.args.negative c.args.magnitude) (sym (rw (kept (omega arith) w) at (rw c.with_sign-divisor.ensures at c.less.ensures)) ∙ c.if-less.true) t K

pub returns-then-is_zero : goal.returns-then-is_zero
returns-then-is_zero c = let w = within_signed c.args.negative c.requires.1 in λ t K. over_zero c.args.coeffs.now c.args.keys.now (omega arith) (signed c.args.negative c.args.magnitude) (sym (rw (kept (omega arith) w) at (rw c.with_sign-divisor.ensures at c.less.ensures)) ∙ c.if-less.false) (rw (c.with_sign-divisor.ensures, kept (omega arith) w) at (c.is_zero.ensures.yes c.if-is_zero.true)) t K

pub map_top-requires : goal.map_top-requires
map_top-requires c = let w = within_signed c.args.negative c.requires.1 in let h : lt_z (signed c.args.negative c.args.magnitude) (pos 0) ≡ false = sym (rw (kept (omega arith) w) at (rw c.with_sign-divisor.ensures at c.less.ensures)) ∙ c.if-less.false in rw (c.with_sign-divisor.ensures, kept (omega arith) w) record {
  by_is = (w, positive _ h (rw (c.with_sign-divisor.ensures, kept (omega arith) w) at (c.is_zero.ensures.no c.if-is_zero.false)));
  stacked = (c.requires.0, omega arith);
}

pub returns : goal.returns
returns c = let w = within_signed c.args.negative c.requires.1 in over_done c.args.coeffs.now c.args.keys.now (omega arith) (signed c.args.negative c.args.magnitude) (sym (rw (kept (omega arith) w) at (rw c.with_sign-divisor.ensures at c.less.ensures)) ∙ c.if-less.false) (rw (c.with_sign-divisor.ensures, kept (omega arith) w) at (c.is_zero.ensures.no c.if-is_zero.false)) (rw (c.with_sign-divisor.ensures, kept (omega arith) w) at c.map_top.ensures)
