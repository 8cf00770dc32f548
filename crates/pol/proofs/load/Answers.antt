-- `pol::load` owes an entry of the stack as the sum at a place. The invariant: so many of its literals are there.
use mathlib.Core.Path.{sym, ◌∙◌}
use native.Mathlib.Omega.{arith}
use Rattle.integer.proofs.Signed.{back}
use Rattle.sums.proofs.Places.{room-still}
use Rattle.pol.proofs.Windows.{window-get}
use Rattle.pol.proofs.Loading.{loading-none, loading-more, loading-all, load-key, load-coefficient}
use Rattle.pol.proofs.load.Goals as goal

pub loop-i-init : goal.loop-i-init
loop-i-init c = (loading-none _ _ _ _ _ _ _, c.wide-n.ensures ∙ sym (window-get c.args.e c.args.keys.now 0 64 (omega arith)))

pub bounds-keys-b-in-loop-i : goal.bounds-keys-b-in-loop-i
bounds-keys-b-in-loop-i c = omega (arith, c.loop-i.invariant.0.elsewhere.keys.long, c.loop-i.invariant.1, c.requires.standing)

pub slice_copy_out-c : goal.slice_copy_out-c
slice_copy_out-c c = omega (arith, c.loop-i.invariant.0.elsewhere.coefficients.long, c.loop-i.invariant.1, c.requires.standing)

pub follow-i-requires : goal.follow-i-requires
follow-i-requires c = let l = load-key c.args.e c.loop-i.invariant.0 c.requires.standing.4 (omega (arith, c.loop-i.invariant.1, c.requires.standing.0.few)) in record {
  variable = rw l (c.requires.standing.0.literals c.loop-i.i (omega (arith, c.loop-i.invariant.1)), c.requires.standing.0.names c.loop-i.i (omega (arith, c.loop-i.invariant.1)));
  room = room-still c.loop-i.invariant.0.elsewhere c.requires.room;
  fine = (c.loop-i.invariant.0.fine, omega (arith, c.loop-i.invariant.1, c.requires.standing.0.few));
}

pub loop-i-smaller : goal.loop-i-smaller
loop-i-smaller c = omega (arith, c.follow-i.ensures.0.count)

pub loop-i-preserved : goal.loop-i-preserved
loop-i-preserved c = (loading-more c.loop-i.invariant.0 (omega (arith, c.loop-i.invariant.1)) (load-key c.args.e c.loop-i.invariant.0 c.requires.standing.4 (omega (arith, c.loop-i.invariant.1, c.requires.standing.0.few))) (back _ c.c-1.given ∙ load-coefficient c.args.e c.loop-i.invariant.0 c.requires.standing.4 (omega (arith, c.loop-i.invariant.1, c.requires.standing.0.few))) c.follow-i.ensures, c.loop-i.invariant.1)

pub returns : goal.returns
returns c = rw c.loop-i.invariant.1 (loading-all c.loop-i.invariant.0 (omega (arith, c.loop-i.invariant.1)))
