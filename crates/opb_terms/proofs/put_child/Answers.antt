-- `opb_terms::put_child` owes one child word. Assumes nothing.
use Prim.Native.Nat.{◌+◌}
use native.Mathlib.Omega.{arith}
use Rattle.opb_terms.proofs.Putting.{paste-one}
use Rattle.opb_terms.proofs.put_child.Goals as goal

pub returns : goal.returns
returns c = rw (← c.requires.3) (paste-one c.args.nodes.now (c.args.base + c.args.c) c.args.i (omega (arith, c.requires)))
