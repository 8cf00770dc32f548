-- `lines::put_part` owes the two words of a clause.
use Prim.Native.Nat.{◌+◌, ◌*◌}
use native.Mathlib.Omega.{arith}
use lib.ListN.{length-set}
use Rattle.lines.proofs.Filing.{part-put}
use Rattle.lines.proofs.put_part.Goals as goal

pub bounds-commands-i-2 : goal.bounds-commands-i-2
bounds-commands-i-2 c = omega (arith, length-set c.args.commands.now (1024 + (7 * c.args.k + 1)) c.args.first, c.requires.0, c.requires.1)

pub returns : goal.returns
returns c = part-put c.args.commands.now c.args.k c.args.first c.args.count c.requires.0 c.requires.1
