-- A name by its kind.
use mathlib.Core.Path.{◌∙◌, ap}
use Rattle.nodes.specs.Nodes.{kind_at}
use native.Mathlib.Omega.{arith}
use Rattle.matching.proofs.Matches.{node-room, name-is}
use Rattle.matching.proofs.is_name.Goals as goal

pub kind_of-requires : goal.kind_of-requires
kind_of-requires c = omega (arith, c.wide.ensures, node-room (c.requires))

pub returns : goal.returns
returns c = name-is (c.requires) _ (c.kind_of.ensures ∙ ap (kind_at c.args.nodes.now) c.wide.ensures)
