-- The clause is the part that the clause's words name.
use mathlib.Core.Path.{◌∙◌, ap}
use Prim.Native.Nat.{ℕ}
use Rattle.reader.specs.Commands.{clause_word, part_at}
use Rattle.links.proofs.clause_of.Goals as goal

pub part_of-requires : goal.part_of-requires
part_of-requires c = rw c.wide.ensures c.requires.part

pub returns : goal.returns
returns c = c.part_of.ensures ∙ ap (λ (k : ℕ). part_at c.args.nodes.now c.args.commands.now k clause_word) c.wide.ensures
