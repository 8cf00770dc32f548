-- `matching::number_of` owes the variable's number. A name's kind says it; any other term is its own.
use mathlib.Core.Path.{ap, ◌∙◌}
use Prim.Native.Nat.{ℕ, ◌-◌}
use native.Mathlib.Omega.{arith}
use Rattle.nodes.specs.Nodes.{name_kind, kind_at}
use Rattle.matching.proofs.Matches.{number-term, number-name}
use Rattle.matching.proofs.number_of.Goals as goal

pub returns-then-kind-lt-NAME_KIND : goal.returns-then-kind-lt-NAME_KIND
returns-then-kind-lt-NAME_KIND c = number-term c.requires (omega (arith, c.kind_of-kind.ensures ∙ ap (kind_at c.args.nodes.now) c.wide.ensures))

pub returns : goal.returns
returns c = let e = c.kind_of-kind.ensures ∙ ap (kind_at c.args.nodes.now) c.wide.ensures in number-name c.requires (omega (arith, e)) _ (ap (λ (k : ℕ). k - name_kind) e)
