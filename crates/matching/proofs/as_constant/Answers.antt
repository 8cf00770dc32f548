-- A numeral's number by its kind; any other kind is none.
use mathlib.Core.Bool.{true, false}
use Rattle.integer.specs.Integers.{signed}
use Rattle.integer.proofs.Signed.{back}
use Rattle.nodes.specs.Nodes.{first_at}
use mathlib.Core.Path.{◌∙◌, ap}
use Rattle.nodes.specs.Nodes.{kind_at}
use native.Mathlib.Omega.{arith}
use Rattle.matching.proofs.Matches.{node-room, constant-plus, constant-minus, constant-not}
use Rattle.matching.proofs.as_constant.Goals as goal

pub kind_of-kind-requires : goal.kind_of-kind-requires
kind_of-kind-requires c = omega (arith, c.wide-at.ensures, node-room (c.requires))

pub magnitude_of-requires : goal.magnitude_of-requires
magnitude_of-requires c = omega (arith, c.wide-at.ensures, node-room (c.requires))

pub returns-then-kind-eq-PLUS_KIND : goal.returns-then-kind-eq-PLUS_KIND
returns-then-kind-eq-PLUS_KIND c = constant-plus (c.requires) (omega (arith, c.kind_of-kind.ensures ∙ ap (kind_at c.args.nodes.now) c.wide-at.ensures)) _ (back c.with_sign.result c.with_sign.type_inv ∙ c.with_sign.ensures ∙ ap (signed false) (c.magnitude_of.ensures ∙ ap (first_at c.args.nodes.now) c.wide-at.ensures))

pub magnitude_of-requires-then-kind-eq-MINUS_KIND : goal.magnitude_of-requires-then-kind-eq-MINUS_KIND
magnitude_of-requires-then-kind-eq-MINUS_KIND c = omega (arith, c.wide-at.ensures, node-room (c.requires))

pub returns-then-kind-eq-MINUS_KIND : goal.returns-then-kind-eq-MINUS_KIND
returns-then-kind-eq-MINUS_KIND c = constant-minus (c.requires) (omega (arith, c.kind_of-kind.ensures ∙ ap (kind_at c.args.nodes.now) c.wide-at.ensures)) _ (back c.with_sign-then-kind-eq-MINUS_KIND.result c.with_sign-then-kind-eq-MINUS_KIND.type_inv ∙ c.with_sign-then-kind-eq-MINUS_KIND.ensures ∙ ap (signed true) (c.magnitude_of-then-kind-eq-MINUS_KIND.ensures ∙ ap (first_at c.args.nodes.now) c.wide-at.ensures))

pub returns : goal.returns
returns c = constant-not (c.requires) (λ e. omega (arith, c.kind_of-kind.ensures ∙ ap (kind_at c.args.nodes.now) c.wide-at.ensures)) (λ e. omega (arith, c.kind_of-kind.ensures ∙ ap (kind_at c.args.nodes.now) c.wide-at.ensures))
