-- `matching::all_names`: the loop keeps that the answer from entry i on is that for the whole.
use mathlib.Core.Path.{◌≡◌, subst}
use mathlib.Core.Bool.{Bool}
use mathlib.Core.List.{List}
use Prim.Native.Nat.{ℕ}
use native.Mathlib.Omega.{arith}
use Rattle.calculus.specs.Matching.{is_name}
use Rattle.nodes.specs.Nodes.{decode}
use Rattle.matching.proofs.Names.{names-start, names_more, names-stop, names-end}
use Rattle.matching.specs.Places.{placed}
use Rattle.matching.proofs.Places.{key-at}
use Rattle.matching.proofs.all_names.Goals as goal

pub loop-i-init : goal.loop-i-init
loop-i-init c = names-start c.args.nodes.now (placed c.args.at c.args.keys.now) c.args.n 0 (omega arith)

pub overflow_add-at : goal.overflow_add-at
overflow_add-at c = omega (arith, c.requires.2, c.requires.3)

pub offset_bounds-keys-at : goal.offset_bounds-keys-at
offset_bounds-keys-at c = omega (arith, c.requires.2, c.requires.3)

pub bounds-keys-at : goal.bounds-keys-at
bounds-keys-at c = omega (arith, c.requires.1)

pub is_name-requires : goal.is_name-requires
is_name-requires c = rw c.variable_of.ensures (rw (key-at c.args.at c.args.keys.now c.loop-i.i (omega (arith, c.requires.3))) at (c.requires.0 c.loop-i.i (omega arith)))

pub returns-then-not-is_name : goal.returns-then-not-is_name
returns-then-not-is_name c = names-stop c.args.nodes.now (placed c.args.at c.args.keys.now) c.args.n c.loop-i.i c.loop-i.invariant (omega arith) c.variable_of.result (rw (key-at c.args.at c.args.keys.now c.loop-i.i (omega (arith, c.requires.3))) c.variable_of.ensures) (subst (λ (r : Bool). (s : List ℕ) → r ≡ is_name (decode s c.args.nodes.now c.variable_of.result)) c.if-not-is_name.true c.is_name.ensures)

pub loop-i-preserved : goal.loop-i-preserved
loop-i-preserved c = names_more c.args.nodes.now (placed c.args.at c.args.keys.now) c.args.n c.loop-i.i c.loop-i.invariant (omega arith) c.variable_of.result (rw (key-at c.args.at c.args.keys.now c.loop-i.i (omega (arith, c.requires.3))) c.variable_of.ensures) (subst (λ (r : Bool). (s : List ℕ) → r ≡ is_name (decode s c.args.nodes.now c.variable_of.result)) c.if-not-is_name.false c.is_name.ensures)

pub returns : goal.returns
returns c = names-end c.args.nodes.now (placed c.args.at c.args.keys.now) c.args.n c.loop-i.i c.loop-i.invariant (omega arith)
