-- `sums::find` owes a key's place. A name's stands where its slot says, or nowhere; any other term's is found by walking.
use mathlib.Core.Path.{sym, ap, ◌∙◌}
use Prim.Native.Nat.{ℕ}
use native.Mathlib.Omega.{arith}
use lib.ListN.{get_or}
use Rattle.nodes.specs.Nodes.{kind_at}
use Rattle.matching.proofs.Matches.{node-room}
use Rattle.matching.proofs.Places.{key-at}
use Rattle.sums.proofs.Places.{slot_at, key_below}
use Rattle.sums.proofs.Slots.{find-here, find_none, find_walked}
use Rattle.sums.proofs.find.Goals as goal

pub kind_of-requires : goal.kind_of-requires
kind_of-requires c = rw (c.wide.ensures, c.variable_of.ensures) (node-room c.requires.variable.node)

pub walk-requires : goal.walk-requires
walk-requires c = record {
  variable = c.requires.variable;
  literals = (c.requires.keyed.fine.literals, omega (arith, c.requires.keyed.fine.few, c.requires.keyed.keys), c.requires.keyed.few, c.requires.keyed.fine.few);
}

pub returns-then-kind_of-lt-NAME_KIND : goal.returns-then-kind_of-lt-NAME_KIND
returns-then-kind_of-lt-NAME_KIND c = find_walked (λ o. omega (arith, c.kind_of.ensures ∙ ap (kind_at c.args.nodes.now) (c.wide.ensures ∙ c.variable_of.ensures))) c.walk.ensures

pub slot_of-slot-requires : goal.slot_of-slot-requires
slot_of-slot-requires c = key_below c.args.slots.now c.requires.keyed.slots c.requires.variable

pub offset_bounds-slots-slot : goal.offset_bounds-slots-slot
offset_bounds-slots-slot c = omega (arith, c.slot_of-slot.ensures.1)

pub bounds-slots-slot : goal.bounds-slots-slot
bounds-slots-slot c = omega (arith, c.slot_of-slot.ensures.1)

pub returns-then-keys-at : goal.returns-then-keys-at
returns-then-keys-at c = find-here c.args.key c.requires.variable c.requires.keyed.fine (omega (arith, c.kind_of.ensures ∙ ap (kind_at c.args.nodes.now) (c.wide.ensures ∙ c.variable_of.ensures))) c.wide_short-place.result (c.wide_short-place.ensures ∙ ap (λ (k : ℕ). get_or c.args.slots.now k 0) c.slot_of-slot.ensures.0 ∙ sym (slot_at c.args.at c.args.slots.now c.args.key (key_below c.args.slots.now c.requires.keyed.slots c.requires.variable))) (omega arith) (rw (key-at c.args.at c.args.keys.now c.wide_short-place.result (omega (arith, c.requires.keyed.fine.few))) (omega arith))

pub returns-else-keys-at : goal.returns-else-keys-at
returns-else-keys-at c = find_none c.args.key c.requires.variable c.requires.keyed.fine (omega (arith, c.kind_of.ensures ∙ ap (kind_at c.args.nodes.now) (c.wide.ensures ∙ c.variable_of.ensures))) c.wide_short-place.result (c.wide_short-place.ensures ∙ ap (λ (k : ℕ). get_or c.args.slots.now k 0) c.slot_of-slot.ensures.0 ∙ sym (slot_at c.args.at c.args.slots.now c.args.key (key_below c.args.slots.now c.requires.keyed.slots c.requires.variable))) (λ a. rw (key-at c.args.at c.args.keys.now c.wide_short-place.result (omega (arith, c.requires.keyed.fine.few))) (λ b. omega arith))

pub returns-else-place-n : goal.returns-else-place-n
returns-else-place-n c = find_none c.args.key c.requires.variable c.requires.keyed.fine (omega (arith, c.kind_of.ensures ∙ ap (kind_at c.args.nodes.now) (c.wide.ensures ∙ c.variable_of.ensures))) c.wide_short-place.result (c.wide_short-place.ensures ∙ ap (λ (k : ℕ). get_or c.args.slots.now k 0) c.slot_of-slot.ensures.0 ∙ sym (slot_at c.args.at c.args.slots.now c.args.key (key_below c.args.slots.now c.requires.keyed.slots c.requires.variable))) (λ a b. omega arith)
