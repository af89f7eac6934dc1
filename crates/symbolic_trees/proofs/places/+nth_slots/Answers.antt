use Rattle.std.proofs.Common.{◌∷◌}
use Rattle.rule_model.specs.declared.rules.Slot.{Slot}
use Rattle.symbolic_plans.specs.Plans.{taken_slots}
use Rattle.symbolic_trees.proofs.Fronts.{no_fronts, no_first, no_rest, both_parts}
use Rattle.symbolic_trees.proofs.places.+nth_slots.Goals as goal

pub nth_taken-returns-then-count-eq0 : goal.nth_taken-returns-then-count-eq0
nth_taken-returns-then-count-eq0 t c =
    no_fronts (λ (slot : Slot) slots. slot ∷ slots) (taken_slots c.args.takes.now c.args.choices.now) c.args.first.now
    c.taken_count-count.result c.args.n
    c.taken_count-count.ensures.counted c.requires c.if-count-eq0.true

pub nth_taken-returns-in-None : goal.nth_taken-returns-in-None
nth_taken-returns-in-None t c =
    no_first (λ (slot : Slot) slots. slot ∷ slots) (taken_slots c.args.takes.now c.args.choices.now) c.args.first.now
    c.taken_count-count.result c.args.n
    c.taken_count-count.ensures.counted c.requires c.if-count-eq0.false c.in-None.ensures.slot

pub nth_taken-returns-in-None-2 : goal.nth_taken-returns-in-None-2
nth_taken-returns-in-None-2 t c =
    no_rest (λ (slot : Slot) slots. slot ∷ slots) (taken_slots c.args.takes.now c.args.choices.now) c.args.first.now
    c.taken_count-count.result c.args.n
    c.in-Some.slot.now c.taken_count-count.ensures.counted c.requires c.if-count-eq0.false c.in-Some.ensures.slot
    (rw c.in-None-2.is at c.in_ok-nth_slots-in-Some.ensures)

pub nth_taken-returns-in_ok-slot_before-in-Some-2 : goal.nth_taken-returns-in_ok-slot_before-in-Some-2
nth_taken-returns-in_ok-slot_before-in-Some-2 t c =
    both_parts (λ (slot : Slot) slots. slot ∷ slots) (taken_slots c.args.takes.now c.args.choices.now) c.args.first.now
    c.taken_count-count.result c.args.n
    c.in-Some.slot.now c.in-Some-2.slots.items c.in_ok-slot_before-in-Some-2.field-0.items c.taken_count-count.ensures.counted c.requires
    c.if-count-eq0.false c.in-Some.ensures.slot (rw c.in-Some-2.is at c.in_ok-nth_slots-in-Some.ensures)
    c.in_ok-slot_before-in-Some-2.ensures
