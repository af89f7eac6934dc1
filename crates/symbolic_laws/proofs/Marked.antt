-- A loosened tree is the tree with marks.
use Rattle.std.proofs.Common.{ℕ, ◌||◌, refl, inl, inr, List, [], ◌∷◌, Bool, true, false, if◌then◌else◌}
use Rattle.spec_core.specs.Code.{Program, ExitValue, exit_given, exit_any, ActionField, give, accept}
use Rattle.rule_model.specs.declared.rules.Slot.{Slot}
use Rattle.rule_model.specs.declared.rules.Slot.TheVariants.{Of, Mark, Blank}
use Rattle.rule_model.specs.Behaviours.{Behaviour, exit, inner, action, choice, guarded, bound, value_choice, gate_choice, parallel}
use Rattle.rule_model.specs.Behaviours.{hide, enable, disable, call, relabel}
use Rattle.rule_model.specs.Derivations.{Derivation, pre, int, exiting, chl, chr, val, gate, guard, letting, parl, parr, both, hiding, pass}
use Rattle.rule_model.specs.Derivations.{enstep, enend, disstep, disend, distake, calling, rel}
use Rattle.rule_model.specs.Actions.{pairs_of}
use Rattle.symbolic_rules.specs.Windows.{Windows}
use Rattle.symbolic_rules.specs.Trees.{is_mark, IsMarkedAs, IsSlotMarkedAs, AreSlotsMarkedAs}
use Rattle.symbolic_rules.proofs.Marks.{own_tree}
use Rattle.symbolic_composites.specs.OpenFields.{is_listed}
use Rattle.symbolic_laws.specs.Loosened.{Marking, with_mark, marks_bound, marks_passed, no_marks, loosened_slot, loosened_slots}
use Rattle.symbolic_laws.specs.Loosened.{loosened_at_exit, LoosensWith}
use Rattle.symbolic_laws.specs.Laws.{LoosenedTreesAreMarked}

slot_marked : (w : Windows) (sort : ℕ) (g : Bool) (slot : Slot) → IsSlotMarkedAs slot (loosened_slot w sort g slot)
slot_marked w sort g Mark = inl refl
slot_marked w sort g Blank = inl refl
slot_marked w sort g (Of v) = by_test (g || is_listed v (w.values sort))
  where
    by_test : (b : Bool) → IsSlotMarkedAs (Of v) (if b then Of v else Mark)
    by_test true = inl refl
    by_test false = inr refl

same_slots : (slots : List Slot) → AreSlotsMarkedAs slots slots
same_slots [] = refl
same_slots (slot ∷ slots) = (slot, slots, refl, inl refl, same_slots slots)

slots_marked : (w : Windows) (fields : List ActionField) (is_given : List Bool) (slots : List Slot) →
    AreSlotsMarkedAs slots (loosened_slots w fields is_given slots)
slots_marked w [] is_given slots = same_slots slots
slots_marked w (give e ∷ fields) [] slots = same_slots slots
slots_marked w (give e ∷ fields) (g ∷ is_given) slots = slots_marked w fields is_given slots
slots_marked w (accept x ∷ fields) [] slots = same_slots slots
slots_marked w (accept x ∷ fields) (g ∷ is_given) [] = refl
slots_marked w (accept x ∷ fields) (g ∷ is_given) (slot ∷ slots) = (
  loosened_slot w x.sort g slot,
  loosened_slots w fields is_given slots,
  refl,
  slot_marked w x.sort g slot,
  slots_marked w fields is_given slots,
)

exit_marked : (w : Windows) (fields : List ExitValue) (is_given : List Bool) (slots : List Slot) →
    AreSlotsMarkedAs slots (loosened_at_exit w fields is_given slots)
exit_marked w [] is_given slots = same_slots slots
exit_marked w (exit_given e ∷ fields) [] slots = same_slots slots
exit_marked w (exit_given e ∷ fields) (g ∷ is_given) slots = exit_marked w fields is_given slots
exit_marked w (exit_any sort ∷ fields) [] slots = same_slots slots
exit_marked w (exit_any sort ∷ fields) (g ∷ is_given) [] = refl
exit_marked w (exit_any sort ∷ fields) (g ∷ is_given) (slot ∷ slots) = (
  loosened_slot w sort g slot,
  loosened_at_exit w fields is_given slots,
  refl,
  slot_marked w sort g slot,
  exit_marked w fields is_given slots,
)

module _ (program : Program) (w : Windows) where
  marked : (d : Derivation) (b : Behaviour) (marks : Marking) (is_given : List Bool) (e : Derivation) (told : List Bool) →
      LoosensWith program w marks is_given b d e told → IsMarkedAs d e
  marked (pre slots) (action g fields p rest) marks is_given e told h =
      (loosened_slots w fields is_given slots, h.0, slots_marked w fields is_given slots)
  marked int (inner rest) marks is_given e told h = h.0
  marked (exiting slots) (exit fields) marks is_given e told h =
      (loosened_at_exit w fields is_given slots, h.0, exit_marked w fields is_given slots)
  marked (chl d) (choice x y) marks is_given e told h = (h.0, h.1, marked d x marks is_given h.0 told h.2)
  marked (chr d) (choice x y) marks is_given e told h = (h.0, h.1, marked d y marks is_given h.0 told h.2)
  marked (val slot d) (value_choice x body) marks is_given e told h = (
    loosened_slot w x.sort false slot,
    h.0,
    h.1,
    slot_marked w x.sort false slot,
    marked d body (with_mark x (is_mark (loosened_slot w x.sort false slot)) marks) is_given h.0 told h.2,
  )
  marked (gate j d) (gate_choice g gates body) marks is_given e told h = (
    h.4.0,
    h.4.1,
    marked d (relabel (record { from = g; to = h.1 } ∷ []) body) marks is_given h.4.0 told h.4.2,
  )
  marked (guard d) (guarded p body) marks is_given e told h = (h.0, h.1, marked d body marks is_given h.0 told h.2)
  marked (letting d) (bound bindings body) marks is_given e told h =
      (h.0, h.1, marked d body (marks_bound marks marks bindings) is_given h.0 told h.2)
  marked (parl d) (parallel gates x y) marks is_given e told h = (h.0, h.1, marked d x marks is_given h.0 told h.2)
  marked (parr d) (parallel gates x y) marks is_given e told h = (h.0, h.1, marked d y marks is_given h.0 told h.2)
  marked (both d c) (parallel gates x y) marks is_given e told h =
      (h.0, h.1, h.4, marked d x marks is_given h.0 h.2 h.5, marked c y marks is_given h.1 h.3 h.6)
  marked (hiding d) (hide gates body) marks is_given e told h = (h.0, h.2, marked d body marks h.1 h.0 h.1 h.3)
  marked (pass d) (hide gates body) marks is_given e told h = (h.0, h.1, marked d body marks is_given h.0 told h.2)
  marked (enstep d) (enable x xs y) marks is_given e told h = (h.0, h.1, marked d x marks is_given h.0 told h.2)
  marked (enend d) (enable x xs y) marks is_given e told h = (h.0, h.2, marked d x marks h.1 h.0 h.1 h.3)
  marked (disstep d) (disable x y) marks is_given e told h = (h.0, h.1, marked d x marks is_given h.0 told h.2)
  marked (disend d) (disable x y) marks is_given e told h = (h.0, h.1, marked d x marks is_given h.0 told h.2)
  marked (distake d) (disable x y) marks is_given e told h = (h.0, h.1, marked d y marks is_given h.0 told h.2)
  marked (calling d) (call p actual terms) marks is_given e told h = (
    h.3,
    h.5,
    marked d (relabel (pairs_of h.0 actual) h.2) (marks_passed marks no_marks h.1 terms) is_given h.3 told h.6,
  )
  marked (rel d) (relabel pairs body) marks is_given e told h = (h.0, h.1, marked d body marks is_given h.0 told h.2)
  marked _ _ marks is_given e told h = absurd h

pub loosened_trees_are_marked : LoosenedTreesAreMarked
loosened_trees_are_marked program w b o d e h =
    let is = marked program w d b no_marks _ e h.0 h.1 in (is, λ none. own_tree d e is none)
