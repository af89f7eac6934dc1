-- The plans that a behaviour's constructs make are those of its composites.
use Rattle.std.proofs.Common.{ℕ, zero, suc, ◌≡◌, ◌++◌, ◌∙◌, ◌∷◌, [], List, map, flat_map, refl, ap, Bool, true, false}
use Rattle.std.proofs.Common.{if◌then◌else◌, Option, Some, None}
use Rattle.std.proofs.lemmas.List.{map-append}
use Rattle.spec_core.specs.Theories.{Theory}
use Rattle.spec_core.specs.Code.{ExitValue, exit_given, exit_any, ActionField, give, accept}
use Rattle.rule_model.specs.declared.rules.Slot.{Slot}
use Rattle.rule_model.specs.Actions.{ends, at_gate, pairs_of}
use Rattle.rule_model.specs.Behaviours.{Behaviour, stop, exit, inner, action, choice, guarded, bound, value_choice, gate_choice, parallel}
use Rattle.rule_model.specs.Behaviours.{hide, enable, disable, call, relabel}
use Rattle.rule_model.specs.Derivations.{pre, exiting, calling, guard, letting, val}
use Rattle.symbolic_rules.specs.Windows.{Windows}
use Rattle.symbolic_rules.specs.MarkedTerms.{MarkedAssignment, unmarked, with_marked}
use Rattle.symbolic_composites.specs.Evaluations.{Evaluation, premise_may_hold, chosen_term, with_bindings, with_arguments}
use Rattle.symbolic_composites.specs.OpenFields.{open_fields, open_exit, slots_of, exit_slots_of, window_slots}
use Rattle.symbolic_composites.specs.Composites.{Composite, from_option, under, composites_in, below_calls, by_hiding, by_enabling}
use Rattle.symbolic_composites.specs.Composites.{of_choice, of_parallel, of_disable, of_relabel, of_gates}
use Rattle.symbolic_plans.specs.declared.scheme.Row.TheVariants.{Guard, Let, Val, Call}
use Rattle.symbolic_plans.specs.Plans.{prefix, termination, taken_slots}
use Rattle.symbolic_plans.specs.OpenPlans.{OpenPlan, composite_of, under_row, under_relabelling}
use Rattle.symbolic_plans.specs.Laws.{PlansAreOfComposites}
use Rattle.symbolic_plans.proofs.Made.{plans_make_composites}
use Rattle.symbolic_plans.specs.OwnPlans.{takes_value, takes_any, own_plans_in, own_plans_below}
use Rattle.symbolic_plans.specs.OwnLaws.{OwnPlansAreThose}

-- the slots of an action, and of an exit, by which of the fields take a value
slots_taken : (fields : List ActionField) (choices : List (List Slot)) →
    taken_slots (map takes_value fields) choices ≡ slots_of fields choices
slots_taken [] choices = refl
slots_taken (give t ∷ fields) [] = refl
slots_taken (accept x ∷ fields) [] = refl
slots_taken (give t ∷ fields) (c ∷ choices) = slots_taken fields choices
slots_taken (accept x ∷ fields) (c ∷ choices) =
    ap (λ others. flat_map (λ slot. map (λ slots. slot ∷ slots) others) c) (slots_taken fields choices)

exit_slots_taken : (fields : List ExitValue) (choices : List (List Slot)) →
    taken_slots (map takes_any fields) choices ≡ exit_slots_of fields choices
exit_slots_taken [] choices = refl
exit_slots_taken (exit_given t ∷ fields) [] = refl
exit_slots_taken (exit_any sort ∷ fields) [] = refl
exit_slots_taken (exit_given t ∷ fields) (c ∷ choices) = exit_slots_taken fields choices
exit_slots_taken (exit_any sort ∷ fields) (c ∷ choices) =
    ap (λ others. flat_map (λ slot. map (λ slots. slot ∷ slots) others) c) (exit_slots_taken fields choices)

-- what is made of an option, and of each element, comes to the images
from_through : {A B C : Type 0} (f : B → C) (g : A → List B) (h : A → List C) → ((a : A) → map f (g a) ≡ h a) → (o : Option A) →
    map f (from_option o g) ≡ from_option o h
from_through f g h e None = refl
from_through f g h e (Some a) = e a

flat_images : {A B C : Type 0} (f : B → C) (g : A → List B) (h : A → List C) → ((a : A) → map f (g a) ≡ h a) → (xs : List A) →
    map f (flat_map g xs) ≡ flat_map h xs
flat_images f g h e [] = refl
flat_images f g h e (x ∷ xs) =
    map-append f (g x) (flat_map g xs) ∙ ap (λ z. z ++ map f (flat_map g xs)) (e x) ∙ ap (λ z. h x ++ z) (flat_images f g h e xs)

module _ (theory : Theory) (e : Evaluation) (w : Windows) where
  abbrev of : OpenPlan → Composite
  of p = composite_of theory w p

  made : PlansAreOfComposites theory w
  made = plans_make_composites theory w

  guarded_by : (b : Bool) (ps : List OpenPlan) (cs : List Composite) → map of ps ≡ cs →
      map of (if b then map (under_row Guard) ps else []) ≡ (if b then map (under guard) cs else [])
  guarded_by true ps cs h = made.rows Guard ps ∙ ap (map (under guard)) h
  guarded_by false ps cs h = refl

  module _ (plans : MarkedAssignment → Behaviour → List OpenPlan) (called : MarkedAssignment → Behaviour → List Composite)
      (same : (m : MarkedAssignment) (b : Behaviour) → map of (plans m b) ≡ called m b) where
    own_in : (m : MarkedAssignment) (b : Behaviour) → map of (own_plans_in theory e w plans m b) ≡ composites_in theory e w called m b
    own_in m stop = refl
    own_in m (exit fields) =
        from_through of (λ fs. record { kind = ends; fields = fs; plan = termination (map takes_any fields) } ∷ [])
        (λ fs. record { kind = ends; fields = fs; trees = λ slots. map exiting (exit_slots_of fields slots) } ∷ [])
        (λ fs i. record { kind = ends; fields = fs; trees = λ slots. map exiting (exit_slots_taken fields slots i) } ∷ [])
        (open_exit theory e m fields)
    own_in m (inner rest) = refl
    own_in m (action g fields p rest) =
        from_through of (λ fs. record { kind = at_gate g; fields = fs; plan = prefix (map takes_value fields) } ∷ [])
        (λ fs. record { kind = at_gate g; fields = fs; trees = λ slots. map pre (slots_of fields slots) } ∷ [])
        (λ fs i. record { kind = at_gate g; fields = fs; trees = λ slots. map pre (slots_taken fields slots i) } ∷ [])
        (open_fields theory e m fields)
    own_in m (choice left right) =
        made.choice (own_plans_in theory e w plans m left) (own_plans_in theory e w plans m right)
        ∙ (λ i. of_choice (own_in m left i) (own_in m right i))
    own_in m (guarded p body) = guarded_by (premise_may_hold theory e m p) (own_plans_in theory e w plans m body)
        (composites_in theory e w called m body) (own_in m body)
    own_in m (bound bindings body) =
        from_through of (λ l. map (under_row Let) (own_plans_in theory e w plans l body))
        (λ l. map (under letting) (composites_in theory e w called l body))
        (λ l. made.rows Let (own_plans_in theory e w plans l body) ∙ ap (map (under letting)) (own_in l body))
        (with_bindings theory e m m bindings)
    own_in m (value_choice x body) =
        flat_images of
        (λ slot. from_option (chosen_term theory e w slot x.sort)
        (λ k. map (under_row (Val slot)) (own_plans_in theory e w plans (with_marked x k m) body)))
        (λ slot. from_option (chosen_term theory e w slot x.sort)
        (λ k. map (under (val slot)) (composites_in theory e w called (with_marked x k m) body)))
        (λ slot. from_through of (λ k. map (under_row (Val slot)) (own_plans_in theory e w plans (with_marked x k m) body))
        (λ k. map (under (val slot)) (composites_in theory e w called (with_marked x k m) body))
        (λ k. made.rows (Val slot) (own_plans_in theory e w plans (with_marked x k m) body)
        ∙ ap (map (under (val slot))) (own_in (with_marked x k m) body))
        (chosen_term theory e w slot x.sort))
        (window_slots w x.sort)
    own_in m (gate_choice g gates body) =
        made.gates g 1 gates (own_plans_in theory e w plans m body) ∙ ap (of_gates g 1 gates) (own_in m body)
    own_in m (parallel gates left right) =
        made.parallel gates (own_plans_in theory e w plans m left) (own_plans_in theory e w plans m right)
        ∙ (λ i. of_parallel theory gates (own_in m left i) (own_in m right i))
    own_in m (hide gates body) =
        made.hide gates (own_plans_in theory e w plans m body) ∙ ap (map (by_hiding theory w gates)) (own_in m body)
    own_in m (enable left xs right) =
        made.enable (own_plans_in theory e w plans m left) ∙ ap (map (by_enabling theory w)) (own_in m left)
    own_in m (disable left right) =
        made.disable (own_plans_in theory e w plans m left) (own_plans_in theory e w plans m right)
        ∙ (λ i. of_disable (own_in m left i) (own_in m right i))
    own_in m (call p actual terms) =
        from_through of
        (λ d. from_option (with_arguments theory e m unmarked d.variables terms)
        (λ l. map (under_row Call) (map (under_relabelling (pairs_of d.gates actual)) (plans l d.body))))
        (λ d. from_option (with_arguments theory e m unmarked d.variables terms)
        (λ l. map (under calling) (of_relabel (pairs_of d.gates actual) (called l d.body))))
        (λ d. from_through of (λ l. map (under_row Call) (map (under_relabelling (pairs_of d.gates actual)) (plans l d.body)))
        (λ l. map (under calling) (of_relabel (pairs_of d.gates actual) (called l d.body)))
        (λ l. made.rows Call (map (under_relabelling (pairs_of d.gates actual)) (plans l d.body))
        ∙ ap (map (under calling)) (made.relabel (pairs_of d.gates actual) (plans l d.body)
        ∙ ap (of_relabel (pairs_of d.gates actual)) (same l d.body)))
        (with_arguments theory e m unmarked d.variables terms))
        (e.definition p)
    own_in m (relabel pairs body) =
        made.relabel pairs (own_plans_in theory e w plans m body) ∙ ap (of_relabel pairs) (own_in m body)

  own_below : (n : ℕ) (m : MarkedAssignment) (b : Behaviour) → map of (own_plans_below theory e w n m b) ≡ below_calls theory e w n m b
  own_below zero m b = refl
  own_below (suc n) m b = own_in (own_plans_below theory e w n) (below_calls theory e w n) (own_below n) m b

pub own_plans_are_those : OwnPlansAreThose
own_plans_are_those theory e w n m b =
    own_in theory e w (own_plans_below theory e w n) (below_calls theory e w n) (own_below theory e w n) m b
