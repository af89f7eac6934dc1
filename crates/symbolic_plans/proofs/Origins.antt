-- The plans of a behaviour with terms put in are those of the code with these terms for its variables.
use Rattle.std.proofs.Common.{◌≡◌, ◌∷◌, [], List, map, refl, ap, ◌∙◌, Option, Some, None, false}
use Rattle.std.proofs.Common.{if◌then◌else◌, option_map, option_and_then}
use Rattle.spec_core.specs.Terms.{variable, instance}
use Rattle.spec_core.specs.Theories.{Theory}
use Rattle.spec_core.specs.Code.{ExitValue, exit_given, exit_any, ActionField, give, accept}
use Rattle.spec_core.specs.Functionality.{bound_variables}
use Rattle.spec_core.proofs.Lists.{flat_map_same}
use Rattle.rule_model.specs.Actions.{ends, at_gate, pairs_of}
use Rattle.rule_model.specs.Behaviours.{Behaviour, stop, exit, inner, action, choice, guarded, bound, value_choice, gate_choice, parallel}
use Rattle.rule_model.specs.Behaviours.{hide, enable, disable, call, relabel}
use Rattle.rule_model.specs.Substitution.{Assignment, with_term, without, put, put_in_field, put_in_exit, put_in_binding}
use Rattle.symbolic_rules.specs.Windows.{Windows}
use Rattle.symbolic_rules.specs.MarkedTerms.{plain, MarkedAssignment, unmarked, with_marked}
use Rattle.symbolic_composites.specs.Evaluations.{Evaluation, chosen_term, with_bindings, with_arguments}
use Rattle.symbolic_composites.specs.OpenFields.{blank, open_by, open_fields, open_exit, window_slots}
use Rattle.symbolic_composites.specs.Composites.{from_option}
use Rattle.symbolic_composites.proofs.Origins.{Leads, BothLead, with_one_bound, value_put, premise_put, bindings_put, arguments_put, closing_leads}
use Rattle.symbolic_plans.specs.declared.scheme.Row.TheVariants.{Guard, Let, Val, Call}
use Rattle.symbolic_plans.specs.Plans.{prefix, termination}
use Rattle.symbolic_plans.specs.OpenPlans.{OpenPlan, under_row, under_relabelling, plan_by_hiding, plan_by_enabling, plans_of_choice}
use Rattle.symbolic_plans.specs.OpenPlans.{plans_of_parallel, plans_of_disable, plans_of_gates}
use Rattle.symbolic_plans.specs.OwnPlans.{takes_value, takes_any, own_plans_in, own_plans_below}
use Rattle.symbolic_plans.specs.OwnLaws.{OwnPlansOfOrigins}

-- lists that are made in the same way

from_same : {A B : Type 0} (o : Option A) (f g : A → List B) → ((a : A) → f a ≡ g a) → from_option o f ≡ from_option o g
from_same None f g h = refl
from_same (Some a) f g h = h a

both_same : {B : Type 0} (o p : Option MarkedAssignment) (s : Assignment) (f g : MarkedAssignment → List B) → BothLead o p s →
    ((l k : MarkedAssignment) → Leads l s k → f l ≡ g k) → from_option o f ≡ from_option p g
both_same None None s f g q h = refl
both_same (Some l) (Some k) s f g q h = h l k q
both_same None (Some k) s f g q h = absurd q
both_same (Some l) None s f g q h = absurd q

-- the open fields of an action, and of an exit, with terms put in

module _ (theory : Theory) (e : Evaluation) (r : MarkedAssignment) (s : Assignment) (t : MarkedAssignment) (leads : Leads r s t) where
  fields_put : (fields : List ActionField) → open_fields theory e r (map (put_in_field s) fields) ≡ open_fields theory e t fields
  fields_put [] = refl
  fields_put (give u ∷ fields) =
      λ i. option_and_then (λ k. option_map (λ fs. open_by k ∷ fs) (fields_put fields i)) (value_put theory e r s t leads u i)
  fields_put (accept x ∷ fields) = ap (option_map (λ fs. blank false x.sort ∷ fs)) (fields_put fields)

  exit_put : (fields : List ExitValue) → open_exit theory e r (map (put_in_exit s) fields) ≡ open_exit theory e t fields
  exit_put [] = refl
  exit_put (exit_given u ∷ fields) =
      λ i. option_and_then (λ k. option_map (λ fs. open_by k ∷ fs) (exit_put fields i)) (value_put theory e r s t leads u i)
  exit_put (exit_any sort ∷ fields) = ap (option_map (λ fs. blank false sort ∷ fs)) (exit_put fields)

-- terms put in leave which fields take a value
takes_same : (s : Assignment) (fields : List ActionField) → map takes_value (map (put_in_field s) fields) ≡ map takes_value fields
takes_same s [] = refl
takes_same s (give t ∷ fields) = ap (λ z. takes_value (give t) ∷ z) (takes_same s fields)
takes_same s (accept x ∷ fields) = ap (λ z. takes_value (accept x) ∷ z) (takes_same s fields)

any_same : (s : Assignment) (fields : List ExitValue) → map takes_any (map (put_in_exit s) fields) ≡ map takes_any fields
any_same s [] = refl
any_same s (exit_given t ∷ fields) = ap (λ z. takes_any (exit_given t) ∷ z) (any_same s fields)
any_same s (exit_any sort ∷ fields) = ap (λ z. takes_any (exit_any sort) ∷ z) (any_same s fields)

module _ (theory : Theory) (e : Evaluation) (w : Windows) (called : MarkedAssignment → Behaviour → List OpenPlan) where
  abbrev of : MarkedAssignment → Behaviour → List OpenPlan
  of m b = own_plans_in theory e w called m b

  plans_put : (b : Behaviour) (r : MarkedAssignment) (s : Assignment) (t : MarkedAssignment) → Leads r s t → of r (put s b) ≡ of t b
  plans_put stop r s t leads = refl
  plans_put (exit fields) r s t leads =
      ap (λ z. from_option z
      (λ fs. record { kind = ends; fields = fs; plan = termination (map takes_any (map (put_in_exit s) fields)) } ∷ []))
      (exit_put theory e r s t leads fields)
      ∙ ap (λ z. from_option (open_exit theory e t fields) (λ fs. record { kind = ends; fields = fs; plan = termination z } ∷ []))
      (any_same s fields)
  plans_put (inner b) r s t leads = refl
  plans_put (action g fields p b) r s t leads =
      ap (λ z. from_option z
      (λ fs. record { kind = at_gate g; fields = fs; plan = prefix (map takes_value (map (put_in_field s) fields)) } ∷ []))
      (fields_put theory e r s t leads fields)
      ∙ ap (λ z. from_option (open_fields theory e t fields) (λ fs. record { kind = at_gate g; fields = fs; plan = prefix z } ∷ []))
      (takes_same s fields)
  plans_put (choice x y) r s t leads = λ i. plans_of_choice (plans_put x r s t leads i) (plans_put y r s t leads i)
  plans_put (guarded p b) r s t leads =
      λ i. if premise_put theory e r s t leads p i then map (under_row Guard) (plans_put b r s t leads i) else []
  plans_put (bound bindings b) r s t leads =
      let inside = without (bound_variables bindings) s in
      both_same (with_bindings theory e r r (map (put_in_binding s) bindings)) (with_bindings theory e t t bindings) inside
      (λ l. map (under_row Let) (of l (put inside b))) (λ l. map (under_row Let) (of l b)) (bindings_put theory e r s t leads r s t bindings leads)
      (λ l k h. ap (map (under_row Let)) (plans_put b l inside k h))
  plans_put (value_choice x b) r s t leads =
      let inside = with_term x (variable x.number) s in
      flat_map_same (λ v. from_option (chosen_term theory e w v x.sort) (λ k. map (under_row (Val v)) (of (with_marked x k r) (put inside b))))
      (λ v. from_option (chosen_term theory e w v x.sort) (λ k. map (under_row (Val v)) (of (with_marked x k t) b))) (window_slots w x.sort)
      (λ v. from_same (chosen_term theory e w v x.sort) (λ k. map (under_row (Val v)) (of (with_marked x k r) (put inside b)))
      (λ k. map (under_row (Val v)) (of (with_marked x k t) b))
      (λ k. ap (map (under_row (Val v))) (plans_put b (with_marked x k r) inside (with_marked x k t) (with_one_bound x k r s t leads))))
  plans_put (gate_choice g gates b) r s t leads = ap (plans_of_gates g 1 gates) (plans_put b r s t leads)
  plans_put (parallel gates x y) r s t leads =
      λ i. plans_of_parallel theory gates (plans_put x r s t leads i) (plans_put y r s t leads i)
  plans_put (hide gates b) r s t leads = ap (map (plan_by_hiding gates)) (plans_put b r s t leads)
  plans_put (enable x xs y) r s t leads = ap (map plan_by_enabling) (plans_put x r s t leads)
  plans_put (disable x y) r s t leads = λ i. plans_of_disable (plans_put x r s t leads i) (plans_put y r s t leads i)
  plans_put (call p actual terms) r s t leads =
      from_same (e.definition p)
      (λ q. from_option (with_arguments theory e r unmarked q.variables (map (instance s) terms))
      (λ l. map (under_row Call) (map (under_relabelling (pairs_of q.gates actual)) (called l q.body))))
      (λ q. from_option (with_arguments theory e t unmarked q.variables terms)
      (λ l. map (under_row Call) (map (under_relabelling (pairs_of q.gates actual)) (called l q.body))))
      (λ q. ap (λ z. from_option z (λ l. map (under_row Call) (map (under_relabelling (pairs_of q.gates actual)) (called l q.body))))
      (arguments_put theory e r s t leads unmarked q.variables terms))
  plans_put (relabel pairs b) r s t leads = ap (map (under_relabelling pairs)) (plans_put b r s t leads)

pub own_plans_of_origins : OwnPlansOfOrigins
own_plans_of_origins theory e w n s closing b =
    plans_put theory e w (own_plans_below theory e w n) b unmarked s (λ x. plain (s x)) (closing_leads s closing)
