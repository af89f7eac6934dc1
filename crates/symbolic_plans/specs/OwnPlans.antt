-- The plans of a behaviour's composites, made as its composites are. (This profile.)
use Rattle.std.specs.Prelude.{ℕ, zero, suc, Bool, true, false, List, [], ◌∷◌, map, flat_map, if◌then◌else◌}
use Rattle.spec_core.specs.Theories.{Theory}
use Rattle.spec_core.specs.Code.{ExitValue, exit_given, exit_any, ActionField, give, accept}
use Rattle.rule_model.specs.Actions.{inside, ends, at_gate, pairs_of}
use Rattle.rule_model.specs.Behaviours.{Behaviour, stop, exit, inner, action, choice, guarded, bound, value_choice, gate_choice, parallel}
use Rattle.rule_model.specs.Behaviours.{hide, enable, disable, call, relabel}
use Rattle.symbolic_rules.specs.Windows.{Windows}
use Rattle.symbolic_rules.specs.MarkedTerms.{MarkedAssignment, unmarked, with_marked}
use Rattle.symbolic_composites.specs.Evaluations.{Evaluation, premise_may_hold, chosen_term, with_bindings, with_arguments}
use Rattle.symbolic_composites.specs.OpenFields.{open_fields, open_exit, window_slots}
use Rattle.symbolic_composites.specs.Composites.{from_option}
use Rattle.symbolic_plans.specs.declared.scheme.Row.TheVariants.{Guard, Let, Val, Call}
use Rattle.symbolic_plans.specs.Plans.{prefix, internal, termination}
use Rattle.symbolic_plans.specs.OpenPlans.{OpenPlan, under_row, under_relabelling, plan_by_hiding, plan_by_enabling}
use Rattle.symbolic_plans.specs.OpenPlans.{plans_of_choice, plans_of_parallel, plans_of_disable, plans_of_gates}

-- which fields take a value
abbrev pub takes_value : ActionField → Bool
takes_value (give t) = false
takes_value (accept x) = true

abbrev pub takes_any : ExitValue → Bool
takes_any (exit_given t) = false
takes_any (exit_any sort) = true

module _ (theory : Theory) (e : Evaluation) (w : Windows) where
  -- The plans of a behaviour's composites, in order, with m x, a term or a mark, in the place of each free variable x: construct by
  -- construct what `composites_in` makes. `called` has those of the bodies of processes.
  abbrev pub own_plans_in : (MarkedAssignment → Behaviour → List OpenPlan) → MarkedAssignment → Behaviour → List OpenPlan
  own_plans_in called m stop = []
  own_plans_in called m (exit fields) =
      from_option (open_exit theory e m fields)
      (λ fs. record { kind = ends; fields = fs; plan = termination (map takes_any fields) } ∷ [])
  own_plans_in called m (inner rest) = record { kind = inside; fields = []; plan = internal } ∷ []
  own_plans_in called m (action g fields p rest) =
      from_option (open_fields theory e m fields)
      (λ fs. record { kind = at_gate g; fields = fs; plan = prefix (map takes_value fields) } ∷ [])
  own_plans_in called m (choice left right) = plans_of_choice (own_plans_in called m left) (own_plans_in called m right)
  own_plans_in called m (guarded p body) =
      if premise_may_hold theory e m p then map (under_row Guard) (own_plans_in called m body) else []
  own_plans_in called m (bound bindings body) =
      from_option (with_bindings theory e m m bindings) (λ l. map (under_row Let) (own_plans_in called l body))
  own_plans_in called m (value_choice x body) =
      flat_map (λ slot. from_option (chosen_term theory e w slot x.sort)
      (λ k. map (under_row (Val slot)) (own_plans_in called (with_marked x k m) body))) (window_slots w x.sort)
  own_plans_in called m (gate_choice g gates body) = plans_of_gates g 1 gates (own_plans_in called m body)
  own_plans_in called m (parallel gates left right) =
      plans_of_parallel theory gates (own_plans_in called m left) (own_plans_in called m right)
  own_plans_in called m (hide gates body) = map (plan_by_hiding gates) (own_plans_in called m body)
  own_plans_in called m (enable left xs right) = map plan_by_enabling (own_plans_in called m left)
  own_plans_in called m (disable left right) = plans_of_disable (own_plans_in called m left) (own_plans_in called m right)
  own_plans_in called m (call p actual terms) =
      from_option (e.definition p) (λ d. from_option (with_arguments theory e m unmarked d.variables terms)
      (λ l. map (under_row Call) (map (under_relabelling (pairs_of d.gates actual)) (called l d.body))))
  own_plans_in called m (relabel pairs body) = map (under_relabelling pairs) (own_plans_in called m body)

  -- below so many calls, one in another, there are none
  abbrev pub own_plans_below : ℕ → MarkedAssignment → Behaviour → List OpenPlan
  own_plans_below zero m b = []
  own_plans_below (suc n) m b = own_plans_in (own_plans_below n) m b

  -- the plans with at most n calls in one another
  abbrev pub own_plans : ℕ → MarkedAssignment → Behaviour → List OpenPlan
  own_plans n m b = own_plans_in (own_plans_below n) m b
