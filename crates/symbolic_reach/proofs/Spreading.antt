-- The spread of a behaviour with terms put in is that of the code with these terms for its variables.
use Rattle.std.proofs.Common.{ℕ, ◌≡◌, ◌+◌, ◌*◌, List, length, map, refl, ap, ◌∙◌, Option, Some, None, if◌then◌else◌}
use Rattle.std.proofs.Common.{sum_by}
use Rattle.spec_core.specs.Terms.{variable, instance}
use Rattle.spec_core.specs.Theories.{Theory}
use Rattle.spec_core.specs.Functionality.{bound_variables}
use Rattle.rule_model.specs.Behaviours.{Behaviour, stop, exit, inner, action, choice, guarded, bound, value_choice, gate_choice, parallel}
use Rattle.rule_model.specs.Behaviours.{hide, enable, disable, call, relabel}
use Rattle.rule_model.specs.Substitution.{Assignment, with_term, without, put, put_in_binding}
use Rattle.symbolic_rules.specs.Windows.{Windows}
use Rattle.symbolic_rules.specs.MarkedTerms.{plain, MarkedAssignment, unmarked, with_marked}
use Rattle.symbolic_composites.specs.Evaluations.{Evaluation, premise_may_hold, chosen_term, with_bindings, with_arguments}
use Rattle.symbolic_composites.specs.OpenFields.{window_slots}
use Rattle.symbolic_composites.proofs.Origins.{Leads, BothLead, with_one_bound, premise_put, bindings_put, arguments_put, closing_leads}
use Rattle.symbolic_reach.specs.Spread.{number_of, spread_in, spread_below}
use Rattle.symbolic_reach.specs.Laws.{SpreadOfOrigins}

sums_same : {A : Type 0} (f g : A → ℕ) (xs : List A) → ((x : A) → f x ≡ g x) → sum_by f xs ≡ sum_by g xs
sums_same f g xs h = λ i. sum_by (λ x. h x i) xs

number_same : {A : Type 0} (o : Option A) (f g : A → ℕ) → ((a : A) → f a ≡ g a) → number_of o f ≡ number_of o g
number_same None f g h = refl
number_same (Some a) f g h = h a

numbers_lead : (o p : Option MarkedAssignment) (s : Assignment) (f g : MarkedAssignment → ℕ) → BothLead o p s →
    ((l k : MarkedAssignment) → Leads l s k → f l ≡ g k) → number_of o f ≡ number_of p g
numbers_lead None None s f g q h = refl
numbers_lead (Some l) (Some k) s f g q h = h l k q
numbers_lead None (Some k) s f g q h = absurd q
numbers_lead (Some l) None s f g q h = absurd q

module _ (theory : Theory) (e : Evaluation) (w : Windows) (called : MarkedAssignment → Behaviour → ℕ) where
  abbrev of : MarkedAssignment → Behaviour → ℕ
  of m b = spread_in theory e w called m b

  spread_put : (b : Behaviour) (r : MarkedAssignment) (s : Assignment) (t : MarkedAssignment) → Leads r s t → of r (put s b) ≡ of t b
  spread_put stop r s t leads = refl
  spread_put (exit fields) r s t leads = refl
  spread_put (inner b) r s t leads = refl
  spread_put (action g fields p b) r s t leads = refl
  spread_put (choice x y) r s t leads =
      ap (λ z. 1 + (z + of r (put s y))) (spread_put x r s t leads) ∙ ap (λ z. 1 + (of t x + z)) (spread_put y r s t leads)
  spread_put (guarded p b) r s t leads =
      ap (λ z. 1 + (if z then of r (put s b) else 0)) (premise_put theory e r s t leads p)
      ∙ ap (λ z. 1 + (if premise_may_hold theory e t p then z else 0)) (spread_put b r s t leads)
  spread_put (bound bindings b) r s t leads =
      let inside = without (bound_variables bindings) s in
      ap (λ z. 1 + z)
      (numbers_lead (with_bindings theory e r r (map (put_in_binding s) bindings)) (with_bindings theory e t t bindings) inside
      (λ l. of l (put inside b)) (λ l. of l b) (bindings_put theory e r s t leads r s t bindings leads)
      (λ l k h. spread_put b l inside k h))
  spread_put (value_choice x b) r s t leads =
      let inside = with_term x (variable x.number) s in
      ap (λ z. 1 + z)
      (sums_same (λ v. number_of (chosen_term theory e w v x.sort) (λ k. of (with_marked x k r) (put inside b)))
      (λ v. number_of (chosen_term theory e w v x.sort) (λ k. of (with_marked x k t) b)) (window_slots w x.sort)
      (λ v. number_same (chosen_term theory e w v x.sort) (λ k. of (with_marked x k r) (put inside b)) (λ k. of (with_marked x k t) b)
      (λ k. spread_put b (with_marked x k r) inside (with_marked x k t) (with_one_bound x k r s t leads))))
  spread_put (gate_choice g gates b) r s t leads = ap (λ z. 1 + length gates * (1 + z)) (spread_put b r s t leads)
  spread_put (parallel gates x y) r s t leads =
      ap (λ z. 1 + (z + of r (put s y))) (spread_put x r s t leads) ∙ ap (λ z. 1 + (of t x + z)) (spread_put y r s t leads)
  spread_put (hide gates b) r s t leads = ap (λ z. 1 + z) (spread_put b r s t leads)
  spread_put (enable x xs y) r s t leads = ap (λ z. 1 + z) (spread_put x r s t leads)
  spread_put (disable x y) r s t leads =
      ap (λ z. 1 + (z + of r (put s y))) (spread_put x r s t leads) ∙ ap (λ z. 1 + (of t x + z)) (spread_put y r s t leads)
  spread_put (call p actual terms) r s t leads =
      ap (λ z. 1 + z)
      (number_same (e.definition p)
      (λ q. number_of (with_arguments theory e r unmarked q.variables (map (instance s) terms)) (λ l. 1 + called l q.body))
      (λ q. number_of (with_arguments theory e t unmarked q.variables terms) (λ l. 1 + called l q.body))
      (λ q. ap (λ z. number_of z (λ l. 1 + called l q.body)) (arguments_put theory e r s t leads unmarked q.variables terms)))
  spread_put (relabel pairs b) r s t leads = ap (λ z. 1 + z) (spread_put b r s t leads)

pub spread_of_origins : SpreadOfOrigins
spread_of_origins theory e w n s closing b =
    spread_put theory e w (spread_below theory e w n) b unmarked s (λ x. plain (s x)) (closing_leads s closing)
