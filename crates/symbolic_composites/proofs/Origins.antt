-- The composites of a behaviour with terms put in are those of the code with these terms for its variables.
use Rattle.std.proofs.Common.{ℕ, ◌≡◌, ◌==◌, ◌⊎◌, inl, inr, map, flat_map, List, [], ◌∷◌, refl, sym, ap, subst, ◌∙◌, Option, Some}
use Rattle.std.proofs.Common.{None}
use Rattle.std.proofs.Common.{Bool, true, false, if◌then◌else◌, option_map, option_and_then}
use Rattle.std.proofs.lemmas.Bool.{eqb-true}
use Rattle.spec_core.specs.Terms.{TermTree, TermTrees, variable, apply, no_terms, and_term, instance, instances, IsGround, AreGround}
use Rattle.spec_core.specs.Theories.{Premise, premise, Theory}
use Rattle.spec_core.specs.Code.{Variable, Binding, ExitValue, exit_given, exit_any, ActionField, give, accept}
use Rattle.spec_core.specs.Functionality.{bound_variables}
use Rattle.spec_core.proofs.Lists.{flat_map_same}
use Rattle.rule_model.specs.declared.rules.Slot.{Slot}
use Rattle.rule_model.specs.Actions.{ends, at_gate, pairs_of}
use Rattle.rule_model.specs.Behaviours.{Behaviour, stop, exit, inner, action, choice, guarded, bound, value_choice, gate_choice, parallel}
use Rattle.rule_model.specs.Behaviours.{hide, enable, disable, call, relabel}
use Rattle.rule_model.specs.Derivations.{pre, exiting, val, guard, letting, calling}
use Rattle.rule_model.specs.Substitution.{Assignment, with_term, without, put, put_in_premise, put_in_field, put_in_exit, put_in_binding}
use Rattle.rule_laws.specs.Closing.{IsClosing}
use Rattle.symbolic_rules.specs.Windows.{Windows}
use Rattle.symbolic_rules.specs.MarkedTerms.{MarkedTerm, plain, MarkedAssignment, unmarked, with_marked, joined, applied, marked_instance}
use Rattle.symbolic_rules.specs.MarkedTerms.{marked_instances}
use Rattle.symbolic_composites.specs.Evaluations.{Evaluation, marked_value, value_in, may_be_equal, premise_may_hold, chosen_term, with_bindings}
use Rattle.symbolic_composites.specs.Evaluations.{with_arguments}
use Rattle.symbolic_composites.specs.OpenFields.{OpenField, blank, open_by, open_fields, open_exit, slots_of, exit_slots_of, window_slots}
use Rattle.symbolic_composites.specs.Composites.{Composite, from_option, under, by_hiding, by_enabling, of_choice, of_parallel, of_disable}
use Rattle.symbolic_composites.specs.Composites.{of_relabel}
use Rattle.symbolic_composites.specs.Composites.{of_gates, composites_in, below_calls}
use Rattle.symbolic_composites.specs.Laws.{CompositesOfOrigins}

-- a ground term has no variable that could have a mark
module _ (theory : Theory) (m : MarkedAssignment) where
  mutual
    ground_is_plain : (t : TermTree) → IsGround t → marked_instance theory m t ≡ plain t
    ground_is_plain (variable x) h = absurd h
    ground_is_plain (apply f ts) h = ap (applied theory f) (grounds_are_plain ts h)

    grounds_are_plain : (ts : TermTrees) → AreGround ts → marked_instances theory m ts ≡ Some ts
    grounds_are_plain no_terms h = refl
    grounds_are_plain (and_term t ts) h =
        ap (λ k. joined k (marked_instances theory m ts)) (ground_is_plain t h.0) ∙ ap (joined (plain t)) (grounds_are_plain ts h.1)

-- what is put in for the variable y: y itself, and then k is what it had; or a ground term, and then k is this term
abbrev pub IsPutFor : ℕ → TermTree → MarkedTerm → MarkedTerm → Type 0
IsPutFor y u j k = ((u ≡ variable y) × (k ≡ j)) ⊎ (IsGround u × (k ≡ plain u))

-- the same of all variables: r after s is t
abbrev pub Leads : MarkedAssignment → Assignment → MarkedAssignment → Type 0
Leads r s t = (y : ℕ) → IsPutFor y (s y) (r y) (t y)

-- a variable that is bound stands for itself in what is put in
pub with_one_bound : (x : Variable) (k : MarkedTerm) (r : MarkedAssignment) (s : Assignment) (t : MarkedAssignment) → Leads r s t →
    Leads (with_marked x k r) (with_term x (variable x.number) s) (with_marked x k t)
with_one_bound x k r s t leads y = by_test (y == x.number) refl (leads y)
  where
    by_test : (b : Bool) → (y == x.number) ≡ b → IsPutFor y (s y) (r y) (t y) →
        IsPutFor y (if b then variable x.number else s y) (if b then k else r y) (if b then k else t y)
    by_test true e h = inl (ap variable (sym (eqb-true y x.number e)), refl)
    by_test false e h = h

from_same : {A B : Type 0} (o : Option A) (f g : A → List B) → ((a : A) → f a ≡ g a) → from_option o f ≡ from_option o g
from_same None f g h = refl
from_same (Some a) f g h = h a

then_same : {A B : Type 0} (o : Option A) (f g : A → Option B) → ((a : A) → f a ≡ g a) → option_and_then f o ≡ option_and_then g o
then_same None f g h = refl
then_same (Some a) f g h = h a

slots_same : (s : Assignment) (fields : List ActionField) (choices : List (List Slot)) →
    slots_of (map (put_in_field s) fields) choices ≡ slots_of fields choices
slots_same s [] choices = refl
slots_same s (give t ∷ fields) [] = refl
slots_same s (accept x ∷ fields) [] = refl
slots_same s (give t ∷ fields) (c ∷ choices) = slots_same s fields choices
slots_same s (accept x ∷ fields) (c ∷ choices) =
    ap (λ others. flat_map (λ z. map (λ slots. z ∷ slots) others) c) (slots_same s fields choices)

exit_slots_same : (s : Assignment) (fields : List ExitValue) (choices : List (List Slot)) →
    exit_slots_of (map (put_in_exit s) fields) choices ≡ exit_slots_of fields choices
exit_slots_same s [] choices = refl
exit_slots_same s (exit_given t ∷ fields) [] = refl
exit_slots_same s (exit_any sort ∷ fields) [] = refl
exit_slots_same s (exit_given t ∷ fields) (c ∷ choices) = exit_slots_same s fields choices
exit_slots_same s (exit_any sort ∷ fields) (c ∷ choices) =
    ap (λ others. flat_map (λ z. map (λ slots. z ∷ slots) others) c) (exit_slots_same s fields choices)

-- both are there, and lead from one to the other; or neither is
abbrev pub BothLead : Option MarkedAssignment → Option MarkedAssignment → Assignment → Type 0
BothLead None None s = Unit {0}
BothLead (Some l) (Some k) s = Leads l s k
BothLead None (Some k) s = ⊥
BothLead (Some l) None s = ⊥

both_same : {B : Type 0} (o p : Option MarkedAssignment) (s : Assignment) (f g : MarkedAssignment → List B) → BothLead o p s →
    ((l k : MarkedAssignment) → Leads l s k → f l ≡ g k) → from_option o f ≡ from_option p g
both_same None None s f g q h = refl
both_same (Some l) (Some k) s f g q h = h l k q
both_same None (Some k) s f g q h = absurd q
both_same (Some l) None s f g q h = absurd q

both_then : {A : Type 0} (o : Option A) (f g : A → Option MarkedAssignment) (s : Assignment) → ((a : A) → BothLead (f a) (g a) s) →
    BothLead (option_and_then f o) (option_and_then g o) s
both_then None f g s h = tt
both_then (Some a) f g s h = h a

module _ (theory : Theory) (e : Evaluation) where
  module _ (r : MarkedAssignment) (s : Assignment) (t : MarkedAssignment) (leads : Leads r s t) where
    variable_put : (y : ℕ) (u : TermTree) → IsPutFor y u (r y) (t y) → marked_instance theory r u ≡ t y
    variable_put y u (inl h) = ap (marked_instance theory r) h.0 ∙ sym h.1
    variable_put y u (inr h) = ground_is_plain theory r u h.0 ∙ sym h.1

    mutual
      pub term_put : (u : TermTree) → marked_instance theory r (instance s u) ≡ marked_instance theory t u
      term_put (variable y) = variable_put y (s y) (leads y)
      term_put (apply f us) = ap (applied theory f) (terms_put us)

      terms_put : (us : TermTrees) → marked_instances theory r (instances s us) ≡ marked_instances theory t us
      terms_put no_terms = refl
      terms_put (and_term u us) =
          ap (λ z. joined z (marked_instances theory r (instances s us))) (term_put u)
          ∙ ap (joined (marked_instance theory t u)) (terms_put us)

    pub value_put : (u : TermTree) → value_in theory e r (instance s u) ≡ value_in theory e t u
    value_put u = ap (marked_value theory e) (term_put u)

    pub premise_put : (p : Premise) → premise_may_hold theory e r (put_in_premise s p) ≡ premise_may_hold theory e t p
    premise_put (premise a b) =
        ap (λ z. may_be_equal theory e z (marked_instance theory r (instance s b))) (term_put a)
        ∙ ap (may_be_equal theory e (marked_instance theory t a)) (term_put b)

    fields_put : (fields : List ActionField) → open_fields theory e r (map (put_in_field s) fields) ≡ open_fields theory e t fields
    fields_put [] = refl
    fields_put (give u ∷ fields) =
        ap (option_and_then (λ k. option_map (λ fs. open_by k ∷ fs) (open_fields theory e r (map (put_in_field s) fields)))) (value_put u)
        ∙ ap (λ z. option_and_then (λ k. option_map (λ fs. open_by k ∷ fs) z) (value_in theory e t u)) (fields_put fields)
    fields_put (accept x ∷ fields) = ap (option_map (λ fs. blank false x.sort ∷ fs)) (fields_put fields)

    exit_put : (fields : List ExitValue) → open_exit theory e r (map (put_in_exit s) fields) ≡ open_exit theory e t fields
    exit_put [] = refl
    exit_put (exit_given u ∷ fields) =
        ap (option_and_then (λ k. option_map (λ fs. open_by k ∷ fs) (open_exit theory e r (map (put_in_exit s) fields)))) (value_put u)
        ∙ ap (λ z. option_and_then (λ k. option_map (λ fs. open_by k ∷ fs) z) (value_in theory e t u)) (exit_put fields)
    exit_put (exit_any sort ∷ fields) = ap (option_map (λ fs. blank false sort ∷ fs)) (exit_put fields)

    pub bindings_put : (i : MarkedAssignment) (j : Assignment) (l : MarkedAssignment) (bindings : List Binding) → Leads i j l →
        BothLead (with_bindings theory e r i (map (put_in_binding s) bindings)) (with_bindings theory e t l bindings)
        (without (bound_variables bindings) j)
    bindings_put i j l [] h = h
    bindings_put i j l (b ∷ bindings) h =
        let x = b.variable in
        let later = without (bound_variables bindings) (with_term x (variable x.number) j) in
        subst (λ z. BothLead
        (option_and_then (λ k. with_bindings theory e r (with_marked x k i) (map (put_in_binding s) bindings)) z)
        (option_and_then (λ k. with_bindings theory e t (with_marked x k l) bindings) (value_in theory e t b.term)) later)
        (sym (value_put b.term))
        (both_then (value_in theory e t b.term) (λ k. with_bindings theory e r (with_marked x k i) (map (put_in_binding s) bindings))
        (λ k. with_bindings theory e t (with_marked x k l) bindings) later
        (λ k. bindings_put (with_marked x k i) (with_term x (variable x.number) j) (with_marked x k l) bindings
        (with_one_bound x k i j l h)))

    pub arguments_put : (i : MarkedAssignment) (xs : List Variable) (terms : List TermTree) →
        with_arguments theory e r i xs (map (instance s) terms) ≡ with_arguments theory e t i xs terms
    arguments_put i [] [] = refl
    arguments_put i [] (u ∷ terms) = refl
    arguments_put i (x ∷ xs) [] = refl
    arguments_put i (x ∷ xs) (u ∷ terms) =
        ap (option_and_then (λ k. with_arguments theory e r (with_marked x k i) xs (map (instance s) terms))) (value_put u)
        ∙ then_same (value_in theory e t u) (λ k. with_arguments theory e r (with_marked x k i) xs (map (instance s) terms))
        (λ k. with_arguments theory e t (with_marked x k i) xs terms) (λ k. arguments_put (with_marked x k i) xs terms)

  module _ (w : Windows) (called : MarkedAssignment → Behaviour → List Composite) where
    abbrev of : MarkedAssignment → Behaviour → List Composite
    of m b = composites_in theory e w called m b

    behaviour_put : (b : Behaviour) (r : MarkedAssignment) (s : Assignment) (t : MarkedAssignment) → Leads r s t → of r (put s b) ≡ of t b
    behaviour_put stop r s t leads = refl
    behaviour_put (exit fields) r s t leads =
        let make : (List (List Slot) → List (List Slot)) → List OpenField → List Composite =
        λ f fs. record { kind = ends; fields = fs; trees = λ choices. map exiting (f choices) } ∷ [] in
        ap (λ z. from_option z (make (exit_slots_of (map (put_in_exit s) fields)))) (exit_put r s t leads fields)
        ∙ ap (λ z. from_option (open_exit theory e t fields) (make z)) (λ i choices. exit_slots_same s fields choices i)
    behaviour_put (inner b) r s t leads = refl
    behaviour_put (action g fields p b) r s t leads =
        let make : (List (List Slot) → List (List Slot)) → List OpenField → List Composite =
        λ f fs. record { kind = at_gate g; fields = fs; trees = λ choices. map pre (f choices) } ∷ [] in
        ap (λ z. from_option z (make (slots_of (map (put_in_field s) fields)))) (fields_put r s t leads fields)
        ∙ ap (λ z. from_option (open_fields theory e t fields) (make z)) (λ i choices. slots_same s fields choices i)
    behaviour_put (choice x y) r s t leads =
        ap (λ z. of_choice z (of r (put s y))) (behaviour_put x r s t leads) ∙ ap (of_choice (of t x)) (behaviour_put y r s t leads)
    behaviour_put (guarded p b) r s t leads =
        ap (λ z. if z then map (under guard) (of r (put s b)) else []) (premise_put r s t leads p)
        ∙ ap (λ z. if premise_may_hold theory e t p then map (under guard) z else []) (behaviour_put b r s t leads)
    behaviour_put (bound bindings b) r s t leads =
        let inside = without (bound_variables bindings) s in
        both_same (with_bindings theory e r r (map (put_in_binding s) bindings)) (with_bindings theory e t t bindings) inside
        (λ l. map (under letting) (of l (put inside b))) (λ l. map (under letting) (of l b)) (bindings_put r s t leads r s t bindings leads)
        (λ l k h. ap (map (under letting)) (behaviour_put b l inside k h))
    behaviour_put (value_choice x b) r s t leads =
        let inside = with_term x (variable x.number) s in
        flat_map_same (λ v. from_option (chosen_term theory e w v x.sort) (λ k. map (under (val v)) (of (with_marked x k r) (put inside b))))
        (λ v. from_option (chosen_term theory e w v x.sort) (λ k. map (under (val v)) (of (with_marked x k t) b))) (window_slots w x.sort)
        (λ v. from_same (chosen_term theory e w v x.sort) (λ k. map (under (val v)) (of (with_marked x k r) (put inside b)))
        (λ k. map (under (val v)) (of (with_marked x k t) b))
        (λ k. ap (map (under (val v))) (behaviour_put b (with_marked x k r) inside (with_marked x k t) (with_one_bound x k r s t leads))))
    behaviour_put (gate_choice g gates b) r s t leads = ap (of_gates g 1 gates) (behaviour_put b r s t leads)
    behaviour_put (parallel gates x y) r s t leads =
        ap (λ z. of_parallel theory gates z (of r (put s y))) (behaviour_put x r s t leads)
        ∙ ap (of_parallel theory gates (of t x)) (behaviour_put y r s t leads)
    behaviour_put (hide gates b) r s t leads = ap (map (by_hiding theory w gates)) (behaviour_put b r s t leads)
    behaviour_put (enable x xs y) r s t leads = ap (map (by_enabling theory w)) (behaviour_put x r s t leads)
    behaviour_put (disable x y) r s t leads =
        ap (λ z. of_disable z (of r (put s y))) (behaviour_put x r s t leads) ∙ ap (of_disable (of t x)) (behaviour_put y r s t leads)
    behaviour_put (call p actual terms) r s t leads =
        from_same (e.definition p)
        (λ q. from_option (with_arguments theory e r unmarked q.variables (map (instance s) terms))
        (λ l. map (under calling) (of_relabel (pairs_of q.gates actual) (called l q.body))))
        (λ q. from_option (with_arguments theory e t unmarked q.variables terms)
        (λ l. map (under calling) (of_relabel (pairs_of q.gates actual) (called l q.body))))
        (λ q. ap (λ z. from_option z (λ l. map (under calling) (of_relabel (pairs_of q.gates actual) (called l q.body))))
        (arguments_put r s t leads unmarked q.variables terms))
    behaviour_put (relabel pairs b) r s t leads = ap (of_relabel pairs) (behaviour_put b r s t leads)

pub closing_leads : (s : Assignment) → IsClosing s → Leads unmarked s (λ x. plain (s x))
closing_leads s h y = by_case (h y)
  where
    by_case : IsGround (s y) ⊎ (s y ≡ variable y) → IsPutFor y (s y) (unmarked y) (plain (s y))
    by_case (inl g) = inr (g, refl)
    by_case (inr q) = inl (q, ap plain q)

pub composites_of_origins : CompositesOfOrigins
composites_of_origins theory e w n s closing b =
    behaviour_put theory e w (below_calls theory e w n) b unmarked s (λ x. plain (s x)) (closing_leads s closing)
