-- What is asked along the trees of plans is reached, operator by operator.
use Rattle.std.proofs.Common.{ℕ, suc, ◌≡◌, ◌⊎◌, inl, inr, List, [], ◌∷◌, ◌++◌, map, flat_map, refl, sym, ap, subst, ◌∙◌}
use Rattle.std.proofs.Common.{Option, Some, None, Bool, true, false, if◌then◌else◌, ◌&&◌}
use Rattle.spec_core.specs.Executable.{IsExecutable}
use Rattle.spec_core.specs.Lists.{Each, OneOf}
use Rattle.spec_core.specs.Terms.{TermTree, variable}
use Rattle.spec_core.specs.Theories.{Premise}
use Rattle.spec_core.specs.Code.{Program, Variable, Binding, Relabelling, ExitValue, exit_given, exit_any, ActionField, give, accept}
use Rattle.spec_core.specs.Code.{Synchronised}
use Rattle.spec_core.proofs.Lists.{each_append, each_flat_map, each_image}
use Rattle.rule_laws.proofs.OneStep.{one_binding, one_argument, one_definition}
use Rattle.rule_model.specs.declared.rules.Slot.{Slot}
use Rattle.rule_model.specs.declared.rules.Slot.TheVariants.{Of, Mark, Blank}
use Rattle.rule_model.specs.Actions.{pairs_of}
use Rattle.rule_model.specs.Behaviours.{Behaviour, exit, action, choice, guarded, bound, value_choice, gate_choice, parallel}
use Rattle.rule_model.specs.Behaviours.{hide, enable, disable, call, relabel}
use Rattle.rule_model.specs.Code.{IsDefinition}
use Rattle.rule_model.specs.Fields.{ArgumentsHave}
use Rattle.rule_model.specs.Substitution.{Assignment, with_term}
use Rattle.rule_origins.specs.Values.{term_spelled}
use Rattle.rule_origins.proofs.Reading.{values_are_read}
use Rattle.symbolic_rules.specs.Windows.{Windows}
use Rattle.symbolic_rules.specs.MarkedTerms.{MarkedTerm, plain, MarkedAssignment, AllPlain, unmarked, with_marked, PremiseMayHold}
use Rattle.symbolic_rules.specs.MarkedFields.{BindingsMayHave, ArgumentsMayHave}
use Rattle.symbolic_rules.proofs.Acting.{plain_instance, with_one_plain, bindings_have, arguments_have}
use Rattle.symbolic_composites.specs.Kinds.{is_alone, is_joint, is_hidden, is_end, same_kind}
use Rattle.symbolic_composites.specs.OpenFields.{OpenField, all_together}
use Rattle.symbolic_composites.specs.Composites.{from_option}
use Rattle.symbolic_plans.specs.declared.scheme.Row.TheVariants.{Chl, Chr, Val, Gate, Guard, Let, Parl, Parr, Pass, Enstep, Disstep}
use Rattle.symbolic_plans.specs.declared.scheme.Row.TheVariants.{Disend, Distake, Call}
use Rattle.symbolic_plans.specs.Plans.{prefix, termination, hidden, handed_on}
use Rattle.symbolic_plans.specs.OpenPlans.{OpenPlan, under_row, under_relabelling, turned_by, plans_alone, paired_plan, plans_joint}
use Rattle.symbolic_plans.specs.OpenPlans.{plan_by_hiding, plan_by_enabling, plan_by_disabling, plans_of_choice, plans_of_parallel}
use Rattle.symbolic_plans.specs.OpenPlans.{plans_of_disable, plans_of_gates}
use Rattle.symbolic_reach.specs.Asking.{PlanAsks, binding_asks, term_asks, field_asks, exit_asks}
use Rattle.symbolic_reach.specs.Reached.{FieldAsks, ExitAsks, BindingAsks, ArgumentAsks, ReachesBelow}
use Rattle.expand.specs.Choosing.{IsChoice}
use Rattle.expand.specs.Outcomes.{AsksReached, IsReached}

some_of : {A : Type 0} (P Q : A → Type 0) (xs : List A) → ((x : A) → P x → Q x) → OneOf P xs → OneOf Q xs
some_of P Q [] h k = k
some_of P Q (x ∷ xs) h (inl k) = inl (h x k)
some_of P Q (x ∷ xs) h (inr k) = inr (some_of P Q xs h k)

only_if : {A : Type 0} (P : A → Type 0) (b : Bool) (x : A) → P x → Each P (if b then x ∷ [] else [])
only_if P true x h = (h, tt)
only_if P false x h = tt

either_of : {A : Type 0} (P : A → Type 0) (b : Bool) (x y : A) → P x → P y → P (if b then x else y)
either_of P true x y h k = h
either_of P false x y h k = k

each_made : {A B : Type 0} (P : B → Type 0) (b : Bool) (o : Option A) (f : A → B) → ((a : A) → P (f a)) →
    Each P (if b then from_option o (λ a. f a ∷ []) else [])
each_made P true None f h = tt
each_made P true (Some a) f h = (h a, tt)
each_made P false o f h = tt

-- the rule itself asks nothing
part_of : {A : Type 0} → ⊥ ⊎ A → A
part_of (inl h) = absurd h
part_of (inr h) = h

module _ (program : Program) (w : Windows) (n : ℕ) where
  abbrev Asked : MarkedAssignment → Behaviour → OpenPlan → Type 0
  Asked m b p = AsksReached program (IsReached program w n m b) m b p

  pub asked_inner : (m : MarkedAssignment) (b : Behaviour) (p : OpenPlan) → ((s : Assignment) (t : TermTree) → PlanAsks program p.plan s b t → ⊥) →
      Asked m b p
  asked_inner m b p none s t all k = absurd (none s t k)

  pub asked_action : (m : MarkedAssignment) (g : ℕ) (fields : List ActionField) (q : Option Premise) (b : Behaviour) (p : OpenPlan)
      (takes : List Bool) → p.plan ≡ prefix takes → Asked m (action g fields q b) p
  asked_action m g fields q b p takes is s t all k =
      inl (some_of (λ f. field_asks s f t) (FieldAsks program.theory m t) fields (one s t all)
      (subst (λ z. PlanAsks program z s (action g fields q b) t) is k))
    where
      one : (s : Assignment) (t : TermTree) → AllPlain m s → (f : ActionField) → field_asks s f t → FieldAsks program.theory m t f
      one s t all (give u) h = plain_instance program.theory m s all u ∙ ap plain (sym h)
      one s t all (accept y) h = absurd h

  pub asked_exit : (m : MarkedAssignment) (fields : List ExitValue) (p : OpenPlan) (takes : List Bool) → p.plan ≡ termination takes →
      Asked m (exit fields) p
  asked_exit m fields p takes is s t all k =
      some_of (λ f. exit_asks s f t) (ExitAsks program.theory m t) fields (one s t all)
      (subst (λ z. PlanAsks program z s (exit fields) t) is k)
    where
      one : (s : Assignment) (t : TermTree) → AllPlain m s → (f : ExitValue) → exit_asks s f t → ExitAsks program.theory m t f
      one s t all (exit_given u) h = plain_instance program.theory m s all u ∙ ap plain (sym h)
      one s t all (exit_any sort) h = absurd h

  pub asked_choice : (m : MarkedAssignment) (x y : Behaviour) (ps qs : List OpenPlan) → Each (Asked m x) ps → Each (Asked m y) qs →
      Each (Asked m (choice x y)) (plans_of_choice ps qs)
  asked_choice m x y ps qs h k =
      each_append (Asked m (choice x y)) (map (under_row Chl) ps) (map (under_row Chr) qs)
      (each_image (Asked m x) (Asked m (choice x y)) (under_row Chl) ps (λ p i s t all a. inl (i s t all (part_of a))) h)
      (each_image (Asked m y) (Asked m (choice x y)) (under_row Chr) qs (λ p i s t all a. inr (i s t all (part_of a))) k)

  pub asked_parallel : (m : MarkedAssignment) (gates : Synchronised) (x y : Behaviour) (ps qs : List OpenPlan) → Each (Asked m x) ps →
      Each (Asked m y) qs → Each (Asked m (parallel gates x y)) (plans_of_parallel program.theory gates ps qs)
  asked_parallel m gates x y ps qs h k =
      let b = parallel gates x y in
      let both_asked = λ (p q : OpenPlan) (i : Asked m x p) (j : Asked m y q) (fields : List OpenField) (s : Assignment) (t : TermTree)
      (all : AllPlain m s) (a : PlanAsks program (paired_plan p q fields).plan s b t). either_side p q i j s t all a in
      each_append (Asked m b) (flat_map (plans_alone gates Parl) ps)
      (flat_map (plans_alone gates Parr) qs ++ flat_map (λ p. flat_map (plans_joint program.theory gates p) qs) ps)
      (each_flat_map (Asked m x) (Asked m b) (plans_alone gates Parl) ps
      (λ p i. only_if (Asked m b) (is_alone gates p.kind) (under_row Parl p) (λ s t all a. inl (i s t all (part_of a)))) h)
      (each_append (Asked m b) (flat_map (plans_alone gates Parr) qs) (flat_map (λ p. flat_map (plans_joint program.theory gates p) qs) ps)
      (each_flat_map (Asked m y) (Asked m b) (plans_alone gates Parr) qs
      (λ p i. only_if (Asked m b) (is_alone gates p.kind) (under_row Parr p) (λ s t all a. inr (i s t all (part_of a)))) k)
      (each_flat_map (Asked m x) (Asked m b) (λ p. flat_map (plans_joint program.theory gates p) qs) ps
      (λ p i. each_flat_map (Asked m y) (Asked m b) (plans_joint program.theory gates p) qs
      (λ q j. each_made (Asked m b) (same_kind p.kind q.kind && is_joint gates p.kind) (all_together program.theory p.fields q.fields)
      (paired_plan p q) (both_asked p q i j)) k) h))
    where
      either_side : (p q : OpenPlan) → Asked m x p → Asked m y q → (s : Assignment) (t : TermTree) → AllPlain m s →
          PlanAsks program p.plan s x t ⊎ PlanAsks program q.plan s y t → IsReached program w n m (parallel gates x y) t
      either_side p q i j s t all (inl a) = inl (i s t all a)
      either_side p q i j s t all (inr a) = inr (j s t all a)

  pub asked_disable : (m : MarkedAssignment) (x y : Behaviour) (ps qs : List OpenPlan) → Each (Asked m x) ps → Each (Asked m y) qs →
      Each (Asked m (disable x y)) (plans_of_disable ps qs)
  asked_disable m x y ps qs h k =
      each_append (Asked m (disable x y)) (map plan_by_disabling ps) (map (under_row Distake) qs)
      (each_image (Asked m x) (Asked m (disable x y)) plan_by_disabling ps
      (λ p i. either_of (Asked m (disable x y)) (is_end p.kind) (under_row Disend p) (under_row Disstep p)
      (λ s t all a. inl (i s t all (part_of a))) (λ s t all a. inl (i s t all (part_of a)))) h)
      (each_image (Asked m y) (Asked m (disable x y)) (under_row Distake) qs (λ p i s t all a. inr (i s t all (part_of a))) k)

  pub asked_hide : (m : MarkedAssignment) (gates : List ℕ) (b : Behaviour) (ps : List OpenPlan) → Each (Asked m b) ps →
      Each (Asked m (hide gates b)) (map (plan_by_hiding gates) ps)
  asked_hide m gates b ps h =
      each_image (Asked m b) (Asked m (hide gates b)) (plan_by_hiding gates) ps
      (λ p i. either_of (Asked m (hide gates b)) (is_hidden gates p.kind) (turned_by hidden p) (under_row Pass p)
      (λ s t all a. i s t all a) (λ s t all a. i s t all (part_of a))) h

  pub asked_enable : (m : MarkedAssignment) (b : Behaviour) (xs : List Variable) (c : Behaviour) (ps : List OpenPlan) → Each (Asked m b) ps →
      Each (Asked m (enable b xs c)) (map plan_by_enabling ps)
  asked_enable m b xs c ps h =
      each_image (Asked m b) (Asked m (enable b xs c)) plan_by_enabling ps
      (λ p i. either_of (Asked m (enable b xs c)) (is_end p.kind) (turned_by handed_on p) (under_row Enstep p)
      (λ s t all a. i s t all a) (λ s t all a. i s t all (part_of a))) h

  pub asked_relabel : (m : MarkedAssignment) (pairs : List Relabelling) (b : Behaviour) (ps : List OpenPlan) → Each (Asked m b) ps →
      Each (Asked m (relabel pairs b)) (map (under_relabelling pairs) ps)
  asked_relabel m pairs b ps h =
      each_image (Asked m b) (Asked m (relabel pairs b)) (under_relabelling pairs) ps (λ p i s t all a. i s t all (part_of a)) h

  -- of a choice of one of these gates: a plan of the body with another gate
  asked_gate : (m : MarkedAssignment) (g i z : ℕ) (gates : List ℕ) (b : Behaviour) → (gates ≡ [] → ⊥) → (p : OpenPlan) → Asked m b p →
      Asked m (gate_choice g gates b) (under_row (Gate i) (under_relabelling (record { from = g; to = z } ∷ []) p))
  asked_gate m g i z gates b some p a s t all k = (some, a s t all (part_of (part_of k).4))

  -- the same for each gate of another list
  pub asked_gates : (m : MarkedAssignment) (g : ℕ) (gates : List ℕ) (b : Behaviour) → (gates ≡ [] → ⊥) → (i : ℕ) (hs : List ℕ)
      (ps : List OpenPlan) → Each (Asked m b) ps → Each (Asked m (gate_choice g gates b)) (plans_of_gates g i hs ps)
  asked_gates m g gates b some i [] ps h = tt
  asked_gates m g gates b some i (z ∷ hs) ps h =
      let pairs : List Relabelling = record { from = g; to = z } ∷ [] in
      each_append (Asked m (gate_choice g gates b)) (map (under_row (Gate i)) (map (under_relabelling pairs) ps))
      (plans_of_gates g (suc i) hs ps)
      (each_image (λ q. (p : OpenPlan) × (q ≡ under_relabelling pairs p) × Asked m b p) (Asked m (gate_choice g gates b)) (under_row (Gate i))
      (map (under_relabelling pairs) ps)
      (λ q a. subst (λ y. Asked m (gate_choice g gates b) (under_row (Gate i) y)) (sym a.1) (asked_gate m g i z gates b some a.0 a.2))
      (each_image (Asked m b) (λ q. (p : OpenPlan) × (q ≡ under_relabelling pairs p) × Asked m b p) (under_relabelling pairs) ps
      (λ p a. (p, refl, a)) h))
      (asked_gates m g gates b some (suc i) hs ps h)

  pub asked_guarded : (m : MarkedAssignment) (q : Premise) (b : Behaviour) (ps : List OpenPlan) → PremiseMayHold program.theory m q →
      Each (Asked m b) ps → Each (Asked m (guarded q b)) (map (under_row Guard) ps)
  asked_guarded m q b ps holds h =
      each_image (Asked m b) (Asked m (guarded q b)) (under_row Guard) ps (λ p i s t all a. inr (holds, i s t all (part_of a))) h

  pub asked_chosen : (m : MarkedAssignment) (x : Variable) (b : Behaviour) (slot : Slot) (k : MarkedTerm) (ps : List OpenPlan) →
      IsChoice program.theory w x.sort slot k → Each (Asked (with_marked x k m) b) ps →
      Each (Asked m (value_choice x b)) (map (under_row (Val slot)) ps)
  asked_chosen m x b slot k ps chosen h =
      each_image (Asked (with_marked x k m) b) (Asked m (value_choice x b)) (under_row (Val slot)) ps (by_slot slot chosen) h
    where
      by_slot : (slot : Slot) → IsChoice program.theory w x.sort slot k → (p : OpenPlan) → Asked (with_marked x k m) b p →
          Asked m (value_choice x b) (under_row (Val slot) p)
      by_slot (Of v) c p i s t all a =
          let read = values_are_read program.theory x.number v c.chooses.0 x.sort c.chooses.1 in (
            Of v,
            k,
            c.chooses,
            c.within,
            i (with_term x (term_spelled program.theory x.number v) s) t
                (with_one_plain program.theory m s all x k (term_spelled program.theory x.number v) (c.chooses.2 ∙ ap plain (sym read)))
                (part_of a),
          )
      by_slot Mark c p i s t all a = absurd (part_of a)
      by_slot Blank c p i s t all a = absurd (part_of a)

  module _ (executable : IsExecutable program.theory) where
    pub asked_bound : (m l : MarkedAssignment) (bindings : List Binding) (b : Behaviour) (ps : List OpenPlan) →
        BindingsMayHave program.theory m m bindings l → Each (Asked l b) ps →
        Each (Asked m (bound bindings b)) (map (under_row Let) ps)
    asked_bound m l bindings b ps has h =
        each_image (Asked l b) (Asked m (bound bindings b)) (under_row Let) ps (λ p i s t all a. by_case p i s t all a) h
      where
        by_case : (p : OpenPlan) → Asked l b p → (s : Assignment) (t : TermTree) → AllPlain m s →
            PlanAsks program (under_row Let p).plan s (bound bindings b) t → IsReached program w n m (bound bindings b) t
        by_case p i s t all (inl a) =
            inl (some_of (λ e. binding_asks s e t) (BindingAsks program.theory m t) bindings
            (λ e k. plain_instance program.theory m s all e.term ∙ ap plain (sym k)) a)
        by_case p i s t all (inr a) =
            let found = bindings_have program.theory executable.fits w m s all bindings m l s all has in
            let same = one_binding program.theory executable s bindings s a.0 found.0 a.1 found.1 in
            inr (l, has, i found.0 t found.2 (subst (λ (z : Assignment). PlanAsks program p.plan z b t) same a.2))

    pub asked_call : (m l : MarkedAssignment) (q : ℕ) (actual formal : List ℕ) (xs : List Variable) (terms : List TermTree)
        (body : Behaviour) (ps : List OpenPlan) → IsDefinition program q formal xs body →
        ArgumentsMayHave program.theory m unmarked xs terms l →
        Each (AsksReached program (ReachesBelow program w [] n l body) l body) ps →
        Each (Asked m (call q actual terms)) (map (under_row Call) (map (under_relabelling (pairs_of formal actual)) ps))
    asked_call m l q actual formal xs terms body ps definition has h =
        let pairs = pairs_of formal actual in
        let Below = λ (p : OpenPlan). AsksReached program (ReachesBelow program w [] n l body) l body p in
        each_image (λ z. (p : OpenPlan) × (z ≡ under_relabelling pairs p) × Below p) (Asked m (call q actual terms)) (under_row Call)
        (map (under_relabelling pairs) ps)
        (λ z a. subst (λ y. Asked m (call q actual terms) (under_row Call y)) (sym a.1) (λ s t all k. by_case a.0 a.2 s t all k))
        (each_image Below (λ z. (p : OpenPlan) × (z ≡ under_relabelling pairs p) × Below p) (under_relabelling pairs) ps
        (λ p a. (p, refl, a)) h)
      where
        by_case : (p : OpenPlan) → AsksReached program (ReachesBelow program w [] n l body) l body p → (s : Assignment) (t : TermTree) →
            AllPlain m s → PlanAsks program (under_row Call (under_relabelling (pairs_of formal actual) p)).plan s (call q actual terms) t →
            IsReached program w n m (call q actual terms) t
        by_case p i s t all (inl a) = (
          formal,
          xs,
          body,
          definition,
          inl (some_of (λ e. term_asks s e t) (ArgumentAsks program.theory m t) terms
              (λ e k. plain_instance program.theory m s all e ∙ ap plain (sym k)) a),
        )
        by_case p i s t all (inr a) =
            let found = arguments_have program.theory executable.fits w m s all xs terms unmarked l variable (λ y. refl) has in
            let one = one_definition program q a.0 formal a.1 xs a.2 body a.4 definition in
            let argued = subst (λ (ys : List Variable). ArgumentsHave program.theory s variable ys terms a.3) one.1 a.5 in
            let same = one_argument program.theory executable s xs terms variable a.3 found.0 argued found.1 in
            let inside : PlanAsks program p.plan a.3 a.2 t = part_of a.6 in (
              formal,
              xs,
              body,
              definition,
              inr (
                l,
                has,
                i found.0 t found.2
                    (subst (λ (z : Assignment). PlanAsks program p.plan z body t) same
                    (subst (λ (c : Behaviour). PlanAsks program p.plan a.3 c t) one.2 inside)),
              ),
            )
