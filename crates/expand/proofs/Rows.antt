-- What comes of a construct, from what comes of its parts.
use Rattle.std.proofs.Common.{ℕ, ◌≡◌, ◌+◌, ◌*◌, ◌<◌, ◌≤◌, inl, inr, List, [], ◌∷◌, length, map}
use Rattle.std.proofs.Common.{refl, sym, ap, subst, ◌∙◌, arith, Option, if◌then◌else◌, Result, Ok, Err}
use Rattle.spec_core.specs.Executable.{IsExecutable}
use Rattle.spec_core.specs.Lists.{Each, OneOf}
use Rattle.spec_core.specs.Terms.{TermTree}
use Rattle.spec_core.specs.Theories.{Premise}
use Rattle.spec_core.specs.Code.{Program, Variable, Binding, Relabelling, ExitValue, ActionField, Synchronised}
use Rattle.rule_model.specs.Actions.{inside, ends, at_gate}
use Rattle.rule_model.specs.Behaviours.{Behaviour, stop, exit, inner, action, choice, guarded, bound, gate_choice, parallel}
use Rattle.rule_model.specs.Behaviours.{hide, enable, disable, relabel}
use Rattle.symbolic_rules.specs.Windows.{Windows}
use Rattle.symbolic_rules.specs.MarkedTerms.{MarkedAssignment, PremiseMayHold}
use Rattle.symbolic_rules.specs.MarkedFields.{BindingsMayHave}
use Rattle.symbolic_composites.specs.Evaluations.{Evaluation, IsExact}
use Rattle.symbolic_composites.specs.OpenFields.{OpenField}
use Rattle.symbolic_composites.specs.Composites.{from_option}
use Rattle.symbolic_composites.proofs.Exact.{premise_is, bindings_are}
use Rattle.symbolic_plans.specs.declared.scheme.Row.TheVariants.{Guard, Let}
use Rattle.symbolic_plans.specs.Plans.{prefix, internal, termination}
use Rattle.symbolic_plans.specs.OpenPlans.{OpenPlan, under_row, under_relabelling, plan_by_hiding, plan_by_enabling, plans_of_choice}
use Rattle.symbolic_plans.specs.OpenPlans.{plans_of_parallel, plans_of_disable, plans_of_gates}
use Rattle.symbolic_plans.specs.OwnPlans.{takes_value, takes_any}
use Rattle.symbolic_reach.specs.Reached.{PremiseAsks, FieldAsks, ExitAsks, BindingAsks}
use Rattle.symbolic_reach.specs.Spread.{number_of}
use Rattle.node_values.specs.declared.stop.Stop.{Stop}
use Rattle.node_values.specs.declared.stop.Stop.TheVariants.{Spent, TooLarge, Wide, Memory}
use Rattle.node_values.specs.Stops.{Stops, Never}
use Rattle.node_values.specs.Found.{FieldsOpen, ExitOpen}
use Rattle.node_values.proofs.Stopping.{stops_on}
use Rattle.expand.specs.declared.outcome.Expanded.{Expanded}
use Rattle.expand.specs.Outcomes.{plans_in, AsksReached, plans_with, spread_with, Expands, IsReached, IsTooWide, Stopped, Outcome}
use Rattle.expand.specs.Joins.{OnlyWide, Sized, HandedOn, Turns, Joins}
use Rattle.expand.proofs.Asking.{asked_inner, asked_action, asked_exit, asked_choice, asked_parallel, asked_disable, asked_hide}
use Rattle.expand.proofs.Asking.{asked_enable, asked_relabel, asked_gates, asked_guarded, asked_bound}
use Rattle.expand.proofs.Answers.{premise_isnt, bindings_arent, fields_are, fields_arent, exit_is, exit_isnt}

module _ (program : Program) (w : Windows) (n : ℕ) (budget : ℕ) where
  abbrev Of : Evaluation → MarkedAssignment → Behaviour → List OpenPlan
  Of e m b = plans_with program w n e m b

  abbrev Count : Evaluation → MarkedAssignment → Behaviour → ℕ
  Count e m b = spread_with program w n e m b

  abbrev Is : MarkedAssignment → Behaviour → List OpenPlan → ℕ → Type 0
  Is m b ps k = Expands program w n m b ps k

  abbrev Comes : MarkedAssignment → Behaviour → Result Expanded Stop → Type 0
  Comes m b r = Outcome program w n budget m b r

  -- a stop that says no more than that a spread is too wide
  wide_stops : (m : MarkedAssignment) (b : Behaviour) (k : ℕ) (s : Stop) → OnlyWide k s →
      ((e : Evaluation) → IsExact program e → k ≡ Count e m b) → Stopped program w n budget m b s
  wide_stops m b k (Spent t) h is = absurd h
  wide_stops m b k (TooLarge t) h is = absurd h
  wide_stops m b k (Wide j) h is =
      record { spent = tt; too_large = tt; wide = (h.0, λ e q. subst (λ z. 65536 < z) (is e q) h.1) }
  wide_stops m b k Memory h is = record { spent = tt; too_large = tt; wide = tt }

  -- the same where the spread is only known to be no less
  pub wide_above : (m : MarkedAssignment) (b : Behaviour) (k : ℕ) (s : Stop) → OnlyWide k s →
      ((e : Evaluation) → IsExact program e → k ≤ Count e m b) → Stopped program w n budget m b s
  wide_above m b k (Spent t) h is = absurd h
  wide_above m b k (TooLarge t) h is = absurd h
  wide_above m b k (Wide j) h is =
      record {
        spent = tt;
        too_large = tt;
        wide = (h.0, λ e q. let a : 65536 < k = h.1 in let c : k ≤ Count e m b = is e q in omega arith);
      }
  wide_above m b k Memory h is = record { spent = tt; too_large = tt; wide = tt }

  pub sized_comes : (m : MarkedAssignment) (b : Behaviour) (ps : List OpenPlan) (k : ℕ) (r : Result Expanded Stop) → Sized ps k r →
      Is m b ps k → Comes m b r
  sized_comes m b ps k (Ok x) h is =
      record {
        plans = λ e q. h.0 ∙ is.plans e q;
        spread = λ e q. h.1 ∙ is.spread e q;
        asked = subst (λ z. Each (AsksReached program (IsReached program w n m b) m b) z) (sym h.0) is.asked;
      }
  sized_comes m b ps k (Err s) h is = wide_stops m b k s h is.spread

  pub part_stops : (m : MarkedAssignment) (b : Behaviour) (l : MarkedAssignment) (c : Behaviour) (s : Stop) →
      ((t : TermTree) → IsReached program w n m b t → IsReached program w n l c t) →
      ((e : Evaluation) → IsExact program e → Count e m b ≤ Count e l c) → Stopped program w n budget m b s →
      Stopped program w n budget l c s
  part_stops m b l c s reach wider h =
      stops_on program.theory budget (IsReached program w n m b) (IsReached program w n l c) (IsTooWide program w n m b)
      (IsTooWide program w n l c) s reach
      (λ k q. (q.0, λ e x. let a : 65536 < Count e m b = q.1 e x in let d : Count e m b ≤ Count e l c = wider e x in omega arith)) h

  handed_comes : (l : MarkedAssignment) (c : Behaviour) (s : Stop) (r : Result Expanded Stop) → HandedOn s r →
      Stopped program w n budget l c s → Comes l c r
  handed_comes l c s (Ok x) h k = absurd h
  handed_comes l c s (Err t) h k = subst (Stopped program w n budget l c) (sym h) k

  -- of one part
  pub turned : (m : MarkedAssignment) (b : Behaviour) (l : MarkedAssignment) (c : Behaviour) (f : List OpenPlan → List OpenPlan)
      (g : ℕ → ℕ) (part r : Result Expanded Stop) → Turns f g part r → Comes m b part →
      ((ps : List OpenPlan) (k : ℕ) → Is m b ps k → Is l c (f ps) (g k)) →
      ((t : TermTree) → IsReached program w n m b t → IsReached program w n l c t) →
      ((e : Evaluation) → IsExact program e → Count e m b ≤ Count e l c) → Comes l c r
  turned m b l c f g (Ok x) r h o make reach wider =
      sized_comes l c (f (plans_in x)) (g x.spread) r h (make (plans_in x) x.spread o)
  turned m b l c f g (Err s) r h o make reach wider = handed_comes l c s r h (part_stops m b l c s reach wider o)

  -- of two parts
  joined : (m : MarkedAssignment) (x y c : Behaviour) (f : List OpenPlan → List OpenPlan → List OpenPlan)
      (left right r : Result Expanded Stop) → Joins f left right r → Comes m x left → Comes m y right →
      ((ps qs : List OpenPlan) (j k : ℕ) → Is m x ps j → Is m y qs k → Is m c (f ps qs) (1 + (j + k))) →
      ((t : TermTree) → IsReached program w n m x t → IsReached program w n m c t) →
      ((t : TermTree) → IsReached program w n m y t → IsReached program w n m c t) →
      ((e : Evaluation) → IsExact program e → Count e m x ≤ Count e m c) →
      ((e : Evaluation) → IsExact program e → Count e m y ≤ Count e m c) → Comes m c r
  joined m x y c f (Ok u) (Ok v) r h a b make reach_left reach_right wider_left wider_right =
      sized_comes m c (f (plans_in u) (plans_in v)) (1 + (u.spread + v.spread)) r h (make (plans_in u) (plans_in v) u.spread v.spread a b)
  joined m x y c f (Ok u) (Err s) r h a b make reach_left reach_right wider_left wider_right =
      handed_comes m c s r h (part_stops m y m c s reach_right wider_right b)
  joined m x y c f (Err s) right r h a b make reach_left reach_right wider_left wider_right =
      handed_comes m c s r h (part_stops m x m c s reach_left wider_left a)

  pub ended_comes : (m : MarkedAssignment) (r : Result Expanded Stop) → Sized [] 0 r → Comes m stop r
  ended_comes m r h = sized_comes m stop [] 0 r h (record { plans = λ e q. refl; spread = λ e q. refl; asked = tt })

  pub inner_comes : (m : MarkedAssignment) (b : Behaviour) (r : Result Expanded Stop) →
      Sized (record { kind = inside; fields = []; plan = internal } ∷ []) 1 r → Comes m (inner b) r
  inner_comes m b r h =
      sized_comes m (inner b) (record { kind = inside; fields = []; plan = internal } ∷ []) 1 r h
      (record {
        plans = λ e q. refl;
        spread = λ e q. refl;
        asked = (
          asked_inner program w n m (inner b) (record { kind = inside; fields = []; plan = internal }) (λ s t k. k),
          tt,
        );
      })

  pub action_comes : (m : MarkedAssignment) (g : ℕ) (fields : List ActionField) (p : Option Premise) (b : Behaviour) (fs : List OpenField)
      (r : Result Expanded Stop) → FieldsOpen program.theory m fields fs →
      Sized (record { kind = at_gate g; fields = fs; plan = prefix (map takes_value fields) } ∷ []) 1 r → Comes m (action g fields p b) r
  action_comes m g fields p b fs r opened h =
      sized_comes m (action g fields p b) (record { kind = at_gate g; fields = fs; plan = prefix (map takes_value fields) } ∷ []) 1 r h
      (record {
        plans = λ e q.
            sym (ap (λ z. from_option z (λ cs. record { kind = at_gate g; fields = cs; plan = prefix (map takes_value fields) } ∷ []))
            (fields_are program e q m fields fs opened));
        spread = λ e q. refl;
        asked = (
          asked_action program w n m g fields p b
              (record { kind = at_gate g; fields = fs; plan = prefix (map takes_value fields) }) (map takes_value fields) refl,
          tt,
        );
      })

  pub no_action_comes : (m : MarkedAssignment) (g : ℕ) (fields : List ActionField) (p : Option Premise) (b : Behaviour)
      (r : Result Expanded Stop) → ((cs : List OpenField) → FieldsOpen program.theory m fields cs → ⊥) → Sized [] 1 r →
      Comes m (action g fields p b) r
  no_action_comes m g fields p b r none h =
      sized_comes m (action g fields p b) [] 1 r h
      (record {
        plans = λ e q.
            sym (ap (λ z. from_option z (λ cs. record { kind = at_gate g; fields = cs; plan = prefix (map takes_value fields) } ∷ []))
            (fields_arent program e q m fields none));
        spread = λ e q. refl;
        asked = tt;
      })

  pub action_stops : (m : MarkedAssignment) (g : ℕ) (fields : List ActionField) (p : Option Premise) (b : Behaviour) (s : Stop) →
      Stops program.theory budget (λ t. OneOf (FieldAsks program.theory m t) fields) Never s →
      Stopped program w n budget m (action g fields p b) s
  action_stops m g fields p b s h =
      stops_on program.theory budget (λ t. OneOf (FieldAsks program.theory m t) fields)
      (IsReached program w n m (action g fields p b)) Never
      (IsTooWide program w n m (action g fields p b)) s (λ t k. inl k) (λ k q. absurd q) h

  pub exit_comes : (m : MarkedAssignment) (fields : List ExitValue) (fs : List OpenField) (r : Result Expanded Stop) →
      ExitOpen program.theory m fields fs →
      Sized (record { kind = ends; fields = fs; plan = termination (map takes_any fields) } ∷ []) 1 r → Comes m (exit fields) r
  exit_comes m fields fs r opened h =
      sized_comes m (exit fields) (record { kind = ends; fields = fs; plan = termination (map takes_any fields) } ∷ []) 1 r h
      (record {
        plans = λ e q.
            sym (ap (λ z. from_option z (λ cs. record { kind = ends; fields = cs; plan = termination (map takes_any fields) } ∷ []))
            (exit_is program e q m fields fs opened));
        spread = λ e q. refl;
        asked = (
          asked_exit program w n m fields (record { kind = ends; fields = fs; plan = termination (map takes_any fields) })
              (map takes_any fields) refl,
          tt,
        );
      })

  pub no_exit_comes : (m : MarkedAssignment) (fields : List ExitValue) (r : Result Expanded Stop) →
      ((cs : List OpenField) → ExitOpen program.theory m fields cs → ⊥) → Sized [] 1 r → Comes m (exit fields) r
  no_exit_comes m fields r none h =
      sized_comes m (exit fields) [] 1 r h
      (record {
        plans = λ e q.
            sym (ap (λ z. from_option z (λ cs. record { kind = ends; fields = cs; plan = termination (map takes_any fields) } ∷ []))
            (exit_isnt program e q m fields none));
        spread = λ e q. refl;
        asked = tt;
      })

  pub exit_stops : (m : MarkedAssignment) (fields : List ExitValue) (s : Stop) →
      Stops program.theory budget (λ t. OneOf (ExitAsks program.theory m t) fields) Never s →
      Stopped program w n budget m (exit fields) s
  exit_stops m fields s h =
      stops_on program.theory budget (λ t. OneOf (ExitAsks program.theory m t) fields) (IsReached program w n m (exit fields)) Never
      (IsTooWide program w n m (exit fields)) s (λ t k. k) (λ k q. absurd q) h

  pub choice_comes : (m : MarkedAssignment) (x y : Behaviour) (left right r : Result Expanded Stop) → Joins plans_of_choice left right r →
      Comes m x left → Comes m y right → Comes m (choice x y) r
  choice_comes m x y left right r h a b =
      joined m x y (choice x y) plans_of_choice left right r h a b
      (λ ps qs j k u v. record {
        plans = λ e q i. plans_of_choice (u.plans e q i) (v.plans e q i);
        spread = λ e q. ap (λ z. 1 + (z + k)) (u.spread e q) ∙ ap (λ z. 1 + (Count e m x + z)) (v.spread e q);
        asked = asked_choice program w n m x y ps qs u.asked v.asked;
      })
      (λ t z. inl z) (λ t z. inr z) (λ e q. omega arith) (λ e q. omega arith)

  pub parallel_comes : (m : MarkedAssignment) (gates : Synchronised) (x y : Behaviour) (left right r : Result Expanded Stop) →
      Joins (plans_of_parallel program.theory gates) left right r → Comes m x left → Comes m y right → Comes m (parallel gates x y) r
  parallel_comes m gates x y left right r h a b =
      joined m x y (parallel gates x y) (plans_of_parallel program.theory gates) left right r h a b
      (λ ps qs j k u v. record {
        plans = λ e q i. plans_of_parallel program.theory gates (u.plans e q i) (v.plans e q i);
        spread = λ e q. ap (λ z. 1 + (z + k)) (u.spread e q) ∙ ap (λ z. 1 + (Count e m x + z)) (v.spread e q);
        asked = asked_parallel program w n m gates x y ps qs u.asked v.asked;
      })
      (λ t z. inl z) (λ t z. inr z) (λ e q. omega arith) (λ e q. omega arith)

  pub disable_comes : (m : MarkedAssignment) (x y : Behaviour) (left right r : Result Expanded Stop) → Joins plans_of_disable left right r →
      Comes m x left → Comes m y right → Comes m (disable x y) r
  disable_comes m x y left right r h a b =
      joined m x y (disable x y) plans_of_disable left right r h a b
      (λ ps qs j k u v. record {
        plans = λ e q i. plans_of_disable (u.plans e q i) (v.plans e q i);
        spread = λ e q. ap (λ z. 1 + (z + k)) (u.spread e q) ∙ ap (λ z. 1 + (Count e m x + z)) (v.spread e q);
        asked = asked_disable program w n m x y ps qs u.asked v.asked;
      })
      (λ t z. inl z) (λ t z. inr z) (λ e q. omega arith) (λ e q. omega arith)

  pub hide_comes : (m : MarkedAssignment) (gates : List ℕ) (b : Behaviour) (part r : Result Expanded Stop) →
      Turns (map (plan_by_hiding gates)) (λ k. 1 + k) part r → Comes m b part → Comes m (hide gates b) r
  hide_comes m gates b part r h a =
      turned m b m (hide gates b) (map (plan_by_hiding gates)) (λ k. 1 + k) part r h a
      (λ ps k u. record {
        plans = λ e q. ap (map (plan_by_hiding gates)) (u.plans e q);
        spread = λ e q. ap (λ z. 1 + z) (u.spread e q);
        asked = asked_hide program w n m gates b ps u.asked;
      })
      (λ t z. z) (λ e q. omega arith)

  pub enable_comes : (m : MarkedAssignment) (b : Behaviour) (xs : List Variable) (c : Behaviour) (part r : Result Expanded Stop) →
      Turns (map plan_by_enabling) (λ k. 1 + k) part r → Comes m b part → Comes m (enable b xs c) r
  enable_comes m b xs c part r h a =
      turned m b m (enable b xs c) (map plan_by_enabling) (λ k. 1 + k) part r h a
      (λ ps k u. record {
        plans = λ e q. ap (map plan_by_enabling) (u.plans e q);
        spread = λ e q. ap (λ z. 1 + z) (u.spread e q);
        asked = asked_enable program w n m b xs c ps u.asked;
      })
      (λ t z. z) (λ e q. omega arith)

  pub relabel_comes : (m : MarkedAssignment) (pairs : List Relabelling) (b : Behaviour) (part r : Result Expanded Stop) →
      Turns (map (under_relabelling pairs)) (λ k. 1 + k) part r → Comes m b part → Comes m (relabel pairs b) r
  relabel_comes m pairs b part r h a =
      turned m b m (relabel pairs b) (map (under_relabelling pairs)) (λ k. 1 + k) part r h a
      (λ ps k u. record {
        plans = λ e q. ap (map (under_relabelling pairs)) (u.plans e q);
        spread = λ e q. ap (λ z. 1 + z) (u.spread e q);
        asked = asked_relabel program w n m pairs b ps u.asked;
      })
      (λ t z. z) (λ e q. omega arith)

  pub gates_come : (m : MarkedAssignment) (g h : ℕ) (gates : List ℕ) (b : Behaviour) (part r : Result Expanded Stop) →
      Turns (plans_of_gates g 1 (h ∷ gates)) (λ k. 1 + length (h ∷ gates) * (1 + k)) part r → Comes m b part →
      Comes m (gate_choice g (h ∷ gates) b) r
  gates_come m g h gates b part r made a =
      turned m b m (gate_choice g (h ∷ gates) b) (plans_of_gates g 1 (h ∷ gates)) (λ k. 1 + length (h ∷ gates) * (1 + k)) part r made a
      (λ ps k u. record {
        plans = λ e q. ap (plans_of_gates g 1 (h ∷ gates)) (u.plans e q);
        spread = λ e q. ap (λ z. 1 + length (h ∷ gates) * (1 + z)) (u.spread e q);
        asked = asked_gates program w n m g (h ∷ gates) b (λ none. let never : ⊥ = cc in never) 1 (h ∷ gates) ps u.asked;
      })
      (λ t z. (λ none. let never : ⊥ = cc in never, z)) (λ e q. omega arith)

  pub no_gates_come : (m : MarkedAssignment) (g : ℕ) (b : Behaviour) (r : Result Expanded Stop) → Sized [] 1 r →
      Comes m (gate_choice g [] b) r
  no_gates_come m g b r h =
      sized_comes m (gate_choice g [] b) [] 1 r h (record { plans = λ e q. refl; spread = λ e q. omega arith; asked = tt })

  pub guarded_comes : (m : MarkedAssignment) (p : Premise) (b : Behaviour) (part r : Result Expanded Stop) →
      PremiseMayHold program.theory m p → Turns (map (under_row Guard)) (λ k. 1 + k) part r → Comes m b part → Comes m (guarded p b) r
  guarded_comes m p b part r holds h a =
      turned m b m (guarded p b) (map (under_row Guard)) (λ k. 1 + k) part r h a
      (λ ps k u. record {
        plans = λ e q.
            ap (map (under_row Guard)) (u.plans e q)
            ∙ sym (ap (λ z. if z then map (under_row Guard) (Of e m b) else []) (premise_is program e q m p holds));
        spread = λ e q.
            ap (λ z. 1 + z) (u.spread e q) ∙ sym (ap (λ z. 1 + (if z then Count e m b else 0)) (premise_is program e q m p holds));
        asked = asked_guarded program w n m p b ps holds u.asked;
      })
      (λ t z. inr (holds, z))
      (λ e q. subst (λ z. Count e m b ≤ 1 + (if z then Count e m b else 0)) (sym (premise_is program e q m p holds)) (omega arith))

  pub failing_comes : (m : MarkedAssignment) (p : Premise) (b : Behaviour) (r : Result Expanded Stop) →
      (PremiseMayHold program.theory m p → ⊥) → Sized [] 1 r → Comes m (guarded p b) r
  failing_comes m p b r fails h =
      sized_comes m (guarded p b) [] 1 r h
      (record {
        plans = λ e q. sym (ap (λ z. if z then map (under_row Guard) (Of e m b) else []) (premise_isnt program e q m p fails));
        spread = λ e q. sym (ap (λ z. 1 + (if z then Count e m b else 0)) (premise_isnt program e q m p fails));
        asked = tt;
      })

  pub guard_stops : (m : MarkedAssignment) (p : Premise) (b : Behaviour) (s : Stop) →
      Stops program.theory budget (PremiseAsks program.theory m p) Never s → Stopped program w n budget m (guarded p b) s
  guard_stops m p b s h =
      stops_on program.theory budget (PremiseAsks program.theory m p) (IsReached program w n m (guarded p b)) Never
      (IsTooWide program w n m (guarded p b)) s (λ t k. inl k) (λ k q. absurd q) h

  pub bound_comes : IsExecutable program.theory → (m l : MarkedAssignment) (bindings : List Binding) (b : Behaviour)
      (part r : Result Expanded Stop) → BindingsMayHave program.theory m m bindings l → Turns (map (under_row Let)) (λ k. 1 + k) part r → Comes l b part →
      Comes m (bound bindings b) r
  bound_comes executable m l bindings b part r has h a =
      turned l b m (bound bindings b) (map (under_row Let)) (λ k. 1 + k) part r h a
      (λ ps k u. record {
        plans = λ e q.
            ap (map (under_row Let)) (u.plans e q)
            ∙ sym (ap (λ z. from_option z (λ j. map (under_row Let) (Of e j b))) (bindings_are program e q m m l bindings has));
        spread = λ e q.
            ap (λ z. 1 + z) (u.spread e q)
            ∙ sym (ap (λ z. 1 + number_of z (λ j. Count e j b)) (bindings_are program e q m m l bindings has));
        asked = asked_bound program w n executable m l bindings b ps has u.asked;
      })
      (λ t z. inr (l, has, z))
      (λ e q. subst (λ z. Count e l b ≤ 1 + number_of z (λ j. Count e j b)) (sym (bindings_are program e q m m l bindings has))
      (omega arith))

  pub unbound_comes : (m : MarkedAssignment) (bindings : List Binding) (b : Behaviour) (r : Result Expanded Stop) →
      ((l : MarkedAssignment) → BindingsMayHave program.theory m m bindings l → ⊥) → Sized [] 1 r → Comes m (bound bindings b) r
  unbound_comes m bindings b r none h =
      sized_comes m (bound bindings b) [] 1 r h
      (record {
        plans = λ e q.
            sym (ap (λ z. from_option z (λ j. map (under_row Let) (Of e j b))) (bindings_arent program e q m m bindings none));
        spread = λ e q. sym (ap (λ z. 1 + number_of z (λ j. Count e j b)) (bindings_arent program e q m m bindings none));
        asked = tt;
      })

  pub binding_stops : (m : MarkedAssignment) (bindings : List Binding) (b : Behaviour) (s : Stop) →
      Stops program.theory budget (λ t. OneOf (BindingAsks program.theory m t) bindings) Never s →
      Stopped program w n budget m (bound bindings b) s
  binding_stops m bindings b s h =
      stops_on program.theory budget (λ t. OneOf (BindingAsks program.theory m t) bindings)
      (IsReached program w n m (bound bindings b)) Never
      (IsTooWide program w n m (bound bindings b)) s (λ t k. inl k) (λ k q. absurd q) h
