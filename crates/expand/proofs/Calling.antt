-- What comes of a call.
use Rattle.std.proofs.Common.{ℕ, zero, suc, ◌≡◌, ◌+◌, ◌<◌, inl, inr, List, [], map, sym, ap, subst, ◌∙◌, arith}
use Rattle.std.proofs.Common.{Option, Some, Result, Ok, Err}
use Rattle.std.specs.List.{slice_get}
use Rattle.spec_core.specs.Executable.{IsExecutable}
use Rattle.spec_core.specs.Lists.{Each, OneOf}
use Rattle.spec_core.specs.Terms.{TermTree}
use Rattle.spec_core.specs.Code.{Program, Variable, process}
use Rattle.spec_core.specs.Ready.{IsReady}
use Rattle.rule_model.specs.Actions.{pairs_of}
use Rattle.rule_model.specs.Behaviours.{Behaviour, call}
use Rattle.rule_model.specs.Code.{IsDefinition}
use Rattle.rule_origins.specs.Parts.{behaviour_at}
use Rattle.rule_origins.proofs.Standing.{behaviours_stand}
use Rattle.symbolic_rules.specs.Windows.{Windows}
use Rattle.symbolic_rules.specs.MarkedTerms.{MarkedAssignment, unmarked}
use Rattle.symbolic_rules.specs.MarkedFields.{ArgumentsMayHave}
use Rattle.symbolic_composites.specs.Evaluations.{Definition, Evaluation, IsExact, with_arguments}
use Rattle.symbolic_composites.specs.Composites.{from_option}
use Rattle.symbolic_composites.proofs.Exact.{arguments_are}
use Rattle.symbolic_plans.specs.declared.scheme.Row.TheVariants.{Call}
use Rattle.symbolic_plans.specs.OpenPlans.{OpenPlan, under_row, under_relabelling}
use Rattle.symbolic_plans.specs.OwnPlans.{own_plans_below}
use Rattle.symbolic_reach.specs.Reached.{ArgumentAsks, ReachesBelow}
use Rattle.symbolic_reach.specs.Spread.{number_of, spread_below}
use Rattle.node_values.specs.declared.stop.Stop.{Stop}
use Rattle.node_values.specs.declared.stop.Stop.TheVariants.{Spent, TooLarge, Wide, Memory}
use Rattle.node_values.specs.Stops.{Stops, Never}
use Rattle.node_values.proofs.Stopping.{stops_on}
use Rattle.expand.specs.declared.outcome.Expanded.{Expanded}
use Rattle.expand.specs.Outcomes.{plans_in, AsksReached, spread_with, IsReached, IsTooWide, Stopped, Outcome, BelowOutcome}
use Rattle.expand.specs.Joins.{OnlyWide, Sized, Turns}
use Rattle.expand.proofs.Answers.{none_of, arguments_arent}
use Rattle.expand.proofs.Asking.{asked_call}
use Rattle.expand.proofs.Rows.{sized_comes, wide_above}

-- the body of a process stands at its number
pub is_definition : (program : Program) → IsReady program → (p : ℕ) (formal : List ℕ) (xs : List Variable) (body : ℕ) →
    slice_get program.code p ≡ Some (process formal xs body) → IsDefinition program p formal xs (behaviour_at program body)
is_definition program ready p formal xs body here = record {
  part = body;
  defines = here;
  stands = behaviours_stand program ready body (ready.parts p (process formal xs body) here).names.0;
}

module _ (program : Program) (w : Windows) (budget : ℕ) where
  -- the plans below a call, and their spread
  record IsBelow (n : ℕ) (l : MarkedAssignment) (b : Behaviour) (ps : List OpenPlan) (k : ℕ) : Type 0 where
    plans : (e : Evaluation) → IsExact program e → ps ≡ own_plans_below program.theory e w n l b
    spread : (e : Evaluation) → IsExact program e → k ≡ spread_below program.theory e w n l b
    asked : Each (AsksReached program (ReachesBelow program w [] n l b) l b) ps

  is_below : (n : ℕ) (l : MarkedAssignment) (b : Behaviour) (x : Expanded) → BelowOutcome program w n budget l b (Ok x) →
      IsBelow n l b (plans_in x) x.spread
  is_below zero l b x h = record {
    plans = λ e q. h.0;
    spread = λ e q. h.1;
    asked = subst (λ z. Each (AsksReached program (ReachesBelow program w [] zero l b) l b) z) (sym h.0) tt;
  }
  is_below (suc n) l b x h = record { plans = h.plans; spread = h.spread; asked = h.asked }

  below_stops : (n : ℕ) (l : MarkedAssignment) (b : Behaviour) (s : Stop) → BelowOutcome program w n budget l b (Err s) →
      Stops program.theory budget (ReachesBelow program w [] n l b)
      (λ k. (k ≡ 65537) × ((e : Evaluation) → IsExact program e → 65536 < spread_below program.theory e w n l b)) s
  below_stops zero l b s h =
      stops_on program.theory budget (λ t. ⊥) (λ t. ⊥) (λ k. ⊥)
      (λ k. (k ≡ 65537) × ((e : Evaluation) → IsExact program e → 65536 < 0)) s (λ t z. z) (λ k z. absurd z) h
  below_stops (suc n) l b s h = h

  pub nothing_below : (l : MarkedAssignment) (b : Behaviour) (r : Result Expanded Stop) → Sized [] 0 r →
      BelowOutcome program w zero budget l b r
  nothing_below l b (Ok x) h = h
  nothing_below l b (Err s) h = by_stop s h
    where
      by_stop : (s : Stop) → OnlyWide 0 s → Stops program.theory budget (λ t. ⊥) (λ k. ⊥) s
      by_stop (Spent t) h = absurd h
      by_stop (TooLarge t) h = absurd h
      by_stop (Wide j) h = absurd (omega (arith, h.1))
      by_stop Memory h = record { spent = tt; too_large = tt; wide = tt }

  module _ (n : ℕ) (m l : MarkedAssignment) (p : ℕ) (actual formal : List ℕ) (xs : List Variable) (terms : List TermTree) (body : Behaviour)
      (definition : IsDefinition program p formal xs body) (has : ArgumentsMayHave program.theory m unmarked xs terms l)
      (executable : IsExecutable program.theory) where
    abbrev found : Definition
    found = record { gates = formal; variables = xs; body = body }

    abbrev made_by : Evaluation → Definition → Option MarkedAssignment → List OpenPlan
    made_by e d o =
        from_option o
        (λ j. map (under_row Call) (map (under_relabelling (pairs_of d.gates actual)) (own_plans_below program.theory e w n j d.body)))

    abbrev counted_by : Evaluation → Definition → Option MarkedAssignment → ℕ
    counted_by e d o = number_of o (λ j. 1 + spread_below program.theory e w n j d.body)

    count_is : (e : Evaluation) → IsExact program e →
        spread_with program w n e m (call p actual terms) ≡ 1 + (1 + spread_below program.theory e w n l body)
    count_is e q =
        ap (λ z. 1 + number_of z (λ d. counted_by e d (with_arguments program.theory e m unmarked d.variables terms)))
        ((q.definition p found).0 definition)
        ∙ ap (λ z. 1 + counted_by e found z) (arguments_are program e q m unmarked l xs terms has)

    comes_of : (ps : List OpenPlan) (k : ℕ) (relabelled r : Result Expanded Stop) → IsBelow n l body ps k →
        Sized (map (under_relabelling (pairs_of formal actual)) ps) (1 + k) relabelled →
        Turns (map (under_row Call)) (λ j. 1 + j) relabelled r →
        Outcome program w n budget m (call p actual terms) r
    comes_of ps k (Ok y) r below h turns =
        sized_comes program w n budget m (call p actual terms) (map (under_row Call) (plans_in y)) (1 + y.spread) r turns
        (record {
          plans = λ e q.
              ap (map (under_row Call)) (h.0 ∙ ap (map (under_relabelling (pairs_of formal actual))) (below.plans e q))
              ∙ sym (ap (λ z. from_option z (λ d. made_by e d (with_arguments program.theory e m unmarked d.variables terms)))
              ((q.definition p found).0 definition)
              ∙ ap (made_by e found) (arguments_are program e q m unmarked l xs terms has));
          spread = λ e q. ap (λ z. 1 + z) (h.1 ∙ ap (λ z. 1 + z) (below.spread e q)) ∙ sym (count_is e q);
          asked =
              subst (λ z. Each (AsksReached program (IsReached program w n m (call p actual terms)) m (call p actual terms))
              (map (under_row Call) z)) (sym h.0)
              (asked_call program w n executable m l p actual formal xs terms body ps definition has below.asked);
        })
    comes_of ps k (Err s) (Ok z) below h turns = absurd turns
    comes_of ps k (Err s) (Err t) below h turns =
        subst (Stopped program w n budget m (call p actual terms)) (sym turns)
        (wide_above program w n budget m (call p actual terms) (1 + k) s h
        (λ e q.
        let a : k ≡ spread_below program.theory e w n l body = below.spread e q in
        let c : spread_with program w n e m (call p actual terms) ≡ 1 + (1 + spread_below program.theory e w n l body) = count_is e q in
        omega arith))

    pub call_comes : (part relabelled r : Result Expanded Stop) → BelowOutcome program w n budget l body part →
        Turns (map (under_relabelling (pairs_of formal actual))) (λ j. 1 + j) part relabelled →
        Turns (map (under_row Call)) (λ j. 1 + j) relabelled r → Outcome program w n budget m (call p actual terms) r
    call_comes (Ok x) relabelled r below h turns = comes_of (plans_in x) x.spread relabelled r (is_below n l body x below) h turns
    call_comes (Err s) (Ok y) r below h turns = absurd h
    call_comes (Err s) (Err t) (Ok z) below h turns = absurd turns
    call_comes (Err s) (Err t) (Err u) below h turns =
        subst (Stopped program w n budget m (call p actual terms)) (sym (turns ∙ h))
        (stops_on program.theory budget (ReachesBelow program w [] n l body) (IsReached program w n m (call p actual terms))
        (λ k. (k ≡ 65537) × ((e : Evaluation) → IsExact program e → 65536 < spread_below program.theory e w n l body))
        (IsTooWide program w n m (call p actual terms)) s (λ x z. (formal, xs, body, definition, inr (l, has, z)))
        (λ k z. (
          z.0,
          λ e q.
              let a : 65536 < spread_below program.theory e w n l body = z.1 e q in
              let c : spread_with program w n e m (call p actual terms) ≡ 1 + (1 + spread_below program.theory e w n l body) = count_is e q in
              omega arith,
        ))
        (below_stops n l body s below))

  pub no_arguments_come : (n : ℕ) (m : MarkedAssignment) (p : ℕ) (actual formal : List ℕ) (xs : List Variable) (terms : List TermTree)
      (body : Behaviour) (r : Result Expanded Stop) → IsDefinition program p formal xs body →
      ((l : MarkedAssignment) → ArgumentsMayHave program.theory m unmarked xs terms l → ⊥) → Sized [] 1 r →
      Outcome program w n budget m (call p actual terms) r
  no_arguments_come n m p actual formal xs terms body r definition none h =
      let d : Definition = record { gates = formal; variables = xs; body = body } in
      sized_comes program w n budget m (call p actual terms) [] 1 r h
      (record {
        plans = λ e q.
            sym (ap (λ z. from_option z (λ d. from_option (with_arguments program.theory e m unmarked d.variables terms)
            (λ j. map (under_row Call) (map (under_relabelling (pairs_of d.gates actual)) (own_plans_below program.theory e w n j d.body)))))
            ((q.definition p d).0 definition)
            ∙ ap (λ z. from_option z
            (λ j. map (under_row Call) (map (under_relabelling (pairs_of formal actual)) (own_plans_below program.theory e w n j body))))
            (arguments_arent program e q m unmarked xs terms none));
        spread = λ e q.
            sym (ap (λ z. 1 + number_of z (λ d. number_of (with_arguments program.theory e m unmarked d.variables terms)
            (λ j. 1 + spread_below program.theory e w n j d.body)))
            ((q.definition p d).0 definition)
            ∙ ap (λ z. 1 + number_of z (λ j. 1 + spread_below program.theory e w n j body))
            (arguments_arent program e q m unmarked xs terms none));
        asked = tt;
      })

  pub argument_stops : (n : ℕ) (m : MarkedAssignment) (p : ℕ) (actual formal : List ℕ) (xs : List Variable) (terms : List TermTree)
      (body : Behaviour) (s : Stop) → IsDefinition program p formal xs body →
      Stops program.theory budget (λ t. OneOf (ArgumentAsks program.theory m t) terms) Never s →
      Stopped program w n budget m (call p actual terms) s
  argument_stops n m p actual formal xs terms body s definition h =
      stops_on program.theory budget (λ t. OneOf (ArgumentAsks program.theory m t) terms)
      (IsReached program w n m (call p actual terms)) Never
      (IsTooWide program w n m (call p actual terms)) s (λ t z. (formal, xs, body, definition, inl z)) (λ k q. absurd q) h

  pub no_definition_comes : (n : ℕ) (m : MarkedAssignment) (p : ℕ) (actual : List ℕ) (terms : List TermTree) (r : Result Expanded Stop) →
      ((formal : List ℕ) (xs : List Variable) (body : ℕ) → slice_get program.code p ≡ Some (process formal xs body) → ⊥) → Sized [] 1 r →
      Outcome program w n budget m (call p actual terms) r
  no_definition_comes n m p actual terms r none h =
      let gone = λ (e : Evaluation) (q : IsExact program e).
      none_of (e.definition p) (λ d k.
      let is = (q.definition p d).1 k in
      none d.gates d.variables is.part is.defines) in
      sized_comes program w n budget m (call p actual terms) [] 1 r h
      (record {
        plans = λ e q.
            sym (ap (λ z. from_option z (λ d. from_option (with_arguments program.theory e m unmarked d.variables terms)
            (λ j. map (under_row Call) (map (under_relabelling (pairs_of d.gates actual)) (own_plans_below program.theory e w n j d.body)))))
            (gone e q));
        spread = λ e q.
            sym (ap (λ z. 1 + number_of z (λ d. number_of (with_arguments program.theory e m unmarked d.variables terms)
            (λ j. 1 + spread_below program.theory e w n j d.body))) (gone e q));
        asked = tt;
      })
