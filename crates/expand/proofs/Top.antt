-- The expansion of code with values for its variables is that of the closed behaviour.
use Rattle.std.proofs.Common.{ℕ, zero, suc, ◌≡◌, ◌<◌, ◌≤◌, List, [], ◌∷◌, length, map, refl, sym, ap, subst, ◌∙◌, arith, Some, Ok, Err}
use Rattle.std.specs.List.{slice_get}
use Rattle.spec_core.specs.Terms.{TermTree}
use Rattle.spec_core.specs.Code.{Program, Relabelling}
use Rattle.spec_core.specs.Theories.{Theory}
use Rattle.spec_core.specs.Windows.{IsWindow}
use Rattle.spec_core.specs.declared.window.Window.{Window}
use Rattle.spec_core.proofs.Lists.{each_implied}
use Rattle.sort_windows.specs.Found.{AreBySorts}
use Rattle.rule_model.specs.Behaviours.{Behaviour}
use Rattle.rule_model.specs.Substitution.{put}
use Rattle.node_trees.specs.Origins.{relabelled_by}
use Rattle.node_trees.proofs.Tidying.{put_relabelled}
use Rattle.rule_origins.specs.Parts.{behaviour_at}
use Rattle.rule_origins.specs.Values.{assignment}
use Rattle.rule_origins.proofs.Reading.{values_close}
use Rattle.symbolic_rules.specs.Windows.{Windows, AreWindows}
use Rattle.symbolic_rules.specs.MarkedTerms.{MarkedAssignment, plain, unmarked}
use Rattle.symbolic_composites.specs.Evaluations.{Evaluation}
use Rattle.symbolic_plans.specs.OwnPlans.{own_plans}
use Rattle.symbolic_plans.proofs.Origins.{own_plans_of_origins}
use Rattle.symbolic_plans.specs.OpenPlans.{OpenPlan, open_plan_of}
use Rattle.symbolic_reach.specs.Asking.{PlanAsks}
use Rattle.symbolic_reach.specs.Reached.{Reaches, ReachesIn, ReachesBelow}
use Rattle.symbolic_reach.specs.Spread.{spread}
use Rattle.symbolic_reach.proofs.Reaching.{reached_of_origins}
use Rattle.symbolic_reach.proofs.Spreading.{spread_of_origins}
use Rattle.node_values.specs.declared.scope.Given.{Given}
use Rattle.node_values.specs.declared.stop.Stop.{Stop}
use Rattle.node_values.specs.Scopes.{marks_of, scope_over}
use Rattle.expand.specs.declared.outcome.Expanded.{Expanded}
use Rattle.node_values.proofs.Stopping.{stops_on}
use Rattle.expand.specs.Outcomes.{AsksReached, Expands, IsReached, IsTooWide, Stopped, Outcome}
use Rattle.symbolic_rules.specs.Tables.{windows_in, values_of, complete_of}
use Rattle.expand.specs.Expansions.{AskReached, IsExpansion, IsTooWideFor, IsStop, IsStopAt}
use Rattle.node_values.proofs.Scoping.{scope_known}

module _ (program : Program) (w : Windows) (values : List (ℕ × List ℕ)) (b : Behaviour) where
  abbrev closed : Behaviour
  closed = put (assignment program.theory values) b

  abbrev m : MarkedAssignment
  m = marks_of program.theory (scope_over values [])

  same : m ≡ (λ y. plain (assignment program.theory values y))
  same = λ i y. scope_known program.theory values y i

  spread_same : (e : Evaluation) →
      spread program.theory e w (length program.code) m b ≡ spread program.theory e w (length program.code) unmarked closed
  spread_same e =
      ap (λ z. spread program.theory e w (length program.code) z b) same
      ∙ sym (spread_of_origins program.theory e w (length program.code) (assignment program.theory values)
      (values_close program.theory values) b)

  pub is_expansion : (ps : List OpenPlan) (j : ℕ) → j ≤ 65536 → Expands program w (length program.code) m b ps j →
      IsExpansion program w closed ps
  is_expansion ps j few h = record {
    plans = λ e q.
        h.plans e q
        ∙ ap (λ z. own_plans program.theory e w (length program.code) z b) same
        ∙ sym (own_plans_of_origins program.theory e w (length program.code) (assignment program.theory values)
        (values_close program.theory values) b);
    narrow = λ e q. subst (λ z. z ≤ 65536) (h.spread e q ∙ spread_same e) few;
  }

  from_here : (t : TermTree) → ReachesIn program w [] (ReachesBelow program w [] (length program.code)) m b t →
      Reaches program w [] unmarked closed t
  from_here t h =
      (reached_of_origins program w [] (assignment program.theory values) (values_close program.theory values) b t).1
      (subst (λ z. Reaches program w [] z b t) same (length program.code, h))

  pub are_asked : (ps : List OpenPlan) (j : ℕ) → Expands program w (length program.code) m b ps j →
      AskReached program w (assignment program.theory values) b closed ps
  are_asked ps j h =
      each_implied (λ p. AsksReached program (IsReached program w (length program.code) m b) m b p)
      (λ p. (t : TermTree) → PlanAsks program p.plan (assignment program.theory values) b t → Reaches program w [] unmarked closed t) ps
      (λ p k t a. from_here t (k (assignment program.theory values) t (scope_known program.theory values) a)) h.asked

  too_wide : (j : ℕ) → IsTooWide program w (length program.code) m b j → IsTooWideFor program w closed j
  too_wide j h = record {
    above = omega (arith, h.0);
    below = omega (arith, h.0);
    spread_above = λ e q.
        let a : 65536 < spread program.theory e w (length program.code) m b = h.1 e q in
        subst (λ z. j ≤ z) (spread_same e) (omega (arith, h.0));
  }

  pub is_stop : (budget : ℕ) (s : Stop) → Stopped program w (length program.code) budget m b s → IsStop program w closed budget s
  is_stop budget s h =
      stops_on program.theory budget (λ t. IsReached program w (length program.code) m b t) (λ t. Reaches program w [] unmarked closed t)
      (λ j. IsTooWide program w (length program.code) m b j) (IsTooWideFor program w closed) s from_here too_wide h

-- a stop with windows of the first values of each sort
pub stops_at : (program : Program) (k : ℕ) (w : Windows) (b : Behaviour) (budget : ℕ) (s : Stop) → AreWindows program.theory k w →
    IsStop program w b budget s → IsStopAt program k b budget s
stops_at program k w b budget s windows h =
    stops_on program.theory budget (λ t. Reaches program w [] unmarked b t)
    (λ t. (v : Windows) × AreWindows program.theory k v × Reaches program v [] unmarked b t)
    (IsTooWideFor program w b) (λ n. (v : Windows) × AreWindows program.theory k v × IsTooWideFor program v b n) s
    (λ t r. (w, windows, r)) (λ n r. (w, windows, r)) h

item_at : {A : Type 0} (xs : List A) (i : ℕ) → i < length xs → (x : A) × (slice_get xs i ≡ Some x)
item_at [] i h = absurd (omega (arith, h))
item_at (x ∷ xs) zero h = (x, refl)
item_at (x ∷ xs) (suc i) h = item_at xs i (omega (arith, h))

-- windows in the order of the sorts are those of all sorts
pub table_windows : (theory : Theory) (k : ℕ) (table : List Window) → AreBySorts theory k table → length table ≡ length theory.sorts →
    AreWindows theory k (windows_in table)
table_windows theory k table rows long sort declared =
    let d : sort < length theory.sorts = declared in
    let there = item_at table sort (omega (arith, d, long)) in
    subst (λ o. IsWindow theory sort k (values_of o) (complete_of o)) (sym there.1) (rows sort there.0 there.1)

-- In this module: what was expanded is the code under a relabelling, with these windows, this scope and so many calls.
module _ (program : Program) (budget : ℕ) (w : Windows) (values : List (ℕ × List ℕ)) (pairs : List Relabelling) (node n : ℕ)
    (scope : List (ℕ × Given)) (calls : n ≡ length program.code) (known : scope ≡ scope_over values []) where
  abbrev source : Behaviour
  source = relabelled_by pairs (put (assignment program.theory values) (behaviour_at program node))

  pub source_expanded : (x : Expanded) → x.spread ≤ 65536 →
      Outcome program w n budget (marks_of program.theory scope) (relabelled_by pairs (behaviour_at program node)) (Ok x) →
      IsExpansion program w source (map open_plan_of x.composites.items)
  source_expanded x few h =
      subst (λ b. IsExpansion program w b (map open_plan_of x.composites.items))
      (put_relabelled (assignment program.theory values) pairs (behaviour_at program node))
      (is_expansion program w values (relabelled_by pairs (behaviour_at program node)) (map open_plan_of x.composites.items) x.spread few
      (subst (λ s. Expands program w (length program.code) (marks_of program.theory s)
      (relabelled_by pairs (behaviour_at program node)) (map open_plan_of x.composites.items) x.spread) known
      (subst (λ j. Expands program w j (marks_of program.theory scope)
      (relabelled_by pairs (behaviour_at program node)) (map open_plan_of x.composites.items) x.spread) calls h)))

  pub source_asked : (x : Expanded) →
      Outcome program w n budget (marks_of program.theory scope) (relabelled_by pairs (behaviour_at program node)) (Ok x) →
      AskReached program w (assignment program.theory values) (relabelled_by pairs (behaviour_at program node)) source
      (map open_plan_of x.composites.items)
  source_asked x h =
      let code = relabelled_by pairs (behaviour_at program node) in
      subst (λ b. AskReached program w (assignment program.theory values) code b (map open_plan_of x.composites.items))
      (put_relabelled (assignment program.theory values) pairs (behaviour_at program node))
      (are_asked program w values code (map open_plan_of x.composites.items) x.spread
      (subst (λ s. Expands program w (length program.code) (marks_of program.theory s) code (map open_plan_of x.composites.items) x.spread)
      known
      (subst (λ j. Expands program w j (marks_of program.theory scope) code (map open_plan_of x.composites.items) x.spread) calls h)))

  pub source_stops : (s : Stop) →
      Outcome program w n budget (marks_of program.theory scope) (relabelled_by pairs (behaviour_at program node)) (Err s) →
      IsStop program w source budget s
  source_stops s h =
      subst (λ b. IsStop program w b budget s)
      (put_relabelled (assignment program.theory values) pairs (behaviour_at program node))
      (is_stop program w values (relabelled_by pairs (behaviour_at program node)) budget s
      (subst (λ z. Stopped program w (length program.code) budget (marks_of program.theory z)
      (relabelled_by pairs (behaviour_at program node)) s) known
      (subst (λ j. Stopped program w j budget (marks_of program.theory scope)
      (relabelled_by pairs (behaviour_at program node)) s) calls h)))
