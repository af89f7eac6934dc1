-- Ways for one plan after another.
use Rattle.std.proofs.Common.{ℕ, ◌≡◌, inl, inr, List, [], ◌∷◌, ◌++◌, refl, sym, subst}
use Rattle.std.proofs.lemmas.List.{append-nil}
use Rattle.spec_core.specs.Code.{Program}
use Rattle.spec_core.specs.Lists.{Each, OneOf}
use Rattle.spec_core.specs.Terms.{TermTree}
use Rattle.spec_core.proofs.Lists.{each_append, each_implied}
use Rattle.spec_core.proofs.Members.{some_left, some_last}
use Rattle.rule_model.specs.Behaviours.{Behaviour}
use Rattle.rule_model.specs.Substitution.{Assignment}
use Rattle.symbolic_rules.specs.Windows.{Windows}
use Rattle.symbolic_rules.specs.MarkedTerms.{unmarked}
use Rattle.symbolic_plans.specs.OpenPlans.{OpenPlan}
use Rattle.symbolic_reach.specs.Asking.{PlanAsks}
use Rattle.symbolic_reach.specs.Reached.{Reaches}
use Rattle.node_values.specs.declared.stop.Stop.{Stop}
use Rattle.node_values.specs.Stops.{Stops, Never}
use Rattle.node_values.proofs.Stopping.{stops_on}
use Rattle.node_trees.specs.Rests.{Way, Fills, IsWayOf}
use Rattle.node_steps.specs.Blanks.{blank_tree, DoesNothingBy}
use Rattle.node_steps.proofs.Filling.{trees_fill_blanks}
use Rattle.expand.specs.Expansions.{AskReached, IsStop, IsTooWideFor}
use Rattle.node_work.specs.Ways.{HasWays, PlansAsk, AddsWay}

-- of one of the elements all of this holds
pub of_one : {A : Type 0} (P : A → TermTree → Type 0) (R : TermTree → Type 0) (xs : List A) (t : TermTree) →
    Each (λ x. (u : TermTree) → P x u → R u) xs → OneOf (λ x. P x t) xs → R t
of_one P R [] t h k = absurd k
of_one P R (x ∷ xs) t h (inl k) = h.0 t k
of_one P R (x ∷ xs) t h (inr k) = of_one P R xs t h.1 k

module _ (program : Program) (b : Behaviour) where
  -- a plan by whose trees nothing is done, and one with a way
  pub no_way : (p : OpenPlan) (ways : List Way) → DoesNothingBy program b p.plan → AddsWay program b p ways ways
  no_way p ways none = record {
    added = ([], sym (append-nil ways), tt);
    complete = λ w slots d a c among given derives. absurd (none w slots d a c among derives);
  }

  pub one_way : (p : OpenPlan) (ways all : List Way) (way : Way) → all ≡ ways ++ way ∷ [] → IsWayOf program b way →
      way.rules ≡ blank_tree p.plan → AddsWay program b p ways all
  one_way p ways all way is one rules =
      subst (AddsWay program b p ways) (sym is)
      (record {
        added = (way ∷ [], refl, (one, tt));
        complete = λ w slots d a c among given derives.
            some_last (λ v. Fills v.rules d) ways way
            (subst (λ z. Fills z d) (sym rules) (trees_fill_blanks program.theory w p.plan slots d among given));
      })

  -- the ways are ways, and those of these plans are among them
  pub more_ways : (p : OpenPlan) (ways all : List Way) → AddsWay program b p ways all → Each (IsWayOf program b) ways →
      Each (IsWayOf program b) all
  more_ways p ways all h before =
      subst (Each (IsWayOf program b)) (sym h.added.1)
      (each_append (IsWayOf program b) ways h.added.0 before h.added.2)

  pub still_has : {A : Type 0} (f : A → OpenPlan) (xs : List A) (p : OpenPlan) (ways all : List Way) → AddsWay program b p ways all →
      Each (λ x. HasWays program b ways (f x)) xs → Each (λ x. HasWays program b all (f x)) xs
  still_has f xs p ways all h before =
      each_implied (λ x. HasWays program b ways (f x)) (λ x. HasWays program b all (f x)) xs
      (λ x k w slots d a c among given derives.
      subst (OneOf (λ v. Fills v.rules d)) (sym h.added.1)
      (some_left (λ v. Fills v.rules d) ways h.added.0 (k w slots d a c among given derives))) before

-- a stop of a way is one of the expansion: what is asked along the trees of the plans is reached
pub way_stops : (program : Program) (w : Windows) (budget : ℕ) (s : Assignment) (code closed : Behaviour) (ps : List OpenPlan)
    (stop : Stop) → AskReached program w s code closed ps → Stops program.theory budget (PlansAsk program s code ps) Never stop →
    IsStop program w closed budget stop
way_stops program w budget s code closed ps stop asked h =
    stops_on program.theory budget (PlansAsk program s code ps) (λ t. Reaches program w [] unmarked closed t) Never
    (IsTooWideFor program w closed) stop
    (λ t k. of_one (λ p u. PlanAsks program p.plan s code u) (λ u. Reaches program w [] unmarked closed u) ps t asked k)
    (λ n i. absurd i) h
