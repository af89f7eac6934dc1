-- The terms that are asked of a part are asked of the whole.
use Rattle.std.proofs.Common.{ℕ, ◌≡◌, inr, List, sym, subst, Option, Some, None, Result, IfErr}
use Rattle.std.proofs.lemmas.Result.{IfErr-weaker}
use Rattle.spec_core.specs.Terms.{TermTree}
use Rattle.spec_core.specs.Theories.{Theory}
use Rattle.spec_core.specs.Code.{Program}
use Rattle.rule_model.specs.Behaviours.{Behaviour}
use Rattle.rule_model.specs.Substitution.{Assignment}
use Rattle.rule_origins.specs.Values.{assignment}
use Rattle.symbolic_plans.specs.declared.scheme.Row.{Row}
use Rattle.symbolic_plans.specs.Plans.{Plan, below}
use Rattle.node_values.specs.declared.stop.Stop.{Stop}
use Rattle.node_values.specs.Stops.{Stops, Never}
use Rattle.node_values.proofs.Stopping.{stops_on}
use Rattle.node_steps.specs.Parts.{own_or}
use Rattle.node_steps.specs.declared.turn.Entered.{Entered}
use Rattle.symbolic_reach.specs.Asking.{PlanAsks}
use Rattle.node_steps.specs.Asking.{WithinAsks}
use Rattle.node_steps.specs.Frames.{standing}
use Rattle.node_steps.specs.Turns.{EntersOr}
use Rattle.node_steps.proofs.Keeping.{on_part}

-- where a stop names a term of which A holds, B holds of it, too
pub stops_more : {X : Type 0} (theory : Theory) (budget : ℕ) (A B : TermTree → Type 0) (r : Result X Stop) → ((x : TermTree) → A x → B x) →
    IfErr r (Stops theory budget A Never) → IfErr r (Stops theory budget B Never)
stops_more theory budget A B r more h =
    IfErr-weaker r (Stops theory budget A Never) (Stops theory budget B Never)
    (λ s k. stops_on theory budget A B Never Never s more (λ n i. i) k) h

module _ (program : Program) where
  asked_of : (p : Plan) (u t : Assignment) (q b : Behaviour) (x : TermTree) → u ≡ t → q ≡ b → PlanAsks program p t b x → PlanAsks program p u q x
  asked_of p u t q b x e f h =
      subst (λ (z : Behaviour). PlanAsks program p u z x) (sym f) (subst (λ (z : Assignment). PlanAsks program p z b x) (sym e) h)

  pub under_asks : (row : Row) (b : Behaviour) (values : List (ℕ × List ℕ)) (p : Plan) (o : Option Entered) (x : TermTree) →
      EntersOr program row values b o → WithinAsks program values o p x → PlanAsks program (below row p) (assignment program.theory values) b x
  under_asks row b values p None x h k = absurd k
  under_asks row b values p (Some e) x h k =
      inr
      (on_part program row b (assignment program.theory values)
      (λ u q. (u ≡ assignment program.theory (own_or values e.values)) × (q ≡ standing program e.site)) (λ u q. PlanAsks program p u q x)
      (λ u q is. asked_of p u (assignment program.theory (own_or values e.values)) q (standing program e.site) x is.0 is.1 k) h.part)
