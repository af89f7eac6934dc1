-- What the walk along a plan gives.
use Rattle.std.proofs.Common.{ℕ, ◌≡◌, ◌+◌, List, sym, subst, length, Option, Some, None, Bool, Result, IfOk}
use Rattle.std.proofs.lemmas.Result.{IfOk-weaker}
use Rattle.spec_core.specs.Executable.{IsExecutable}
use Rattle.spec_core.specs.Code.{Program}
use Rattle.rule_model.specs.Behaviours.{Behaviour}
use Rattle.rule_model.specs.Derivations.{pre, int, exiting}
use Rattle.rule_model.specs.Substitution.{Assignment}
use Rattle.rule_origins.specs.Values.{assignment}
use Rattle.symbolic_composites.specs.OpenFields.{OpenField}
use Rattle.symbolic_plans.specs.declared.scheme.Row.{Row}
use Rattle.symbolic_plans.specs.Plans.{Plan, prefix, internal, termination, below, hidden, handed_on}
use Rattle.node_steps.specs.Parts.{own_or}
use Rattle.node_steps.specs.declared.turn.Entered.{Entered}
use Rattle.node_steps.specs.declared.turn.Turn.{Turn}
use Rattle.node_steps.specs.Blanks.{chosen_by}
use Rattle.node_steps.specs.Frames.{surrounding_of, standing}
use Rattle.node_steps.specs.Turns.{LeafTurnsOr, TurnsAt, NoTurn, TurnsOr, EntersOr, EntersHidden, EntersEnding, WithinOr, LeavesOr}
use Rattle.node_steps.proofs.Turning.{prefix_turns, exit_turns, inner_turns, under_turns, hidden_turns, ending_turns, within_turns, none_within}

module _ (program : Program) (executable : IsExecutable program.theory) where
  along : {E : Type 0} (from : ℕ) (s : Assignment) (b : Behaviour) (plan other : Plan) (r : Result (Option Turn) E) → plan ≡ other →
      IfOk r (TurnsOr program from s b other) → IfOk r (TurnsOr program from s b plan)
  along from s b plan other r is h = subst (λ (z : Plan). IfOk r (TurnsOr program from s b z)) (sym is) h

  -- of equal plans the same comes
  pub of_plan : (from : ℕ) (s : Assignment) (b : Behaviour) (p q : Plan) (o : Option Turn) → p ≡ q → TurnsOr program from s b p o →
      TurnsOr program from s b q o
  of_plan from s b p q o is h = subst (λ (z : Plan). TurnsOr program from s b z o) is h

  pub prefix_walks : {E : Type 0} (from : ℕ) (s : Assignment) (b : Behaviour) (plan : Plan) (takes : List Bool)
      (r : Result (Option Turn) E) → plan ≡ prefix takes → IfOk r (LeafTurnsOr program from s b pre) → IfOk r (TurnsOr program from s b plan)
  prefix_walks from s b plan takes r is h =
      along from s b plan (prefix takes) r is
      (IfOk-weaker r (LeafTurnsOr program from s b pre) (TurnsOr program from s b (prefix takes))
      (λ o k. prefix_turns program executable from s b takes o k) h)

  pub exit_walks : {E : Type 0} (from : ℕ) (s : Assignment) (b : Behaviour) (plan : Plan) (takes : List Bool)
      (r : Result (Option Turn) E) → plan ≡ termination takes → IfOk r (LeafTurnsOr program from s b exiting) →
      IfOk r (TurnsOr program from s b plan)
  exit_walks from s b plan takes r is h =
      along from s b plan (termination takes) r is
      (IfOk-weaker r (LeafTurnsOr program from s b exiting) (TurnsOr program from s b (termination takes))
      (λ o k. exit_turns program executable from s b takes o k) h)

  pub inner_walks : (from : ℕ) (s : Assignment) (b : Behaviour) (plan : Plan) (o : Option Turn) → plan ≡ internal →
      LeafTurnsOr program from s b (λ slots. int) o → TurnsOr program from s b plan o
  inner_walks from s b plan o is h =
      subst (λ (z : Plan). TurnsOr program from s b z o) (sym is) (inner_turns program executable from s b o h)

  pub under_walks : {E : Type 0} (row : Row) (b : Behaviour) (values : List (ℕ × List ℕ)) (from inner : ℕ) (p : Plan) (o : Option Entered)
      (r : Result (Option Turn) E) → inner ≡ from + length (chosen_by row) → EntersOr program row values b o →
      IfOk r (WithinOr program inner values o p) → IfOk r (TurnsOr program from (assignment program.theory values) b (below row p))
  under_walks row b values from inner p o r e h w =
      IfOk-weaker r (WithinOr program inner values o p) (TurnsOr program from (assignment program.theory values) b (below row p))
      (λ t k. under_turns program executable row b values from inner p o t e h k) w

  pub hidden_walks : {E : Type 0} (b : Behaviour) (values : List (ℕ × List ℕ)) (from : ℕ) (plan : Plan) (fields : List OpenField) (p : Plan)
      (o : Option Entered) (r : Result (Option Turn) E) → plan ≡ hidden fields p → EntersHidden program values b o →
      IfOk r (WithinOr program from values o p) → IfOk r (TurnsOr program from (assignment program.theory values) b plan)
  hidden_walks b values from plan fields p o r is h w =
      along from (assignment program.theory values) b plan (hidden fields p) r is
      (IfOk-weaker r (WithinOr program from values o p) (TurnsOr program from (assignment program.theory values) b (hidden fields p))
      (λ t k. hidden_turns program executable b values from fields p o t h k) w)

  pub ending_walks : {E : Type 0} (b : Behaviour) (values : List (ℕ × List ℕ)) (from : ℕ) (plan : Plan) (fields : List OpenField) (p : Plan)
      (o : Option Entered) (r : Result (Option Turn) E) → plan ≡ handed_on fields p → EntersEnding program values b o →
      IfOk r (WithinOr program from values o p) → IfOk r (TurnsOr program from (assignment program.theory values) b plan)
  ending_walks b values from plan fields p o r is h w =
      along from (assignment program.theory values) b plan (handed_on fields p) r is
      (IfOk-weaker r (WithinOr program from values o p) (TurnsOr program from (assignment program.theory values) b (handed_on fields p))
      (λ t k. ending_turns program executable b values from fields p o t h k) w)

  pub turned_none : (from : ℕ) (s : Assignment) (b : Behaviour) (p : Plan) (o : Option Turn) → o ≡ None → TurnsOr program from s b p o →
      NoTurn program s b p
  turned_none from s b p o is h = subst (λ (z : Option Turn). TurnsOr program from s b p z) is h

  pub turned_some : (from : ℕ) (s : Assignment) (b : Behaviour) (p : Plan) (o : Option Turn) (t : Turn) → o ≡ Some t →
      TurnsOr program from s b p o → TurnsAt program from s b p t
  turned_some from s b p o t is h = subst (λ (z : Option Turn). TurnsOr program from s b p z) is h

  pub nothing_within : (values : List (ℕ × List ℕ)) (from : ℕ) (entered : Option Entered) (x : Entered) (p : Plan) (o : Option Turn) →
      entered ≡ Some x → o ≡ None → TurnsOr program from (assignment program.theory (own_or values x.values)) (standing program x.site) p o →
      WithinOr program from values entered p None
  nothing_within values from entered x p o is none h =
      subst (λ (z : Option Entered). WithinOr program from values z p None) (sym is)
      (none_within program executable values x p
      (turned_none from (assignment program.theory (own_or values x.values)) (standing program x.site) p o none h))

  pub something_within : (values : List (ℕ × List ℕ)) (from : ℕ) (entered : Option Entered) (x : Entered) (p : Plan) (o : Option Turn)
      (t : Turn) (r : Option Turn) → entered ≡ Some x → o ≡ Some t →
      TurnsOr program from (assignment program.theory (own_or values x.values)) (standing program x.site) p o →
      LeavesOr program values (surrounding_of program x.frame) t r → WithinOr program from values entered p r
  something_within values from entered x p o t r is some h leaves =
      subst (λ (z : Option Entered). WithinOr program from values z p r) (sym is)
      (within_turns program executable values from x p t r
      (turned_some from (assignment program.theory (own_or values x.values)) (standing program x.site) p o t some h) leaves)
