-- The terms whose values are asked along the trees of a plan.
use Rattle.std.specs.Prelude.{◌≡◌, ◌⊎◌}
use Rattle.spec_core.specs.Terms.{TermTree, instance}
use Rattle.spec_core.specs.Code.{Program, Binding, ExitValue, exit_given, exit_any, ActionField, give, accept}
use Rattle.spec_core.specs.Lists.{OneOf}
use Rattle.rule_model.specs.Behaviours.{Behaviour}
use Rattle.rule_model.specs.Constructs.{OnExit, OnAction, OnBound, OnParallel, OnHide, OnEnable, OnCall}
use Rattle.rule_model.specs.Substitution.{Assignment}
use Rattle.symbolic_plans.specs.declared.scheme.Row.{Row}
use Rattle.symbolic_plans.specs.declared.scheme.Row.TheVariants.{Let, Call}
use Rattle.symbolic_plans.specs.Plans.{Plan, prefix, internal, termination, below, hidden, handed_on, together}
use Rattle.symbolic_reach.specs.Parts.{OnPart}

-- the term x is t with the terms of the assignment in the places of its variables
abbrev pub term_asks : Assignment → TermTree → TermTree → Type 0
term_asks s t x = x ≡ instance s t

abbrev pub binding_asks : Assignment → Binding → TermTree → Type 0
binding_asks s b x = x ≡ instance s b.term

-- the same of an expression of an action, and of an exit
abbrev pub field_asks : Assignment → ActionField → TermTree → Type 0
field_asks s (give t) x = x ≡ instance s t
field_asks s (accept y) x = ⊥

abbrev pub exit_asks : Assignment → ExitValue → TermTree → Type 0
exit_asks s (exit_given t) x = x ≡ instance s t
exit_asks s (exit_any sort) x = ⊥

-- the rule itself asks the term: a `let` its bindings, a call its arguments; premises aren't asked
abbrev pub RuleAsks : Row → Assignment → Behaviour → TermTree → Type 0
RuleAsks Let s b x = OnBound b (λ bindings body. OneOf (λ e. binding_asks s e x) bindings)
RuleAsks Call s b x = OnCall b (λ p actual terms. OneOf (λ t. term_asks s t x) terms)
RuleAsks _ s b x = ⊥

-- an action, and an exit, ask their expressions

abbrev pub ActionAsks : Assignment → Behaviour → TermTree → Type 0
ActionAsks s b x = OnAction b (λ g fields guard rest. OneOf (λ f. field_asks s f x) fields)

abbrev pub TerminationAsks : Assignment → Behaviour → TermTree → Type 0
TerminationAsks s b x = OnExit b (λ fields. OneOf (λ f. exit_asks s f x) fields)

-- some expression on the way of the plan's trees is this term
abbrev pub PlanAsks : Program → Plan → Assignment → Behaviour → TermTree → Type 0
PlanAsks program (prefix takes) s b x = ActionAsks s b x
PlanAsks program internal s b x = ⊥
PlanAsks program (termination takes) s b x = TerminationAsks s b x
PlanAsks program (below row p) s b x = RuleAsks row s b x ⊎ OnPart program row s b (λ t c. PlanAsks program p t c x)
PlanAsks program (hidden fields p) s b x = OnHide b (λ gates body. PlanAsks program p s body x)
PlanAsks program (handed_on fields p) s b x = OnEnable b (λ left xs right. PlanAsks program p s left x)
PlanAsks program (together p q) s b x = OnParallel b (λ gates left right. PlanAsks program p s left x ⊎ PlanAsks program q s right x)
