-- The part of a behaviour that a rule is over.
use Rattle.std.specs.Prelude.{ℕ, List, [], ◌∷◌}
use Rattle.spec_core.specs.Terms.{TermTree, variable}
use Rattle.spec_core.specs.Code.{Program, Variable}
use Rattle.rule_model.specs.declared.rules.Slot.TheVariants.{Of, Mark, Blank}
use Rattle.rule_model.specs.Actions.{pairs_of}
use Rattle.rule_model.specs.Behaviours.{Behaviour, relabel}
use Rattle.rule_model.specs.Code.{IsDefinition}
use Rattle.rule_model.specs.Constructs.{OnChoice, OnGuarded, OnBound, OnValueChoice, OnGateChoice, OnParallel, OnHide, OnEnable, OnDisable}
use Rattle.rule_model.specs.Constructs.{OnCall, OnRelabel}
use Rattle.rule_model.specs.Fields.{BindingsHave, ArgumentsHave, OnGate}
use Rattle.rule_model.specs.Substitution.{Assignment, with_term}
use Rattle.rule_origins.specs.Values.{term_spelled}
use Rattle.symbolic_plans.specs.declared.scheme.Row.{Row}
use Rattle.symbolic_plans.specs.declared.scheme.Row.TheVariants.{Chl, Chr, Val, Gate, Guard, Let, Parl, Parr, Pass, Enstep, Disstep}
use Rattle.symbolic_plans.specs.declared.scheme.Row.TheVariants.{Disend, Distake, Call, Rel}

-- P holds of the part that the rule is over, and of the terms for its variables. Conditions of the rule aren't asked.
abbrev pub OnPart : Program → Row → Assignment → Behaviour → (Assignment → Behaviour → Type 0) → Type 0
OnPart program Chl s b P = OnChoice b (λ left right. P s left)
OnPart program Chr s b P = OnChoice b (λ left right. P s right)
OnPart program (Val (Of v)) s b P = OnValueChoice b (λ x body. P (with_term x (term_spelled program.theory x.number v) s) body)
OnPart program (Val Mark) s b P = ⊥
OnPart program (Val Blank) s b P = ⊥
OnPart program (Gate j) s b P =
    OnGateChoice b (λ g gates body. OnGate gates j (λ h. P s (relabel (record { from = g; to = h } ∷ []) body)))
OnPart program Guard s b P = OnGuarded b (λ p body. P s body)
OnPart program Let s b P = OnBound b (λ bindings body. (t : Assignment) × BindingsHave program.theory s s bindings t × P t body)
OnPart program Parl s b P = OnParallel b (λ gates left right. P s left)
OnPart program Parr s b P = OnParallel b (λ gates left right. P s right)
OnPart program Pass s b P = OnHide b (λ gates body. P s body)
OnPart program Enstep s b P = OnEnable b (λ left xs right. P s left)
OnPart program Disstep s b P = OnDisable b (λ left right. P s left)
OnPart program Disend s b P = OnDisable b (λ left right. P s left)
OnPart program Distake s b P = OnDisable b (λ left right. P s right)
OnPart program Call s b P =
    OnCall b (λ p actual terms.
    (formal : List ℕ) × (xs : List Variable) × (body : Behaviour) × (t : Assignment) × IsDefinition program p formal xs body ×
    ArgumentsHave program.theory s variable xs terms t × P t (relabel (pairs_of formal actual) body))
OnPart program Rel s b P = OnRelabel b (λ pairs body. P s body)
