-- The terms whose values are asked along a tree of rules. (This profile.)
use Rattle.std.specs.Prelude.{ℕ, ◌⊎◌, List, [], ◌∷◌}
use Rattle.spec_core.specs.Lists.{OneOf}
use Rattle.spec_core.specs.Terms.{TermTree}
use Rattle.spec_core.specs.Code.{Program, Variable}
use Rattle.rule_model.specs.Behaviours.{Behaviour, relabel}
use Rattle.rule_model.specs.Constructs.{OnExit, OnAction, OnChoice, OnGuarded, OnBound, OnValueChoice, OnGateChoice, OnParallel}
use Rattle.rule_model.specs.Constructs.{OnHide, OnEnable, OnDisable, OnCall, OnRelabel}
use Rattle.rule_model.specs.Derivations.{Derivation, pre, int, exiting, chl, chr, val, gate, guard, letting, parl, parr, both, hiding, pass}
use Rattle.rule_model.specs.Derivations.{enstep, enend, disstep, disend, distake, calling, rel}
use Rattle.rule_model.specs.Actions.{Kind, pairs_of}
use Rattle.rule_model.specs.Code.{IsDefinition}
use Rattle.rule_model.specs.Fields.{OnGate}
use Rattle.symbolic_rules.specs.Windows.{Windows}
use Rattle.symbolic_rules.specs.MarkedTerms.{MarkedTerm, MarkedAssignment, unmarked, with_marked, PremiseMayHold}
use Rattle.symbolic_rules.specs.MarkedFields.{MarkedField, chosen_by, IsWithin, Chooses, FieldsMayHave, BindingsMayHave, ArgumentsMayHave}
use Rattle.symbolic_rules.specs.MayDerive.{MayDeriveWith}
use Rattle.symbolic_reach.specs.Reached.{PremiseAsks, GuardAsks, FieldAsks, ExitAsks, BindingAsks, ArgumentAsks}

module _ (program : Program) (w : Windows) where
  -- The tree d asks the term t of the behaviour, with m x, a term or a mark, in the place of each free variable x: it is an expression of
  -- a construct that a rule of the tree is of, or a side of a premise there, and each premise before it holds or holds a mark. A predicate
  -- is asked with the values that the tree chooses; of two sides that act together the right one is asked where the left one may act.
  abbrev pub TreeAsks : MarkedAssignment → Behaviour → Derivation → TermTree → Type 0
  TreeAsks m b (pre slots) t =
      OnAction b (λ g fields p rest.
      OneOf (FieldAsks program.theory m t) fields ⊎
      ((fs : List MarkedField) × (r : MarkedAssignment) × FieldsMayHave program.theory w m m fields slots fs r ×
      GuardAsks program.theory r p t))
  TreeAsks m b int t = ⊥
  TreeAsks m b (exiting slots) t = OnExit b (λ fields. OneOf (ExitAsks program.theory m t) fields)
  TreeAsks m b (chl d) t = OnChoice b (λ left right. TreeAsks m left d t)
  TreeAsks m b (chr d) t = OnChoice b (λ left right. TreeAsks m right d t)
  TreeAsks m b (val slot d) t =
      OnValueChoice b (λ x body.
      (n : MarkedTerm) × Chooses program.theory w slot x.sort n × IsWithin program.theory w (chosen_by n) ×
      TreeAsks (with_marked x n m) body d t)
  TreeAsks m b (gate j d) t =
      OnGateChoice b (λ g gates body. OnGate gates j (λ h. TreeAsks m (relabel (record { from = g; to = h } ∷ []) body) d t))
  TreeAsks m b (guard d) t =
      OnGuarded b (λ p body. PremiseAsks program.theory m p t ⊎ (PremiseMayHold program.theory m p × TreeAsks m body d t))
  TreeAsks m b (letting d) t =
      OnBound b (λ bindings body.
      OneOf (BindingAsks program.theory m t) bindings ⊎
      ((r : MarkedAssignment) × BindingsMayHave program.theory m m bindings r × TreeAsks r body d t))
  TreeAsks m b (parl d) t = OnParallel b (λ gates left right. TreeAsks m left d t)
  TreeAsks m b (parr d) t = OnParallel b (λ gates left right. TreeAsks m right d t)
  TreeAsks m b (both d e) t =
      OnParallel b (λ gates left right.
      TreeAsks m left d t ⊎
      ((k : Kind) × (fs : List MarkedField) × MayDeriveWith program w m left d k fs × TreeAsks m right e t))
  TreeAsks m b (hiding d) t = OnHide b (λ gates body. TreeAsks m body d t)
  TreeAsks m b (pass d) t = OnHide b (λ gates body. TreeAsks m body d t)
  TreeAsks m b (enstep d) t = OnEnable b (λ left xs right. TreeAsks m left d t)
  TreeAsks m b (enend d) t = OnEnable b (λ left xs right. TreeAsks m left d t)
  TreeAsks m b (disstep d) t = OnDisable b (λ left right. TreeAsks m left d t)
  TreeAsks m b (disend d) t = OnDisable b (λ left right. TreeAsks m left d t)
  TreeAsks m b (distake d) t = OnDisable b (λ left right. TreeAsks m right d t)
  TreeAsks m b (calling d) t =
      OnCall b (λ p actual terms.
      (formal : List ℕ) × (xs : List Variable) × (body : Behaviour) × IsDefinition program p formal xs body ×
      (OneOf (ArgumentAsks program.theory m t) terms ⊎
      ((r : MarkedAssignment) × ArgumentsMayHave program.theory m unmarked xs terms r ×
      TreeAsks r (relabel (pairs_of formal actual) body) d t)))
  TreeAsks m b (rel d) t = OnRelabel b (λ pairs body. TreeAsks m body d t)
