-- Which terms are asked of a behaviour before its first action. (This profile.)
use Rattle.std.specs.Prelude.{ℕ, zero, suc, ◌≡◌, ◌⊎◌, List, [], ◌∷◌, Option, Some, None}
use Rattle.spec_core.specs.Lists.{OneOf, IsOneOf}
use Rattle.spec_core.specs.Terms.{TermTree, preorder}
use Rattle.spec_core.specs.Theories.{Premise, premise, Theory}
use Rattle.spec_core.specs.Code.{Program, Variable, Binding, ExitValue, exit_given, exit_any, ActionField, give, accept}
use Rattle.rule_model.specs.declared.rules.Slot.{Slot}
use Rattle.rule_model.specs.Behaviours.{Behaviour, stop, exit, inner, action, choice, guarded, bound, value_choice, gate_choice, parallel}
use Rattle.rule_model.specs.Behaviours.{hide, enable, disable, call, relabel}
use Rattle.rule_model.specs.Code.{IsDefinition}
use Rattle.symbolic_rules.specs.Windows.{Windows}
use Rattle.symbolic_rules.specs.MarkedTerms.{MarkedTerm, plain, mark, MarkedAssignment, unmarked, with_marked, marked_instance}
use Rattle.symbolic_rules.specs.MarkedTerms.{PremiseMayHold}
use Rattle.symbolic_rules.specs.MarkedFields.{chosen_by, IsWithin, Chooses, BindingsMayHave, ArgumentsMayHave}

module _ (theory : Theory) where
  -- With m x, a term or a mark, in the place of each variable x, the expression is the term t, which is asked. One with a mark isn't.
  abbrev pub Asks : MarkedAssignment → TermTree → TermTree → Type 0
  Asks m u t = marked_instance theory m u ≡ plain t

  -- either side of a premise, unless one of them holds a mark: then the premise is passed, and neither is asked
  abbrev pub PremiseAsks : MarkedAssignment → Premise → TermTree → Type 0
  PremiseAsks m (premise a b) t = (x y : TermTree) × Asks m a x × Asks m b y × ((t ≡ x) ⊎ (t ≡ y))

  -- a side of the predicate of an action, if it has one
  abbrev pub GuardAsks : MarkedAssignment → Option Premise → TermTree → Type 0
  GuardAsks m None t = ⊥
  GuardAsks m (Some p) t = PremiseAsks m p t

  -- the expression of a field of an action, and of an exit
  abbrev pub FieldAsks : MarkedAssignment → TermTree → ActionField → Type 0
  FieldAsks m t (give u) = Asks m u t
  FieldAsks m t (accept x) = ⊥

  abbrev pub ExitAsks : MarkedAssignment → TermTree → ExitValue → Type 0
  ExitAsks m t (exit_given u) = Asks m u t
  ExitAsks m t (exit_any sort) = ⊥

  -- the term of a binding, and of a call
  abbrev pub BindingAsks : MarkedAssignment → TermTree → Binding → Type 0
  BindingAsks m t b = Asks m b.term t

  abbrev pub ArgumentAsks : MarkedAssignment → TermTree → TermTree → Type 0
  ArgumentAsks m t u = Asks m u t

  -- a value that is only chosen lies in the window of its sort, or is one of these others
  abbrev pub IsWithinOrOther : Windows → List (List ℕ) → MarkedTerm → Type 0
  IsWithinOrOther w others (plain n) = IsWithin theory w (chosen_by (plain n)) ⊎ IsOneOf (preorder n) others
  IsWithinOrOther w others (mark sort) = Unit {0}

  -- The variables had the terms and marks l, and with what may be chosen for the binders of an action they have r.
  abbrev pub AcceptsMayHave : Windows → List (List ℕ) → MarkedAssignment → List ActionField → MarkedAssignment → Type 0
  AcceptsMayHave w others l [] r = r ≡ l
  AcceptsMayHave w others l (give u ∷ fields) r = AcceptsMayHave w others l fields r
  AcceptsMayHave w others l (accept x ∷ fields) r =
      (slot : Slot) × (k : MarkedTerm) × Chooses theory w slot x.sort k × IsWithinOrOther w others k ×
      AcceptsMayHave w others (with_marked x k l) fields r

-- In this module: the windows show the values that may be chosen; the others are those that may be chosen besides at a `?`, since a
-- participant or an offer gives them.
module _ (program : Program) (w : Windows) (others : List (List ℕ)) where
  -- The term is asked of the behaviour, with m x, a term or a mark, in the place of each free variable x, before its first action; `called`
  -- says what is asked of the bodies of processes. It is an expression of a construct that no action comes before, or a side of a premise
  -- there, and each guard round it holds or holds a mark. What stands behind an action isn't reached, nor the right side of an enabling.
  abbrev pub ReachesIn : (MarkedAssignment → Behaviour → TermTree → Type 0) → MarkedAssignment → Behaviour → TermTree → Type 0
  ReachesIn called m stop t = ⊥
  ReachesIn called m (exit fields) t = OneOf (ExitAsks program.theory m t) fields
  ReachesIn called m (inner rest) t = ⊥
  ReachesIn called m (action g fields p rest) t =
      OneOf (FieldAsks program.theory m t) fields ⊎
      ((r : MarkedAssignment) × AcceptsMayHave program.theory w others m fields r × GuardAsks program.theory r p t)
  ReachesIn called m (choice left right) t = ReachesIn called m left t ⊎ ReachesIn called m right t
  ReachesIn called m (guarded p body) t =
      PremiseAsks program.theory m p t ⊎ (PremiseMayHold program.theory m p × ReachesIn called m body t)
  ReachesIn called m (bound bindings body) t =
      OneOf (BindingAsks program.theory m t) bindings ⊎
      ((r : MarkedAssignment) × BindingsMayHave program.theory m m bindings r × ReachesIn called r body t)
  ReachesIn called m (value_choice x body) t =
      (slot : Slot) × (k : MarkedTerm) × Chooses program.theory w slot x.sort k × IsWithin program.theory w (chosen_by k) ×
      ReachesIn called (with_marked x k m) body t
  ReachesIn called m (gate_choice g gates body) t = (gates ≡ [] → ⊥) × ReachesIn called m body t
  ReachesIn called m (parallel gates left right) t = ReachesIn called m left t ⊎ ReachesIn called m right t
  ReachesIn called m (hide gates body) t = ReachesIn called m body t
  ReachesIn called m (enable left xs right) t = ReachesIn called m left t
  ReachesIn called m (disable left right) t = ReachesIn called m left t ⊎ ReachesIn called m right t
  ReachesIn called m (call p actual terms) t =
      (formal : List ℕ) × (xs : List Variable) × (body : Behaviour) × IsDefinition program p formal xs body ×
      (OneOf (ArgumentAsks program.theory m t) terms ⊎
      ((r : MarkedAssignment) × ArgumentsMayHave program.theory m unmarked xs terms r × called r body t))
  ReachesIn called m (relabel pairs body) t = ReachesIn called m body t

  -- the same where no more than so many calls stand in one another
  abbrev pub ReachesBelow : ℕ → MarkedAssignment → Behaviour → TermTree → Type 0
  ReachesBelow zero m b t = ⊥
  ReachesBelow (suc n) m b t = ReachesIn (ReachesBelow n) m b t

  -- the term is asked of the behaviour, with what is known for its variables, before its first action
  abbrev pub Reaches : MarkedAssignment → Behaviour → TermTree → Type 0
  Reaches m b t = (n : ℕ) × ReachesIn (ReachesBelow n) m b t
