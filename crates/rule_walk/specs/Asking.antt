-- The terms whose values a tree of rules asks, in their order.
use Rattle.std.specs.Prelude.{ℕ, ◌≡◌, ◌⊎◌, List, [], ◌∷◌, Option, Some, None}
use Rattle.spec_core.specs.Terms.{TermTree, instance}
use Rattle.spec_core.specs.Theories.{Premise, premise, Theory}
use Rattle.spec_core.specs.Constructors.{IsConstructed}
use Rattle.spec_core.specs.Values.{HasValue}
use Rattle.spec_core.specs.Code.{Program, Variable, Binding, ExitValue, exit_given, exit_any, ActionField, give, accept}
use Rattle.rule_model.specs.declared.rules.Slot.{Slot}
use Rattle.rule_model.specs.declared.rules.Slot.TheVariants.{Of}
use Rattle.rule_model.specs.Behaviours.{Behaviour}
use Rattle.rule_model.specs.Code.{IsDefinition}
use Rattle.rule_model.specs.Constructs.{OnExit, OnAction, OnGuarded, OnBound, OnValueChoice, OnCall}
use Rattle.rule_model.specs.Derivations.{Derivation, pre, exiting, val, guard, letting, calling}
use Rattle.rule_model.specs.Fields.{Spells, FieldsHave}
use Rattle.rule_model.specs.Substitution.{Assignment}
use Rattle.rule_walk.specs.Parts.{At}
use Rattle.value_terms.specs.Spelled.{SpellsTerm}

-- of two sides the left one, and the right one once the left one has a value
abbrev pub PremiseAsks : Theory → Assignment → Premise → TermTree → Type 0
PremiseAsks theory s (premise a b) x = (x ≡ instance s a) ⊎ (((n : TermTree) × HasValue theory (instance s a) n) × (x ≡ instance s b))

abbrev pub GuardAsks : Theory → Assignment → Option Premise → TermTree → Type 0
GuardAsks theory s None x = ⊥
GuardAsks theory s (Some p) x = PremiseAsks theory s p x

-- the list of operations spells the term, which is of the sort and no ground constructor term
pub record SpellsCall (theory : Theory) (w : List ℕ) (t : TermTree) (sort : ℕ) : Type 0 where
  pub term : SpellsTerm theory w t sort
  pub has_defined : IsConstructed theory t → ⊥

-- the term of the sort that a chosen list of operations spells, to see whether it is a value; a ground constructor term is one
abbrev pub ChoiceAsks : Theory → ℕ → Slot → TermTree → Type 0
ChoiceAsks theory sort (Of w) x = SpellsCall theory w x sort
ChoiceAsks theory sort _ x = ⊥

-- the first expression of an action's fields, or the first chosen value, and a later one once those before have values, and the chosen
-- values before are of their sorts
abbrev pub FieldsAsk : Theory → Assignment → List ActionField → List Slot → TermTree → Type 0
FieldsAsk theory s (give e ∷ fields) slots x =
    (x ≡ instance s e) ⊎ (((n : TermTree) × HasValue theory (instance s e) n) × FieldsAsk theory s fields slots x)
FieldsAsk theory s (accept y ∷ fields) (Of w ∷ slots) x =
    SpellsCall theory w x y.sort ⊎ (((n : TermTree) × Spells theory w n y.sort) × FieldsAsk theory s fields slots x)
FieldsAsk theory s _ _ x = ⊥

-- the same of an exit's fields
abbrev pub ExitAsks : Theory → Assignment → List ExitValue → List Slot → TermTree → Type 0
ExitAsks theory s (exit_given e ∷ fields) slots x =
    (x ≡ instance s e) ⊎ (((n : TermTree) × HasValue theory (instance s e) n) × ExitAsks theory s fields slots x)
ExitAsks theory s (exit_any sort ∷ fields) (Of w ∷ slots) x =
    SpellsCall theory w x sort ⊎ (((n : TermTree) × Spells theory w n sort) × ExitAsks theory s fields slots x)
ExitAsks theory s _ _ x = ⊥

-- the first term that `let` binds, and a later one once those before have values
abbrev pub BindingsAsk : Theory → Assignment → List Binding → TermTree → Type 0
BindingsAsk theory s [] x = ⊥
BindingsAsk theory s (b ∷ bindings) x =
    (x ≡ instance s b.term) ⊎ (((n : TermTree) × HasValue theory (instance s b.term) n) × BindingsAsk theory s bindings x)

-- the same of a call's terms, as many as the process has variables
abbrev pub ArgumentsAsk : Theory → Assignment → List Variable → List TermTree → TermTree → Type 0
ArgumentsAsk theory s (y ∷ ys) (e ∷ terms) x =
    (x ≡ instance s e) ⊎ (((n : TermTree) × HasValue theory (instance s e) n) × ArgumentsAsk theory s ys terms x)
ArgumentsAsk theory s _ _ x = ⊥

module _ (program : Program) where
  -- the rule at the root itself asks the value of the term: of an action the fields and then the predicate
  abbrev pub RuleAsks : TermTree → Assignment → Behaviour → Derivation → Type 0
  RuleAsks x s b (pre slots) =
      OnAction b (λ g fields p rest.
      FieldsAsk program.theory s fields slots x ⊎
      ((values : List (List ℕ)) × (t : Assignment) × FieldsHave program.theory s s fields slots values t × GuardAsks program.theory t p x))
  RuleAsks x s b (exiting slots) = OnExit b (λ fields. ExitAsks program.theory s fields slots x)
  RuleAsks x s b (val slot d) = OnValueChoice b (λ y body. ChoiceAsks program.theory y.sort slot x)
  RuleAsks x s b (guard d) = OnGuarded b (λ p body. PremiseAsks program.theory s p x)
  RuleAsks x s b (letting d) = OnBound b (λ bindings body. BindingsAsk program.theory s bindings x)
  RuleAsks x s b (calling d) =
      OnCall b (λ p actual terms.
      (formal : List ℕ) × (xs : List Variable) × (body : Behaviour) × IsDefinition program p formal xs body ×
      ArgumentsAsk program.theory s xs terms x)
  RuleAsks x s b _ = ⊥

  -- some rule of the tree asks the value of the term, and each part that is asked before it does something
  abbrev pub Asks : Assignment → Behaviour → Derivation → TermTree → Type 0
  Asks s b d x = (path : List ℕ) × At program s b d path (RuleAsks x)
