-- What holds of the terms that each rule asks.
use Rattle.std.proofs.Common.{ℕ, ◌≡◌, List, Option, refl, subst, inl, inr}
use Rattle.spec_core.specs.Code.{Program, Variable, Binding, ActionField, ExitValue, Synchronised}
use Rattle.spec_core.specs.Executable.{IsExecutable}
use Rattle.spec_core.specs.Terms.{TermTree, variable}
use Rattle.spec_core.specs.Theories.{Premise}
use Rattle.rule_laws.proofs.OneStep.{one_filled, one_definition}
use Rattle.rule_model.specs.declared.rules.Slot.{Slot}
use Rattle.rule_model.specs.declared.rules.Slot.TheVariants.{Of, Mark, Blank}
use Rattle.rule_model.specs.Behaviours.{Behaviour, exit, action, guarded, bound, value_choice, gate_choice, parallel, call}
use Rattle.rule_model.specs.Code.{IsDefinition}
use Rattle.rule_model.specs.Derivations.{Derivation, pre, int, exiting, val, gate, guard, letting, both, calling}
use Rattle.rule_model.specs.Fields.{Spells, PremiseHolds, FieldsHave, ArgumentsHave, OnGate}
use Rattle.rule_model.specs.Substitution.{Assignment}
use Rattle.rule_walk.specs.declared.fault.FireFault.{FireFault}
use Rattle.rule_walk.specs.Asking.{PremiseAsks, ChoiceAsks, FieldsAsk, GuardAsks, ExitAsks, BindingsAsk, ArgumentsAsk, RuleAsks, Asks}
use Rattle.rule_walk.specs.Bounds.{FaultBounds}
use Rattle.rule_walk.specs.Faults.{Explains, Here, HasNoFields, HasNoBindings, HasNoArguments, Within}
use Rattle.rule_walk.specs.Parts.{HasStep, IsUnfitAt}
use Rattle.rule_walk.proofs.Bounds.{unexplained}
use Rattle.rule_walk.proofs.NoStep.{unfit_none}
use Rattle.rule_walk.proofs.PartBounds.{asked_at, part_asked}

module _ (program : Program) (executable : IsExecutable program.theory) (W : TermTree → Type 0) (s : Assignment) (b : Behaviour) where
  -- an action asks what its fields ask, and then what its predicate asks
  pub action_asked : (g : ℕ) (fields : List ActionField) (p : Option Premise) (rest : Behaviour) (slots : List Slot)
      (values : List (List ℕ)) (t : Assignment) → b ≡ action g fields p rest → FieldsHave program.theory s s fields slots values t →
      ((x : TermTree) → FieldsAsk program.theory s fields slots x → W x) → ((x : TermTree) → GuardAsks program.theory t p x → W x) →
      (x : TermTree) → Asks program s b (pre slots) x → W x
  action_asked g fields p rest slots values t is filled field predicate =
      asked_at program executable W s b (pre slots) (pre slots) (action g fields p rest) refl is own (λ x h. absurd h) (λ x h. absurd h)
    where
      own : (x : TermTree) → RuleAsks program x s (action g fields p rest) (pre slots) → W x
      own x (inl h) = field x h
      own x (inr h) =
          predicate x (subst (λ (r : Assignment). GuardAsks program.theory r p x)
          (one_filled program.theory executable s fields slots h.0 values s h.1 t h.2 filled).1 h.3)

  pub exit_asked : (fields : List ExitValue) (slots : List Slot) → b ≡ exit fields →
      ((x : TermTree) → ExitAsks program.theory s fields slots x → W x) → (x : TermTree) → Asks program s b (exiting slots) x → W x
  exit_asked fields slots is own =
      asked_at program executable W s b (exiting slots) (exiting slots) (exit fields) refl is own (λ x h. absurd h) (λ x h. absurd h)

  -- an internal action asks nothing
  pub inner_asked : (d : Derivation) → d ≡ int → (x : TermTree) → Asks program s b d x → W x
  inner_asked d is = asked_at program executable W s b d int b is refl (λ x h. absurd h) (λ x h. absurd h) (λ x h. absurd h)

  -- no gate stands at this place
  pub gate_asked : (g : ℕ) (gates : List ℕ) (body : Behaviour) (j : ℕ) (d : Derivation) → b ≡ gate_choice g gates body →
      (OnGate gates j (λ _. Unit {0}) → ⊥) → (x : TermTree) → Asks program s b (gate j d) x → W x
  gate_asked g gates body j d is none =
      asked_at program executable W s b (gate j d) (gate j d) (gate_choice g gates body) refl is (λ x h. absurd h)
      (λ x h. absurd (none (h.0, h.1, h.2, h.3, tt))) (λ x h. absurd h)

  -- the called process has no definition
  pub undefined_asked : (p : ℕ) (actual : List ℕ) (terms : List TermTree) (d : Derivation) → b ≡ call p actual terms →
      ((formal : List ℕ) (xs : List Variable) (body : Behaviour) → IsDefinition program p formal xs body → ⊥) →
      (x : TermTree) → Asks program s b (calling d) x → W x
  undefined_asked p actual terms d is none =
      asked_at program executable W s b (calling d) (calling d) (call p actual terms) refl is (λ x h. absurd (none h.0 h.1 h.2 h.3))
      (λ x h. absurd (none h.0 h.1 h.2 h.4)) (λ x h. absurd h)

  -- the terms of a call, whose process has this definition
  pub own_arguments : (p : ℕ) (actual : List ℕ) (terms : List TermTree) (formal : List ℕ) (xs : List Variable) (body : Behaviour)
      (d : Derivation) → IsDefinition program p formal xs body →
      ((x : TermTree) → ArgumentsAsk program.theory s xs terms x → W x) → (x : TermTree) →
      RuleAsks program x s (call p actual terms) (calling d) → W x
  own_arguments p actual terms formal xs body d defined k x h =
      k x (subst (λ (ys : List Variable). ArgumentsAsk program.theory s ys terms x)
      (one_definition program p h.0 formal h.1 xs h.2 body h.3 defined).1 h.4)

  -- both sides of a parallel composition
  pub both_asked : (gates : Synchronised) (left right : Behaviour) (d first second : Derivation) → d ≡ both first second →
      b ≡ parallel gates left right → ((x : TermTree) → Asks program s left first x → W x) →
      ((x : TermTree) → HasStep program s left first → Asks program s right second x → W x) → (x : TermTree) → Asks program s b d x → W x
  both_asked gates left right d first second is construct k l =
      part_asked program executable W s b d (both first second) (parallel gates left right) s left first is construct (refl, refl, refl)
      (λ x h. absurd h) (λ x h. l x h.0 h.1) k

module _ (program : Program) (executable : IsExecutable program.theory) (budget : ℕ) (s : Assignment) (b : Behaviour) (f : FireFault) where
  abbrev pub Bounded : TermTree → Type 0
  Bounded x = FaultBounds program.theory budget f x

  -- the fields of an action have no values
  pub fields_fail : (g : ℕ) (fields : List ActionField) (p : Option Premise) (rest : Behaviour) (slots : List Slot) →
      b ≡ action g fields p rest →
      Explains program.theory budget (Here (HasNoFields program.theory s s fields slots)) (FieldsAsk program.theory s fields slots) f →
      ((x : TermTree) → FieldsAsk program.theory s fields slots x → Bounded x) → (x : TermTree) → Asks program s b (pre slots) x → Bounded x
  fields_fail g fields p rest slots is why field =
      asked_at program executable Bounded s b (pre slots) (pre slots) (action g fields p rest) refl is own (λ x h. absurd h)
      (λ x h. absurd h)
    where
      own : (x : TermTree) → RuleAsks program x s (action g fields p rest) (pre slots) → Bounded x
      own x (inl h) = field x h
      own x (inr h) =
          unexplained program.theory budget f (Here (HasNoFields program.theory s s fields slots)) (FieldsAsk program.theory s fields slots) x
          why (λ path none. none.1 h.0 h.1 h.2)

  -- the tree chooses no value of the sort
  pub choice_fails : (x : Variable) (body : Behaviour) (slot : Slot) (d : Derivation) → b ≡ value_choice x body →
      Explains program.theory budget (Here ((w : List ℕ) (n : TermTree) → slot ≡ Of w → Spells program.theory w n x.sort → ⊥))
      (ChoiceAsks program.theory x.sort slot) f →
      ((y : TermTree) → ChoiceAsks program.theory x.sort slot y → Bounded y) → (y : TermTree) → Asks program s b (val slot d) y → Bounded y
  choice_fails x body (Of v) d is why own =
      asked_at program executable Bounded s b (val (Of v) d) (val (Of v) d) (value_choice x body) refl is own
      (λ y h. unexplained program.theory budget f
      (Here ((w : List ℕ) (n : TermTree) → Of v ≡ Of w → Spells program.theory w n x.sort → ⊥)) (ChoiceAsks program.theory x.sort (Of v)) y
      why (λ path none. none.1 v h.0 refl h.1)) (λ y h. absurd h)
  choice_fails x body Mark d is why own =
      asked_at program executable Bounded s b (val Mark d) (val Mark d) (value_choice x body) refl is (λ y h. absurd h) (λ y h. absurd h)
      (λ y h. absurd h)
  choice_fails x body Blank d is why own =
      asked_at program executable Bounded s b (val Blank d) (val Blank d) (value_choice x body) refl is (λ y h. absurd h) (λ y h. absurd h)
      (λ y h. absurd h)

  -- the premise doesn't hold
  pub premise_fails : (p : Premise) (body : Behaviour) (d : Derivation) → b ≡ guarded p body →
      Explains program.theory budget (Here (PremiseHolds program.theory s p → ⊥)) (PremiseAsks program.theory s p) f →
      ((x : TermTree) → PremiseAsks program.theory s p x → Bounded x) → (x : TermTree) → Asks program s b (guard d) x → Bounded x
  premise_fails p body d is why own =
      asked_at program executable Bounded s b (guard d) (guard d) (guarded p body) refl is own
      (λ x h. unexplained program.theory budget f (Here (PremiseHolds program.theory s p → ⊥)) (PremiseAsks program.theory s p) x why
      (λ path none. none.1 h.0)) (λ x h. absurd h)

  -- the terms that a `let` binds have no values
  pub bindings_fail : (bindings : List Binding) (body : Behaviour) (d : Derivation) → b ≡ bound bindings body →
      Explains program.theory budget (Here (HasNoBindings program.theory s s bindings)) (BindingsAsk program.theory s bindings) f →
      ((x : TermTree) → BindingsAsk program.theory s bindings x → Bounded x) → (x : TermTree) → Asks program s b (letting d) x → Bounded x
  bindings_fail bindings body d is why own =
      asked_at program executable Bounded s b (letting d) (letting d) (bound bindings body) refl is own
      (λ x h. unexplained program.theory budget f (Here (HasNoBindings program.theory s s bindings)) (BindingsAsk program.theory s bindings) x
      why (λ path none. none.1 h.0 h.1)) (λ x h. absurd h)

  -- the terms of a call have no values
  pub arguments_fail : (p : ℕ) (actual : List ℕ) (terms : List TermTree) (formal : List ℕ) (xs : List Variable) (body : Behaviour)
      (d : Derivation) → b ≡ call p actual terms → IsDefinition program p formal xs body →
      Explains program.theory budget (Here (HasNoArguments program.theory s variable xs terms)) (ArgumentsAsk program.theory s xs terms) f →
      ((x : TermTree) → ArgumentsAsk program.theory s xs terms x → Bounded x) → (x : TermTree) → Asks program s b (calling d) x → Bounded x
  arguments_fail p actual terms formal xs body d is defined why own =
      asked_at program executable Bounded s b (calling d) (calling d) (call p actual terms) refl is
      (own_arguments program executable Bounded s b p actual terms formal xs body d defined own)
      (λ x h. unexplained program.theory budget f (Here (HasNoArguments program.theory s variable xs terms))
      (ArgumentsAsk program.theory s xs terms) x why
      (λ path none. none.1 h.3 (subst (λ (ys : List Variable). ArgumentsHave program.theory s variable ys terms h.3)
      (one_definition program p h.0 formal h.1 xs h.2 body h.4 defined).1 h.5))) (λ x h. absurd h)

  -- the first side of a parallel composition does nothing by its tree
  pub first_side_fails : (gates : Synchronised) (left right : Behaviour) (d first second : Derivation) → d ≡ both first second →
      b ≡ parallel gates left right →
      Explains program.theory budget (Within 0 (IsUnfitAt program s left first)) (Asks program s left first) f →
      ((x : TermTree) → Asks program s left first x → Bounded x) → (x : TermTree) → Asks program s b d x → Bounded x
  first_side_fails gates left right d first second is construct why k =
      both_asked program executable Bounded s b gates left right d first second is construct k
      (λ x does h. unexplained program.theory budget f (Within 0 (IsUnfitAt program s left first)) (Asks program s left first) x why
      (λ path none. unfit_none program executable none.0 first left s none.2 does))
