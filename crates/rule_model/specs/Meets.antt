-- When an action meets an offer.
use Rattle.std.specs.Prelude.{ℕ, List, [], ◌∷◌, ◌≡◌, Option, Some, None}
use Rattle.std.specs.List.{slice_get}
use Rattle.spec_core.specs.declared.items.Sort.{Sort}
use Rattle.spec_core.specs.Theories.{Operation, Theory}
use Rattle.spec_core.specs.Code.{Program}
use Rattle.rule_model.specs.declared.action.Action.{Action}
use Rattle.rule_model.specs.declared.action.Action.TheVariants.{Inner, Exit, At}
use Rattle.rule_model.specs.declared.offer.Field.{Field}
use Rattle.rule_model.specs.declared.offer.Field.TheVariants.{Give, Take}
use Rattle.rule_model.specs.declared.offer.Offer.{Offer}
use Rattle.rule_model.specs.Behaviours.{Behaviour}
use Rattle.rule_model.specs.Derivations.{Derivation}
use Rattle.rule_model.specs.Derives.{Derives}

-- the internal action and the successful termination meet no offer
abbrev pub IsUnseen : Action → Type 0
IsUnseen Inner = Unit {0}
IsUnseen (Exit values) = Unit {0}
IsUnseen (At gate values) = ⊥

-- the result sort of a declared operation; of none, the first sort
abbrev pub declared_result : Option Operation → ℕ
declared_result None = 0
declared_result (Some d) = d.result

abbrev pub result_sort : Theory → ℕ → ℕ
result_sort theory f = declared_result (slice_get theory.operations f)

module _ (theory : Theory) where
  -- a value is of the result sort of its first operation
  abbrev pub IsOfSort : List ℕ → Sort → Type 0
  IsOfSort [] sort = ⊥
  IsOfSort (f ∷ fs) sort = result_sort theory f ≡ sort.0

  -- a field that gives a value meets just this value, one that takes a sort any value of the sort
  abbrev pub FieldMeets : List ℕ → Field → Type 0
  FieldMeets value (Give other) = value ≡ other
  FieldMeets value (Take sort) = IsOfSort value sort

  -- as many values as fields, each of which meets its field
  abbrev pub FieldsMeet : List (List ℕ) → List Field → Type 0
  FieldsMeet [] [] = Unit {0}
  FieldsMeet (value ∷ values) (field ∷ fields) = FieldMeets value field × FieldsMeet values fields
  FieldsMeet _ _ = ⊥

  -- an action meets an offer: it is at the offer's gate, with values that meet its fields
  abbrev pub Meets : Action → Offer → Type 0
  Meets Inner offer = ⊥
  Meets (Exit values) offer = ⊥
  Meets (At gate values) offer = (gate ≡ offer.gate) × FieldsMeet values offer.fields

module _ (program : Program) where
  -- no step of the behaviour is unseen
  abbrev pub NoUnseenStep : Behaviour → Type 0
  NoUnseenStep b = (d : Derivation) (a : Action) (c : Behaviour) → Derives program b d a c → IsUnseen a → ⊥

  -- no step of the behaviour meets the offer
  abbrev pub NeverMeets : Behaviour → Offer → Type 0
  NeverMeets b offer = (d : Derivation) (a : Action) (c : Behaviour) → Derives program b d a c → Meets program.theory a offer → ⊥
