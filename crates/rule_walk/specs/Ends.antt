-- Actions that turn internal.
use Rattle.std.specs.Prelude.{ℕ, ◌≡◌, List, true}
use Rattle.spec_core.specs.Theories.{Theory}
use Rattle.spec_core.specs.Code.{Variable}
use Rattle.rule_model.specs.declared.action.Action.{Action}
use Rattle.rule_model.specs.declared.action.Action.TheVariants.{Exit}
use Rattle.rule_model.specs.Actions.{doing, among}
use Rattle.rule_model.specs.Behaviours.{Behaviour}
use Rattle.rule_model.specs.Fields.{IsHandedOn}
use Rattle.rule_model.specs.Substitution.{Assignment, put}

-- the action is at one of these gates
abbrev pub IsAtHidden : List ℕ → Action → Type 0
IsAtHidden gates a = (g : ℕ) × (values : List (List ℕ)) × (a ≡ doing g values) × (among g gates ≡ true)

-- the action is the termination, and its values fit these variables
abbrev pub CanHandOn : Theory → Assignment → List Variable → Action → Type 0
CanHandOn theory s xs a = (values : List (List ℕ)) × (t : Assignment) × (a ≡ Exit values) × IsHandedOn theory s xs values t

-- the same, and with its values for the variables the right side is c
abbrev pub HandsOn : Theory → Assignment → Action → List Variable → Behaviour → Behaviour → Type 0
HandsOn theory s a xs right c =
    (values : List (List ℕ)) × (t : Assignment) × (a ≡ Exit values) × IsHandedOn theory s xs values t × (c ≡ put t right)
