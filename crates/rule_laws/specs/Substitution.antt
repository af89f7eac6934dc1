-- Laws of terms in the places of variables.
use Rattle.std.specs.Prelude.{ℕ, ◌≡◌, ◌↔◌, List}
use Rattle.spec_core.specs.Theories.{Theory}
use Rattle.spec_core.specs.Code.{Program, Variable}
use Rattle.rule_model.specs.declared.action.Action.{Action}
use Rattle.rule_model.specs.Behaviours.{Behaviour}
use Rattle.rule_model.specs.Derivations.{Derivation}
use Rattle.rule_model.specs.Derives.{Derives, DerivesWith}
use Rattle.rule_model.specs.Fields.{IsHandedOn}
use Rattle.rule_model.specs.Substitution.{Assignment, without, put}
use Rattle.rule_laws.specs.Closing.{IsClosing, IsAfter, IsEmpty}

-- two substitutions are one
abbrev pub TwoSubstitutionsAreOne : Type 0
TwoSubstitutionsAreOne =
    (r s t : Assignment) → IsClosing s → IsAfter r s t → (b : Behaviour) → put r (put s b) ≡ put t b

-- where each variable stands for itself nothing is changed
abbrev pub EmptySubstitutionsChangeNothing : Type 0
EmptySubstitutionsChangeNothing = (s : Assignment) → IsEmpty s → (b : Behaviour) → put s b ≡ b

-- What a behaviour does with terms for its variables, it does where some of them are put in, and nothing else.
abbrev pub SubstitutionKeepsSteps : Type 0
SubstitutionKeepsSteps =
    (program : Program) (r s t : Assignment) → IsClosing s → IsAfter r s t →
    (b : Behaviour) (d : Derivation) (a : Action) (c : Behaviour) → DerivesWith program t b d a c ↔ DerivesWith program r (put s b) d a c

-- what a behaviour does with values for its variables, the behaviour with these values in their places does, and nothing else
abbrev pub ClosedBehavioursAct : Type 0
ClosedBehavioursAct =
    (program : Program) (s : Assignment) → IsClosing s →
    (b : Behaviour) (d : Derivation) (a : Action) (c : Behaviour) → DerivesWith program s b d a c ↔ Derives program (put s b) d a c

-- values that are handed on to variables come to the same before and after a substitution
abbrev pub HandingOnIsAfter : Type 0
HandingOnIsAfter =
    (theory : Theory) (xs : List Variable) (values : List (List ℕ)) (r s t q : Assignment) → IsClosing s → IsAfter r s t →
    IsHandedOn theory r xs values q →
    (u : Assignment) × IsHandedOn theory t xs values u × IsAfter q (without xs s) u
