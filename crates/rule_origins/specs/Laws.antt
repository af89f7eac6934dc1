-- Laws of behaviours at numbers of the code, and of values for variables.
use Rattle.std.specs.Prelude.{ℕ, ◌≡◌, ◌++◌, List}
use Rattle.std.specs.List.{slice_get}
use Rattle.spec_core.specs.Code.{Program, Variable}
use Rattle.spec_core.specs.Ready.{IsReady, NamesBehaviour}
use Rattle.spec_core.specs.Terms.{TermTree, variable}
use Rattle.spec_core.specs.Theories.{Theory}
use Rattle.rule_model.specs.Behaviours.{Behaviour}
use Rattle.rule_model.specs.Code.{StandsAt}
use Rattle.rule_model.specs.Fields.{Spells, IsHandedOn}
use Rattle.rule_model.specs.Substitution.{Assignment, without, put}
use Rattle.rule_laws.specs.Closing.{IsClosing}
use Rattle.rule_origins.specs.Parts.{over_parts, behaviour_at}
use Rattle.rule_origins.specs.Values.{term_spelled, assignment, values_for}

-- the behaviour at a number is the construct there over the behaviours at its parts
abbrev pub CodeIsOpened : Type 0
CodeIsOpened =
    (program : Program) → IsReady program → (n : ℕ) → behaviour_at program n ≡ over_parts (behaviour_at program) (slice_get program.code n)

-- it stands at the number
abbrev pub BehavioursStand : Type 0
BehavioursStand = (program : Program) → IsReady program → (n : ℕ) → NamesBehaviour program n → StandsAt program n (behaviour_at program n)

-- a list of operations that spells a value is read as this value
abbrev pub ValuesAreRead : Type 0
ValuesAreRead =
    (theory : Theory) (x : ℕ) (v : List ℕ) (n : TermTree) (sort : ℕ) → Spells theory v n sort → term_spelled theory x v ≡ n

-- values put nothing but ground terms in the places of variables
abbrev pub ValuesClose : Type 0
ValuesClose = (theory : Theory) (values : List (ℕ × List ℕ)) → IsClosing (assignment theory values)

-- Where values are handed on to the variables of a behaviour in which others are put in already, they are put in with these.
abbrev pub HandedOnValuesJoin : Type 0
HandedOnValuesJoin =
    (theory : Theory) (values : List (ℕ × List ℕ)) (xs : List Variable) (handed : List (List ℕ)) (t : Assignment) →
    IsHandedOn theory variable xs handed t →
    (b : Behaviour) → put t (put (without xs (assignment theory values)) b) ≡ put (assignment theory (values ++ values_for xs handed)) b
